-- The first cycle of the rules that pass a test is that of the rules that flags keep, where the flags agree with the test.
use Rattle.std.proofs.Common.{◌≡◌, ℕ, ◌+◌, ◌<◌, ◌≤◌, ◌⊎◌, inl, inr, Bool, false, List, [], ◌∷◌, ◌++◌, length, sym, ap, ◌∙◌, arith, length-append}
use Rattle.std.proofs.lemmas.Bool.{cases_lt}
use Rattle.std.proofs.lemmas.List.{get_or_append_left}
use Rattle.std.proofs.Math.Seq.{get_or-append_seam}
use Rattle.rule_system.specs.declared.rules.Rule.{Rule}
use Rattle.rule_system.specs.Rules.{source_of, target_of}
use Rattle.rule_system.specs.Walks.{IsWalk, IsCycle, IsKept}
use Rattle.rule_system.specs.FirstCycle.{IsFirstCycle, kept_by}

-- two tests agree at each rule
pub record Agree (rules : List Rule) (p q : ℕ → Bool) : Type 0 where
  pub at : (n : ℕ) → n < length rules → p n ≡ q n

pub turned : (rs : List Rule) (p q : ℕ → Bool) → Agree rs p q → Agree rs q p
turned rs p q h = record { at = λ n k. sym (h.at n k) }

walk_kept : (rs : List Rule) (p q : ℕ → Bool) → Agree rs p q → (a : ℕ) (w : List ℕ) (b : ℕ) → IsWalk rs a w b → IsKept p w → IsKept q w
walk_kept rs p q same a [] b h k = tt
walk_kept rs p q same a (n ∷ w) b h k = (sym (same.at n h.0) ∙ k.0, walk_kept rs p q same (target_of rs n) w b h.2 k.1)

pub cycle_kept : (rs : List Rule) (p q : ℕ → Bool) → Agree rs p q → (c : List ℕ) → IsCycle rs c → IsKept p c → IsKept q c
cycle_kept rs p q same [] h k = absurd h
cycle_kept rs p q same (n ∷ w) h k = walk_kept rs p q same (source_of rs n) (n ∷ w) (source_of rs n) h k

pub first_kept : (rs : List Rule) (p q : ℕ → Bool) (cycle : List ℕ) → Agree rs p q → IsFirstCycle rs p cycle → IsFirstCycle rs q cycle
first_kept rs p q cycle same h = record {
  is_cycle = h.is_cycle;
  is_kept = cycle_kept rs p q same cycle h.is_cycle h.is_kept;
  first = λ other c k. h.first other c (cycle_kept rs q p (turned rs p q same) other c k);
}

-- one flag more
pub flags_more : (p : ℕ → Bool) (flags : List Bool) (count : ℕ) (flag : Bool) → length flags ≡ count → ((n : ℕ) → n < count → kept_by flags n ≡ p n) → flag ≡ p count → (length (flags ++ flag ∷ []) ≡ count + 1) × ((n : ℕ) → n < count + 1 → kept_by (flags ++ flag ∷ []) n ≡ p n)
flags_more p flags count flag e h same = (simp length-append (omega arith), λ n k. low n (cases_lt n count) (omega arith))
  where
    low : (n : ℕ) → (n < count) ⊎ (count ≤ n) → n ≤ count → kept_by (flags ++ flag ∷ []) n ≡ p n
    low n (inl l) m = get_or_append_left flags (flag ∷ []) false n (omega arith) ∙ h n l
    low n (inr g) m =
        let here : n ≡ length flags = omega arith in
        let there : n ≡ count = omega arith in
        ap (kept_by (flags ++ flag ∷ [])) here ∙ (get_or-append_seam flags flag [] false ∙ (same ∙ ap p (sym there)))
