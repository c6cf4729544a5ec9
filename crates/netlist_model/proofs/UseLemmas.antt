-- How often places are named.
use Rattle.std.proofs.Common.{◌≡◌, ℕ, ◌+◌, ◌<◌, List, [], ◌∷◌, length, set, drop, get_or, suc, zero, Bool, true, false, cond, nat_eq, Option, Some, None, refl, sym, ap, ◌∙◌, arith}
use Rattle.std.proofs.lemmas.Bool.Decides.{nat_tests}
use Rattle.std.proofs.lemmas.List.Sums.{sum_by-drop_more}
use Rattle.netlist_model.specs.Uses.{IsBehind, Tells, TellsPins, count_at, many_at, one_on, pins_on}
use Rattle.netlist_model.specs.declared.parts.NetRef.{NetRef}
use Rattle.netlist_model.specs.declared.parts.NetRef.TheVariants.{Net, Const}

pub count_set : (counts : List ℕ) (i n v : ℕ) → i < length counts → count_at (set counts i v) n ≡ cond (nat_eq n i) v (count_at counts n)
count_set [] i n v low = absurd (omega arith)
count_set (t ∷ ts) zero zero v low = refl
count_set (t ∷ ts) zero (suc n) v low = let e : nat_eq (suc n) 0 ≡ false = grind (arith, nat_tests) in rw e refl
count_set (t ∷ ts) (suc i) zero v low = let e : nat_eq 0 (suc i) ≡ false = grind (arith, nat_tests) in rw e refl
count_set (t ∷ ts) (suc i) (suc n) v low =
    let e : nat_eq (suc n) (suc i) ≡ nat_eq n i = grind (arith, nat_tests) in
    rw e (count_set ts i n v (omega arith))

-- one more at a place
pub count_raised : (counts : List ℕ) (i n v : ℕ) → i < length counts → v ≡ count_at counts i + 1 → count_at (set counts i v) n ≡ count_at counts n + many_at 1 i n
count_raised counts i n v low is = count_set counts i n v low ∙ by (nat_eq n i) refl
  where
    by : (b : Bool) → nat_eq n i ≡ b → cond b v (count_at counts n) ≡ count_at counts n + cond b 1 0
    by true e = let same : n ≡ i = grind (arith, nat_tests) in is ∙ ap (λ k. count_at counts k + 1) (sym same)
    by false e = omega arith

-- ---- what counts tell

pub tells_same : (counts : Option (List ℕ)) (u v : ℕ → ℕ) → ((n : ℕ) → u n ≡ v n) → Tells counts u → Tells counts v
tells_same None u v same told = told
tells_same (Some cs) u v same told = λ n. told n ∙ same n

pub pins_same : (counts : Option (List ℕ) × Option (List ℕ)) (u v : NetRef → ℕ) → ((r : NetRef) → u r ≡ v r) → TellsPins counts u → TellsPins counts v
pins_same counts u v same told = record {
  nets = tells_same counts.0 (λ n. u (Net n)) (λ n. v (Net n)) (λ n. same (Net n)) told.nets;
  consts = tells_same counts.1 (λ k. u (Const k)) (λ k. v (Const k)) (λ k. same (Const k)) told.consts;
}

-- nothing behind a net, or behind a constant, is named
pub none_behind_net : (u : NetRef → ℕ) (net : ℕ) (gone r : NetRef) → gone ≡ Net net → ((n : ℕ) → net < n → u (Net n) ≡ 0) → IsBehind gone r → u r ≡ 0
none_behind_net u net (Net g) (Net n) is none behind = let same : g ≡ net = cc in none n (omega (arith, same, behind))
none_behind_net u net (Net g) (Const k) is none behind = absurd behind
none_behind_net u net (Const g) r is none behind = cc

pub none_behind_const : (u : NetRef → ℕ) (at : ℕ) (gone r : NetRef) → gone ≡ Const at → ((k : ℕ) → at < k → u (Const k) ≡ 0) → IsBehind gone r → u r ≡ 0
none_behind_const u at (Const g) (Const k) is none behind = let same : g ≡ at = cc in none k (omega (arith, same, behind))
none_behind_const u at (Const g) (Net n) is none behind = absurd behind
none_behind_const u at (Net g) r is none behind = cc

pub one_dropped : (u : NetRef → ℕ) (pins : List NetRef) (i : ℕ) (d r : NetRef) → i < length pins → u r + pins_on r (drop i pins) ≡ u r + pins_on r (drop (i + 1) pins) + one_on r (get_or pins i d)
one_dropped u pins i d r low = omega (arith, sum_by-drop_more (one_on r) pins i d low)
