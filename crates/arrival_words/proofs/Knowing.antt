-- What a seat knows after a step.
use Rattle.std.proofs.Common.{◌≡◌, ◌≢◌, ℕ, zero, suc, [], ◌∷◌, get_or, ◌+◌, ◌<◌, ◌≤◌, max, ℤ, pos, ◌+ℤ◌, ◌≤ℤ◌, List, length, sym, ap, ◌∙◌, subst, arith, length-set, get_or-set_other, get_or-set_same}
use Rattle.std.proofs.lemmas.Int.{ints, int_max_is}
use Rattle.std.specs.Int.{int_max}
use mathlib.Core.Logic.{dite}
use native.Mathlib.Decide.{ℕ_discrete}
use Rattle.atomic_table.specs.declared.shared.Seat.{Seat}
use Rattle.rule_system.specs.declared.rules.Rule.{Rule}
use Rattle.arrival_words.specs.declared.view.View.{View}
use Rattle.arrival_words.specs.declared.word_table.WordTable.{WordTable}
use Rattle.rule_system.specs.Rules.{rule_at, source_of, target_of}
use Rattle.rule_system.specs.Weights.{rule_weight, time_of}
use Rattle.arrival_words.specs.About.{About}
use Rattle.arrival_words.specs.Views.{value_of, known_at, Learns, maxima}
use Rattle.arrival_words.specs.Seats.{IsSeatOf}
use Rattle.arrival_words.specs.Known.{Relaxes, NothingSinks}
use Rattle.arrival_words.proofs.Keeping.{value_le, ≤ℤ-trans}

module _ (v w : View) (e found : ℕ) (z : ℤ) (l : Learns v e found z w) where
  pub learns_at : e < length v.known → known_at w e ≡ z
  learns_at h = ap (λ (u : View). known_at u e) l.view ∙ get_or-set_same v.known e z (pos 0) h

  pub learns_else : (e' : ℕ) → e' ≢ e → known_at w e' ≡ known_at v e'
  learns_else e' ne = ap (λ (u : View). known_at u e') l.view ∙ get_or-set_other v.known e e' z (pos 0) ne

  pub learns_length : length w.known ≡ length v.known
  learns_length = ap (λ (u : View). length u.known) l.view ∙ length-set v.known e z

  pub learns_grows : e < length v.known → value_of found ≤ℤ z → NothingSinks v.known w.known
  learns_grows h up = record {
    each = λ e'. dite (ℕ_discrete e' e)
        (λ is. subst (λ (j : ℕ). known_at v j ≤ℤ known_at w j) (sym is) (subst (λ (y : ℤ). known_at v e ≤ℤ y) (sym (learns_at h)) (≤ℤ-trans (known_at v e) (value_of found) z l.above up)))
        (λ ne. subst (λ (y : ℤ). known_at v e' ≤ℤ y) (sym (learns_else e' ne)) (omega (arith, ints)));
  }

pub sinks-trans : (u v w : List ℤ) → NothingSinks u v → NothingSinks v w → NothingSinks u w
sinks-trans u v w p q = record { each = λ e. ≤ℤ-trans (time_of u e) (time_of v e) (time_of w e) (p.each e) (q.each e) }

pub sinks-refl : (v : List ℤ) → NothingSinks v v
sinks-refl v = record { each = λ e. omega (arith, ints) }

pub seat_after : (words : WordTable) (s t : Seat Unit View) (e found : ℕ) (z : ℤ) → IsSeatOf words s → t.table_id ≡ s.table_id → t.me.1 ≡ s.me.1 → Learns s.me.0 e found z t.me.0 → IsSeatOf words t
seat_after words s t e found z is table bare l = record {
  table = table ∙ is.table;
  about = ap (λ (u : View). u.about) l.view ∙ is.about;
  wide = learns_length s.me.0 t.me.0 e found z l ∙ is.wide;
  bare = bare ∙ is.bare;
}

-- a load at the rule's source, and then a fetch_max at its target
pub rule_relaxes : (a : About) (n : ℕ) (rule : Rule) (u v w : View) (found last offer : ℕ) → rule ≡ rule_at a.rules n → rule.source < length u.known → rule.target < length u.known
    → Learns u rule.source found (value_of found) v → Learns v rule.target last (value_of (max last offer)) w → value_of offer ≡ value_of found +ℤ rule_weight a.top a.bottom rule → Relaxes a n (n + 1) u.known w.known
rule_relaxes a n rule u v w found last offer at source target load raise sum = record {
  each = λ m from to. let same : n ≡ m = omega arith in
      subst (λ (k : ℕ). (known_at u (source_of a.rules k) +ℤ rule_weight a.top a.bottom (rule_at a.rules k)) ≤ℤ known_at w (target_of a.rules k)) same
      (subst (λ (r : Rule). (known_at u r.source +ℤ rule_weight a.top a.bottom r) ≤ℤ known_at w r.target) at here);
}
  where
    climbs : (k f x o m : ℤ) → k ≤ℤ f → o ≡ f +ℤ x → o ≤ℤ m → (k +ℤ x) ≤ℤ m
    climbs k f x o m p q r = omega (arith, ints)

    here : (known_at u rule.source +ℤ rule_weight a.top a.bottom rule) ≤ℤ known_at w rule.target
    here =
        let known = learns_at v w rule.target last (value_of (max last offer)) raise (subst (λ (k : ℕ). rule.target < k) (sym (learns_length u v rule.source found (value_of found) load)) target) in
        let above = load.above in let grown : value_of offer ≤ℤ value_of (max last offer) = value_le _ _ (omega arith) in
        subst (λ (y : ℤ). (known_at u rule.source +ℤ rule_weight a.top a.bottom rule) ≤ℤ y) (sym known) (climbs (known_at u rule.source) (value_of found) (rule_weight a.top a.bottom rule) (value_of offer) (value_of (max last offer)) above sum grown)

pub rule_keeps : (u v w : View) (source target found last offer : ℕ) → source < length u.known → target < length u.known
    → Learns u source found (value_of found) v → Learns v target last (value_of (max last offer)) w → NothingSinks u.known w.known
rule_keeps u v w source target found last offer s t load raise =
    let there : target < length v.known = subst (λ (k : ℕ). target < k) (sym (learns_length u v source found (value_of found) load)) t in
    sinks-trans u.known v.known w.known (learns_grows u v source found (value_of found) load s (value_le _ _ (omega arith))) (learns_grows v w target last (value_of (max last offer)) raise there (value_le _ _ (omega arith)))

add-mono : (x y z : ℤ) → x ≤ℤ y → (x +ℤ z) ≤ℤ (y +ℤ z)
add-mono x y z h = omega (arith, ints)

-- one more rule
pub relaxes_more : (a : About) (from n : ℕ) (u v w : List ℤ) → Relaxes a from n u v → NothingSinks u v → Relaxes a n (n + 1) v w → NothingSinks v w → Relaxes a from (n + 1) u w
relaxes_more a from n u v w before kept last grown = record {
  each = λ m low high. dite (ℕ_discrete m n)
      (λ is. ≤ℤ-trans (time_of u (source_of a.rules m) +ℤ rule_weight a.top a.bottom (rule_at a.rules m)) (time_of v (source_of a.rules m) +ℤ rule_weight a.top a.bottom (rule_at a.rules m)) (time_of w (target_of a.rules m))
      (add-mono (time_of u (source_of a.rules m)) (time_of v (source_of a.rules m)) (rule_weight a.top a.bottom (rule_at a.rules m)) (kept.each (source_of a.rules m))) (last.each m (omega arith) high))
      (λ ne. ≤ℤ-trans (time_of u (source_of a.rules m) +ℤ rule_weight a.top a.bottom (rule_at a.rules m)) (time_of v (target_of a.rules m)) (time_of w (target_of a.rules m)) (before.each m low (omega arith)) (grown.each (target_of a.rules m)));
}

pub relaxes_none : (a : About) (n : ℕ) (v w : List ℤ) → Relaxes a n n v w
relaxes_none a n v w = record { each = λ m low high. absurd (omega arith) }

pub relaxes_to : (a : About) (from to to' : ℕ) (v w : List ℤ) → to' ≤ to → Relaxes a from to v w → Relaxes a from to' v w
relaxes_to a from to to' v w h r = record { each = λ m low high. r.each m low (omega arith) }

left_max : (x y : ℤ) → x ≤ℤ int_max x y
left_max x y = omega (arith, ints, int_max_is x y)

right_max : (x y : ℤ) → y ≤ℤ int_max x y
right_max x y = omega (arith, ints, int_max_is x y)

same_le : (x : ℤ) → x ≤ℤ x
same_le x = omega (arith, ints)

maxima_left : (xs ys : List ℤ) (e : ℕ) → get_or xs e (pos 0) ≤ℤ get_or (maxima xs ys) e (pos 0)
maxima_left [] ys e = same_le (pos 0)
maxima_left (x ∷ xs) [] e = same_le (get_or (x ∷ xs) e (pos 0))
maxima_left (x ∷ xs) (y ∷ ys) zero = left_max x y
maxima_left (x ∷ xs) (y ∷ ys) (suc e) = maxima_left xs ys e

maxima_right : (xs ys : List ℤ) (e : ℕ) → length xs ≡ length ys → get_or ys e (pos 0) ≤ℤ get_or (maxima xs ys) e (pos 0)
maxima_right [] [] e same = same_le (pos 0)
maxima_right [] (y ∷ ys) e same = absurd (omega arith)
maxima_right (x ∷ xs) [] e same = absurd (omega arith)
maxima_right (x ∷ xs) (y ∷ ys) zero same = right_max x y
maxima_right (x ∷ xs) (y ∷ ys) (suc e) same = maxima_right xs ys e (omega arith)

pub joined_left : (v w u : List ℤ) → u ≡ maxima v w → NothingSinks v u
joined_left v w u is = record { each = λ e. subst (λ (l : List ℤ). time_of v e ≤ℤ time_of l e) (sym is) (maxima_left v w e) }

pub joined_right : (v w u : List ℤ) → length v ≡ length w → u ≡ maxima v w → NothingSinks w u
joined_right v w u same is = record { each = λ e. subst (λ (l : List ℤ). time_of w e ≤ℤ time_of l e) (sym is) (maxima_right v w e same) }
