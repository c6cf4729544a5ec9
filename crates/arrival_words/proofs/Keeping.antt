-- Each step keeps the rule.
use Rattle.std.proofs.Common.{◌≡◌, ◌≢◌, ℕ, suc, ◌<◌, ◌≤◌, ℤ, pos, ◌≤ℤ◌, List, length, get_or, set, sym, ◌∙◌, subst, ⊎_elim, arith, length-set, get_or-set_other, get_or-set_same}
use Rattle.std.proofs.lemmas.Int.{ints}
use mathlib.Core.Logic.{dite}
use mathlib.Core.Option.{some}
use native.Mathlib.Decide.{ℕ_discrete}
use lib.ListN.{get_elem?}
use Rattle.atomic_table.proofs.Lists.{at_set}
use Rattle.arrival_words.specs.About.{About, IsReached, IsWeightOfWalk}
use Rattle.arrival_words.specs.Views.{value_of, known_at, learned}
use Rattle.arrival_words.specs.Rule.{IsKnown, Holds}
use Rattle.arrival_words.specs.declared.view.View.{View}

word_here : (words : List ℕ) (e n : ℕ) → suc e < length words → get_or (set words (suc e) n) (suc e) 0 ≡ n
word_here words e n h = get_or-set_same words (suc e) n 0 h

word_else : (words : List ℕ) (e n e' : ℕ) → e' ≢ e → get_or (set words (suc e) n) (suc e') 0 ≡ get_or words (suc e') 0
word_else words e n e' ne = get_or-set_other words (suc e) (suc e') n 0 (λ h. ne (omega arith))

word_grows : (words : List ℕ) (e n e' : ℕ) → suc e < length words → get_or words (suc e) 0 ≤ n → get_or words (suc e') 0 ≤ get_or (set words (suc e) n) (suc e') 0
word_grows words e n e' h up = dite (ℕ_discrete e' e)
    (λ is. subst (λ (j : ℕ). get_or words (suc j) 0 ≤ get_or (set words (suc e) n) (suc j) 0) (sym is) (omega (arith, word_here words e n h)))
    (λ ne. omega (arith, word_else words e n e' ne))

pub value_le : (m n : ℕ) → m ≤ n → value_of m ≤ℤ value_of n
value_le m n h = omega (arith, ints)

pub ≤ℤ-trans : (x y z : ℤ) → x ≤ℤ y → y ≤ℤ z → x ≤ℤ z
≤ℤ-trans x y z p q = omega (arith, ints)

module _ (a : About) (words : List ℕ) (e n : ℕ) (wide : suc e < length words) (up : get_or words (suc e) 0 ≤ n) where
  -- what another view knows stays below the words
  known_still : (v : View) (e' : ℕ) → IsKnown a words v e' → IsKnown a (set words (suc e) n) v e'
  known_still v e' k = record {
    about = k.about;
    reached = k.reached;
    below = ≤ℤ-trans (known_at v e') (value_of (get_or words (suc e') 0)) (value_of (get_or (set words (suc e) n) (suc e') 0)) k.below (value_le _ _ (word_grows words e n e' wide up));
  }

  known_now : (v : View) (e' : ℕ) → IsWeightOfWalk a e (value_of n) → e' < length v.known → IsKnown a words v e' → IsKnown a (set words (suc e) n) (learned v e (value_of n)) e'
  known_now v e' arrives h k = dite (ℕ_discrete e' e)
      (λ is. let known : known_at (learned v e (value_of n)) e ≡ value_of n = get_or-set_same v.known e (value_of n) (pos 0) (subst (λ (j : ℕ). j < length v.known) is h) in subst (λ (j : ℕ). IsKnown a (set words (suc e) n) (learned v e (value_of n)) j) (sym is) (record {
        about = k.about;
        reached = subst (λ (z : ℤ). IsReached a e z) (sym known) arrives.reached;
        below = subst (λ (z : ℤ). z ≤ℤ value_of (get_or (set words (suc e) n) (suc e) 0)) (sym known) (value_le _ _ (omega (arith, word_here words e n wide)));
      }))
      (λ ne. let still = known_still v e' k in let known : known_at (learned v e (value_of n)) e' ≡ known_at v e' = get_or-set_other v.known e e' (value_of n) (pos 0) ne in record {
        about = k.about;
        reached = subst (λ (z : ℤ). IsReached a e' z) (sym known) k.reached;
        below = subst (λ (z : ℤ). z ≤ℤ value_of (get_or (set words (suc e) n) (suc e') 0)) (sym known) still.below;
      })

-- a word goes up to the weight of a walk, and a seat learns it
pub keeps_raised : (a : About) (words : List ℕ) (views : List View) (id e n : ℕ) (v : View) → Holds a words views → get_elem? views id ≡ some v → e < a.events
    → get_or words (suc e) 0 ≤ n → IsWeightOfWalk a e (value_of n) → Holds a (set words (suc e) n) (set views id (learned v e (value_of n)))
keeps_raised a words views id e n v k at near up arrives = let wide : suc e < length words = omega (arith, k.wide) in record {
  sound = k.sound;
  first_word = get_or-set_other words (suc e) 0 n 0 (λ h. omega arith) ∙ k.first_word;
  wide = length-set words (suc e) n ∙ k.wide;
  reached = λ e' h. dite (ℕ_discrete e' e)
      (λ is. subst (λ (j : ℕ). IsWeightOfWalk a j (value_of (get_or (set words (suc e) n) (suc j) 0))) (sym is) (subst (λ (m : ℕ). IsWeightOfWalk a e (value_of m)) (sym (word_here words e n wide)) arrives))
      (λ ne. subst (λ (m : ℕ). IsWeightOfWalk a e' (value_of m)) (sym (word_else words e n e' ne)) (k.reached e' h));
  views_known = λ i u there e' h. ⊎_elim
      (λ (x : (i ≡ id) × (learned v e (value_of n) ≡ u)). subst (λ (y : View). e' < length y.known → IsKnown a (set words (suc e) n) y e') x.1
      (λ h'. let h'' : e' < length v.known = omega (arith, length-set v.known e (value_of n)) in known_now a words e n wide up v e' arrives h'' (k.views_known id v at e' h'')) h)
      (λ (x : (i ≢ id) × (get_elem? views i ≡ some u)). known_still a words e n wide up u e' (k.views_known i u x.1 e' h))
      (at_set views id i (learned v e (value_of n)) u there);
}
