-- What the steps of a table ask of its rule.
use Rattle.std.proofs.Common.{◌≡◌, ◌≢◌, ℕ, zero, suc, ◌+◌, ◌<◌, max, Bool, true, false, cond, ℤ, pos, ◌≤ℤ◌, List, [], ◌∷◌, map, length, get_or, set, sym, refl, ap, ◌∙◌, subst, ⊎_elim, arith}
use Rattle.std.proofs.lemmas.Int.{ints}
use Rattle.std.specs.Int.{int_max}
use Rattle.std.specs.Prelude.{int_lt}
use mathlib.Core.Logic.{dite}
use mathlib.Core.Option.{some, none, some-injective, some-ne-none}
use native.Mathlib.Decide.{dec_le}
use lib.ListN.{get_elem?}
use Rattle.atomic_table.specs.Table.{State, Me, Allows, Splits, Joins, step, keeps}
use Rattle.arrival_words.specs.About.{About, IsReached, IsWeightOfWalk, IsSound}
use Rattle.arrival_words.specs.Views.{value_of, known_at, learned, Learns, loaded, raised, joined, maxima, values_of, spent_view}
use Rattle.arrival_words.specs.Rule.{IsKnown, Holds, about_key, keeps_rule}
use Rattle.arrival_words.specs.declared.view.View.{View}
use Rattle.arrival_words.specs.declared.key.Key.{Key}
use Rattle.atomic_table.proofs.Lists.{at_set, at_snoc}
use Rattle.arrival_words.proofs.Keeping.{keeps_raised, value_le}
use Rattle.arrival_words.proofs.Limit.{light}

-- what a step on the word of e found
told : (key : Key) (s : State Unit View) (k : keeps_rule key s) (id e : ℕ) (v : View) (z : ℤ) → v.about ≡ about_key key → e < (about_key key).events → e < length v.known → get_elem? s.views id ≡ some v
    → (e' : ℕ) → suc e ≡ e' + 1 → Learns v e' (get_or s.words (suc e) 0) z (learned v e z)
told key s k id e v z is near known at e' same = let there = k.views_known id v at e known in
    subst (λ (j : ℕ). Learns v j (get_or s.words (suc e) 0) z (learned v e z)) (omega arith) (record {
      view = refl;
      reached = subst (λ (a : About). IsWeightOfWalk a e (value_of (get_or s.words (suc e) 0))) (sym is) (k.reached e near);
      above = there.below;
    })

pub loads : (key : Key) (slots id : ℕ) (m : Me Unit View) (e i : ℕ) → i ≡ e + 1 → m.0.about ≡ about_key key → e < (about_key key).events → e < length m.0.known
    → Allows (keeps_rule key) slots id m i (λ n. n) (loaded (step slots i 0 0 none) m)
loads key slots id m e i word is near known = subst (λ (j : ℕ). Allows (keeps_rule key) slots id m j (λ n. n) (loaded (step slots j 0 0 none) m)) (let q : suc e ≡ i = omega arith in q)
    (λ s k homes at bound. let n : ℕ = get_or s.words (suc e) 0 in (
      learned m.0 e (value_of n),
      keeps,
      tt,
      keeps_raised (about_key key) s.words s.views id e n m.0 k at near (omega arith) (k.reached e near),
      (refl, told key s k id e m.0 (value_of n) is near known at),
    ))

-- the greater of a word and an offer is the weight of a walk too
greater : (a : About) (e n offer : ℕ) → IsSound a → IsWeightOfWalk a e (value_of n) → IsReached a e (value_of offer) → IsWeightOfWalk a e (value_of (max n offer))
greater a e n offer sound here there = dite (dec_le offer n)
    (λ h. subst (λ (k : ℕ). IsWeightOfWalk a e (value_of k)) (omega arith) here)
    (λ h. subst (λ (k : ℕ). IsWeightOfWalk a e (value_of k)) (omega arith) (record {
      reached = there;
      within = ((let p = value_le n offer (omega arith) in let q = here.within.0 in omega (arith, ints)), light a sound e (value_of offer) there);
    }))

pub raises : (key : Key) (slots id : ℕ) (m : Me Unit View) (e i offer : ℕ) → i ≡ e + 1 → m.0.about ≡ about_key key → e < (about_key key).events → e < length m.0.known → IsReached (about_key key) e (value_of offer)
    → Allows (keeps_rule key) slots id m i (λ n. max n offer) (raised (step slots i offer 0 none) m)
raises key slots id m e i offer word is near known there = subst (λ (j : ℕ). Allows (keeps_rule key) slots id m j (λ n. max n offer) (raised (step slots j offer 0 none) m)) (let q : suc e ≡ i = omega arith in q)
    (λ s k homes at bound. let n : ℕ = max (get_or s.words (suc e) 0) offer in (
      learned m.0 e (value_of n),
      keeps,
      tt,
      keeps_raised (about_key key) s.words s.views id e n m.0 k at near (omega arith) (greater (about_key key) e (get_or s.words (suc e) 0) offer k.sound (k.reached e near) there),
      (refl, told key s k id e m.0 (value_of n) is near known at),
    ))

pub splits : (key : Key) (id : ℕ) (v : View) → Splits (keeps_rule key) id v v v
splits key id v s k at = record {
  sound = k.sound;
  first_word = k.first_word;
  wide = k.wide;
  reached = k.reached;
  views_known = λ i u there e h. let mine = λ (is : v ≡ u). subst (λ (y : View). e < length y.known → IsKnown (about_key key) s.words y e) is (k.views_known id v at e) h in
      ⊎_elim (λ x. ⊎_elim (λ (y : (i ≡ id) × (v ≡ u)). mine y.1) (λ (y : (i ≢ id) × (get_elem? s.views i ≡ some u)). k.views_known i u y.1 e h) (at_set s.views id i v u x)) mine (at_snoc (set s.views id v) v u i there);
}

one_of : (P : ℤ → Type 0) (b : Bool) (x y : ℤ) → P x → P y → P (cond b x y)
one_of P true x y p q = p
one_of P false x y p q = q

pub length-maxima : (xs ys : List ℤ) → length (maxima xs ys) ≡ length xs
length-maxima [] ys = refl
length-maxima (x ∷ xs) [] = refl
length-maxima (x ∷ xs) (y ∷ ys) = ap suc (length-maxima xs ys)

maxima_at : (xs ys : List ℤ) (e : ℕ) → e < length xs → length xs ≡ length ys → get_or (maxima xs ys) e (pos 0) ≡ int_max (get_or xs e (pos 0)) (get_or ys e (pos 0))
maxima_at [] ys e h same = absurd (omega arith)
maxima_at (x ∷ xs) [] e h same = absurd (omega arith)
maxima_at (x ∷ xs) (y ∷ ys) zero h same = refl
maxima_at (x ∷ xs) (y ∷ ys) (suc e) h same = maxima_at xs ys e (omega arith) (omega arith)

known_both : (a : About) (words : List ℕ) (v w : View) (e : ℕ) → e < length v.known → length v.known ≡ length w.known → IsKnown a words v e → IsKnown a words w e → IsKnown a words (joined v w) e
known_both a words v w e h same p q = let one = one_of (λ z. IsReached a e z × (z ≤ℤ value_of (get_or words (suc e) 0))) (int_lt (known_at w e) (known_at v e)) (known_at v e) (known_at w e) (p.reached, p.below) (q.reached, q.below) in
    let is = sym (maxima_at v.known w.known e h same) in record {
      about = p.about;
      reached = subst (λ (z : ℤ). IsReached a e z) is one.0;
      below = subst (λ (z : ℤ). z ≤ℤ value_of (get_or words (suc e) 0)) is one.1;
    }

pub joins : (key : Key) (id other : ℕ) (v w : View) → length v.known ≡ length w.known → Joins (keeps_rule key) id v other w (joined v w) spent_view
joins key id other v w same s k at apart there = record {
  sound = k.sound;
  first_word = k.first_word;
  wide = k.wide;
  reached = k.reached;
  views_known = λ i u here e h. let was : get_elem? s.views other ≡ some w = ⊎_elim (λ (x : (other ≡ id) × (joined v w ≡ w)). absurd (apart x.0)) (λ (x : (other ≢ id) × (get_elem? s.views other ≡ some w)). x.1) (at_set s.views id other (joined v w) w there) in
      let Known : View → Type 0 = λ y. e < length y.known → IsKnown (about_key key) s.words y e in
      let both : Known (joined v w) = λ h'. let h'' : e < length v.known = omega (arith, length-maxima v.known w.known) in known_both (about_key key) s.words v w e h'' same (k.views_known id v at e h'') (k.views_known other w was e (omega arith)) in
      ⊎_elim (λ (x : (i ≡ other) × (spent_view ≡ u)). subst Known x.1 (λ h'. absurd (omega arith)) h)
      (λ (x : (i ≢ other) × (get_elem? (set s.views id (joined v w)) i ≡ some u)). ⊎_elim (λ (y : (i ≡ id) × (joined v w ≡ u)). subst Known y.1 both h) (λ (y : (i ≢ id) × (get_elem? s.views i ≡ some u)). k.views_known i u y.1 e h) (at_set s.views id i (joined v w) u x.1))
      (at_set (set s.views id (joined v w)) other i spent_view u here);
}

map_at : (xs : List ℕ) (e : ℕ) → e < length xs → get_or (map value_of xs) e (pos 0) ≡ value_of (get_or xs e 0)
map_at [] e h = absurd (omega arith)
map_at (x ∷ xs) zero h = refl
map_at (x ∷ xs) (suc e) h = map_at xs e (omega arith)

length-map_values : (xs : List ℕ) → length (map value_of xs) ≡ length xs
length-map_values [] = refl
length-map_values (x ∷ xs) = ap suc (length-map_values xs)

-- the words at the start
pub opens : (a : About) (words : List ℕ) (v : View) → v.about ≡ a → v.known ≡ values_of words → IsSound a → get_or words 0 0 ≡ 0 → length words ≡ suc a.events
    → ((e : ℕ) → e < a.events → IsWeightOfWalk a e (get_or (values_of words) e (pos 0))) → Holds a words (v ∷ [])
opens a [] v is knows sound first wide start = absurd (omega arith)
opens a (x ∷ xs) v is knows sound first wide start = record {
  sound = sound;
  first_word = first;
  wide = wide;
  reached = λ e h. subst (λ (z : ℤ). IsWeightOfWalk a e z) (map_at xs e (omega arith)) (start e h);
  views_known = λ i u there e h. only i u there e h;
}
  where
    mine : (e : ℕ) → e < length v.known → IsKnown a (x ∷ xs) v e
    mine e h = let near : e < length xs = omega (arith, ap length knows, length-map_values xs) in let same : known_at v e ≡ value_of (get_or xs e 0) = ap (λ (l : List ℤ). get_or l e (pos 0)) knows ∙ map_at xs e near in record {
      about = is;
      reached = subst (λ (z : ℤ). IsReached a e z) (sym (ap (λ (l : List ℤ). get_or l e (pos 0)) knows)) (start e (omega arith)).reached;
      below = subst (λ (z : ℤ). z ≤ℤ value_of (get_or xs e 0)) (sym same) (value_le _ _ (omega arith));
    }

    only : (i : ℕ) (u : View) → get_elem? (v ∷ []) i ≡ some u → (e : ℕ) → e < length u.known → IsKnown a (x ∷ xs) u e
    only zero u there e h = subst (λ (y : View). e < length y.known → IsKnown a (x ∷ xs) y e) (some-injective v u there) (mine e) h
    only (suc i) u there e h = absurd (some-ne-none u (sym there))
