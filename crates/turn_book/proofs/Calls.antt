-- What a call knows between its steps.
use Rattle.std.proofs.Common.{◌≡◌, ◌≢◌, ℕ, List, [], ◌∷◌, ◌++◌, Option, Some, None, refl, sym, ap, ◌∙◌, subst}
use Rattle.atomic_table.specs.Table.{Me, step, rest}
use mathlib.Core.Option.{none}
use Rattle.turn_book.specs.declared.view.View.{View}
use Rattle.turn_book.specs.declared.view.Stage.{Stage}
use Rattle.turn_book.specs.declared.view.Stage.TheVariants.{Idle, Waits, Out, Placed}
use Rattle.turn_book.specs.Views.{staged, placing, turn_in}
use Rattle.turn_book.specs.Slots.{held_at, last_of}
use Rattle.turn_book.specs.Steps.{Begins, looked}

module _ {A : Type 0} where
  pub last_of-snoc : (xs : List A) (x : A) → last_of (xs ++ x ∷ []) ≡ Some x
  last_of-snoc [] x = refl
  last_of-snoc (y ∷ []) x = refl
  last_of-snoc (y ∷ z ∷ xs) x = last_of-snoc (z ∷ xs) x

  pub some_none : (o : Option A) (x : A) → o ≡ Some x → o ≡ None → ⊥
  some_none o x e n = absurd (let t : Some x ≡ None = sym e ∙ n in cc)

  pub snoc_same : (xs ys : List A) (x y : A) → xs ++ x ∷ [] ≡ ys ++ y ∷ [] → (xs ≡ ys) × (x ≡ y)
  snoc_same [] [] x y e = (refl, cc)
  snoc_same [] (b ∷ ys) x y e = absurd (nothing ys y (let t : [] ≡ ys ++ y ∷ [] = cc in t))
    where
      nothing : (ys : List A) (y : A) → [] ≡ ys ++ y ∷ [] → ⊥
      nothing [] y e = absurd (cc)
      nothing (b ∷ ys) y e = absurd (cc)
  snoc_same (a ∷ xs) [] x y e = absurd (nothing xs x (let t : xs ++ x ∷ [] ≡ [] = cc in t))
    where
      nothing : (xs : List A) (x : A) → xs ++ x ∷ [] ≡ [] → ⊥
      nothing [] x e = absurd (cc)
      nothing (b ∷ xs) x e = absurd (cc)
  snoc_same (a ∷ xs) (b ∷ ys) x y e = let t = snoc_same xs ys x y (cc) in let h : a ≡ b = cc in ((λ i. h i ∷ t.0 i), t.1)

module _ {E : Type 0} where
  pub turn_stage : (st : Stage E) (l : List E) → turn_in st ≡ Some l → (k : ℕ) × (st ≡ Out k l)
  turn_stage Idle l e = absurd (cc)
  turn_stage (Waits k) l e = absurd (cc)
  turn_stage (Out k m) l e = (k, ap (Out k) (cc))
  turn_stage (Placed k m) l e = absurd (cc)

module _ {V : Type 0} where
  pub holds_one : (c : List (ℕ × Option V)) (x : Option V) → c ≡ (0, x) ∷ [] → c ≡ (0, x) ∷ rest c
  holds_one c x e = e ∙ ap (λ l. (0, x) ∷ rest l) (sym e)

  first_held : List (ℕ × Option V) → Option V
  first_held [] = None
  first_held (x ∷ xs) = x.1

  same_held : (x y : Option V) (l : List (ℕ × Option V)) → (0, x) ∷ l ≡ (0, y) ∷ [] → x ≡ y
  unfolding first_held
  same_held x y l e = ap first_held e

module _ {V O E : Type 0} where
  module _ (origin : V → O) (entries : V → List E) (session : E → ℕ) where
    abbrev M : Type 0
    M = Me (Option V) (View O E)

    -- a turn was found, and its slot holds this
    pub record Found (v : View O E) (m : M) (slot : V → Option V) : Type 0 where
      pub value : V
      pub list : List E
      pub ticket : ℕ
      pub is : m ≡ (staged v (Out ticket list), (0, slot value) ∷ [])
      pub begins : Begins origin entries session v value list

    pub waited : (v : View O E) (c : List (ℕ × Option V)) (k r : ℕ) (m m' : M) → m ≡ (staged v (Waits k), c) → looked origin entries session (step 1 2 0 0 none) m r m' → r ≢ k → m' ≡ m
    waited v c k r m m' e l n = (l k (ap (λ (x : M). x.0.stage) e)).0 n

    pub found : (v : View O E) (c : List (ℕ × Option V)) (k r : ℕ) (m m' : M) → c ≡ held_at v.stage → v.stage ≡ Idle → m ≡ (staged v (Waits k), c) → looked origin entries session (step 1 2 0 0 none) m r m' → r ≡ k → Found v m' Some
    found v c k r m m' held idle e l is =
        let t = (l k (ap (λ (x : M). x.0.stage) e)).1 is in
        let b = subst (λ (x : M). Begins origin entries session x.0 t.0 t.1) e t.3 in
        let none : c ≡ [] = held ∙ ap held_at idle in
        record {
          value = t.0;
          list = t.1;
          ticket = k;
          is = t.2 ∙ ((λ i. (staged (e i).0 (Out k t.1), (0, Some t.0) ∷ (e i).1)) ∙ (λ i. (staged v (Out k t.1), (0, Some t.0) ∷ none i)));
          begins = record { origin_is = b.origin_is; list_is = b.list_is; room = b.room; more = b.more; mine = b.mine };
        }

    pub record Got (v : View O E) (n : M) (got : Option V) : Type 0 where
      pub value : V
      pub list : List E
      pub ticket : ℕ
      pub found : got ≡ Some value
      pub is : n ≡ (staged v (Out ticket list), (0, None) ∷ [])
      pub begins : Begins origin entries session v value list

    pub got_of : (v : View O E) (m n : M) (got : Option V) → Found v m Some → m.1 ≡ (0, got) ∷ rest m.1 → n ≡ (m.0, (0, None) ∷ rest m.1) → Got v n got
    got_of v m n got f e e' =
        let held : m.1 ≡ (0, Some f.value) ∷ [] = ap (λ (x : M). x.1) f.is in
        record {
          value = f.value;
          list = f.list;
          ticket = f.ticket;
          found = same_held got (Some f.value) (rest m.1) (sym e ∙ held);
          is = e' ∙ (λ i. ((f.is i).0, (0, None) ∷ rest (f.is i).1));
          begins = f.begins;
        }

    pub got_holds : (v : View O E) (n : M) (got : Option V) → Got v n got → n.1 ≡ held_at n.0.stage
    got_holds v n got h = ap (λ (x : M). x.1) h.is ∙ ap (λ (x : M). held_at x.0.stage) (sym h.is)

  pub placed_holds : (m n : Me (Option V) (View O E)) (k : ℕ) (l : List E) (e : E) → m.0.stage ≡ Out k l → m.1 ≡ held_at m.0.stage → n ≡ (placing m.0 k l e, m.1) → n.1 ≡ held_at n.0.stage
  placed_holds m n k l e st held is = ap (λ (x : Me (Option V) (View O E)). x.1) is ∙ (held ∙ (ap held_at st ∙ ap (λ (x : Me (Option V) (View O E)). held_at x.0.stage) (sym is)))
