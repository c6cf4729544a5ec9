-- First places in lists whose items differ.
use Rattle.std.proofs.Common.{◌≡◌, ℕ, ◌+◌, zero, suc, List, [], ◌∷◌, ◌++◌, length, map, Bool, true, false, Option, Some, None, option_map, position, find, refl, sym, ap, subst, ◌∙◌, arith, All, slice_get, if◌then◌else◌, append_assoc}
use Rattle.std.specs.List.{IsDistinct, list_any, AllByRecursion}
use Rattle.std.specs.Str.{bytes_eq}
use Rattle.std.proofs.lemmas.Cmp.{nat_list_eq_equiv}
use Rattle.std.proofs.lemmas.Bool.{or_from, or_parts}
use Rattle.std.proofs.lemmas.Bool.Decides.{nat_tests}
use Rattle.std.proofs.lemmas.Grind.{common_steps}
use Rattle.std.proofs.lemmas.List.Elements.{All-head, All-tail}

-- the first place, by the list's head
pub position-cons : {A : Type 0} (p : A → Bool) (x : A) (xs : List A) → position p (x ∷ xs) ≡ (if p x then Some 0 else option_map (λ k. 1 + k) (position p xs))
position-cons p x xs = by (p x) refl
  where
    by : (b : Bool) → p x ≡ b → position p (x ∷ xs) ≡ (if b then Some 0 else option_map (λ k. 1 + k) (position p xs))
    by true e = grind (arith, nat_tests, common_steps)
    by false e = grind (arith, nat_tests, common_steps)

pub position_none : {A : Type 0} (p : A → Bool) (xs : List A) → list_any p xs ≡ false → position p xs ≡ None
position_none p [] h = refl
position_none p (x ∷ xs) h =
    let parts = or_parts (p x) (list_any p xs) h in
    position-cons p x xs ∙ rw (parts.0, position_none p xs parts.1) refl

pub find_none : {A : Type 0} (p : A → Bool) (xs : List A) → list_any p xs ≡ false → find p xs ≡ None
find_none p [] h = refl
find_none p (x ∷ xs) h =
    let parts = or_parts (p x) (list_any p xs) h in
    rw parts.0 (find_none p xs parts.1)

-- the first that passes stands behind those that don't
pub position_at : {A : Type 0} (p : A → Bool) (done : List A) (x : A) (more : List A) → list_any p done ≡ false → p x ≡ true → position p (done ++ x ∷ more) ≡ Some (length done)
position_at p [] x more h passes = position-cons p x more ∙ rw passes refl
position_at p (y ∷ ys) x more h passes =
    let parts = or_parts (p y) (list_any p ys) h in
    let e : 1 + length ys ≡ length (y ∷ ys) = omega arith in
    position-cons p y (ys ++ x ∷ more) ∙ rw (parts.0, position_at p ys x more parts.1 passes) (ap Some e)

pub find_at : {A : Type 0} (p : A → Bool) (done : List A) (x : A) (more : List A) → list_any p done ≡ false → p x ≡ true → find p (done ++ x ∷ more) ≡ Some x
find_at p [] x more h passes = rw passes refl
find_at p (y ∷ ys) x more h passes =
    let parts = or_parts (p y) (list_any p ys) h in
    rw parts.0 (find_at p ys x more parts.1 passes)

-- where the first that passes stands at a place, none before it passes
pub none_before : {A : Type 0} (p : A → Bool) (done : List A) (x : A) (more : List A) → position p (done ++ x ∷ more) ≡ Some (length done) → list_any p done ≡ false
none_before p [] x more h = refl
none_before p (y ∷ ys) x more h = by (p y) (position p (ys ++ x ∷ more)) refl refl (sym (position-cons p y (ys ++ x ∷ more)) ∙ h) (none_before p ys x more)
  where
    by : (b : Bool) (o : Option ℕ) → p y ≡ b → position p (ys ++ x ∷ more) ≡ o → (if b then Some 0 else option_map (λ k. 1 + k) o) ≡ Some (length (y ∷ ys))
        → (position p (ys ++ x ∷ more) ≡ Some (length ys) → list_any p ys ≡ false) → list_any p (y ∷ ys) ≡ false
    by true o e1 e2 k rest = let z : 0 ≡ length (y ∷ ys) = cc in absurd (omega arith)
    by false None e1 e2 k rest = cc
    by false (Some j) e1 e2 k rest =
        let z : 1 + j ≡ length (y ∷ ys) = cc in
        let w : j ≡ length ys = omega arith in
        or_from (p y) (list_any p ys) e1 (rest (e2 ∙ ap Some w))

at_middle : {A : Type 0} (P : A → Type 0) (done : List A) (x : A) (more : List A) → AllByRecursion P (done ++ x ∷ more) → P x
at_middle P [] x more h = h.0
at_middle P (y ∷ ys) x more h = at_middle P ys x more h.1

-- what holds of each holds of the one in the middle
pub all_middle : {A : Type 0} (P : A → Type 0) (done : List A) (x : A) (more : List A) → All P (done ++ x ∷ more) → P x
all_middle P [] x more h = All-head P x more h
all_middle P (y ∷ ys) x more h = all_middle P ys x more (All-tail P y (ys ++ x ∷ more) h)

-- the one in the middle differs from those before it
pub apart_before : {A : Type 0} (e : A → A → Bool) → ((a b : A) → e a b ≡ e b a) → (done : List A) (x : A) (more : List A) → IsDistinct e (done ++ x ∷ more) → list_any (e x) done ≡ false
unfolding IsDistinct
apart_before e symm [] x more h = refl
apart_before e symm (y ∷ ys) x more h =
    or_from (e x y) (list_any (e x) ys) (symm x y ∙ at_middle (λ z. e y z ≡ false) ys x more h.0) (apart_before e symm ys x more h.1)

-- a list around a place
pub record Around {A : Type 0} (xs : List A) (at : ℕ) (x : A) : Type 0 where
  pub done : List A
  pub more : List A
  pub parts : done ++ x ∷ more ≡ xs
  pub counted : length done ≡ at

pub around : {A : Type 0} (xs : List A) (at : ℕ) (x : A) → slice_get xs at ≡ Some x → Around xs at x
around [] at x h = cc
around (y ∷ ys) zero x h = let e : y ≡ x = cc in record { done = []; more = ys; parts = ap (λ (z : _). z ∷ ys) (sym e); counted = refl }
around (y ∷ ys) (suc at) x h =
    let rest = around ys at x h in
    record { done = y ∷ rest.done; more = rest.more; parts = ap (λ (zs : List _). y ∷ zs) rest.parts; counted = ap suc rest.counted }

pub same_bytes : (xs : List ℕ) → bytes_eq xs xs ≡ true
same_bytes xs = nat_list_eq_equiv.refl xs

-- the place of a name among different names
pub place_is : (names : List (List ℕ)) (at : ℕ) (name : List ℕ) → IsDistinct bytes_eq names → slice_get names at ≡ Some name → position (bytes_eq name) names ≡ Some at
place_is names at name differ is =
    let r = around names at name is in
    let apart = apart_before bytes_eq nat_list_eq_equiv.symm r.done name r.more (subst (IsDistinct bytes_eq) (sym r.parts) differ) in
    ap (λ (xs : List (List ℕ)). position (bytes_eq name) xs) (sym r.parts) ∙ position_at (bytes_eq name) r.done name r.more apart (same_bytes name) ∙ ap Some r.counted

pub list_any-map : {A B : Type 0} (f : A → B) (p : B → Bool) (xs : List A) → list_any p (map f xs) ≡ list_any (λ x. p (f x)) xs
list_any-map f p [] = refl
list_any-map f p (x ∷ xs) = rw (list_any-map f p xs) refl

pub position-map : {A B : Type 0} (f : A → B) (p : B → Bool) (xs : List A) → position p (map f xs) ≡ position (λ x. p (f x)) xs
position-map f p [] = refl
position-map f p (x ∷ xs) = position-cons p (f x) (map f xs) ∙ rw (position-map f p xs) (sym (position-cons (λ y. p (f y)) x xs))

-- what stands in the middle
pub get_middle : {A : Type 0} (done : List A) (x : A) (more : List A) → slice_get (done ++ x ∷ more) (length done) ≡ Some x
get_middle [] x more = refl
get_middle (y ∷ ys) x more = get_middle ys x more

-- one more is done
pub one_more : {A : Type 0} (done : List A) (x : A) (more whole : List A) → done ++ x ∷ more ≡ whole → (done ++ x ∷ []) ++ more ≡ whole
one_more done x more whole e = append_assoc done (x ∷ []) more ∙ e
