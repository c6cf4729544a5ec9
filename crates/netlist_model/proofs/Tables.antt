-- The tables beside a list of instances or forks.
use Rattle.std.proofs.Common.{◌≡◌, ℕ, List, [], ◌∷◌, ◌++◌, length, map, get_or, set, Result, Ok, Err, ◌==◌, Bool, true, false, cond, nat_eq, Option, Some, None, Vec, Global, position, refl, sym, ap, subst, ◌∙◌, arith, if◌then◌else◌}
use Rattle.std.specs.List.{list_any}
use Rattle.std.specs.Str.{bytes_eq}
use Rattle.std.proofs.lemmas.List.{map-append, length-set}
use Rattle.std.proofs.lemmas.List.Folds.{position_or_len-set}
use Rattle.std.proofs.lemmas.Bool.Decides.{nat_tests}
use Rattle.std.specs.Result.{OnOk, OnErr, IsOk, is_ok}
use Rattle.cell_arcs.specs.Steps.{or_else}
use Rattle.netlist_model.specs.Circuit.{place_of, driver_of, drives, last_of, is_net, kinds_after, roots_of}
use Rattle.netlist_model.specs.declared.parts.Fork.{Fork}
use Rattle.netlist_model.specs.declared.parts.Instance.{Instance}
use Rattle.netlist_model.specs.declared.parts.NetRef.TheVariants.{Net}
use Rattle.netlist_model.proofs.Places.{position-map, position_push, none_passes, list_any-map}
use Rattle.indexmap.specs.IndexSet.{insert_key}
use Rattle.std.proofs.Math.Seq.{map-set_same}

-- the place among the keys is the place among what they name
pub place_named : {A : Type 0} (f : A → List ℕ) (xs : List A) (keys : List (Vec ℕ Global)) (name : List ℕ) → map (λ v. v.items) keys ≡ map f xs → place_of name (map (λ v. v.items) keys) ≡ position (λ x. bytes_eq name (f x)) xs
place_named f xs keys name e = ap (place_of name) e ∙ position-map f (bytes_eq name) xs

pub named_push : {A : Type 0} (f : A → List ℕ) (xs : List A) (x : A) (old new : List (List ℕ)) → old ≡ map f xs → new ≡ old ++ f x ∷ [] → new ≡ map f (xs ++ x ∷ [])
named_push f xs x old new e n = n ∙ rw (e, map-append f xs (x ∷ [])) refl

pub or_none : {A : Type 0} (o : Option A) → or_else o None ≡ o
or_none None = refl
or_none (Some x) = refl

-- one more instance, on a net that none drives
pub driven_push : (insts : List Instance) (x : Instance) (net : ℕ) (old new : ℕ → Option ℕ) → last_of x.pins ≡ Some (Net net) → driver_of insts net ≡ None
    → ((n : ℕ) → old n ≡ driver_of insts n) → ((n : ℕ) → new n ≡ cond (nat_eq net n) (Some (length insts)) (old n)) → (n : ℕ) → new n ≡ driver_of (insts ++ x ∷ []) n
driven_push insts x net old new output free before after n =
    after n ∙ rw (before n, position_push (drives n) insts x, output) (by (nat_eq net n) refl)
  where
    by : (b : Bool) → nat_eq net n ≡ b → cond (nat_eq net n) (Some (length insts)) (driver_of insts n) ≡ or_else (driver_of insts n) (if is_net n (Some (Net net)) then Some (length insts) else None)
    by true e =
        let same : net ≡ n = grind (arith, nat_tests) in
        let flip : nat_eq n net ≡ true = grind (arith, nat_tests) in
        rw (e, flip, (let h : driver_of insts n ≡ None = subst (λ m. driver_of insts m ≡ None) same free in h)) refl
    by false e =
        let flip : nat_eq n net ≡ false = grind (arith, nat_tests) in
        rw (e, flip, or_none (driver_of insts n)) refl

-- a name that is not among the keys goes last
pub insert_new : (keys : List (Vec ℕ Global)) (k : Vec ℕ Global) → place_of k.items (map (λ v. v.items) keys) ≡ None → map (λ v. v.items) (insert_key (λ a b. bytes_eq a.items b.items) keys k) ≡ map (λ v. v.items) keys ++ k.items ∷ []
insert_new keys k none =
    let absent : list_any (λ (v : Vec ℕ Global). bytes_eq k.items v.items) keys ≡ false = sym (list_any-map (λ (v : Vec ℕ Global). v.items) (bytes_eq k.items) keys) ∙ none_passes (bytes_eq k.items) _ none in
    rw (absent, map-append (λ (v : Vec ℕ Global). v.items) keys (k ∷ [])) refl

-- a name that no item has is not among the keys
pub fresh_among : {A : Type 0} (f : A → List ℕ) (xs now : List A) (old keys : List (Vec ℕ Global)) (name own : List ℕ)
    → map (λ v. v.items) old ≡ map f xs → keys ≡ old → xs ≡ now → name ≡ own → position (λ x. bytes_eq own (f x)) now ≡ None → place_of name (map (λ v. v.items) keys) ≡ None
fresh_among f xs now old keys name own named same view own_name none =
    rw (own_name, same) (place_named f xs old own named ∙ rw view none)

-- a write that leaves the name of the item
pub named_set : {A : Type 0} (f : A → List ℕ) (xs : List A) (i : ℕ) (y d : A) (keys : List (List ℕ)) → keys ≡ map f xs → f y ≡ f (get_or xs i d) → keys ≡ map f (set xs i y)
named_set f xs i y d keys e same = e ∙ sym (map-set_same f xs i y d same)

-- a write that leaves the test of the item
pub position_set : {A : Type 0} (p : A → Bool) (xs : List A) (i : ℕ) (y d : A) → p y ≡ p (get_or xs i d) → position p (set xs i y) ≡ position p xs
position_set p xs i y d same = rw (position_or_len-set p xs i y d same, length-set xs i y) refl

pub driven_set : (insts : List Instance) (i : ℕ) (y d : Instance) (old : ℕ → Option ℕ) → ((n : ℕ) → old n ≡ driver_of insts n) → y.pins ≡ (get_or insts i d).pins → (n : ℕ) → old n ≡ driver_of (set insts i y) n
driven_set insts i y d old before same n =
    before n ∙ sym (position_set (drives n) insts i y d (ap (λ pins. is_net n (last_of pins)) same))

-- the fact that a call ensures on success, of a call that succeeds
pub on_ok_at : {T E P : Type 0} (r : Result T E) → OnOk r P → IsOk r → P
on_ok_at (Ok x) h k = h
on_ok_at (Err e) h k = cc

-- the different numbers, with one more at the end
pub kinds_push : (before xs : List ℕ) (x : ℕ) → kinds_after before (xs ++ x ∷ []) ≡ insert_key nat_eq (kinds_after before xs) x
unfolding kinds_after
kinds_push before [] x = refl
kinds_push before (y ∷ ys) x = kinds_push (if list_any (λ z. y == z) before then before else before ++ y ∷ []) ys x

-- one more fork
pub roots_push : (forks : List Fork) (f : Fork) (old new : List ℕ) → old ≡ roots_of forks → new ≡ insert_key nat_eq old f.root → new ≡ roots_of (forks ++ f ∷ [])
roots_push forks f old new e n = n ∙ rw (e, map-append (λ (x : Fork). x.root) forks (f ∷ [])) (sym (kinds_push [] (map (λ x. x.root) forks) f.root))

-- the names after a push, where the keys were only given room before
pub named_pushed : {A : Type 0} (f : A → List ℕ) (xs : List A) (x : A) (old reserved new : List (Vec ℕ Global)) (name own : List ℕ)
    → map (λ v. v.items) old ≡ map f xs → reserved ≡ old → name ≡ own → own ≡ f x → map (λ v. v.items) new ≡ map (λ v. v.items) reserved ++ name ∷ [] → map (λ v. v.items) new ≡ map f (xs ++ x ∷ [])
named_pushed f xs x old reserved new name own named same owns is n =
    n ∙ rw (same, owns, is, named, map-append f xs (x ∷ [])) refl

-- a fact that holds anyway holds on failure
pub on_err_of : {T E P : Type 0} (r : Result T E) → P → OnErr r P
on_err_of (Ok x) p = tt
on_err_of (Err e) p = p

-- the place among the names is the place among what they name
pub place_among : {A : Type 0} (f : A → List ℕ) (xs now : List A) (names : List (List ℕ)) (name : List ℕ) → names ≡ map f xs → xs ≡ now → place_of name names ≡ position (λ x. bytes_eq name (f x)) now
place_among f xs now names name named view = ap (place_of name) (named ∙ ap (map f) view) ∙ position-map f (bytes_eq name) now

-- a push that succeeds
pub pushed_of : {A T E : Type 0} (r : Result T E) (pushed kept : A) → IsOk r → (if is_ok r then pushed else kept) ≡ pushed
pushed_of (Ok x) pushed kept k = refl
pushed_of (Err e) pushed kept k = cc
