-- Lists after one entry is away, or each is another.
use Rattle.std.proofs.Common.{◌≡◌, ℕ, ◌+◌, ◌<◌, ◌||◌, List, [], ◌∷◌, length, map, get_or, set, take, drop, suc, zero, ◌⊎◌, inl, inr, slice_get, Bool, true, false, Option, Some, None, option_map, position, refl, sym, ap, ◌∙◌, arith, All, if◌then◌else◌, ◌≢◌}
use Rattle.std.specs.List.{IsDistinct, AllByRecursion, list_any, remove}
use Rattle.std.proofs.lemmas.List.Elements.{All-append, All-take, All-drop}
use Rattle.std.proofs.lemmas.List.Folds.{list_any_at}
use Rattle.cell_arcs.specs.Steps.{or_else}
use Rattle.netlist_model.specs.Circuit.{last_of}
use Rattle.netlist_model.proofs.Places.{position-cons, position-map}

-- ---- tests

-- neither of two tests
pub neither : (a b : Bool) → (a || b) ≡ false → (a ≡ false) × (b ≡ false)
neither true b h = cc
neither false b h = (refl, h)

-- a test of none of a list fails at each of its entries
pub fails_each : {A : Type 0} (p : A → Bool) (xs : List A) (k : ℕ) (d : A) → list_any p xs ≡ false → k < length xs → p (get_or xs k d) ≡ false
fails_each p xs k d none h = by (p (get_or xs k d)) refl
  where
    by : (b : Bool) → p (get_or xs k d) ≡ b → p (get_or xs k d) ≡ false
    by false e = e
    by true e = let some = list_any_at p xs k d h e in cc

-- a fact that follows where a test fails, of a list where it fails throughout
pub all_unless : {A : Type 0} (P Q : A → Type 0) (bad : A → Bool) → ((x : A) → bad x ≡ false → P x → Q x) → (xs : List A) → list_any bad xs ≡ false → All P xs → All Q xs
all_unless P Q bad step xs none h = λ k d low. step (get_or xs k d) (fails_each bad xs k d none low) (h k d low)

-- ---- an entry away

pub All-remove : {A : Type 0} (P : A → Type 0) (xs : List A) (at : ℕ) → All P xs → All P (remove xs at)
All-remove P xs at h = All-append P (take at xs) (drop (suc at) xs) (All-take P at xs h) (All-drop P (suc at) xs h)

pub any_remove : {A : Type 0} (p : A → Bool) (xs : List A) (at : ℕ) → list_any p (remove xs at) ≡ true → list_any p xs ≡ true
any_remove p [] zero h = h
any_remove p [] (suc at) h = h
any_remove p (x ∷ xs) zero h = by (p x)
  where
    by : (b : Bool) → (b || list_any p xs) ≡ true
    by true = refl
    by false = h
any_remove p (x ∷ xs) (suc at) h = by (p x) h (λ e. any_remove p xs at e)
  where
    by : (b : Bool) → (b || list_any p (remove xs at)) ≡ true → (list_any p (remove xs at) ≡ true → list_any p xs ≡ true) → (b || list_any p xs) ≡ true
    by true e rest = refl
    by false e rest = rest e

apart_remove : {A : Type 0} (P : A → Type 0) (xs : List A) (at : ℕ) → AllByRecursion P xs → AllByRecursion P (remove xs at)
apart_remove P [] zero h = h
apart_remove P [] (suc at) h = h
apart_remove P (x ∷ xs) zero h = h.1
apart_remove P (x ∷ xs) (suc at) h = (h.0, apart_remove P xs at h.1)

pub IsDistinct-remove : {A : Type 0} (e : A → A → Bool) (xs : List A) (at : ℕ) → IsDistinct e xs → IsDistinct e (remove xs at)
unfolding IsDistinct
IsDistinct-remove e [] zero h = h
IsDistinct-remove e [] (suc at) h = h
IsDistinct-remove e (x ∷ xs) zero h = h.1
IsDistinct-remove e (x ∷ xs) (suc at) h = (apart_remove (λ y. e x y ≡ false) xs at h.0, IsDistinct-remove e xs at h.1)

-- what stands in the rest stood in the list
stood : {A : Type 0} (xs : List A) (at k : ℕ) (y : A) → slice_get (remove xs at) k ≡ Some y → (m : ℕ) × (slice_get xs m ≡ Some y)
stood [] zero k y h = cc
stood [] (suc at) k y h = cc
stood (x ∷ xs) zero k y h = (suc k, h)
stood (x ∷ xs) (suc at) zero y h = (zero, h)
stood (x ∷ xs) (suc at) (suc k) y h = let (m, is) = stood xs at k y h in (suc m, is)

-- each entry that passes is the first that does
abbrev pub IsOneOf : {A : Type 0} → (A → Bool) → List A → Type 0
IsOneOf {A} p xs = (k : ℕ) (x : A) → slice_get xs k ≡ Some x → p x ≡ true → position p xs ≡ Some k

-- the first place is behind the head, where the head fails
later : (b : Bool) (o : Option ℕ) (k : ℕ) → (if b then Some 0 else option_map (λ j. 1 + j) o) ≡ Some (suc k) → (b ≡ false) × (o ≡ Some k)
later true o k h = let e : 0 ≡ suc k = cc in absurd (omega (arith, e))
later false None k h = cc
later false (Some j) k h = let e : 1 + j ≡ suc k = cc in (refl, let f : j ≡ k = omega (arith, e) in ap Some f)

one_behind : {A : Type 0} (p : A → Bool) (x : A) (xs : List A) → IsOneOf p (x ∷ xs) → IsOneOf p xs
one_behind p x xs one k y at h = (later (p x) (position p xs) k (sym (position-cons p x xs) ∙ one (suc k) y at h)).1

pub one_remove : {A : Type 0} (p : A → Bool) (xs : List A) (at : ℕ) → IsOneOf p xs → IsOneOf p (remove xs at)
one_remove p [] zero one = λ k y is h. cc
one_remove p [] (suc at) one = λ k y is h. cc
one_remove p (x ∷ xs) zero one = one_behind p x xs one
one_remove {A} p (x ∷ xs) (suc at) one = by (one_remove p xs at (one_behind p x xs one))
  where
    by : IsOneOf p (remove xs at) → IsOneOf p (x ∷ remove xs at)
    by rest zero y is h = let e : p x ≡ true = ap p (let f : x ≡ y = cc in f) ∙ h in position-cons p x (remove xs at) ∙ rw e refl
    by rest (suc k) y is h =
        let (m, was) = stood xs at k y is in
        let fails = (later (p x) (position p xs) m (sym (position-cons p x xs) ∙ one (suc m) y was h)).0 in
        position-cons p x (remove xs at) ∙ rw (fails, rest k y is h) (let e : 1 + k ≡ suc k = omega arith in ap Some e)

-- ---- another entry at each place

pub position_same : {A : Type 0} (p q bad : A → Bool) → ((x : A) → bad x ≡ false → p x ≡ q x) → (xs : List A) → list_any bad xs ≡ false → position p xs ≡ position q xs
position_same p q bad same [] none = refl
position_same p q bad same (x ∷ xs) none =
    let parts = neither (bad x) (list_any bad xs) none in
    position-cons p x xs ∙ rw (same x parts.0, position_same p q bad same xs parts.1) (sym (position-cons q x xs))

mapped : {A B : Type 0} (f : A → B) (xs : List A) (k : ℕ) (y : B) → slice_get (map f xs) k ≡ Some y → (x : A) × (slice_get xs k ≡ Some x) × (f x ≡ y)
mapped f [] k y h = cc
mapped f (x ∷ xs) zero y h = (x, refl, cc)
mapped f (x ∷ xs) (suc k) y h = mapped f xs k y h

-- an entry of a list where a test fails throughout
fails_at : {A : Type 0} (bad : A → Bool) (xs : List A) (k : ℕ) (x : A) → list_any bad xs ≡ false → slice_get xs k ≡ Some x → bad x ≡ false
fails_at bad [] k x none is = cc
fails_at bad (y ∷ ys) zero x none is = ap bad (let e : x ≡ y = cc in e) ∙ (neither (bad y) (list_any bad ys) none).0
fails_at bad (y ∷ ys) (suc k) x none is = fails_at bad ys k x (neither (bad y) (list_any bad ys) none).1 is

pub one_map : {A B : Type 0} (f : A → B) (p : B → Bool) (q bad : A → Bool) → ((x : A) → bad x ≡ false → p (f x) ≡ q x) → (xs : List A) → list_any bad xs ≡ false → IsOneOf q xs → IsOneOf p (map f xs)
one_map f p q bad same xs none one k y is h =
    let (x, was, e) = mapped f xs k y is in
    let passes : q x ≡ true = sym (same x (fails_at bad xs k x none was)) ∙ ap p e ∙ h in
    position-map f p xs ∙ position_same (λ z. p (f z)) q bad same xs none ∙ one k x was passes

apart_map : {A : Type 0} (e : A → A → Bool) (f : A → A) (bad : A → Bool) → ((x y : A) → bad x ≡ false → bad y ≡ false → e (f x) (f y) ≡ e x y)
    → (x : A) (xs : List A) → bad x ≡ false → list_any bad xs ≡ false → AllByRecursion (λ y. e x y ≡ false) xs → AllByRecursion (λ y. e (f x) y ≡ false) (map f xs)
apart_map e f bad same x [] good none h = h
apart_map e f bad same x (y ∷ ys) good none h =
    let parts = neither (bad y) (list_any bad ys) none in
    (same x y good parts.0 ∙ h.0, apart_map e f bad same x ys good parts.1 h.1)

pub IsDistinct-map : {A : Type 0} (e : A → A → Bool) (f : A → A) (bad : A → Bool) → ((x y : A) → bad x ≡ false → bad y ≡ false → e (f x) (f y) ≡ e x y)
    → (xs : List A) → list_any bad xs ≡ false → IsDistinct e xs → IsDistinct e (map f xs)
unfolding IsDistinct
IsDistinct-map e f bad same [] none h = h
IsDistinct-map e f bad same (x ∷ xs) none h =
    let parts = neither (bad x) (list_any bad xs) none in
    (apart_map e f bad same x xs parts.0 parts.1 h.0, IsDistinct-map e f bad same xs parts.1 h.1)

pub map_same : {A B : Type 0} (g : A → B) (f : A → A) (xs : List A) → ((x : A) → g (f x) ≡ g x) → map g (map f xs) ≡ map g xs
map_same g f [] same = refl
map_same g f (x ∷ xs) same = rw (same x, map_same g f xs same) refl

-- ---- the last entry

pub last_map : {A B : Type 0} (f : A → B) (xs : List A) → last_of (map f xs) ≡ option_map f (last_of xs)
last_map f [] = refl
last_map f (x ∷ xs) = rw (last_map f xs) (by (last_of xs))
  where
    by : (o : Option _) → or_else (option_map f o) (Some (f x)) ≡ option_map f (or_else o (Some x))
    by None = refl
    by (Some y) = refl

-- a list with an entry has a last
last_some : {A : Type 0} (x : A) (xs : List A) → (y : A) × (last_of (x ∷ xs) ≡ Some y)
last_some x xs = by (last_of xs) refl
  where
    by : (o : Option _) → last_of xs ≡ o → (y : _) × (last_of (x ∷ xs) ≡ Some y)
    by None e = (x, rw e refl)
    by (Some y) e = (y, rw e refl)

-- a write at another place than the last leaves the last
pub last_kept : {A : Type 0} (xs : List A) (at : ℕ) (y : A) → at + 1 ≢ length xs → last_of (set xs at y) ≡ last_of xs
last_kept [] at y h = refl
last_kept (x ∷ []) zero y h = absurd (h (omega arith))
last_kept (x ∷ []) (suc at) y h = refl
last_kept (x ∷ z ∷ zs) zero y h = let (w, e) = last_some z zs in rw e refl
last_kept (x ∷ z ∷ zs) (suc at) y h = rw (last_kept (z ∷ zs) at y (λ e. h (omega (arith, e)))) refl

-- a write at the last place
pub last_set : {A : Type 0} (xs : List A) (at : ℕ) (y : A) → at + 1 ≡ length xs → last_of (set xs at y) ≡ Some y
last_set [] at y h = absurd (omega (arith, h))
last_set (x ∷ []) zero y h = refl
last_set (x ∷ []) (suc at) y h = absurd (omega (arith, h))
last_set (x ∷ z ∷ zs) zero y h = absurd (omega (arith, h))
last_set (x ∷ z ∷ zs) (suc at) y h = rw (last_set (z ∷ zs) at y (omega (arith, h))) refl

-- ---- an entry that passes, written where none passes but the one that stood there
pub position_here : {A : Type 0} (p : A → Bool) (xs : List A) (at : ℕ) (y : A) → at < length xs → p y ≡ true → (position p xs ≡ None) ⊎ (position p xs ≡ Some at) → position p (set xs at y) ≡ Some at
position_here p [] at y low h was = absurd (omega arith)
position_here p (x ∷ xs) zero y low h was = position-cons p y xs ∙ rw h refl
position_here p (x ∷ xs) (suc at) y low h was =
    let parts = behind (p x) (position p xs) (elim was [ inl e ↦ inl (sym (position-cons p x xs) ∙ e) | inr e ↦ inr (sym (position-cons p x xs) ∙ e) ]) in
    position-cons p x (set xs at y) ∙ rw (parts.0, position_here p xs at y (omega arith) h parts.1) (let e : 1 + at ≡ suc at = omega arith in ap Some e)
  where
    behind : (b : Bool) (o : Option ℕ) → ((if b then Some 0 else option_map (λ j. 1 + j) o) ≡ None) ⊎ ((if b then Some 0 else option_map (λ j. 1 + j) o) ≡ Some (suc at)) → (b ≡ false) × ((o ≡ None) ⊎ (o ≡ Some at))
    behind true o (inl e) = cc
    behind true o (inr e) = absurd (let f : 0 ≡ suc at = cc in omega (arith, f))
    behind false None w = (refl, inl refl)
    behind false (Some j) (inl e) = cc
    behind false (Some j) (inr e) = let l = later false (Some j) at e in (refl, inr l.1)
