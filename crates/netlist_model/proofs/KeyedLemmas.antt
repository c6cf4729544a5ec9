-- Names that are found by an ordered map of their numbers.
use Rattle.std.proofs.Common.{◌≡◌, ◌≢◌, ℕ, ◌+◌, ◌<◌, ◌≤◌, ◌++◌, List, [], ◌∷◌, length, suc, zero, Bool, true, false, cond, nat_eq, nat_lt, Option, Some, None, option_map, option_and_then, position, ◌⊎◌, inl, inr, refl, sym, ap, subst, ◌∙◌, arith, All, Vec, Global, slice_get, take, get_or}
use Rattle.std.specs.BTreeMap.{BTreeMap, UpdatesBy}
use Rattle.std.specs.Cmp.{eq_by_cmp_equiv}
use Rattle.std.specs.Cmp.Lexicographic.{slice_cmp, bytes_decides, nat_list_cmp_total}
use Rattle.std.specs.List.{IsDistinct, list_any, remove}
use Rattle.std.specs.Map.{lookup, IsKeyTest, AreApart, KeepsOthers, keys_of, values_of}
use Rattle.std.specs.Ordering.{is_eq, nat_cmp}
use Rattle.std.specs.Str.{bytes_eq}
use Rattle.std.proofs.lemmas.Bool.Decides.{nat_tests}
use Rattle.std.proofs.lemmas.List.{map-append}
use Rattle.indexmap.specs.IndexMap.{insert_entry}
use Rattle.std.proofs.lemmas.Cmp.{nat_list_eq_equiv}
use Rattle.std.proofs.lemmas.List.Elements.{All-push, All-weaker}
use Rattle.std.proofs.lemmas.Map.Keys.{apart_from_distinct, any_passes_from_place, IsDistinct-push}
use Rattle.std.proofs.lemmas.Map.Text.{is_eq-slice_cmp}
use Rattle.std.proofs.lemmas.Option.{get_or_from_slice_get, slice_get_within, slice_get-get_or}
use Rattle.std.proofs.lemmas.List.Quantifiers.{position-Some}
use Rattle.cell_arcs.specs.Steps.{or_else}
use Rattle.netlist_model.specs.Circuit.{place_of}
use Rattle.netlist_model.specs.Deletions.{moved_up}
use Rattle.netlist_model.specs.Keyed.{HasNoted, IsFound, IsKeyed, names_in, number_in}
use Rattle.netlist_model.proofs.Entries.{IsDistinct-remove}
use Rattle.netlist_model.proofs.Places.{none_passes, position_push, position_within}
use Rattle.netlist_model.proofs.Taken.{position_without, position_alone, slice_get_without, All-remove, map-remove, none_at, not_true, one_place}

-- ---- the ordered map

bytes_apart : (bs cs ks : List ℕ) → bytes_eq bs cs ≡ false → bytes_eq bs ks ≡ true → bytes_eq cs ks ≡ false
bytes_apart bs cs ks n y = nat_list_eq_equiv.symm cs ks ∙ sym (nat_list_eq_equiv.congr bs ks cs y) ∙ n

apart_in_order : (bs cs ks : List ℕ) → bytes_eq bs cs ≡ false → is_eq (slice_cmp nat_cmp bs ks) ≡ true → is_eq (slice_cmp nat_cmp cs ks) ≡ false
apart_in_order bs cs ks n y = is_eq-slice_cmp cs ks ∙ bytes_apart bs cs ks n (sym (is_eq-slice_cmp bs ks) ∙ y)

others : {K X : Type 0} (eq : K → K → Bool) (test : K → Bool) (old new : List (K × X)) → KeepsOthers eq test old new → (other : K → Bool) → IsKeyTest eq other → AreApart test other → lookup other new ≡ lookup other old
unfolding KeepsOthers
others eq test old new h = h

pub bytes_same : (xs ys : List ℕ) → bytes_eq xs ys ≡ true → xs ≡ ys
bytes_same xs ys h = (bytes_decides xs ys).0 h

-- what a change at a name leaves at any name
pub number_updated : (name : List ℕ) (m n : BTreeMap (Vec ℕ Global) ℕ) (w : Option ℕ) → UpdatesBy (λ x y. slice_cmp nat_cmp x.items y.items) (λ v. slice_cmp nat_cmp name v.items) m n w
    → (q : List ℕ) → number_in n q ≡ cond (bytes_eq name q) w (number_in m q)
number_updated name m n w h q = by (bytes_eq name q) refl
  where
    by : (b : Bool) → bytes_eq name q ≡ b → number_in n q ≡ cond b w (number_in m q)
    by true e = subst (λ r. number_in n r ≡ w) (bytes_same name q e) h.1
    by false e = others _ _ m.entries n.entries h.3 (λ v. is_eq (slice_cmp nat_cmp q v.items)) (λ x y. (eq_by_cmp_equiv nat_list_cmp_total).congr q x.items y.items) (λ v. apart_in_order name q v.items e)

-- ---- numbers

number_refl : (k : ℕ) → nat_eq k k ≡ true
number_refl k = grind (arith, nat_tests)

any_from_place : (numbers : List ℕ) (k n : ℕ) → slice_get numbers k ≡ Some n → list_any (nat_eq n) numbers ≡ true
any_from_place numbers k n at = any_passes_from_place (nat_eq n) numbers k n at (number_refl n)

-- a number that differs from the others is first at its place
pub first_at : (numbers : List ℕ) (k n : ℕ) → IsDistinct nat_eq numbers → slice_get numbers k ≡ Some n → position (nat_eq n) numbers ≡ Some k
first_at numbers k n differ at = by (position (nat_eq n) numbers) refl
  where
    here : (d : ℕ) → get_or numbers k d ≡ n
    here d = get_or_from_slice_get numbers k n d at

    same : (i : ℕ) → i < length numbers → nat_eq n (get_or numbers i n) ≡ true → (b c : Bool) → nat_lt i k ≡ b → nat_lt k i ≡ c → ((j : ℕ) → j < i → nat_eq n (get_or numbers j n) ≡ false) → i ≡ k
    same i low is true c e f first =
        let less : i < k = grind (arith, nat_tests) in
        let no = apart_from_distinct nat_eq numbers i k n differ less (slice_get_within numbers k n at) in
        let at_i : get_or numbers i n ≡ n = grind (arith, nat_tests) in
        let at_k = here n in
        let g : nat_eq n n ≡ false = rw (at_i, at_k) at no in
        let f : true ≡ false = sym (number_refl n) ∙ g in cc
    same i low is false true e f first =
        let less : k < i = grind (arith, nat_tests) in
        let no = first k less in
        let g : nat_eq n n ≡ false = rw (here n) at no in
        let f : true ≡ false = sym (number_refl n) ∙ g in cc
    same i low is false false e f first = grind (arith, nat_tests)

    by : (o : Option ℕ) → position (nat_eq n) numbers ≡ o → position (nat_eq n) numbers ≡ Some k
    by None e =
        let g = any_from_place numbers k n at in
        let h = none_passes (nat_eq n) numbers e in
        let f : true ≡ false = sym g ∙ h in cc
    by (Some i) e =
        let (low, is, first) = position-Some (nat_eq n) numbers i n e in
        e ∙ ap Some (same i low is (nat_lt i k) (nat_lt k i) refl refl first)

-- the number of a name is at the name's place
pub keyed_place : (names : List (List ℕ)) (numbers : List ℕ) (hint number : List ℕ → Option ℕ) (name : List ℕ) (n : ℕ) → IsFound names numbers hint number → IsDistinct nat_eq numbers
    → number name ≡ Some n → position (nat_eq n) numbers ≡ place_of name names
keyed_place names numbers hint number name n found differ is = by (place_of name names) refl
  where
    by : (o : Option ℕ) → place_of name names ≡ o → position (nat_eq n) numbers ≡ place_of name names
    by None e =
        let g : None ≡ Some n = sym (ap (option_and_then (slice_get numbers)) e) ∙ found.own name n is in cc
    by (Some k) e =
        let g : slice_get numbers k ≡ Some n = sym (ap (option_and_then (slice_get numbers)) e) ∙ found.own name n is in
        first_at numbers k n differ g ∙ sym e

-- a name stands at the place that is found
pub place_stands : (names : List (List ℕ)) (name : List ℕ) (k : ℕ) → place_of name names ≡ Some k → slice_get names k ≡ Some name
place_stands names name k e =
    let (low, is, first) = position-Some (bytes_eq name) names k [] e in
    slice_get-get_or names k [] low ∙ ap Some (sym (bytes_same name (get_or names k []) is))

-- a name that stands at a place is found there
pub keyed_here : (names : List (List ℕ)) (at : ℕ) (name : List ℕ) → IsDistinct bytes_eq names → slice_get names at ≡ Some name → place_of name names ≡ Some at
keyed_here names at name differ here = by (place_of name names) refl
  where
    by : (o : Option ℕ) → place_of name names ≡ o → place_of name names ≡ Some at
    by None e =
        let none = none_passes (bytes_eq name) names e in
        let some = any_passes_from_place (bytes_eq name) names at name here ((bytes_decides name name).1 refl) in
        let f : true ≡ false = sym some ∙ none in cc
    by (Some k) e = e ∙ ap Some (one_place names k at name name differ (place_stands names name k e) here refl)

-- a name without number that does not stand at its hint is none of the names
pub keyed_none : (names : List (List ℕ)) (numbers : List ℕ) (hint number : List ℕ → Option ℕ) (name : List ℕ) → IsFound names numbers hint number
    → number name ≡ None → ((k : ℕ) → hint name ≡ Some k → slice_get names k ≡ Some name → ⊥) → place_of name names ≡ None
keyed_none names numbers hint number name found none missed = by (place_of name names) refl
  where
    by : (o : Option ℕ) → place_of name names ≡ o → place_of name names ≡ None
    by None e = e
    by (Some k) e = absurd (missed k (found.told name k e none) (place_stands names name k e))

get_front : {A : Type 0} (xs : List A) (y : A) (k : ℕ) → k < length xs → slice_get (xs ++ y ∷ []) k ≡ slice_get xs k
get_front [] y k low = absurd (omega arith)
get_front (x ∷ xs) y zero low = refl
get_front (x ∷ xs) y (suc k) low = get_front xs y k (omega arith)

get_end : {A : Type 0} (xs : List A) (y : A) (k : ℕ) → k ≡ length xs → slice_get (xs ++ y ∷ []) k ≡ Some y
get_end [] y zero e = refl
get_end [] y (suc k) e = absurd (omega arith)
get_end (x ∷ xs) y zero e = absurd (omega arith)
get_end (x ∷ xs) y (suc k) e = get_end xs y k (omega arith)

-- nothing is found where no name is
pub none_found : (hint number : List ℕ → Option ℕ) → ((q : List ℕ) → number q ≡ None) → IsFound [] [] hint number
none_found hint number none = record {
  own = λ name n is. (let g : None ≡ Some n = sym (none name) ∙ is in cc);
  told = λ name k e none. cc;
}

-- one more name
pub found_push : (names : List (List ℕ)) (numbers : List ℕ) (hint number hint' number' : List ℕ → Option ℕ) (n : ℕ) (name : List ℕ) → IsFound names numbers hint number → length names ≡ length numbers
    → place_of name names ≡ None → HasNoted name n (length names) hint number hint' number' → IsFound (names ++ name ∷ []) (numbers ++ n ∷ []) hint' number'
found_push names numbers hint number hint' number' n name found as_many fresh noted = record {
  own = λ q m is. own q m is (bytes_eq name q) refl;
  told = λ q k at none. told q k at none (bytes_eq name q) refl;
}
  where
    at_end : (q : List ℕ) → bytes_eq name q ≡ true → place_of q (names ++ name ∷ []) ≡ Some (length names)
    at_end q e =
        let here : bytes_eq q name ≡ true = nat_list_eq_equiv.symm q name ∙ e in
        let none : place_of q names ≡ None = subst (λ r. place_of r names ≡ None) (bytes_same name q e) fresh in
        position_push (bytes_eq q) names name ∙ rw (here, none) refl

    as_before : (q : List ℕ) → bytes_eq name q ≡ false → place_of q (names ++ name ∷ []) ≡ or_else (place_of q names) None
    as_before q e =
        let apart : bytes_eq q name ≡ false = nat_list_eq_equiv.symm q name ∙ e in
        position_push (bytes_eq q) names name ∙ rw apart refl

    kept : (q : List ℕ) (o : Option ℕ) → place_of q names ≡ o → option_and_then (slice_get numbers) o ≡ option_and_then (slice_get (numbers ++ n ∷ [])) (or_else o None)
    kept q None e = refl
    kept q (Some k) e =
        let low = position_within (bytes_eq q) names k e in
        sym (get_front numbers n k (omega arith))

    unnumbered : (m : ℕ) → number name ≡ Some m → ⊥
    unnumbered m is =
        let g : None ≡ Some m = sym (ap (option_and_then (slice_get numbers)) fresh) ∙ found.own name m is in cc

    is_its : (m : ℕ) → number' name ≡ Some m → n ≡ m
    is_its m is = pick noted.here
      where
        pick : ((hint' name ≡ Some (length names)) × (number' name ≡ number name)) ⊎ (number' name ≡ Some n) → n ≡ m
        pick (inl h) = absurd (unnumbered m (sym h.1 ∙ is))
        pick (inr h) = let g : Some n ≡ Some m = sym h ∙ is in cc

    at_its : number' name ≡ None → hint' name ≡ Some (length names)
    at_its none = pick noted.here
      where
        pick : ((hint' name ≡ Some (length names)) × (number' name ≡ number name)) ⊎ (number' name ≡ Some n) → hint' name ≡ Some (length names)
        pick (inl h) = h.0
        pick (inr h) = let g : Some n ≡ None = sym h ∙ none in cc

    own : (q : List ℕ) (m : ℕ) → number' q ≡ Some m → (b : Bool) → bytes_eq name q ≡ b → option_and_then (slice_get (numbers ++ n ∷ [])) (place_of q (names ++ name ∷ [])) ≡ Some m
    own q m is true e =
        ap (option_and_then (slice_get (numbers ++ n ∷ []))) (at_end q e) ∙ get_end numbers n (length names) as_many
        ∙ ap Some (is_its m (subst (λ r. number' r ≡ Some m) (sym (bytes_same name q e)) is))
    own q m is false e =
        ap (option_and_then (slice_get (numbers ++ n ∷ []))) (as_before q e) ∙ sym (kept q (place_of q names) refl)
        ∙ found.own q m (sym (noted.others q e) ∙ is)

    told : (q : List ℕ) (k : ℕ) → place_of q (names ++ name ∷ []) ≡ Some k → number' q ≡ None → (b : Bool) → bytes_eq name q ≡ b → hint' q ≡ Some k
    told q k at none true e =
        let same = bytes_same name q e in
        let is : Some (length names) ≡ Some k = sym (at_end q e) ∙ at in
        subst (λ r. hint' r ≡ Some k) same (at_its (subst (λ r. number' r ≡ None) (sym same) none) ∙ is)
    told q k at none false e = noted.kept q k (found.told q k (front (place_of q names) (sym (as_before q e) ∙ at)) (sym (noted.others q e) ∙ none))
      where
        front : (o : Option ℕ) → or_else o None ≡ Some k → o ≡ Some k
        front None h = cc
        front (Some j) h = h

-- one more name, with the next number
pub keyed_push : (names : List (List ℕ)) (numbers : List ℕ) (hint number hint' number' : List ℕ → Option ℕ) (next : ℕ) (name : List ℕ) → IsKeyed names numbers hint number next → length names ≡ length numbers
    → place_of name names ≡ None → HasNoted name next (length names) hint number hint' number' → IsKeyed (names ++ name ∷ []) (numbers ++ next ∷ []) hint' number' (next + 1)
keyed_push names numbers hint number hint' number' next name keyed as_many fresh noted = record {
  found = found_push names numbers hint number hint' number' next name keyed.found as_many fresh noted;
  below = All-push (λ n. n < next + 1) numbers next (All-weaker (λ n. n < next) (λ n. n < next + 1) (λ n low. omega arith) numbers keyed.below) (omega arith);
  differ = IsDistinct-push nat_list_eq_equiv names name keyed.differ (none_passes (bytes_eq name) names fresh);
}

-- a name is away
pub keyed_remove : (names : List (List ℕ)) (numbers : List ℕ) (hint number hint' number' : List ℕ → Option ℕ) (next gone : ℕ) (name : List ℕ) → IsKeyed names numbers hint number next
    → slice_get names gone ≡ Some name → ((q : List ℕ) → number' q ≡ cond (bytes_eq name q) None (number q))
    → ((q : List ℕ) (k : ℕ) → hint q ≡ Some k → k ≢ gone → k < length names → hint' q ≡ Some (moved_up gone k)) → IsKeyed (remove names gone) (remove numbers gone) hint' number' next
keyed_remove names numbers hint number hint' number' next gone name keyed at after moved = record {
  found = record {
    own = λ q m is. own q m is (bytes_eq name q) refl;
    told = λ q k here none. told q k here none (bytes_eq name q) refl;
  };
  below = All-remove (λ n. n < next) numbers gone keyed.below;
  differ = IsDistinct-remove bytes_eq names gone keyed.differ;
}
  where
    other : (q : List ℕ) (k : ℕ) → bytes_eq name q ≡ false → place_of q names ≡ Some k → k ≢ gone
    other q k n e same =
        let h : Some q ≡ Some name = sym (place_stands names q k e) ∙ ap (slice_get names) same ∙ at in
        let is : name ≡ q = cc in
        let g : true ≡ false = sym ((bytes_decides name q).1 is) ∙ n in cc

    stays : (q : List ℕ) (o : Option ℕ) → bytes_eq name q ≡ false → place_of q names ≡ o → option_and_then (slice_get numbers) o ≡ option_and_then (slice_get (remove numbers gone)) (option_map (moved_up gone) o)
    stays q None n e = refl
    stays q (Some k) n e = sym (slice_get_without numbers gone k (other q k n e))

    without : (q : List ℕ) → bytes_eq name q ≡ false → place_of q (remove names gone) ≡ option_map (moved_up gone) (place_of q names)
    without q e = position_without (bytes_eq q) names gone name at (nat_list_eq_equiv.symm q name ∙ e)

    as_before : (q : List ℕ) → bytes_eq name q ≡ false → number' q ≡ number q
    as_before q e = after q ∙ rw e refl

    own : (q : List ℕ) (m : ℕ) → number' q ≡ Some m → (b : Bool) → bytes_eq name q ≡ b → option_and_then (slice_get (remove numbers gone)) (place_of q (remove names gone)) ≡ Some m
    own q m is true e = let g : None ≡ Some m = sym (after q ∙ rw e refl) ∙ is in cc
    own q m is false e =
        ap (option_and_then (slice_get (remove numbers gone))) (without q e) ∙ sym (stays q (place_of q names) e refl)
        ∙ keyed.found.own q m (sym (as_before q e) ∙ is)

    told : (q : List ℕ) (k : ℕ) → place_of q (remove names gone) ≡ Some k → number' q ≡ None → (b : Bool) → bytes_eq name q ≡ b → hint' q ≡ Some k
    told q k here none true e =
        let same = bytes_same name q e in
        let alone = position_alone (bytes_eq q) names gone name at (λ k y at_k t. one_place names k gone y name keyed.differ at_k at (sym (bytes_same q y t) ∙ sym same)) in
        let g : None ≡ Some k = sym alone ∙ here in cc
    told q k here none false e = from (place_of q names) refl
      where
        from : (o : Option ℕ) → place_of q names ≡ o → hint' q ≡ Some k
        from None h = let g : None ≡ Some k = sym (without q e ∙ ap (option_map (moved_up gone)) h) ∙ here in cc
        from (Some j) h =
            let is : Some (moved_up gone j) ≡ Some k = sym (without q e ∙ ap (option_map (moved_up gone)) h) ∙ here in
            moved q j (keyed.found.told q j h (sym (as_before q e) ∙ none)) (other q j e h) (position_within (bytes_eq q) names j h) ∙ is

-- a name is noted by its number
pub numbered : (name : List ℕ) (n place : ℕ) (hint hint' : List ℕ → Option ℕ) (old new : BTreeMap (Vec ℕ Global) ℕ) (key : Vec ℕ Global) → key.items ≡ name
    → UpdatesBy (λ x y. slice_cmp nat_cmp x.items y.items) (λ v. slice_cmp nat_cmp key.items v.items) old new (Some n) → ((q : List ℕ) (k : ℕ) → hint q ≡ Some k → hint' q ≡ Some k)
    → HasNoted name n place hint (number_in old) hint' (number_in new)
numbered name n place hint hint' old new key is updates kept = record {
  kept = kept;
  others = λ q apart. after q ∙ rw apart refl;
  here = inr (after name ∙ rw ((bytes_decides name name).1 refl) refl);
}
  where
    after : (q : List ℕ) → number_in new q ≡ cond (bytes_eq name q) (Some n) (number_in old q)
    after q = rw (← is) (number_updated key.items old new (Some n) updates q)

-- ---- the table

pub no_names_differ : IsDistinct bytes_eq []
unfolding IsDistinct
no_names_differ = tt

pub as_many : (entries : List (ℕ × Vec ℕ Global)) → length (names_in entries) ≡ length (keys_of entries)
as_many [] = refl
as_many (e ∷ es) = ap suc (as_many es)

pub keys_many : (entries : List (ℕ × Vec ℕ Global)) → length (keys_of entries) ≡ length entries
keys_many [] = refl
keys_many (e ∷ es) = ap suc (keys_many es)

pub named_at : (entries : List (ℕ × Vec ℕ Global)) (k : ℕ) (v : Vec ℕ Global) → slice_get (values_of entries) k ≡ Some v → slice_get (names_in entries) k ≡ Some v.items
named_at [] k v at = cc
named_at (e ∷ es) zero v at = let same : e.1 ≡ v = cc in ap (λ (w : Vec ℕ Global). Some w.items) same
named_at (e ∷ es) (suc k) v at = named_at es k v at

-- a number that all others are below goes last
entry_push : (entries : List (ℕ × Vec ℕ Global)) (n : ℕ) (v : Vec ℕ Global) → All (λ k. k < n) (keys_of entries) → insert_entry nat_eq entries n v ≡ entries ++ (n, v) ∷ []
entry_push [] n v below = refl
entry_push (e ∷ es) n v below =
    let low : e.0 < n = below 0 n (omega arith) in
    let other : nat_eq n e.0 ≡ false = grind (arith, nat_tests) in
    rw (other, entry_push es n v (λ k d h. below (suc k) d (omega arith))) refl

pub names_push : (entries new : List (ℕ × Vec ℕ Global)) (next : ℕ) (name : List ℕ) (v : Vec ℕ Global) → All (λ n. n < next) (keys_of entries)
    → new ≡ insert_entry nat_eq entries next v → v.items ≡ name → names_in new ≡ names_in entries ++ name ∷ []
names_push entries new next name v below is owns =
    ap names_in (is ∙ entry_push entries next v below) ∙ map-append (λ (e : ℕ × Vec ℕ Global). e.1.items) entries ((next, v) ∷ []) ∙ rw owns refl

pub table_push : (entries new : List (ℕ × Vec ℕ Global)) (hint number hint' number' : List ℕ → Option ℕ) (next next' : ℕ) (name : List ℕ) (v : Vec ℕ Global) → IsKeyed (names_in entries) (keys_of entries) hint number next
    → new ≡ insert_entry nat_eq entries next v → v.items ≡ name → place_of name (names_in entries) ≡ None → HasNoted name next (length (names_in entries)) hint number hint' number' → next' ≡ next + 1
    → IsKeyed (names_in new) (keys_of new) hint' number' next'
table_push entries new hint number hint' number' next next' name v keyed is owns fresh noted one =
    let keys : keys_of new ≡ keys_of entries ++ next ∷ [] = ap keys_of (is ∙ entry_push entries next v keyed.below) ∙ keys_push entries (next, v) in
    rw (names_push entries new next name v keyed.below is owns, keys, one) (keyed_push (names_in entries) (keys_of entries) hint number hint' number' next name keyed (as_many entries) fresh noted)
  where
    keys_push : (es : List (ℕ × Vec ℕ Global)) (e : ℕ × Vec ℕ Global) → keys_of (es ++ e ∷ []) ≡ keys_of es ++ e.0 ∷ []
    keys_push [] e = refl
    keys_push (x ∷ es) e = ap (λ ks. x.0 ∷ ks) (keys_push es e)

pub names_remove : (entries new : List (ℕ × Vec ℕ Global)) (gone : ℕ) → new ≡ remove entries gone → names_in new ≡ remove (names_in entries) gone
names_remove entries new gone is = ap names_in is ∙ map-remove (λ (e : ℕ × Vec ℕ Global). e.1.items) entries gone

pub table_remove : (entries new : List (ℕ × Vec ℕ Global)) (hint number hint' number' : List ℕ → Option ℕ) (next gone : ℕ) (v : Vec ℕ Global) → IsKeyed (names_in entries) (keys_of entries) hint number next
    → new ≡ remove entries gone → slice_get (values_of entries) gone ≡ Some v → ((q : List ℕ) → number' q ≡ cond (bytes_eq v.items q) None (number q))
    → ((q : List ℕ) (k : ℕ) → hint q ≡ Some k → k ≢ gone → k < length (names_in entries) → hint' q ≡ Some (moved_up gone k)) → IsKeyed (names_in new) (keys_of new) hint' number' next
table_remove entries new hint number hint' number' next gone v keyed is at after moved =
    let keys : keys_of new ≡ remove (keys_of entries) gone = ap keys_of is ∙ keys_removed entries gone in
    rw (names_remove entries new gone is, keys) (keyed_remove (names_in entries) (keys_of entries) hint number hint' number' next gone v.items keyed (named_at entries gone v at) after moved)
  where
    keys_removed : (es : List (ℕ × Vec ℕ Global)) (k : ℕ) → keys_of (remove es k) ≡ remove (keys_of es) k
    keys_removed [] zero = refl
    keys_removed [] (suc k) = refl
    keys_removed (x ∷ es) zero = refl
    keys_removed (x ∷ es) (suc k) = ap (λ ks. x.0 ∷ ks) (keys_removed es k)

-- a name is none of those before it
pub not_before : (names : List (List ℕ)) (k : ℕ) (name : List ℕ) → IsDistinct bytes_eq names → slice_get names k ≡ Some name → place_of name (take k names) ≡ None
not_before names k name differ at = none_at (bytes_eq name) (take k names) (λ j y e. not_true (bytes_eq name y) (λ t. (let g = one_place names j k y name differ (taken names k j y e) at (sym (bytes_same name y t)) in absurd (omega (arith, g, slice_get_within (take k names) j y e, length-take_le names k)))))
  where
    taken : {A : Type 0} (xs : List A) (k j : ℕ) (y : A) → slice_get (take k xs) j ≡ Some y → slice_get xs j ≡ Some y
    taken [] zero j y e = e
    taken [] (suc k) j y e = e
    taken (x ∷ xs) zero j y e = cc
    taken (x ∷ xs) (suc k) zero y e = e
    taken (x ∷ xs) (suc k) (suc j) y e = taken xs k j y e

    length-take_le : (xs : List (List ℕ)) (k : ℕ) → length (take k xs) ≤ k
    length-take_le [] zero = omega arith
    length-take_le [] (suc k) = omega arith
    length-take_le (x ∷ xs) zero = omega arith
    length-take_le (x ∷ xs) (suc k) = let h = length-take_le xs k in omega arith

-- a list as far as its next element
pub take_next : {A : Type 0} (xs : List A) (k : ℕ) (x : A) → slice_get xs k ≡ Some x → take (k + 1) xs ≡ take k xs ++ x ∷ []
take_next [] k x at = cc
take_next (y ∷ ys) zero x at = let same : y ≡ x = cc in ap (λ z. z ∷ []) same
take_next (y ∷ ys) (suc k) x at =
    let one : suc k + 1 ≡ suc (k + 1) = omega arith in
    ap (λ n. take n (y ∷ ys)) one ∙ ap (λ zs. y ∷ zs) (take_next ys k x at)

length_take : {A : Type 0} (xs : List A) (k : ℕ) → k ≤ length xs → length (take k xs) ≡ k
length_take [] zero low = refl
length_take [] (suc k) low = absurd (omega arith)
length_take (x ∷ xs) zero low = refl
length_take (x ∷ xs) (suc k) low = ap suc (length_take xs k (omega arith))

-- the names up to a place are found, and that at the place is noted: those up to the next place are found
pub found_next : (names : List (List ℕ)) (numbers : List ℕ) (hint number hint' number' : List ℕ → Option ℕ) (n at : ℕ) (name : List ℕ) → IsFound (take at names) (take at numbers) hint number
    → IsDistinct bytes_eq names → length names ≡ length numbers → slice_get names at ≡ Some name → slice_get numbers at ≡ Some n → HasNoted name n at hint number hint' number'
    → IsFound (take (at + 1) names) (take (at + 1) numbers) hint' number'
found_next names numbers hint number hint' number' n at name found differ as_many here own noted =
    let low = slice_get_within names at name here in
    let long : length (take at names) ≡ at = length_take names at (omega arith) in
    let long' : length (take at numbers) ≡ at = length_take numbers at (omega arith) in
    rw (take_next names at name here, take_next numbers at n own)
    (found_push (take at names) (take at numbers) hint number hint' number' n name found (long ∙ sym long') (not_before names at name differ here)
    (rw long noted))

-- the number and name of an entry
pub entry_number : (entries : List (ℕ × Vec ℕ Global)) (k : ℕ) (e : ℕ × Vec ℕ Global) → slice_get entries k ≡ Some e → slice_get (keys_of entries) k ≡ Some e.0
entry_number [] k e at = cc
entry_number (x ∷ es) zero e at = let same : x ≡ e = cc in ap (λ (y : ℕ × Vec ℕ Global). Some y.0) same
entry_number (x ∷ es) (suc k) e at = entry_number es k e at

pub entry_name : (entries : List (ℕ × Vec ℕ Global)) (k : ℕ) (e : ℕ × Vec ℕ Global) → slice_get entries k ≡ Some e → slice_get (names_in entries) k ≡ Some e.1.items
entry_name [] k e at = cc
entry_name (x ∷ es) zero e at = let same : x ≡ e = cc in ap (λ (y : ℕ × Vec ℕ Global). Some y.1.items) same
entry_name (x ∷ es) (suc k) e at = entry_name es k e at
