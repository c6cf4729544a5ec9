-- Ticks, once a net that none of them is of is away.
use Rattle.std.proofs.Common.{◌≡◌, ℕ, suc, zero, ◌==◌, ◌||◌, ◌++◌, List, [], ◌∷◌, length, map, take, drop, Bool, true, false, Option, Some, None, option_map, refl, sym, ap, ◌∙◌, arith, slice_get}
use Rattle.std.specs.List.{list_any}
use Rattle.std.proofs.lemmas.Bool.Decides.{nat_tests}
use Rattle.std.proofs.lemmas.List.{append-nil, drop_all, length-map, map-append, take_all}
use Rattle.std.proofs.lemmas.List.Folds.{list_any-append}
use Rattle.std.proofs.lemmas.Option.{slice_get-map}
use Rattle.netlist_model.specs.Blocks.{is_at, IsIndexed, TellsCounts}
use Rattle.netlist_model.specs.Circuit.{is_between, tick_of}
use Rattle.netlist_model.specs.Deletions.{event_after, is_event_of, is_ticked, tick_after}
use Rattle.netlist_model.specs.Keyed.{event_before}
use Rattle.netlist_model.specs.declared.parts.Tick.{Tick}
use Rattle.netlist_model.proofs.BlockLemmas.{flat}

-- an event is another's once a net is away where it was before
event_moved : (gone e s : ℕ) → is_event_of gone e ≡ false → (s == event_after gone e) ≡ (event_before gone s == e)
event_moved gone e s other = grind (arith, nat_tests)

no_either : (a b : Bool) → (a || b) ≡ false → (a ≡ false) × (b ≡ false)
no_either true b h = cc
no_either false true h = cc
no_either false false h = (refl, refl)

between_moved : (gone s t : ℕ) (x : Tick) → is_ticked gone x ≡ false → is_between s t (tick_after gone x) ≡ is_between (event_before gone s) (event_before gone t) x
between_moved gone s t x free =
    let (a, b) = no_either (is_event_of gone x.source) (is_event_of gone x.target) free in
    rw (event_moved gone x.source s a, event_moved gone x.target t b) refl

any_moved : (gone s t : ℕ) (xs : List Tick) → list_any (is_ticked gone) xs ≡ false → list_any (is_between s t) (map (tick_after gone) xs) ≡ list_any (is_between (event_before gone s) (event_before gone t)) xs
any_moved gone s t [] free = refl
any_moved gone s t (x ∷ xs) free =
    let (a, b) = no_either (is_ticked gone x) (list_any (is_ticked gone) xs) free in
    rw (between_moved gone s t x a, any_moved gone s t xs b) refl

count_moved : (gone s t : ℕ) (xs : List Tick) → list_any (is_ticked gone) xs ≡ false
    → option_map (λ (x : Tick). x.count) (tick_of (map (tick_after gone) xs) s t) ≡ option_map (λ (x : Tick). x.count) (tick_of xs (event_before gone s) (event_before gone t))
count_moved gone s t [] free = refl
count_moved gone s t (x ∷ xs) free =
    let (a, b) = no_either (is_ticked gone x) (list_any (is_ticked gone) xs) free in
    by (is_between (event_before gone s) (event_before gone t) x) refl (between_moved gone s t x a) (count_moved gone s t xs b)
  where
    by : (c : Bool) → is_between (event_before gone s) (event_before gone t) x ≡ c → is_between s t (tick_after gone x) ≡ is_between (event_before gone s) (event_before gone t) x
        → option_map (λ (y : Tick). y.count) (tick_of (map (tick_after gone) xs) s t) ≡ option_map (λ (y : Tick). y.count) (tick_of xs (event_before gone s) (event_before gone t))
        → option_map (λ (y : Tick). y.count) (tick_of (map (tick_after gone) (x ∷ xs)) s t) ≡ option_map (λ (y : Tick). y.count) (tick_of (x ∷ xs) (event_before gone s) (event_before gone t))
    by true e same rest = rw (same, e) refl
    by false e same rest = rw (same, e) rest

pub flat_mapped : (f : Tick → Tick) (blocks : List (List Tick)) → flat (map (map f) blocks) ≡ map f (flat blocks)
flat_mapped f [] = refl
flat_mapped f (b ∷ bs) = ap (λ xs. map f b ++ xs) (flat_mapped f bs) ∙ sym (map-append f b (flat bs))

none_in : (p : Tick → Bool) (blocks : List (List Tick)) (j : ℕ) (b : List Tick) → list_any p (flat blocks) ≡ false → slice_get blocks j ≡ Some b → list_any p b ≡ false
none_in p [] j b none at = cc
none_in p (x ∷ xs) zero b none at =
    let same : x ≡ b = cc in
    ap (list_any p) (sym same) ∙ (no_either (list_any p x) (list_any p (flat xs)) (sym (list_any-append p x (flat xs)) ∙ none)).0
none_in p (x ∷ xs) (suc j) b none at = none_in p xs j b (no_either (list_any p x) (list_any p (flat xs)) (sym (list_any-append p x (flat xs)) ∙ none)).1 at

pub index_left : (blocks : List (List Tick)) (place place' : ℕ → ℕ → Option ℕ) (gone : ℕ) → IsIndexed blocks place → list_any (is_ticked gone) (flat blocks) ≡ false
    → ((s t : ℕ) → place' s t ≡ place (event_before gone s) (event_before gone t)) → IsIndexed (map (map (tick_after gone)) blocks) place'
index_left blocks place place' gone index free after = record {
  found = λ j s t b at. by j s t b (slice_get blocks j) refl (sym (slice_get-map (map (tick_after gone)) blocks j) ∙ at);
  within = λ k s t e. (let l = index.within k (event_before gone s) (event_before gone t) (sym (after s t) ∙ e) in omega (arith, l, length-map blocks (map (tick_after gone))));
}
  where
    by : (j s t : ℕ) (b : List Tick) (o : Option (List Tick)) → slice_get blocks j ≡ o → option_map (map (tick_after gone)) (slice_get blocks j) ≡ Some b → list_any (is_between s t) b ≡ is_at j (place' s t)
    by j s t b None e f = let g : None ≡ Some b = sym (ap (option_map (map (tick_after gone))) e) ∙ f in cc
    by j s t b (Some x) e f =
        let g : Some (map (tick_after gone) x) ≡ Some b = sym (ap (option_map (map (tick_after gone))) e) ∙ f in
        let same : map (tick_after gone) x ≡ b = cc in
        ap (list_any (is_between s t)) (sym same) ∙ any_moved gone s t x (none_in (is_ticked gone) blocks j x free e)
        ∙ index.found j (event_before gone s) (event_before gone t) x e ∙ ap (is_at j) (sym (after s t))

pub counts_left : (ticks : List Tick) (old new : ℕ → ℕ → Option ℕ) (gone : ℕ) → TellsCounts ticks old → list_any (is_ticked gone) ticks ≡ false
    → ((s t : ℕ) → new s t ≡ old (event_before gone s) (event_before gone t)) → TellsCounts (map (tick_after gone) ticks) new
counts_left ticks old new gone told free after = record { told = λ s t. after s t ∙ told.told (event_before gone s) (event_before gone t) ∙ sym (count_moved gone s t ticks free) }

-- what a slice of the whole list leaves
pub whole : {A : Type 0} (new old : List A) (len : ℕ) → length new ≡ length old → len ≡ length old → take len (new ++ drop (length new) old) ≡ new
whole new old len same count = ap (λ xs. take len (new ++ xs)) (drop_all (length new) old (omega arith)) ∙ ap (take len) (append-nil new) ∙ take_all len new (omega arith)
