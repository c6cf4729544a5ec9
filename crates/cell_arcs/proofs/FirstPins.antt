-- The first pin that is no name, the first name that stands before, and the first repeated source.
use Rattle.std.proofs.Common.{◌≡◌, ℕ, ◌+◌, List, [], ◌∷◌, ◌++◌, length, Bool, true, false, not, if◌then◌else◌, Option, Some, None, Result, Ok, Err, position, All, refl, sym, ap, subst, ◌∙◌, append_assoc}
use Rattle.std.specs.Prelude.{MatchOption, MatchResult}
use Rattle.std.specs.List.{IsDistinct, list_any, position_from}
use Rattle.std.specs.Str.{bytes_eq}
use Rattle.std.specs.Cmp.Lexicographic.{nat_list_eq_equiv}
use Rattle.std.proofs.lemmas.List.{append-nil, length_push, length-map, map-append}
use Rattle.std.proofs.lemmas.List.Elements.{All-nil, All-push}
use Rattle.std.proofs.lemmas.Map.Keys.{IsDistinct-push}
use Rattle.std.proofs.lemmas.Map.Views.{Contains-from_any}
use Rattle.cyc_text.specs.Name.{is_name}
use Rattle.cell_arcs.specs.declared.cells.Sense.{Sense}
use Rattle.cell_arcs.specs.declared.cells.CellArc.{CellArc}
use Rattle.cell_arcs.specs.declared.faults.LibraryFault.{LibraryFault}
use Rattle.cell_arcs.specs.declared.faults.LibraryFault.TheVariants.{UnknownPin, RepeatedArc, BadSense, BadDelay}
use Rattle.cell_arcs.specs.Shape.{ArcShape}
use Rattle.cell_arcs.specs.Steps.{◌>>=◌, or_fault}
use Rattle.cell_arcs.specs.Library.{repeat_after, sense_of, delay_of, arc_of, arcs_after}
use Rattle.cell_arcs.specs.Firsts.{IsFirstBadName, IsFirstRepeat, sources, FindsFirstBadName, FindsFirstRepeat, FindsFirstRepeatedSource}
use Rattle.cell_arcs.proofs.Names.{same_bytes, list_any-map}

abbrev pub AreNames : List (List ℕ) → Type 0
AreNames pins = All (λ p. is_name p ≡ true) pins

abbrev FindsBad : List (List ℕ) → Option ℕ → Type 0
FindsBad pins o = MatchOption o (AreNames pins) (IsFirstBadName pins)

abbrev FindsRepeat : List (List ℕ) → Option ℕ → Type 0
FindsRepeat names o = MatchOption o (IsDistinct bytes_eq names) (IsFirstRepeat names)

abbrev FindsSource : ℕ → List (List ℕ) → Result (List CellArc) LibraryFault → Type 0
FindsSource n names r =
    MatchResult r (λ _. IsDistinct bytes_eq names) (λ e. (cell k : ℕ) → e ≡ RepeatedArc cell k → (cell ≡ n) × IsFirstRepeat names k)

-- behind names, the first that is none
bad_behind : (before rest : List (List ℕ)) → AreNames before → FindsBad (before ++ rest) (position_from (λ p. not (is_name p)) (length before + 1) rest)
bad_behind before [] h = subst AreNames (sym (append-nil before)) h
bad_behind before (p ∷ rest) h = by (bad_behind (before ++ p ∷ []) rest) (is_name p) refl
  where
    by : (AreNames (before ++ p ∷ []) → FindsBad ((before ++ p ∷ []) ++ rest) (position_from (λ q. not (is_name q)) (length (before ++ p ∷ []) + 1) rest)) →
        (b : Bool) → is_name p ≡ b → FindsBad (before ++ p ∷ rest) (if not b then Some (length before + 1) else position_from (λ q. not (is_name q)) (length before + 1 + 1) rest)
    by more false e = record { before = before; pin = p; after = rest; parts = refl; counted = refl; names = h; no_name = e }
    by more true e =
        subst (λ pins. FindsBad pins (position_from (λ q. not (is_name q)) (length before + 1 + 1) rest)) (append_assoc before (p ∷ []) rest)
        (subst (λ n. FindsBad ((before ++ p ∷ []) ++ rest) (position_from (λ q. not (is_name q)) (n + 1) rest)) (length_push before p)
        (more (All-push (λ q. is_name q ≡ true) before p h e)))

pub finds_first_bad_name : (pins : List (List ℕ)) → FindsFirstBadName pins
finds_first_bad_name pins = bad_behind [] pins (All-nil (λ p. is_name p ≡ true))

-- behind different names, the first that is among those before it
repeat_behind : (before rest : List (List ℕ)) → IsDistinct bytes_eq before → FindsRepeat (before ++ rest) (repeat_after before rest)
unfolding repeat_after
repeat_behind before [] h = subst (IsDistinct bytes_eq) (sym (append-nil before)) h
repeat_behind before (p ∷ rest) h = by (repeat_behind (before ++ p ∷ []) rest) (list_any (bytes_eq p) before) refl
  where
    by : (IsDistinct bytes_eq (before ++ p ∷ []) → FindsRepeat ((before ++ p ∷ []) ++ rest) (repeat_after (before ++ p ∷ []) rest)) →
        (b : Bool) → list_any (bytes_eq p) before ≡ b → FindsRepeat (before ++ p ∷ rest) (if b then Some (length before + 1) else repeat_after (before ++ p ∷ []) rest)
    by more true e = record { before = before; name = p; after = rest; parts = refl; counted = refl; differ = h; repeated = Contains-from_any same_bytes p before e }
    by more false e =
        subst (λ names. FindsRepeat names (repeat_after (before ++ p ∷ []) rest)) (append_assoc before (p ∷ []) rest)
        (more (IsDistinct-push nat_list_eq_equiv before p h e))

pub none_repeated : IsDistinct bytes_eq []
unfolding IsDistinct
none_repeated = tt

pub finds_first_repeat : (pins : List (List ℕ)) → FindsFirstRepeat pins
finds_first_repeat pins = repeat_behind [] pins none_repeated

abbrev arc_with : ℕ → Sense → ℕ → ℕ → CellArc
arc_with place sense rise fall = record { from = place; sense = sense; rise = rise; fall = fall }

-- whether an earlier arc has the source, where the arc is accepted and where it is a repeated one
arc_tells : (n : ℕ) (inputs : List (List ℕ)) (earlier : List ArcShape) (a : ArcShape) →
    MatchResult (arc_of n inputs earlier a)
    (λ _. list_any (λ b. bytes_eq a.from b.from) earlier ≡ false)
    (λ e. (cell k : ℕ) → e ≡ RepeatedArc cell k → (cell ≡ n) × (k ≡ length earlier + 1) × (list_any (λ b. bytes_eq a.from b.from) earlier ≡ true))
unfolding arc_of
arc_tells n inputs earlier a = by (position (bytes_eq a.from) inputs) (list_any (λ b. bytes_eq a.from b.from) earlier) refl (sense_of a.sense) (delay_of a.rise) (delay_of a.fall)
  where
    by : (o : Option ℕ) (b : Bool) → list_any (λ c. bytes_eq a.from c.from) earlier ≡ b → (s : Option Sense) (r f : Option ℕ) →
        MatchResult (or_fault (UnknownPin n (length earlier + 1)) o >>= (λ place.
        if b then Err (RepeatedArc n (length earlier + 1)) else
        or_fault (BadSense n (length earlier + 1)) s >>= (λ sense.
        or_fault (BadDelay n (length earlier + 1)) r >>= (λ rise.
        or_fault (BadDelay n (length earlier + 1)) f >>= (λ fall.
        Ok (arc_with place sense rise fall))))))
        (λ _. list_any (λ c. bytes_eq a.from c.from) earlier ≡ false)
        (λ e. (cell k : ℕ) → e ≡ RepeatedArc cell k → (cell ≡ n) × (k ≡ length earlier + 1) × (list_any (λ c. bytes_eq a.from c.from) earlier ≡ true))
    by None b e s r f = λ cell k h. cc
    by (Some p) true e s r f = λ cell k h. (cc, cc, e)
    by (Some p) false e None r f = λ cell k h. cc
    by (Some p) false e (Some s) None f = λ cell k h. cc
    by (Some p) false e (Some s) (Some r) None = λ cell k h. cc
    by (Some p) false e (Some s) (Some r) (Some f) = e

sources_behind : (n : ℕ) (inputs : List (List ℕ)) (earlier rest : List ArcShape) → IsDistinct bytes_eq (sources earlier) → FindsSource n (sources (earlier ++ rest)) (arcs_after n inputs earlier rest)
unfolding arcs_after
sources_behind n inputs earlier [] h = subst (λ arcs. IsDistinct bytes_eq (sources arcs)) (sym (append-nil earlier)) h
sources_behind n inputs earlier (a ∷ rest) h =
    by (arc_of n inputs earlier a) (arc_tells n inputs earlier a) (arcs_after n inputs (earlier ++ a ∷ []) rest)
    (λ fresh. subst (λ arcs. FindsSource n (sources arcs) (arcs_after n inputs (earlier ++ a ∷ []) rest)) (append_assoc earlier (a ∷ []) rest)
    (sources_behind n inputs (earlier ++ a ∷ []) rest (more fresh)))
  where
    by_source : (b : Bool) → list_any (λ c. bytes_eq a.from c.from) earlier ≡ b → list_any (bytes_eq a.from) (sources earlier) ≡ b
    by_source b e = list_any-map (λ (c : ArcShape). c.from) (bytes_eq a.from) earlier ∙ e

    more : list_any (λ c. bytes_eq a.from c.from) earlier ≡ false → IsDistinct bytes_eq (sources (earlier ++ a ∷ []))
    more fresh = subst (IsDistinct bytes_eq) (sym (map-append (λ (c : ArcShape). c.from) earlier (a ∷ []))) (IsDistinct-push nat_list_eq_equiv (sources earlier) a.from h (by_source false fresh))

    by : (r : Result CellArc LibraryFault) →
        MatchResult r
        (λ _. list_any (λ c. bytes_eq a.from c.from) earlier ≡ false)
        (λ e. (cell k : ℕ) → e ≡ RepeatedArc cell k → (cell ≡ n) × (k ≡ length earlier + 1) × (list_any (λ c. bytes_eq a.from c.from) earlier ≡ true)) →
        (others : Result (List CellArc) LibraryFault) →
        (list_any (λ c. bytes_eq a.from c.from) earlier ≡ false → FindsSource n (sources (earlier ++ a ∷ rest)) others) →
        FindsSource n (sources (earlier ++ a ∷ rest)) (r >>= (λ x. others >>= (λ xs. Ok (x ∷ xs))))
    by (Ok x) fresh (Ok xs) found = found fresh
    by (Ok x) fresh (Err e) found = found fresh
    by (Err e) told others found = λ cell k is.
        let (same, at, again) = told cell k is in (
          same,
          record {
            before = sources earlier;
            name = a.from;
            after = sources rest;
            parts = map-append (λ (c : ArcShape). c.from) earlier (a ∷ rest);
            counted = at ∙ ap (λ l. l + 1) (sym (length-map earlier (λ (c : ArcShape). c.from)));
            differ = h;
            repeated = Contains-from_any same_bytes a.from (sources earlier) (by_source true again);
          },
        )

pub finds_first_repeated_source : (n : ℕ) (inputs : List (List ℕ)) (arcs : List ArcShape) → FindsFirstRepeatedSource n inputs arcs
finds_first_repeated_source n inputs arcs = sources_behind n inputs [] arcs none_repeated
