-- Whatever bytes the definition accepts write a library, and no refusal is want of memory.
use Rattle.std.proofs.Common.{◌≡◌, ◌≢◌, ℕ, ◌+◌, ◌≤◌, ◌++◌, ◌∷◌, [], List, length, codes, nat_lt, Option, Some, None, option_map, Result, Ok, Err, position, refl, sym, ap, subst, ◌∙◌, arith}
use Rattle.std.specs.Prelude.{IfErr}
use Rattle.std.specs.List.{list_any}
use Rattle.std.specs.Str.{bytes_eq}
use Rattle.std.proofs.lemmas.Bool.Decides.{nat_tests}
use Rattle.std.proofs.lemmas.List.{length-map}
use Rattle.cyc_text.specs.Name.{is_name}
use Rattle.cyc_text.specs.declared.limits.Limit.TheVariants.{Cells, Inputs}
use Rattle.toml.specs.Data.{Data, Members, no_members, member, as_table, get_member}
use Rattle.cell_arcs.specs.declared.cells.Cell.{Cell}
use Rattle.cell_arcs.specs.declared.faults.LibraryFault.{LibraryFault}
use Rattle.cell_arcs.specs.declared.faults.LibraryFault.TheVariants.{BadToml, BadShape, BadName, RepeatedPin, UnknownPin, RepeatedArc, BadSense, BadDelay, TooMany, Memory}
use Rattle.cell_arcs.specs.Steps.{or_fault, or_else, unless_fault}
use Rattle.cell_arcs.specs.Shape.{ArcShape, CellShape}
use Rattle.cell_arcs.specs.IsLibrary.{IsLibrary, HasAscendingKeys}
use Rattle.cell_arcs.specs.Library.{sense_of, delay_of, arc_of, arcs_after, bad_name, repeated_pin, pin_fault, cell_from, cell_shape, cell_of, cells_from, member_count, cells_at, document_of, library_of}
use Rattle.cell_arcs.proofs.AscendingKeys.{cells_ascend}
use Rattle.cell_arcs.proofs.Documents.{library_from, length-member_keys, no_cells}
use Rattle.cell_arcs.proofs.Sound.{cells_sound}
use Rattle.cell_arcs.proofs.StepLemmas.{bind_ok, or_fault_ok, if_ok, bind_refused, or_fault_refused, if_refused, else_refused}

cells_at_sound : (found : Option Data) (cells : List Cell) → HasAscendingKeys found → cells_at found ≡ Ok cells → IsLibrary cells
unfolding cells_at
cells_at_sound None cells ascend h = let none : [] ≡ cells = cc in subst IsLibrary none no_cells
cells_at_sound (Some d) cells ascend h =
    let (ms, is, h1) = bind_ok (or_fault (BadShape 0) (as_table d)) _ cells h in
    let (few, h2) = if_ok (nat_lt 1024 (member_count ms)) (TooMany Cells 0) (cells_from 1 ms) cells h1 in
    let (each, names) = cells_sound 1 ms cells h2 in
    let small : member_count ms ≤ 1024 = grind (arith, nat_tests) in
    library_from ms cells small (record {
      count = sym (length-map cells (λ (c : Cell). c.name)) ∙ ap length names ∙ length-member_keys ms;
      ascend = rw names (ascend ms (or_fault_ok (BadShape 0) (as_table d) ms is));
      each = each;
    })

pub library_sound : (bytes : List ℕ) (library : List Cell) → library_of bytes ≡ Ok library → IsLibrary library
unfolding library_of
library_sound bytes library h =
    let (top, is, h1) = bind_ok (or_fault BadToml (document_of bytes)) _ library h in
    cells_at_sound (get_member (codes "cell") top) library (cells_ascend bytes top (or_fault_ok BadToml (document_of bytes) top is)) h1

-- ---- a refusal is never want of memory

abbrev IsNoWant : LibraryFault → Type 0
IsNoWant e = e ≢ Memory

abbrev NoWant : {A : Type 0} → Result A LibraryFault → Type 0
NoWant r = IfErr r IsNoWant

arc_no_want : (n : ℕ) (inputs : List (List ℕ)) (earlier : List ArcShape) (a : ArcShape) → NoWant (arc_of n inputs earlier a)
unfolding arc_of
arc_no_want n inputs earlier a =
    let k = length earlier + 1 in
    bind_refused IsNoWant _ _ (or_fault_refused IsNoWant (UnknownPin n k) (position (bytes_eq a.from) inputs) (λ h. cc)) (λ place.
    if_refused IsNoWant (list_any (λ b. bytes_eq a.from b.from) earlier) (RepeatedArc n k) _ (λ h. cc) (
    bind_refused IsNoWant _ _ (or_fault_refused IsNoWant (BadSense n k) (sense_of a.sense) (λ h. cc)) (λ sense.
    bind_refused IsNoWant _ _ (or_fault_refused IsNoWant (BadDelay n k) (delay_of a.rise) (λ h. cc)) (λ rise.
    bind_refused IsNoWant _ _ (or_fault_refused IsNoWant (BadDelay n k) (delay_of a.fall) (λ h. cc)) (λ fall. tt)))))

arcs_no_want : (n : ℕ) (inputs : List (List ℕ)) (earlier rest : List ArcShape) → NoWant (arcs_after n inputs earlier rest)
unfolding arcs_after
arcs_no_want n inputs earlier [] = tt
arcs_no_want n inputs earlier (a ∷ rest) =
    bind_refused IsNoWant _ _ (arc_no_want n inputs earlier a) (λ x.
    bind_refused IsNoWant _ _ (arcs_no_want n inputs (earlier ++ a ∷ []) rest) (λ xs. tt))

pins_no_want : {A : Type 0} (n : ℕ) (pins : List (List ℕ)) (r : Result A LibraryFault) → NoWant r → NoWant (unless_fault (pin_fault n pins) r)
unfolding pin_fault
pins_no_want n pins r h = by (bad_name pins) (repeated_pin pins)
  where
    by : (a b : Option ℕ) → NoWant (unless_fault (or_else (option_map (BadName n) a) (option_map (RepeatedPin n) b)) r)
    by None None = h
    by None (Some q) = λ e. cc
    by (Some p) b = λ e. cc

cell_from_no_want : (n : ℕ) (name : List ℕ) (s : CellShape) → NoWant (cell_from n name s)
unfolding cell_from
cell_from_no_want n name s =
    if_refused IsNoWant (nat_lt 16 (length s.inputs)) (TooMany Inputs n) _ (λ h. cc)
    (pins_no_want n (s.inputs ++ s.output ∷ []) _ (bind_refused IsNoWant _ _ (arcs_no_want n s.inputs [] s.arcs) (λ arcs. tt)))

cell_no_want : (n : ℕ) (name : List ℕ) (d : Data) → NoWant (cell_of n name d)
unfolding cell_of
cell_no_want n name d =
    else_refused IsNoWant (is_name name) (BadName n 0) _ (λ h. cc)
    (bind_refused IsNoWant _ _ (or_fault_refused IsNoWant (BadShape n) (cell_shape d) (λ h. cc)) (cell_from_no_want n name))

cells_no_want : (n : ℕ) (ms : Members) → NoWant (cells_from n ms)
unfolding cells_from
cells_no_want n no_members = tt
cells_no_want n (member k d ms) =
    bind_refused IsNoWant _ _ (cell_no_want n k d) (λ c. bind_refused IsNoWant _ _ (cells_no_want (n + 1) ms) (λ cs. tt))

cells_at_no_want : (found : Option Data) → NoWant (cells_at found)
unfolding cells_at
cells_at_no_want None = tt
cells_at_no_want (Some d) =
    bind_refused IsNoWant _ _ (or_fault_refused IsNoWant (BadShape 0) (as_table d) (λ h. cc))
    (λ ms. if_refused IsNoWant (nat_lt 1024 (member_count ms)) (TooMany Cells 0) (cells_from 1 ms) (λ h. cc) (cells_no_want 1 ms))

library_no_want : (bytes : List ℕ) → NoWant (library_of bytes)
unfolding library_of
library_no_want bytes =
    bind_refused IsNoWant _ _ (or_fault_refused IsNoWant BadToml (document_of bytes) (λ h. cc)) (λ top. cells_at_no_want (get_member (codes "cell") top))

pub never_memory : (bytes : List ℕ) → library_of bytes ≢ Err Memory
never_memory bytes h = subst NoWant h (library_no_want bytes) refl
