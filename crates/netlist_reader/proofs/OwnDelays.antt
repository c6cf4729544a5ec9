-- The delays that instances have of their own are read back.
use Rattle.std.proofs.Common.{◌≡◌, ℕ, ◌≤◌, List, [], ◌∷◌, ◌++◌, length, map, Bool, true, false, nat_eq, Option, Some, None, position, Ok, refl, sym, ap, subst, ◌∙◌, arith, All, slice_get, append_assoc}
use Rattle.std.specs.Cmp.{nat_eq_equiv}
use Rattle.std.specs.List.{IsDistinct, list_any, flat_map}
use Rattle.std.specs.Str.{bytes_eq}
use Rattle.std.proofs.lemmas.Bool.{le-ltb}
use Rattle.std.proofs.lemmas.List.{length_push, length-append, map-append, set_at, get_or_append_left}
use Rattle.std.specs.Prelude.{◌==◌}
use Rattle.cyc_text.specs.Name.{is_name}
use Rattle.cell_arcs.specs.IsLibrary.{IsLibrary, IsCell, IsArc}
use Rattle.cell_arcs.specs.declared.cells.Cell.{Cell}
use Rattle.cell_arcs.specs.declared.cells.CellArc.{CellArc}
use Rattle.netlist_model.specs.EventNames.{name_at}
use Rattle.netlist_model.specs.Circuit.{Circuit, inst_of}
use Rattle.netlist_model.specs.Sound.{AreNames, IsOwnDelay, IsInstance, IsNetlist, IsOfLibrary, Fits}
use Rattle.netlist_model.specs.Statements.{set_delay, arc_of, cell_at, with_delay}
use Rattle.netlist_model.specs.declared.edits.Edit.TheVariants.{Delay}
use Rattle.netlist_model.specs.declared.parts.Delay.{Delay as OwnDelay}
use Rattle.netlist_model.specs.declared.parts.Instance.{Instance}
use Rattle.netlist_reader.specs.Canonical.{delay_line, delay_lines, delay_lines_of}
use Rattle.netlist_reader.specs.NetlistFiles.{stated}
use Rattle.netlist_reader.proofs.Bytes.{EachSolid, name_solid, number_solid}
use Rattle.netlist_reader.proofs.Instances.{bare, all_get}
use Rattle.netlist_reader.proofs.Leads.{Leads, leads_append}
use Rattle.netlist_reader.proofs.Lists.{position_at, apart_before, get_middle, place_is, one_more, list_any-map, same_bytes}
use Rattle.netlist_reader.proofs.Said.{delay_said}
use Rattle.netlist_reader.proofs.Sections.{parts_of, all_at, new_named, name_stands, name_named}
use Rattle.netlist_reader.proofs.Texts.{input_is}

-- an instance with these delays of its own
abbrev pub with_own : Instance → List (Option OwnDelay) → Instance
with_own i owns = record i { delays = owns }

-- the arc of a pin is found
arc_found : (k : Cell) (done : List CellArc) (a : CellArc) (more : List CellArc) → IsCell k → done ++ a ∷ more ≡ k.arcs → arc_of k (name_at k.inputs a.from) ≡ Ok (length done)
unfolding arc_of
arc_found k done a more cell e =
    let arc = all_at (IsArc k.inputs) done a more k.arcs e cell.arcs.each in
    let place = place_is (k.inputs ++ k.output ∷ []) a.from (name_at k.inputs a.from) cell.distinct (input_is k.inputs k.output (name_at k.inputs a.from) a.from (name_stands k.inputs a.from arc.within)) in
    let froms : IsDistinct nat_eq (map (λ x. x.from) done ++ a.from ∷ map (λ x. x.from) more) =
    subst (IsDistinct nat_eq) (ap (map (λ (x : CellArc). x.from)) (sym e) ∙ map-append (λ (x : CellArc). x.from) done (a ∷ more)) cell.arcs.distinct in
    let apart : list_any (λ (x : CellArc). nat_eq a.from x.from) done ≡ false =
    sym (list_any-map (λ (x : CellArc). x.from) (nat_eq a.from) done) ∙ apart_before nat_eq nat_eq_equiv.symm (map (λ x. x.from) done) a.from (map (λ x. x.from) more) froms in
    let flip : (λ (x : CellArc). nat_eq x.from a.from) ≡ (λ (x : CellArc). nat_eq a.from x.from) = λ j x. nat_eq_equiv.symm x.from a.from j in
    let first : position (λ (x : CellArc). x.from == a.from) k.arcs ≡ Some (length done) =
    ap (position (λ (x : CellArc). nat_eq x.from a.from)) (sym e)
    ∙ position_at (λ (x : CellArc). nat_eq x.from a.from) done a more (ap (λ (p : CellArc → Bool). list_any p done) flip ∙ apart) (nat_eq_equiv.refl a.from) in
    rw (place, first) refl

-- the instances after the statement
own_set : (front : List Instance) (i : Instance) (back : List Instance) (arc : ℕ) (done : List (Option OwnDelay)) (d : OwnDelay) (rest : List (Option OwnDelay)) → arc ≡ length done
    → with_delay (front ++ with_own i (done ++ None ∷ rest) ∷ back) (length front) arc d.rise d.fall ≡ front ++ with_own i (done ++ Some d ∷ rest) ∷ back
own_set front i back arc done d rest same =
    rw (get_middle front (with_own i (done ++ None ∷ rest)) back, set_at done None rest (Some d) arc (sym same))
    (set_at front (with_own i (done ++ None ∷ rest)) back (with_own i (done ++ Some d ∷ rest)) (length front) refl)

delay_added : (library : List Cell) (nets consts : List (List ℕ)) (front : List Instance) (i : Instance) (back : List Instance) (k : Cell) (past : List CellArc) (a : CellArc) (more : List CellArc)
    (done : List (Option OwnDelay)) (d : OwnDelay) (rest : List (Option OwnDelay)) → slice_get library i.cell ≡ Some k → IsCell k → list_any (λ j. bytes_eq i.name j.name) front ≡ false
    → past ++ a ∷ more ≡ k.arcs → length past ≡ length done → d.rise ≤ 1000000 → d.fall ≤ 1000000
    → stated library (parts_of nets consts (front ++ with_own i (done ++ None ∷ rest) ∷ back) [] [] None) (Delay (record { inst = i.name; pin = name_at k.inputs a.from; rise = d.rise; fall = d.fall }))
    ≡ Ok (parts_of nets consts (front ++ with_own i (done ++ Some d ∷ rest) ∷ back) [] [] None)
unfolding set_delay
delay_added library nets consts front i back k past a more done d rest at cell fresh e same low high =
    let now = with_own i (done ++ None ∷ rest) in
    let found : inst_of (front ++ now ∷ back) i.name ≡ Some (length front) = position_at (λ (j : Instance). bytes_eq i.name j.name) front now back fresh (same_bytes i.name) in
    let kind : cell_at library (front ++ now ∷ back) (length front) ≡ Some k = rw (get_middle front now back) at in
    rw (found, kind, arc_found k past a more cell e, le-ltb 1000000 d.rise low, le-ltb 1000000 d.fall high, own_set front i back (length past) done d rest same) refl

delay_solid : (i : Instance) (k : Cell) (a : CellArc) (d : OwnDelay) → is_name i.name ≡ true → IsCell k → IsArc k.inputs a → d.rise ≤ 1000000 → d.fall ≤ 1000000 → EachSolid (delay_line i.name (name_at k.inputs a.from) d)
unfolding delay_line
delay_solid i k a d named cell arc low high =
    let within = arc.within in (
      record { some = omega arith; high = (omega arith, (omega arith, (omega arith, (omega arith, (omega arith, tt))))) },
      (
        name_solid i.name named,
        (name_solid (name_at k.inputs a.from) (name_named k.inputs a.from (inputs_named k.inputs k.output cell.names) within), (number_solid d.rise low, (number_solid d.fall high, tt))),
      ),
    )
  where
    inputs_named : (inputs : List (List ℕ)) (output : List ℕ) → AreNames (inputs ++ output ∷ []) → AreNames inputs
    inputs_named inputs output all = λ j e below. subst (λ (n : List ℕ). is_name n ≡ true) (get_or_append_left inputs (output ∷ []) e j below) (all j e (omega (arith, length-append inputs (output ∷ []))))

-- the lines of one instance
arcs_lead : (library : List Cell) (nets consts : List (List ℕ)) (front : List Instance) (i : Instance) (back : List Instance) (k : Cell) (past more : List CellArc) (done rest : List (Option OwnDelay))
    → slice_get library i.cell ≡ Some k → IsCell k → is_name i.name ≡ true → All IsOwnDelay i.delays → list_any (λ j. bytes_eq i.name j.name) front ≡ false
    → past ++ more ≡ k.arcs → done ++ rest ≡ i.delays → length past ≡ length done → length more ≡ length rest
    → Leads library (delay_lines_of i.name k.inputs more rest) (parts_of nets consts (front ++ with_own i (done ++ map (λ _. None) rest) ∷ back) [] [] None) (parts_of nets consts (front ++ i ∷ back) [] [] None)
unfolding delay_lines_of
arcs_lead library nets consts front i back k past [] done [] at cell named owns fresh e f same left =
    ap (λ (ds : List (Option OwnDelay)). parts_of nets consts (front ++ with_own i ds ∷ back) [] [] None) f
arcs_lead library nets consts front i back k past [] done (o ∷ rest) at cell named owns fresh e f same left = absurd (omega arith)
arcs_lead library nets consts front i back k past (a ∷ more) done [] at cell named owns fresh e f same left = absurd (omega arith)
arcs_lead library nets consts front i back k past (a ∷ more) done (None ∷ rest) at cell named owns fresh e f same left =
    subst (λ (ds : List (Option OwnDelay)). Leads library (delay_lines_of i.name k.inputs more rest) (parts_of nets consts (front ++ with_own i ds ∷ back) [] [] None) (parts_of nets consts (front ++ i ∷ back) [] [] None))
    (append_assoc done (None ∷ []) (map (λ _. None) rest))
    (arcs_lead library nets consts front i back k (past ++ a ∷ []) more (done ++ None ∷ []) rest at cell named owns fresh (one_more past a more k.arcs e) (one_more done None rest i.delays f)
    (omega (arith, length_push past a, length_push done None)) (omega arith))
arcs_lead library nets consts front i back k past (a ∷ more) done (Some d ∷ rest) at cell named owns fresh e f same left =
    let own : (d.rise ≤ 1000000) × (d.fall ≤ 1000000) = all_at IsOwnDelay done (Some d) rest i.delays f owns in
    let arc = all_at (IsArc k.inputs) past a more k.arcs e cell.arcs.each in (
      parts_of nets consts (front ++ with_own i (done ++ Some d ∷ map (λ _. None) rest) ∷ back) [] [] None,
      record {
        edit = Delay (record { inst = i.name; pin = name_at k.inputs a.from; rise = d.rise; fall = d.fall });
        says = delay_said i.name (name_at k.inputs a.from) d own.0 own.1;
        allowed = refl;
        does = delay_added library nets consts front i back k past a more done d (map (λ _. None) rest) at cell fresh e same own.0 own.1;
        solid = delay_solid i k a d named cell arc own.0 own.1;
      },
      subst (λ (ds : List (Option OwnDelay)). Leads library (delay_lines_of i.name k.inputs more rest) (parts_of nets consts (front ++ with_own i ds ∷ back) [] [] None) (parts_of nets consts (front ++ i ∷ back) [] [] None))
          (append_assoc done (Some d ∷ []) (map (λ _. None) rest))
          (arcs_lead library nets consts front i back k (past ++ a ∷ []) more (done ++ Some d ∷ []) rest at cell named owns fresh (one_more past a more k.arcs e) (one_more done (Some d) rest i.delays f)
          (omega (arith, length_push past a, length_push done (Some d))) (omega arith)),
    )

pub delays_lead : (library : List Cell) (c : Circuit) (done more : List Instance) → IsLibrary library → IsNetlist c → Fits library c.insts → done ++ more ≡ c.insts
    → Leads library (flat_map (delay_lines library) more) (parts_of c.nets c.consts (done ++ map bare more) [] [] None) (parts_of c.nets c.consts c.insts [] [] None)
delays_lead library c done [] sound s fits e = ap (λ (is : List Instance). parts_of c.nets c.consts is [] [] None) e
delays_lead library c done (i ∷ more) sound s fits e =
    let of = all_at (IsOfLibrary library) done i more c.insts e fits in
    let is = all_at (IsInstance (length c.nets) (length c.consts)) done i more c.insts e s.insts in
    let line : delay_lines library i ≡ delay_lines_of i.name of.0.inputs of.0.arcs i.delays = rw of.1 refl in
    let cell = all_get IsCell library i.cell of.0 sound.each of.1 in
    let fresh = new_named (λ (j : Instance). j.name) done i more c.insts e s.insts_differ in
    let next : (done ++ i ∷ []) ++ map bare more ≡ done ++ i ∷ map bare more = append_assoc done (i ∷ []) (map bare more) in
    leads_append library (delay_lines library i) (flat_map (delay_lines library) more) _ (parts_of c.nets c.consts (done ++ i ∷ map bare more) [] [] None) _
    (subst (λ (ls : List (List (List ℕ))). Leads library ls (parts_of c.nets c.consts (done ++ bare i ∷ map bare more) [] [] None) (parts_of c.nets c.consts (done ++ i ∷ map bare more) [] [] None)) (sym line)
    (arcs_lead library c.nets c.consts done i (map bare more) of.0 [] of.0.arcs [] i.delays of.1 cell is.named is.delays fresh refl refl refl (sym of.2.delays)))
    (subst (λ (is : List Instance). Leads library (flat_map (delay_lines library) more) (parts_of c.nets c.consts is [] [] None) (parts_of c.nets c.consts c.insts [] [] None)) next
    (delays_lead library c (done ++ i ∷ []) more sound s fits (one_more done i more c.insts e)))
