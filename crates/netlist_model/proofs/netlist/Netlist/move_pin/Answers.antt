use Rattle.std.proofs.Common.{◌≡◌, ◌≢◌, ◌==◌, ◌++◌, ◌∷◌, [], Bool, true, false, Option, Some, None, get_or, length, refl, subst, sym, ap, ◌∙◌, arith, if◌then◌else◌}
use Rattle.std.specs.Str.{bytes_eq}
use Rattle.std.proofs.lemmas.Bool.Decides.{nat_tests}
use Rattle.std.proofs.lemmas.List.{length_push}
use Rattle.std.proofs.lemmas.Option.{get_or_from_slice_get}
use Rattle.netlist_model.specs.Circuit.{Circuit, last_of}
use Rattle.netlist_model.specs.Sound.{Fits, IsPin}
use Rattle.netlist_model.specs.Statements.{cell_at, moved_output_fault}
use Rattle.netlist_model.specs.declared.faults.StatementFault.{StatementFault}
use Rattle.netlist_model.specs.declared.parts.Instance.{Instance}
use Rattle.netlist_model.specs.declared.parts.NetRef.TheVariants.{Net}
use Rattle.netlist_model.proofs.Moved.{cell_fits, fits_moved, pin_moved}
use Rattle.netlist_model.proofs.Places.{position_within}
use Rattle.netlist_model.proofs.netlist.Netlist.move_pin.Goals as goal

none_if : (b : Bool) (o : Option StatementFault) → o ≡ None → (if b then o else None) ≡ None
none_if true o h = h
none_if false o h = refl

pub inst_cell-cell-requires-clause-fits : goal.inst_cell-cell-requires-clause-fits
inst_cell-cell-requires-clause-fits c = subst (Fits c.args.library.now) (ap (λ (n : Circuit). n.insts) (sym c.self.view_is) ∙ sym c.list.ensures) c.requires

pub set_output-requires-clause-output : goal.set_output-requires-clause-output
set_output-requires-clause-output c = λ i e.
    let insts = c.self.inside.insts in
    let at = c.in-Some.at in
    let p = c.in-Some-pin_at.place in
    let k = c.inst_cell-cell.result.now in
    let fits : Fits c.args.library.now insts = subst (Fits c.args.library.now) (ap (λ (n : Circuit). n.insts) (sym c.self.view_is)) c.requires in
    let kind : cell_at c.args.library.now insts at ≡ Some k = rw c.list.ensures at c.inst_cell-cell.ensures.cell in
    let fit = cell_fits c.args.library.now insts at i k fits e kind in
    let inputs = ap length c.list-2.ensures in
    let found = c.index-list-at.result in
    let same : found ≡ i = c.index-list-at.is ∙ ap (λ xs. get_or xs at found) c.list-then-place-list.ensures ∙ get_or_from_slice_get insts at i found e in
    (omega (arith, fit.pins, c.if-place-list.true, inputs), ap (λ (x : Instance). last_of x.pins) (sym same) ∙ c.output_net-old.ensures)

pub returns-in_err-set_output-clause-fits : goal.returns-in_err-set_output-clause-fits
returns-in_err-set_output-clause-fits c =
    rw c.in_err-set_output.ensures.err (subst (Fits c.args.library.now) (ap (λ (n : Circuit). n.insts) (sym c.self.view_is)) c.requires)

pub invariant_of-self-then-place-list : goal.invariant_of-self-then-place-list
invariant_of-self-then-place-list c =
    let insts = c.self.inside.insts in
    let at = c.in-Some.at in
    let p = c.in-Some-pin_at.place in
    let k = c.inst_cell-cell.result.now in
    let fits : Fits c.args.library.now insts = subst (Fits c.args.library.now) (ap (λ (n : Circuit). n.insts) (sym c.self.view_is)) c.requires in
    let kind : cell_at c.args.library.now insts at ≡ Some k = rw c.list.ensures at c.inst_cell-cell.ensures.cell in
    let net = c.in_ok-net.net in
    let is : c.in-Some-ref_of.to ≡ Net net = c.in_ok-net.ensures.ok.0 in
    let pin = subst (IsPin (length c.self.inside.nets) (length c.self.inside.consts)) is c.in-Some-ref_of.ensures.within in
    let none : moved_output_fault insts at (Net net) ≡ None =
    ap (moved_output_fault insts at) (sym is) ∙ ap (λ (n : Circuit). moved_output_fault n.insts at c.in-Some-ref_of.to) c.self.view_is ∙ c.in_ok-net.ensures.none in
    rw c.in_ok-set_output.ensures.ok (pin_moved c.args.library.now _ at p k (Net net) c.self.invariant fits kind pin (none_if (p == length k.inputs) (moved_output_fault insts at (Net net)) none))

pub returns-then-place-list-clause-fits : goal.returns-then-place-list-clause-fits
returns-then-place-list-clause-fits c =
    let insts = c.self.inside.insts in
    let at = c.in-Some.at in
    let p = c.in-Some-pin_at.place in
    let k = c.inst_cell-cell.result.now in
    let fits : Fits c.args.library.now insts = subst (Fits c.args.library.now) (ap (λ (n : Circuit). n.insts) (sym c.self.view_is)) c.requires in
    let kind : cell_at c.args.library.now insts at ≡ Some k = rw c.list.ensures at c.inst_cell-cell.ensures.cell in
    rw c.in_ok-set_output.ensures.ok (fits_moved c.args.library.now insts at p (Net c.in_ok-net.net) fits)

pub set_input-requires-clause-input : goal.set_input-requires-clause-input
set_input-requires-clause-input c = λ i e.
    let insts = c.self.inside.insts in
    let at = c.in-Some.at in
    let p = c.in-Some-pin_at.place in
    let k = c.inst_cell-cell.result.now in
    let fits : Fits c.args.library.now insts = subst (Fits c.args.library.now) (ap (λ (n : Circuit). n.insts) (sym c.self.view_is)) c.requires in
    let kind : cell_at c.args.library.now insts at ≡ Some k = rw c.list.ensures at c.inst_cell-cell.ensures.cell in
    let fit = cell_fits c.args.library.now insts at i k fits e kind in
    let inputs = ap length c.list-2.ensures in
    let low = position_within (bytes_eq c.args.pin.now) (k.inputs ++ k.output ∷ []) p (sym c.in-Some-pin_at.ensures) in
    let all = length_push k.inputs k.output in
    omega (arith, fit.pins, low, all, c.if-place-list.false, inputs)

pub invariant_of-self-2 : goal.invariant_of-self-2
invariant_of-self-2 c =
    let insts = c.self.inside.insts in
    let at = c.in-Some.at in
    let p = c.in-Some-pin_at.place in
    let k = c.inst_cell-cell.result.now in
    let fits : Fits c.args.library.now insts = subst (Fits c.args.library.now) (ap (λ (n : Circuit). n.insts) (sym c.self.view_is)) c.requires in
    let kind : cell_at c.args.library.now insts at ≡ Some k = rw c.list.ensures at c.inst_cell-cell.ensures.cell in
    let inputs = ap length c.list-2.ensures in
    let other : p ≢ length k.inputs = omega (arith, c.if-place-list.false, inputs) in
    let no : (p == length k.inputs) ≡ false = grind (arith, nat_tests) in
    let may : (if p == length k.inputs then moved_output_fault insts at c.in-Some-ref_of.to else None) ≡ None = ap (λ b. if b then moved_output_fault insts at c.in-Some-ref_of.to else None) no in
    rw c.set_input.ensures (pin_moved c.args.library.now _ at p k c.in-Some-ref_of.to c.self.invariant fits kind c.in-Some-ref_of.ensures.within may)

pub returns-clause-fits : goal.returns-clause-fits
returns-clause-fits c =
    let insts = c.self.inside.insts in
    let at = c.in-Some.at in
    let p = c.in-Some-pin_at.place in
    let k = c.inst_cell-cell.result.now in
    let fits : Fits c.args.library.now insts = subst (Fits c.args.library.now) (ap (λ (n : Circuit). n.insts) (sym c.self.view_is)) c.requires in
    let kind : cell_at c.args.library.now insts at ≡ Some k = rw c.list.ensures at c.inst_cell-cell.ensures.cell in
    rw c.set_input.ensures (fits_moved c.args.library.now insts at p c.in-Some-ref_of.to fits)
