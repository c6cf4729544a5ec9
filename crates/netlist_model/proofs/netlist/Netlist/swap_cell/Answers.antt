use Rattle.std.proofs.Common.{◌≡◌, not, true, Some, None, map, subst, sym, ap, ◌∙◌, arith}
use Rattle.netlist_model.specs.Circuit.{Circuit}
use Rattle.netlist_model.specs.Sound.{Fits}
use Rattle.netlist_model.specs.Statements.{cell_at, has_pins_of}
use Rattle.netlist_model.proofs.Moved.{cell_swapped, fits_swapped}
use Rattle.netlist_model.proofs.netlist.Netlist.swap_cell.Goals as goal

pub inst_cell-old-requires-clause-fits : goal.inst_cell-old-requires-clause-fits
inst_cell-old-requires-clause-fits c = subst (Fits c.args.library.now) (ap (λ (n : Circuit). n.insts) (sym c.self.view_is) ∙ sym c.list.ensures) c.requires

pub invariant_of-self : goal.invariant_of-self
invariant_of-self c =
    let delays : c.of-delays.result ≡ map (λ _. None) c.cell-new.result.now.arcs = c.of-delays.ensures ∙ c.in_ok-no_delays.ensures ∙ ap (map (λ _. None)) c.list-2.ensures in
    rw (c.set_cell.ensures, delays) (cell_swapped _ c.in-Some.at c.in-Some-find_cell.to c.cell-new.result.now c.self.invariant)

pub returns-clause-fits : goal.returns-clause-fits
returns-clause-fits c =
    let delays : c.of-delays.result ≡ map (λ _. None) c.cell-new.result.now.arcs = c.of-delays.ensures ∙ c.in_ok-no_delays.ensures ∙ ap (map (λ _. None)) c.list-2.ensures in
    let insts = c.self.inside.insts in
    let fits : Fits c.args.library.now insts = subst (Fits c.args.library.now) (ap (λ (n : Circuit). n.insts) (sym c.self.view_is)) c.requires in
    let was : cell_at c.args.library.now insts c.in-Some.at ≡ Some c.inst_cell-old.result.now = rw c.list.ensures at c.inst_cell-old.ensures.cell in
    let pins : has_pins_of c.inst_cell-old.result.now c.cell-new.result.now ≡ true = grind arith in
    rw (c.set_cell.ensures, delays) (fits_swapped c.args.library.now insts c.in-Some.at c.in-Some-find_cell.to c.inst_cell-old.result.now c.cell-new.result.now fits was c.cell-new.ensures.item (ap not pins))
