use Rattle.std.proofs.Common.{◌≡◌, ◌++◌, drop}
use Rattle.cyc_text.specs.Written.{lines_text}
use Rattle.netlist_reader.specs.Canonical as spec
use Rattle.netlist_reader.proofs.writing.push_owns.Given as goal

abbrev pub invariant-loop-at : goal.invariant-loop-at
invariant-loop-at l = l.text.items ++ lines_text (spec.delay_lines_of l.inst.name l.cell.inputs (drop l.at l.cell.arcs) (drop l.at l.inst.delays)) ≡ l.fn.text.items ++ lines_text (spec.delay_lines_of l.inst.name l.cell.inputs l.cell.arcs l.inst.delays)
