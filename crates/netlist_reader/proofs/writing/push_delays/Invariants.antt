use Rattle.std.proofs.Common.{◌≡◌, ◌++◌, drop}
use Rattle.cyc_text.specs.Written.{lines_text}
use Rattle.netlist_reader.specs.Canonical as spec
use Rattle.std.specs.List.{flat_map}
use Rattle.netlist_reader.proofs.writing.push_delays.Given as goal

abbrev pub invariant-loop-at : goal.invariant-loop-at
invariant-loop-at l = l.text.items ++ lines_text (flat_map (spec.delay_lines l.library) (drop l.at l.net.insts)) ≡ l.fn.text.items ++ lines_text (flat_map (spec.delay_lines l.library) l.net.insts)
