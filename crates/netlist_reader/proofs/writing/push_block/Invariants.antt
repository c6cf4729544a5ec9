use Rattle.std.proofs.Common.{◌≡◌, ◌++◌, map, drop}
use Rattle.cyc_text.specs.Written.{lines_text}
use Rattle.netlist_reader.specs.Canonical as spec
use Rattle.netlist_reader.proofs.writing.push_block.Given as goal

abbrev pub invariant-loop-tick : goal.invariant-loop-tick
invariant-loop-tick l = l.text.items ++ lines_text (map (spec.tick_line l.net.nets) (drop l.tick-index l.ticks)) ≡ l.fn.text.items ++ lines_text (map (spec.tick_line l.net.nets) l.ticks)
