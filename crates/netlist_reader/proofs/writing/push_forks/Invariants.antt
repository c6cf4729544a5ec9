use Rattle.std.proofs.Common.{◌≡◌, ◌++◌, map, drop}
use Rattle.cyc_text.specs.Written.{lines_text}
use Rattle.netlist_reader.specs.Canonical as spec
use Rattle.netlist_reader.proofs.writing.push_forks.Given as goal

abbrev pub invariant-loop-at : goal.invariant-loop-at
invariant-loop-at l = l.text.items ++ lines_text (map (spec.fork_line l.net.nets) (drop l.at l.net.forks)) ≡ l.fn.text.items ++ lines_text (map (spec.fork_line l.net.nets) l.net.forks)
