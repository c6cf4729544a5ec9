use Rattle.std.proofs.Common.{◌≡◌, ◌++◌, map, drop}
use Rattle.std.specs.List.{flat_map}
use Rattle.cyc_text.specs.Written.{lines_text}
use Rattle.netlist_reader.specs.Canonical as spec
use Rattle.netlist_reader.proofs.writing.push_ticks.Given as goal

abbrev pub invariant-loop-block : goal.invariant-loop-block
invariant-loop-block l = l.text.items ++ lines_text (flat_map (λ b. map (spec.tick_line l.net.nets) b.items) (drop l.block-index l.blocks)) ≡ l.fn.text.items ++ lines_text (flat_map (λ b. map (spec.tick_line l.net.nets) b.items) l.blocks)
