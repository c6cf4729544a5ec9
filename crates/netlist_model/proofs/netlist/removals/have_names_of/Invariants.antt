use Rattle.std.proofs.Common.{◌≡◌, drop}
use Rattle.std.specs.Cmp.Lexicographic.{pointwise}
use Rattle.std.specs.Str.{bytes_eq}
use Rattle.netlist_model.proofs.netlist.removals.have_names_of.Given as goal

abbrev pub invariant-loop-at : goal.invariant-loop-at
invariant-loop-at l = pointwise bytes_eq l.old l.new ≡ pointwise bytes_eq (drop l.at l.old) (drop l.at l.new)
