use Rattle.std.proofs.Common.{◌≡◌, ℕ}
use Rattle.netlist_model.specs.Keyed.{told_of}
use Rattle.netlist_model.proofs.pairs.Pairs.reach.Given as goal

abbrev pub invariant-numbering : goal.invariant-numbering
invariant-numbering l = (u v : ℕ) → told_of l.self u v ≡ told_of l.fn.self u v
