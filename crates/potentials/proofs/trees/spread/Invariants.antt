use Rattle.std.proofs.Common.{ℕ, ◌<◌}
use Rattle.rule_system.specs.Rules.{source_of, target_of}
use Rattle.potentials.specs.Trees.{IsTree, StaysReached, IsReached}
use Rattle.potentials.proofs.trees.spread.Given as goal

abbrev pub invariant-rules : goal.invariant-rules
invariant-rules l = record {
  tree : IsTree l.top l.bottom l.system.events l.system.rules l.root l.times l.reached;
  stays : StaysReached l.initial.reached l.reached;
  joined : (n : ℕ) → n < l.number → IsReached l.initial.reached (source_of l.system.rules n) → IsReached l.reached (target_of l.system.rules n);
}
