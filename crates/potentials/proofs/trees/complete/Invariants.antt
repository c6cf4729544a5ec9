use Rattle.potentials.specs.Trees.{IsTree, ReachesAll}
use Rattle.potentials.proofs.trees.complete.Given as goal

abbrev pub invariant-rounds : goal.invariant-rounds
invariant-rounds l = record {
  tree : IsTree l.top l.bottom l.system.events l.system.rules l.root l.times l.reached;
  far : ReachesAll l.system.rules l.root l.counter l.reached;
}
