use Rattle.potentials.specs.Trees.{IsTree}
use Rattle.potentials.proofs.trees.follow.Given as goal

abbrev pub invariant-numbers : goal.invariant-numbers
invariant-numbers l = IsTree l.top l.bottom l.system.events l.system.rules l.root l.times l.reached
