use Rattle.std.proofs.Common.{arith}
use Rattle.rule_system.proofs.Sums.{ends_below}
use Rattle.potentials.proofs.Growth.{reaches_none, reaches_more, reaches_each}
use Rattle.potentials.proofs.trees.complete.Goals as goal

pub rounds-init : goal.rounds-init
rounds-init c = record { tree = c.requires.tree; far = reaches_none _ _ _ c.requires.tree.root_reached }

pub rounds-preserved : goal.rounds-preserved
rounds-preserved c = record { tree = c.spread.ensures.tree; far = reaches_more _ _ _ _ _ c.rounds.invariant.far c.spread.ensures.stays c.spread.ensures.joined }

pub returns-clause-all : goal.returns-clause-all
returns-clause-all c = reaches_each _ _ _ _ _ (ends_below _ _ c.events-end.ensures.system) c.requires.root (omega arith) c.requires.reachable c.rounds.invariant.far
