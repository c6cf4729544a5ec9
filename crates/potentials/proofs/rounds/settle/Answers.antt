use Rattle.std.proofs.Common.{arith}
use Rattle.rule_system.proofs.Sums.{ends_below}
use Rattle.potentials.proofs.Growth.{weights_attained, weights_within}
use Rattle.potentials.proofs.Steps.{arrived, bounded, between, well_between, covers_start, root_zero}
use Rattle.potentials.proofs.rounds.settle.Goals as goal

pub rounds-init : goal.rounds-init
rounds-init c = (weights_attained _ _ _ _ _ _ c.requires.weights, λ event. (weights_within _ _ _ _ _ _ c.requires.ratio.0 c.requires.ratio.1 c.events-limit.ensures.system c.requires.root c.requires.weights event).0, covers_start _ _ _ _ _ _ c.requires.root c.requires.weights)

pub are_loose-requires-clause-within : goal.are_loose-requires-clause-within
are_loose-requires-clause-within c = well_between _ c.rounds.invariant.1 (bounded _ _ _ _ _ _ c.requires.ratio.1 c.events-limit.ensures.system c.requires.no_gain c.requires.root c.rounds.invariant.0)

pub returns-then-are_loose-clause-arrivals : goal.returns-then-are_loose-clause-arrivals
returns-then-are_loose-clause-arrivals c = c.attained_feasible_numbers_are_arrivals.ensures _ _ _ _ _ _ (c.are_loose.ensures.0 c.if-are_loose.true) (root_zero _ _ _ _ _ _ _ c.requires.no_gain c.requires.root c.rounds.invariant.0 c.rounds.invariant.2) c.rounds.invariant.0

pub returns-then-are_loose-clause-within : goal.returns-then-are_loose-clause-within
returns-then-are_loose-clause-within c = between _ _ c.rounds.invariant.1 (bounded _ _ _ _ _ _ c.requires.ratio.1 c.events-limit.ensures.system c.requires.no_gain c.requires.root c.rounds.invariant.0)

pub rounds-preserved : goal.rounds-preserved
rounds-preserved c = (c.round.ensures.attained, c.round.ensures.low, c.round_covers_one_more.ensures _ _ _ _ _ _ _ c.rounds.invariant.2 c.round.ensures.round)

pub returns-clause-arrivals : goal.returns-clause-arrivals
returns-clause-arrivals c = arrived _ _ _ _ _ _ c.rounds.invariant.0 (c.rounds_end.ensures _ _ _ _ _ _ _ (ends_below _ _ c.events-limit.ensures.system) c.requires.no_gain c.requires.root (omega arith) c.rounds.invariant.2)

pub returns-clause-within : goal.returns-clause-within
returns-clause-within c = between _ _ c.rounds.invariant.1 (bounded _ _ _ _ _ _ c.requires.ratio.1 c.events-limit.ensures.system c.requires.no_gain c.requires.root c.rounds.invariant.0)
