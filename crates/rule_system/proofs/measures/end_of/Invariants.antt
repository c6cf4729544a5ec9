use Rattle.std.proofs.Common.{ℕ, drop}
use Rattle.rule_system.specs.Walks.{IsWalk}
use Rattle.rule_system.proofs.measures.end_of.Given as goal

abbrev pub invariant-steps : goal.invariant-steps
invariant-steps l =
    ((end : ℕ) → IsWalk l.rules l.at (drop l.number-index l.walk) end → IsWalk l.rules l.start l.walk end)
    × ((end : ℕ) → IsWalk l.rules l.start l.walk end → IsWalk l.rules l.at (drop l.number-index l.walk) end)
