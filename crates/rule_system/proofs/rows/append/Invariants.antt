use Rattle.std.proofs.Common.{ℕ, List}
use Rattle.rule_system.specs.Rows.{IsChain}
use Rattle.rule_system.proofs.Parts.{HasRest}
use Rattle.rule_system.proofs.rows.append.Given as goal

abbrev pub invariant-links : goal.invariant-links
invariant-links l = (row : List ℕ) → IsChain l.nexts 0 l.fn.start row → HasRest l.nexts l.at l.counter l.initial.numbers.items l.numbers.items row
