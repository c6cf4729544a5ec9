use Rattle.std.proofs.Common.{arith, pos}
use Rattle.std.proofs.lemmas.Int.{ints}
use Rattle.fork_slack.proofs.slacks.later.Goals as goal

pub overflow_add-result : goal.overflow_add-result
overflow_add-result c = let a = c.requires.arrivals c.args.event (pos 0) c.requires.event in omega (arith, ints)

pub returns-clause-value : goal.returns-clause-value
returns-clause-value c = let a = c.requires.arrivals c.args.event (pos 0) c.requires.event in omega (arith, ints)

pub returns-clause-within : goal.returns-clause-within
returns-clause-within c = let a = c.requires.arrivals c.args.event (pos 0) c.requires.event in (omega (arith, ints), omega (arith, ints))
