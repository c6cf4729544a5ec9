use Rattle.std.proofs.Common.{arith, pos}
use Rattle.std.proofs.lemmas.Int.{ints}
use Rattle.potentials.proofs.checks.is_loose.Goals as goal

pub offered-requires-clause-within : goal.offered-requires-clause-within
offered-requires-clause-within c =
    let a = c.requires.within c.args.rule.source (pos 0) c.requires.rule.0 in
    (omega (arith, ints), omega (arith, ints))
