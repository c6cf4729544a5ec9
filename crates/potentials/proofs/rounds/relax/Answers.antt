use Rattle.std.proofs.Common.{ap, arith, slice_set}
use Rattle.std.proofs.lemmas.Int.{ints, clamps}
use Rattle.potentials.proofs.rounds.relax.Goals as goal

pub offered-offer-requires-clause-within : goal.offered-offer-requires-clause-within
offered-offer-requires-clause-within c =
    let a = c.requires.low c.args.rule.source in
    let b = c.requires.high c.args.rule.source in
    (omega (arith, ints), omega (arith, ints))

pub returns : goal.returns
returns c =
    let d = c.requires.low c.args.rule.target in
    let e = c.requires.high c.args.rule.target in
    ap (λ t. slice_set c.args.times.now c.args.rule.target t) (let v = c.max.ensures.value in omega (arith, ints, clamps))
