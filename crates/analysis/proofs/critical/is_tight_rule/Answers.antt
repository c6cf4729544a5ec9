use Rattle.std.proofs.Common.{pos, w64, arith}
use Rattle.std.proofs.lemmas.Int.{ints}
use mir.Val.{SFits}
use Rattle.rule_system.specs.Weights.{time_of}
use Rattle.cyc_num.specs.Within.{LiesWithin}
use Rattle.analysis.proofs.Signed.{same_test}
use Rattle.analysis.proofs.critical.is_tight_rule.Goals as goal

pub offered-requires-clause-within : goal.offered-requires-clause-within
offered-requires-clause-within c =
    let a : LiesWithin 17000000000000000 (time_of c.args.arrivals.now c.args.rule.source) = c.requires.within c.args.rule.source (pos 0) c.requires.rule.0 in
    (omega (arith, ints), omega (arith, ints))

pub returns : goal.returns
returns c =
    let b : LiesWithin 17000000000000000 (time_of c.args.arrivals.now c.args.rule.target) = c.requires.within c.args.rule.target (pos 0) c.requires.rule.1 in
    let i = c.offered.type_inv in
    let s : SFits w64 c.offered.result = omega (arith, ints) in
    let t : SFits w64 (time_of c.args.arrivals.now c.args.rule.target) = omega (arith, ints) in
    rw (← c.offered.ensures) (same_test c.offered.result (time_of c.args.arrivals.now c.args.rule.target) s t)
