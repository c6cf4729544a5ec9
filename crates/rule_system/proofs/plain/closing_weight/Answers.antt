use Rattle.std.proofs.Common.{◌≡◌, ap, ◌∙◌, arith, to_z, of_z, w64, ℤ}
use Rattle.std.proofs.lemmas.Int.{ints}
use Rattle.rule_system.specs.Rules.{rule_at, source_of, target_of}
use Rattle.rule_system.specs.Weights.{rule_weight}
use Rattle.rule_system.specs.Plain.{IsGreatest, after_rule}
use Rattle.rule_system.proofs.PlainPeriod.{closing}
use Rattle.rule_system.proofs.plain.closing_weight.Goals as goal

pub returns : goal.returns
returns c =
    let first : c.weight_of-first.result ≡ rule_weight c.args.top c.args.bottom (rule_at c.args.system.now.rules c.args.number) = rw c.rules.ensures.rules at c.weight_of-first.ensures.weight in
    let passed : to_z w64 (of_z w64 c.weight_of-first.result) ≡ c.weight_of-first.result = omega (arith, ints) in
    let rest : IsGreatest c.args.top c.args.bottom c.args.system.now.rules c.args.system.now.events (target_of c.args.system.now.rules c.args.number) (source_of c.args.system.now.rules c.args.number) c.greatest_weight-rest.result = rw (c.rules.ensures.rules, c.events-left.ensures.count) at c.greatest_weight-rest.ensures.greatest in
    let same : c.after.result ≡ after_rule (rule_weight c.args.top c.args.bottom (rule_at c.args.system.now.rules c.args.number)) c.greatest_weight-rest.result = c.after.ensures ∙ ap (λ (z : ℤ). after_rule z c.greatest_weight-rest.result) (passed ∙ first) in
    rw same (closing c.args.top c.args.bottom c.args.system.now.rules c.args.system.now.events c.args.number c.greatest_weight-rest.result rest)
