use Rattle.std.proofs.Common.{◌≤◌, length}
use Rattle.rule_system.proofs.PlainPeriod.{next_closing, judged}
use Rattle.rule_system.proofs.plain.is_period.Goals as goal

pub rules-preserved : goal.rules-preserved
rules-preserved c = rw c.greater-best.ensures (next_closing c.args.top c.args.bottom c.args.system.now.rules c.args.system.now.events c.rules.number c.rules.best c.closing_weight-closing.result c.rules.invariant c.closing_weight-closing.ensures)

pub returns : goal.returns
returns c =
    let enough : length c.args.system.now.rules ≤ c.rules.number = rw c.rules-number-end.ensures.rules at c.rules-test.false in
    let no_more : c.rules.number ≤ length c.args.system.now.rules = rw c.rules-number-end.ensures.rules at c.rules.auto.number-end in
    judged c.args.top c.args.bottom c.args.system.now.events c.args.system.now.rules c.rules.number c.rules.best c.is_even.result c.is_even.ensures c.rules-number-end.ensures.ends enough no_more c.requires.positive c.requires.lowest c.rules.invariant
