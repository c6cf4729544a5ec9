use Rattle.rule_system.specs.Weights.{is_tight}
use Rattle.analysis.proofs.Tight.{flags_more}
use Rattle.analysis.proofs.critical.tight_flags.Goals as goal

pub rules-preserved : goal.rules-preserved
rules-preserved c =
    rw c.in_ok-push.ensures.items
    (flags_more (is_tight c.top-top.result c.bottom-bottom.result c.rules-rules.result.now c.args.arrivals.now) c.rules.tight.items c.rules.rule-index c.is_tight_rule-flag.result c.rules.invariant.0 c.rules.invariant.1 c.is_tight_rule-flag.ensures)
