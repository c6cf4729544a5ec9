use Rattle.cycle_ratio.proofs.Raises.{short_cycle_sums}
use Rattle.cycle_ratio.proofs.raising.sums_of.Goals as goal

pub delay_of-delay-requires-clause-within : goal.delay_of-delay-requires-clause-within
delay_of-delay-requires-clause-within c = rw c.rules-rules.ensures.rules (short_cycle_sums _ _ _ c.rules-rules.ensures.system c.requires).within

pub delay_of-delay-requires-clause-small : goal.delay_of-delay-requires-clause-small
delay_of-delay-requires-clause-small c = rw c.rules-rules.ensures.rules (short_cycle_sums _ _ _ c.rules-rules.ensures.system c.requires).delay

pub offset_of-offset-requires-clause-within : goal.offset_of-offset-requires-clause-within
offset_of-offset-requires-clause-within c = rw c.rules-rules.ensures.rules (short_cycle_sums _ _ _ c.rules-rules.ensures.system c.requires).within

pub offset_of-offset-requires-clause-small : goal.offset_of-offset-requires-clause-small
offset_of-offset-requires-clause-small c = rw c.rules-rules.ensures.rules (short_cycle_sums _ _ _ c.rules-rules.ensures.system c.requires).offset

pub returns-clause-small : goal.returns-clause-small
returns-clause-small c =
    let sums = short_cycle_sums _ _ _ c.rules-rules.ensures.system c.requires in
    (rw (c.delay_of-delay.ensures, c.rules-rules.ensures.rules) sums.delay, rw (c.offset_of-offset.ensures, c.rules-rules.ensures.rules) sums.offset)
