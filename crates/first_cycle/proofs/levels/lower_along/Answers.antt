use Rattle.first_cycle.proofs.Turned.{found_along}
use Rattle.first_cycle.proofs.levels.lower_along.Goals as goal

pub returns : goal.returns
returns c =
    rw (c.lower_source.ensures.levels, c.rule_along.ensures.rule)
    (found_along _ _ _ _ _ _ _ c.rule_along.ensures.ends c.requires.number c.if-not-keep-number.false c.requires.found)
