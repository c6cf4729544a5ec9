use Rattle.analysis.proofs.drawn_tests.agrees.Goals as goal

pub arrivals-requires-clause-ratio : goal.arrivals-requires-clause-ratio
arrivals-requires-clause-ratio c =
    rw (c.top-top.ensures.top, c.bottom-bottom.ensures.bottom) (c.periods_are_bounded.ensures _ _ _ _ c.events-events.ensures.system c.requires.right.live c.requires.right.period)

pub plain_slack-requires-clause-ratio : goal.plain_slack-requires-clause-ratio
plain_slack-requires-clause-ratio c =
    rw (c.top-top.ensures.top, c.bottom-bottom.ensures.bottom) (c.periods_are_bounded.ensures _ _ _ _ c.events-events.ensures.system c.requires.right.live c.requires.right.period)
