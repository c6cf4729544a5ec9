use Rattle.liveness_check.proofs.liveness.check.Goals as goal

pub returns-then-branch-clause-connected : goal.returns-then-branch-clause-connected
returns-then-branch-clause-connected c = c.in_ok-is_shown.ensures.connected c.if-branch.true
