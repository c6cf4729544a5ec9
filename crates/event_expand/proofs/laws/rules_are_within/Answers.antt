use Rattle.event_expand.proofs.Bounds as bounds
use Rattle.event_expand.proofs.laws.rules_are_within.Goals as goal

pub returns : goal.returns
returns c = bounds.rules_are_within
