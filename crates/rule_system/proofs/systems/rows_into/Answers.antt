use Rattle.std.proofs.Common.{◌∙◌}
use Rattle.rule_system.proofs.Parts.{targets_below, targets_listed}
use Rattle.rule_system.proofs.systems.rows_into.Goals as goal

pub of-requires-clause-ends : goal.of-requires-clause-ends
of-requires-clause-ends c = targets_below _ _ _ c.requires (c.deref.ensures.value ∙ c.in_ok-ends.ensures)

pub returns : goal.returns
returns c = targets_listed _ _ _ _ _ (c.deref.ensures.value ∙ c.in_ok-ends.ensures) c.in_ok-rows.ensures
