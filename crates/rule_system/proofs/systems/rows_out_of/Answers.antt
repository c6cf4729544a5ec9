use Rattle.std.proofs.Common.{◌∙◌}
use Rattle.rule_system.proofs.Parts.{sources_below, sources_listed}
use Rattle.rule_system.proofs.systems.rows_out_of.Goals as goal

pub of-requires-clause-ends : goal.of-requires-clause-ends
of-requires-clause-ends c = sources_below _ _ _ c.requires (c.deref.ensures.value ∙ c.in_ok-ends.ensures)

pub returns : goal.returns
returns c = sources_listed _ _ _ _ _ (c.deref.ensures.value ∙ c.in_ok-ends.ensures) c.in_ok-rows.ensures
