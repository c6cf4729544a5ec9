use Rattle.std.proofs.Common.{sym, ◌∙◌}
use Rattle.session_calls.proofs.Drafts.{no_edits}
use Rattle.session_calls.proofs.session.finish.draft_on.Goals as goal

pub returns-then-is_empty-clause-made : goal.returns-then-is_empty-clause-made
returns-then-is_empty-clause-made c = no_edits c.args.row.now c.args.draft.now (sym c.is_empty.ensures ∙ c.if-is_empty.true)
