use Rattle.std.proofs.Common.{◌≡◌, ℤ, ℕ, Some, sym, ap, ◌∙◌}
use Rattle.std.specs.Arc.{arc_value}
use Rattle.netlist_model.specs.Circuit.{event_of, fork_of}
use Rattle.rule_system.specs.Weights.{time_of}
use Rattle.analysis.specs.declared.analyses.Analysis.{Analysis}
use Rattle.session_machine.specs.declared.replies.Reply.TheVariants.{Slack}
use Rattle.session_machine.specs.declared.replies.Refusal.TheVariants.{NoFork}
use Rattle.pinned_reader.specs.Rows.{RowState, IsRow}
use Rattle.pinned_reader.specs.Queries.{slack_at}
use Rattle.query_replies.specs.Readings.{told_or}
use Rattle.query_replies.proofs.Told.{of_row, replied}
use Rattle.query_replies.proofs.queries.slack_reply.Goals as goal

pub returns : goal.returns
returns c =
    let row : RowState = arc_value c.args.pinned.now.row in
    let is : IsRow row = rw (← c.deref.ensures) c.right.ensures in
    let value = of_row c.finding_is_unique.ensures row is (λ a. c.slack.result ≡ slack_at row.netlist a c.args.fork.now) c.slack.ensures.slack in
    let period = of_row c.finding_is_unique.ensures row is (λ a. c.period.result ≡ a.period) c.period.ensures in
    c.slack_told.ensures
    ∙ ((λ i. told_or NoFork (λ v. Slack v ((c.bottom.ensures.bottom ∙ ap (λ p. p.bottom) period) i)) (value i))
    ∙ replied NoFork (time_of row.analysis.slacks) (λ v. Slack v row.analysis.period.bottom) (fork_of row.netlist.forks c.args.fork.now))
