use Rattle.std.proofs.Common.{◌≡◌, ℤ, ℕ, Some, sym, ap, ◌∙◌}
use Rattle.std.specs.Arc.{arc_value}
use Rattle.netlist_model.specs.Circuit.{event_of, fork_of}
use Rattle.rule_system.specs.Weights.{time_of}
use Rattle.analysis.specs.declared.analyses.Analysis.{Analysis}
use Rattle.session_machine.specs.declared.replies.Reply.TheVariants.{Arrival}
use Rattle.session_machine.specs.declared.replies.Refusal.TheVariants.{NoEvent}
use Rattle.pinned_reader.specs.Rows.{RowState, IsRow}
use Rattle.pinned_reader.specs.Queries.{arrival_at}
use Rattle.query_replies.specs.Readings.{told_or}
use Rattle.query_replies.proofs.Told.{of_row, replied}
use Rattle.query_replies.proofs.queries.arrival_reply.Goals as goal

pub returns : goal.returns
returns c =
    let row : RowState = arc_value c.args.pinned.now.row in
    let is : IsRow row = rw (← c.deref.ensures) c.right.ensures in
    let value = of_row c.finding_is_unique.ensures row is (λ a. c.arrival.result ≡ arrival_at row.netlist a c.args.event.now) c.arrival.ensures.arrival in
    let period = of_row c.finding_is_unique.ensures row is (λ a. c.period.result ≡ a.period) c.period.ensures in
    c.arrival_told.ensures
    ∙ ((λ i. told_or NoEvent (λ v. Arrival v ((c.bottom.ensures.bottom ∙ ap (λ p. p.bottom) period) i)) (value i))
    ∙ replied NoEvent (time_of row.analysis.arrivals) (λ v. Arrival v row.analysis.period.bottom) (event_of row.netlist.nets c.args.event.now))
