use Rattle.session_calls.specs.Ahead.{ahead_of, row_of}
use Rattle.session_calls.proofs.Stops.{none_is_told}
use Rattle.session_calls.proofs.session.prepare.draft_after.Goals as goal

pub next-requires-after_bounds : goal.next-requires-after_bounds
next-requires-after_bounds g c κs within = record { made = ahead_of c.args.held.now; accepted = rw c.deref.ensures c.requires.made }

pub returns-in-Ok-clause-accepted : goal.returns-in-Ok-clause-accepted
returns-in-Ok-clause-accepted g c = λ all is. none_is_told all c.in-Ok.row (row_of c.args.held.now) c.args.draft.now (ahead_of c.args.held.now) (rw (← c.deref.ensures) c.in-Ok.ensures.follows) c.in-Ok.ensures.edits c.requires.made is
    (c.rows_are_told.ensures.told all)
