use Rattle.std.proofs.Common.{sym, ap, ◌∙◌}
use Rattle.version_store.specs.declared.state.HallState.{HallState}
use Rattle.version_store.specs.Halls.{origin_of}
use Rattle.pinned_reader.specs.Rows.{RowState}
use Rattle.session_run.specs.Seats.{SeatView}
use Rattle.session_run.proofs.threads.serve_sessions.Goals as goal

pub serve_threads-requires-clause-known : goal.serve_threads-requires-clause-known
serve_threads-requires-clause-known g c κs within =
    let k = c.rows_are_told.ensures.some in (
      k.0,
      origin_of c.in_ok-hall.hall,
      record {
        origin = ap (λ (v : SeatView). v.origin) c.in_ok-book.ensures.seat;
        library = ap (λ (h : HallState RowState). h.base.library) c.in_ok-hall.ensures ∙ (ap (λ (r : RowState). r.library) (sym c.deref.ensures) ∙ k.1);
      },
    )
