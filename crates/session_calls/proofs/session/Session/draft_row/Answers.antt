use Rattle.std.proofs.Common.{◌≡◌, ◌==◌, false, length, Some, None, Result, sym, ap, ◌∙◌, subst}
use Rattle.std.specs.Prelude.{option_map, IfOk, IfErr}
use Rattle.std.specs.Arc.{arc_value}
use Rattle.session_machine.specs.declared.replies.Refusal.{Refusal}
use Rattle.pinned_reader.specs.Rows.{RowState, IsAfter}
use Rattle.query_replies.specs.Readings.{refusal_in}
use Rattle.session_calls.specs.declared.session.Held.{Held}
use Rattle.session_calls.specs.Ahead.{ahead_of, IsAhead, HoldsAhead, row_of}
use Rattle.session_calls.specs.States.{SessionState}
use Rattle.session_calls.proofs.Stops.{is_ready, is_passed}
use Rattle.session_calls.proofs.session.Session.draft_row.Goals as goal

pub returns-in-Ok : goal.returns-in-Ok
returns-in-Ok g c = λ all over.
    let s = c.args.self.now in
    let h = c.in-Some.held in
    let pin : s.pin ≡ Some (h.pin.number, row_of h) = sym (ap (λ (s : SessionState). s.pin) c.self.view_is) ∙ ap (option_map (λ (h : Held). (h.pin.number, arc_value h.pin.row))) c.in-Some.is in
    let draft : c.self.inside.draft.items ≡ s.draft = ap (λ (s : SessionState). s.draft) c.self.view_is in
    let ahead : IsAhead s.draft h = subst (λ d. IsAhead d h) draft (subst (HoldsAhead c.self.inside.draft.items) c.in-Some.is c.self.invariant) in
    let some : (length s.draft == 0) ≡ false = ap (λ d. length d == 0) (sym (c.as_slice.ensures.value ∙ draft)) ∙ (sym c.is_empty.ensures ∙ c.if-is_empty.false) in
    let facts = subst (λ (r : Result RowState Refusal). IfOk r (λ row. (row.edits ≡ c.as_slice-2.result.now) × IsAfter row (row_of h))) c.in-Ok.is c.in_ok-row.ensures.row in
    is_ready all s h c.in-Ok.row c.handles.result pin ahead some over (facts.0 ∙ (c.as_slice-2.ensures.value ∙ draft)) facts.1
    (λ o. subst (λ (r : Result RowState Refusal). IfOk r (λ row. refusal_in (ahead_of h).nets (all.tell (ahead_of h)) ≡ None)) c.in-Ok.is (c.in_ok-row.ensures.accepted all o)) c.handles.ensures

pub returns-in-Err : goal.returns-in-Err
returns-in-Err g c = λ all over.
    let s = c.args.self.now in
    let h = c.in-Some.held in
    let pin : s.pin ≡ Some (h.pin.number, row_of h) = sym (ap (λ (s : SessionState). s.pin) c.self.view_is) ∙ ap (option_map (λ (h : Held). (h.pin.number, arc_value h.pin.row))) c.in-Some.is in
    let draft : c.self.inside.draft.items ≡ s.draft = ap (λ (s : SessionState). s.draft) c.self.view_is in
    let ahead : IsAhead s.draft h = subst (λ d. IsAhead d h) draft (subst (HoldsAhead c.self.inside.draft.items) c.in-Some.is c.self.invariant) in
    let some : (length s.draft == 0) ≡ false = ap (λ d. length d == 0) (sym (c.as_slice.ensures.value ∙ draft)) ∙ (sym c.is_empty.ensures ∙ c.if-is_empty.false) in
    is_passed all s h c.in-Err.refusal c.refused-in-Err.result pin ahead some over
    (λ o. subst (λ (r : Result RowState Refusal). IfErr r (λ f. refusal_in (ahead_of h).nets (all.tell (ahead_of h)) ≡ Some f)) c.in-Err.is (c.in_ok-row.ensures.refused all o)) c.refused-in-Err.ensures
