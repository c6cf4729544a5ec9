use Rattle.std.proofs.Common.{◌≡◌, ℕ, ◌<◌, ◌≤◌, Option, Some, None, sym, ap, ◌∙◌, subst, lt_of_not-le}
use mathlib.Core.Logic.{dite}
use native.Mathlib.Decide.{dec_le}
use Rattle.std.specs.Prelude.{MatchOption, slice_get, option_map, ⊤}
use Rattle.std.specs.Arc.{arc_value}
use Rattle.version_store.specs.declared.entry.HallAct.TheVariants as act
use Rattle.version_store.specs.Halls.{noted, published, head_of}
use Rattle.version_store.specs.Answers.{answer_of}
use Rattle.pinned_reader.specs.Rows.{RowState}
use Rattle.session_calls.specs.declared.session.Held.{Held}
use Rattle.session_calls.specs.declared.session.Ready.{Ready}
use Rattle.session_calls.specs.declared.session.Ready.TheVariants as ready
use Rattle.session_calls.specs.declared.session.Taken.TheVariants as taken
use Rattle.session_calls.specs.States.{SessionState, rows, act_on}
use Rattle.session_calls.specs.Turns.{IsReady, Turned, IsNext, noted_act, base_number}
use Rattle.session_calls.proofs.Rows.{within}
use Rattle.session_calls.proofs.Acts.{pass_turned, latest_turned, at_turned, at_missing, rebase_turned, published_turned, stale_turned, full_turned, stopped_shared, same_base}
use Rattle.session_calls.proofs.session.Session.turn.Goals as goal

pub returns-in-Pass-clause-turned : goal.returns-in-Pass-clause-turned
returns-in-Pass-clause-turned c = λ all k base r. let w = subst (IsReady all c.args.self.now k) c.in-Pass.is r in
    subst (λ (v : Ready). Turned c.args.self.now (act_on all (rows c.args.hall.now) c.args.self.now k) c.args.hall.now c.pass.new.self v (taken.Pass c.in-Pass.reply)) (sym c.in-Pass.is)
    (pass_turned all c.args.hall.now c.pass.new.self c.args.self.now k c.requires.known w.0 c.in-Pass.reply (stopped_shared all c.args.self.now k w.0 w.1) w.1 w.2
    (c.pass.ensures ∙ ap (λ (s : SessionState). noted c.args.hall.now s.number act.Pass None) c.self.view_is))

pub returns-in-Ok-clause-turned : goal.returns-in-Ok-clause-turned
returns-in-Ok-clause-turned c = λ all k base r. let w = subst (IsReady all c.args.self.now k) c.in-Latest.is r in
    subst (λ (v : Ready). Turned c.args.self.now (act_on all (rows c.args.hall.now) c.args.self.now k) c.args.hall.now c.pin_latest.new.self v (taken.Pinned c.in-Ok.pin)) (sym c.in-Latest.is)
    (latest_turned all c.args.hall.now c.pin_latest.new.self c.args.self.now k c.requires.known w.0 w.1 c.in-Ok.pin c.in-Ok.ensures.pin
    (c.pin_latest.ensures.entry ∙ ap (λ (s : SessionState). noted c.args.hall.now s.number act.Latest None) c.self.view_is))

pub returns-in-Ok-pin_at-clause-turned : goal.returns-in-Ok-pin_at-clause-turned
returns-in-Ok-pin_at-clause-turned c = λ all k base r. let w = subst (IsReady all c.args.self.now k) c.in-At.is r in
    let le : c.in-At.number ≤ head_of c.args.hall.now = dite (dec_le c.in-At.number (head_of c.args.hall.now)) (λ le. le) (λ n. absurd (let e = c.in-Ok-pin_at.ensures.missing (lt_of_not-le n) in cc (e))) in
    subst (λ (v : Ready). Turned c.args.self.now (act_on all (rows c.args.hall.now) c.args.self.now k) c.args.hall.now c.pin_at.new.self v (taken.Pinned c.in-Ok-pin_at.pin)) (sym c.in-At.is)
    (at_turned all c.args.hall.now c.pin_at.new.self c.args.self.now k c.requires.known c.in-At.number w.0 w.1 c.in-Ok-pin_at.pin le (c.in-Ok-pin_at.ensures.pin le)
    (c.pin_at.ensures.entry ∙ ap (λ (s : SessionState). noted c.args.hall.now s.number (act.At c.in-At.number) None) c.self.view_is))

pub returns-in-Err-NoVersion-clause-turned : goal.returns-in-Err-NoVersion-clause-turned
returns-in-Err-NoVersion-clause-turned c = λ all k base r. let w = subst (IsReady all c.args.self.now k) c.in-At.is r in
    let lt : head_of c.args.hall.now < c.in-At.number = dite (dec_le c.in-At.number (head_of c.args.hall.now)) (λ le. absurd (let e = c.in-Err-NoVersion.ensures.memory le in cc (e, c.in-Err-NoVersion.field-0-is))) (λ n. lt_of_not-le n) in
    let head : head_of c.args.hall.now ≡ c.in-Err-NoVersion.head = let e = c.in-Err-NoVersion.ensures.missing lt in cc (e, c.in-Err-NoVersion.field-0-is) in
    subst (λ (v : Ready). Turned c.args.self.now (act_on all (rows c.args.hall.now) c.args.self.now k) c.args.hall.now c.pin_at.new.self v (taken.NoVersion c.in-Err-NoVersion.head)) (sym c.in-At.is)
    (subst (λ n. Turned c.args.self.now (act_on all (rows c.args.hall.now) c.args.self.now k) c.args.hall.now c.pin_at.new.self (ready.At c.in-At.number) (taken.NoVersion n)) head
    (at_missing all c.args.hall.now c.pin_at.new.self c.args.self.now k c.requires.known c.in-At.number w.0 w.1 lt
    (c.pin_at.ensures.entry ∙ ap (λ (s : SessionState). noted c.args.hall.now s.number (act.At c.in-At.number) None) c.self.view_is)))

pub returns-in-Ok-pin_latest-clause-turned : goal.returns-in-Ok-pin_latest-clause-turned
returns-in-Ok-pin_latest-clause-turned c = λ all k base r. let w = subst (IsReady all c.args.self.now k) c.in-Rebase.is r in
    subst (λ (v : Ready). Turned c.args.self.now (act_on all (rows c.args.hall.now) c.args.self.now k) c.args.hall.now c.pin_latest-in-Rebase.new.self v (taken.Rebase c.in-Ok-pin_latest.pin)) (sym c.in-Rebase.is)
    (rebase_turned all c.args.hall.now c.pin_latest-in-Rebase.new.self c.args.self.now k c.requires.known w.0 w.1 base c.is_chain.ensures c.in-Ok-pin_latest.pin c.in-Ok-pin_latest.ensures.pin
    (c.pin_latest-in-Rebase.ensures.entry ∙ ap (λ (s : SessionState). noted c.args.hall.now s.number act.Latest None) c.self.view_is))

pub publish-requires-clause-base : goal.publish-requires-clause-base
publish-requires-clause-base c =
    let row : RowState = arc_value c.in-Some.held.pin.row in
    let pin : c.args.self.now.pin ≡ Some (c.in-Some.held.pin.number, row) = sym (ap (λ (s : SessionState). s.pin) c.self.view_is) ∙ ap (option_map (λ (h : Held). (h.pin.number, arc_value h.pin.row))) c.in-Some.is in
    within c.args.hall.now c.in-Some.held.pin.number row (subst (λ (p : Option (ℕ × RowState)). MatchOption p ⊤ (λ q. slice_get (rows c.args.hall.now) q.0 ≡ Some q.1)) pin c.requires.known)

pub returns-in-Ok-publish-clause-entry : goal.returns-in-Ok-publish-clause-entry
returns-in-Ok-publish-clause-entry c =
    let row : RowState = arc_value c.in-Some.held.pin.row in
    let pin : c.args.self.now.pin ≡ Some (c.in-Some.held.pin.number, row) = sym (ap (λ (s : SessionState). s.pin) c.self.view_is) ∙ ap (option_map (λ (h : Held). (h.pin.number, arc_value h.pin.row))) c.in-Some.is in (
      published c.args.hall.now c.in-Some.held.pin.number (arc_value c.in-Publish.row),
      c.publish.ensures.entry ∙ (λ i. noted c.args.hall.now (ap (λ (s : SessionState). s.number) c.self.view_is i) (ap (λ (p : Option (ℕ × RowState)). act.Publish (base_number p)) (sym pin) i) (published c.args.hall.now c.in-Some.held.pin.number (arc_value c.in-Publish.row)))
          ∙ ap (λ (v : Ready). noted c.args.hall.now c.args.self.now.number (noted_act c.args.self.now v) (published c.args.hall.now c.in-Some.held.pin.number (arc_value c.in-Publish.row))) (sym c.in-Publish.is),
    )

pub returns-in-Ok-publish-clause-turned : goal.returns-in-Ok-publish-clause-turned
returns-in-Ok-publish-clause-turned c = λ all k base r. let w = subst (IsReady all c.args.self.now k) c.in-Publish.is r in
    let next : IsNext c.args.self.now (arc_value c.in-Publish.row) = w.3 in
    let pin : c.args.self.now.pin ≡ Some (c.in-Some.held.pin.number, arc_value c.in-Some.held.pin.row) = sym (ap (λ (s : SessionState). s.pin) c.self.view_is) ∙ ap (option_map (λ (h : Held). (h.pin.number, arc_value h.pin.row))) c.in-Some.is in
    let number : c.in-Some.held.pin.number ≡ next.number = same_base pin next.pin in
    subst (λ (v : Ready). Turned c.args.self.now (act_on all (rows c.args.hall.now) c.args.self.now k) c.args.hall.now c.publish.new.self v (taken.Published c.in-Ok-publish.number c.in-Publish.again)) (sym c.in-Publish.is)
    (published_turned all c.args.hall.now c.publish.new.self c.args.self.now k c.requires.known c.in-Publish.row c.in-Publish.again w.0 w.1 next w.2 c.in-Ok-publish.number
    (ap (answer_of (head_of c.args.hall.now)) (sym number) ∙ sym c.in-Ok-publish.ensures.answer)
    (c.publish.ensures.entry ∙ (λ i. noted c.args.hall.now (ap (λ (s : SessionState). s.number) c.self.view_is i) (act.Publish (number i)) (published c.args.hall.now (number i) (arc_value c.in-Publish.row)))))

pub returns-in-Err-Stale-clause-turned : goal.returns-in-Err-Stale-clause-turned
returns-in-Err-Stale-clause-turned c = λ all k base r. let w = subst (IsReady all c.args.self.now k) c.in-Publish.is r in
    let next : IsNext c.args.self.now (arc_value c.in-Publish.row) = w.3 in
    let pin : c.args.self.now.pin ≡ Some (c.in-Some.held.pin.number, arc_value c.in-Some.held.pin.row) = sym (ap (λ (s : SessionState). s.pin) c.self.view_is) ∙ ap (option_map (λ (h : Held). (h.pin.number, arc_value h.pin.row))) c.in-Some.is in
    let number : c.in-Some.held.pin.number ≡ next.number = same_base pin next.pin in
    subst (λ (v : Ready). Turned c.args.self.now (act_on all (rows c.args.hall.now) c.args.self.now k) c.args.hall.now c.publish.new.self v (taken.Stale c.in-Err-Stale.head)) (sym c.in-Publish.is)
    (stale_turned all c.args.hall.now c.publish.new.self c.args.self.now k c.requires.known c.in-Publish.row c.in-Publish.again w.0 w.1 next w.2 c.in-Err-Stale.head
    (ap (answer_of (head_of c.args.hall.now)) (sym number) ∙ (let e = c.in-Err-Stale.ensures.answer in cc (e, c.in-Err-Stale.field-0-is)))
    (c.publish.ensures.entry ∙ (λ i. noted c.args.hall.now (ap (λ (s : SessionState). s.number) c.self.view_is i) (act.Publish (number i)) (published c.args.hall.now (number i) (arc_value c.in-Publish.row)))))

pub returns-clause-turned : goal.returns-clause-turned
returns-clause-turned c = λ all k base r. let w = subst (IsReady all c.args.self.now k) c.in-Publish.is r in
    let next : IsNext c.args.self.now (arc_value c.in-Publish.row) = w.3 in
    let pin : c.args.self.now.pin ≡ Some (c.in-Some.held.pin.number, arc_value c.in-Some.held.pin.row) = sym (ap (λ (s : SessionState). s.pin) c.self.view_is) ∙ ap (option_map (λ (h : Held). (h.pin.number, arc_value h.pin.row))) c.in-Some.is in
    let number : c.in-Some.held.pin.number ≡ next.number = same_base pin next.pin in
    subst (λ (v : Ready). Turned c.args.self.now (act_on all (rows c.args.hall.now) c.args.self.now k) c.args.hall.now c.publish.new.self v taken.Full) (sym c.in-Publish.is)
    (full_turned all c.args.hall.now c.publish.new.self c.args.self.now k c.requires.known c.in-Publish.row c.in-Publish.again w.0 w.1 next w.2
    (ap (answer_of (head_of c.args.hall.now)) (sym number) ∙ (let e = c.in-Err-Full.ensures.answer in cc (e, c.in-Err-Full.field-0-is)))
    (c.publish.ensures.entry ∙ (λ i. noted c.args.hall.now (ap (λ (s : SessionState). s.number) c.self.view_is i) (act.Publish (number i)) (published c.args.hall.now (number i) (arc_value c.in-Publish.row)))))
