-- What refusals and local calls leave.
use Rattle.std.proofs.Common.{◌≡◌, ℕ, ◌+◌, true, false, cond, List, Option, Some, None, Result, Ok, Err, refl, ap}
use Rattle.std.specs.Prelude.{nat_lt}
use Rattle.cell_arcs.specs.declared.cells.Cell.{Cell}
use Rattle.netlist_model.specs.Circuit.{Circuit}
use Rattle.netlist_model.specs.Edits.{made, edited}
use Rattle.netlist_model.specs.declared.edits.Edit.{Edit}
use Rattle.netlist_model.specs.declared.faults.EditFault.{EditFault}
use Rattle.netlist_model.specs.declared.faults.EditFault.TheVariants as edits
use Rattle.netlist_model.specs.declared.faults.StatementFault.{StatementFault}
use Rattle.session_script.specs.Calls.{is_shared}
use Rattle.session_script.specs.declared.calls.Call.{Call}
use Rattle.session_script.specs.declared.calls.Call.TheVariants as call
use Rattle.session_machine.specs.Versions.{after, netlists, head_of, newest}
use Rattle.session_machine.specs.Table.{Readings, Holding, Act, only_replies, refuses, unless_refused, pinned, pinned_at, edit_added, rebased, new_version, publish, is_at, version_limit, blocked, in_turn, local, act}
use Rattle.session_machine.specs.Sessions.{sessions, RefusalsChangeNothing, LocalsPublishNothing, SessionsAreOneOrder}
use Rattle.session_machine.specs.declared.replies.Reply.TheVariants.{Pinned, Refused}
use Rattle.session_machine.specs.declared.replies.Refusal.{Refusal}
use Rattle.session_machine.specs.declared.replies.Refusal.TheVariants.{NoVersion, Stale, Full}
use Rattle.session_machine.proofs.Law.{all_alone}

-- the session is as it was, and nothing is published
abbrev IsSame : Holding → Act → Type 0
IsSame has m = (m.has ≡ has) × (m.gives ≡ None)

module _ (has : Holding) (refusal : Refusal) where
  unless_same : (fault : Option Refusal) (m : Act) → (m.reply ≡ Refused refusal → IsSame has m) → (unless_refused fault has m).reply ≡ Refused refusal → IsSame has (unless_refused fault has m)
  unless_same None m same h = same h
  unless_same (Some f) m same h = (refl, refl)

  added_same : (e : Edit) (r : Result Circuit StatementFault) → (edit_added has e r).1 ≡ Refused refusal → (edit_added has e r).0 ≡ has
  added_same e (Ok c) h = absurd (cc)
  added_same e (Err fault) h = refl

  rebased_same : (head : ℕ) (r : Result Circuit EditFault) → (rebased has head r).reply ≡ Refused refusal → IsSame has (rebased has head r)
  rebased_same head (Ok c) h = absurd (cc)
  rebased_same head (Err (edits.At n fault)) h = (refl, refl)
  rebased_same head (Err edits.Memory) h = (refl, refl)

  publish_same : (head : ℕ) → (publish head has).reply ≡ Refused refusal → IsSame has (publish head has)
  publish_same head = elim (is_at head has.pin) as (λ b. let m = cond b (cond (nat_lt (head + 1) version_limit) (new_version has (head + 1)) (refuses has Full)) (refuses has (Stale head)) in m.reply ≡ Refused refusal → IsSame has m) [
    | true ↦ elim (nat_lt (head + 1) version_limit) as (λ b. let m = cond b (new_version has (head + 1)) (refuses has Full) in m.reply ≡ Refused refusal → IsSame has m) [
      | true ↦ λ h. absurd (cc)
      | false ↦ λ h. (refl, refl)
    ]
    | false ↦ λ h. (refl, refl)
  ]

  number_same : (nets : List Circuit) (n : ℕ) → let m = cond (nat_lt (head_of nets) n) (refuses has (NoVersion (head_of nets))) (only_replies (pinned_at has n) (Pinned n)) in m.reply ≡ Refused refusal → IsSame has m
  number_same nets n = elim (nat_lt (head_of nets) n) as (λ b. let m = cond b (refuses has (NoVersion (head_of nets))) (only_replies (pinned_at has n) (Pinned n)) in m.reply ≡ Refused refusal → IsSame has m) [
    | true ↦ λ h. (refl, refl)
    | false ↦ λ h. absurd (cc)
  ]

  module _ (library : List Cell) (readings : Readings) where
    local_same : (net : Option Circuit) (c : Call) → (local library readings net has c).1 ≡ Refused refusal → (local library readings net has c).0 ≡ has
    local_same None (call.Make e) h = refl
    local_same (Some c) (call.Make e) h = added_same e (made library (after library c has.draft) e) h
    local_same net call.Drop h = absurd (cc)
    local_same net call.Draft h = refl
    local_same net call.Period h = refl
    local_same net call.Cycle h = refl
    local_same net (call.Arrival event) h = refl
    local_same net (call.Slack fork) h = refl
    local_same net call.Report h = refl
    local_same net call.Pin h = refl
    local_same net (call.PinAt n) h = refl
    local_same net call.Rebase h = refl
    local_same net call.Publish h = refl

    turn_same : (nets : List Circuit) (c : Call) → (in_turn library readings nets has c).reply ≡ Refused refusal → IsSame has (in_turn library readings nets has c)
    turn_same nets call.Pin h = absurd (cc)
    turn_same nets (call.PinAt n) h = number_same nets n h
    turn_same nets call.Rebase h = rebased_same (head_of nets) (edited library has.draft (newest nets)) h
    turn_same nets call.Publish h = publish_same (head_of nets) h
    turn_same nets (call.Make e) h = (refl, refl)
    turn_same nets call.Drop h = (refl, refl)
    turn_same nets call.Draft h = (refl, refl)
    turn_same nets call.Period h = (refl, refl)
    turn_same nets call.Cycle h = (refl, refl)
    turn_same nets (call.Arrival event) h = (refl, refl)
    turn_same nets (call.Slack fork) h = (refl, refl)
    turn_same nets call.Report h = (refl, refl)

    act_same : (nets : List Circuit) (c : Call) → (act library readings nets has c).reply ≡ Refused refusal → IsSame has (act library readings nets has c)
    act_same nets c =
        let net = pinned nets has in
        let done = local library readings net has c in
        let turn = in_turn library readings nets has c in
        let stop = blocked library readings net has.draft c in
        elim (is_shared c) as (λ b. let m = cond b (unless_refused stop has turn) (only_replies done.0 done.1) in m.reply ≡ Refused refusal → IsSame has m) [
          | true ↦ unless_same stop turn (turn_same nets c)
          | false ↦ λ h. (local_same net c h, refl)
        ]

pub refusals_change_nothing : RefusalsChangeNothing
refusals_change_nothing readings base versions has c refusal h = act_same has refusal base.library readings (netlists base.library base.netlist versions) c h

pub locals_publish_nothing : LocalsPublishNothing
locals_publish_nothing readings base versions has c is =
    let nets = netlists base.library base.netlist versions in
    let net = pinned nets has in
    let done = local base.library readings net has c in
    ap (λ b. (cond b (unless_refused (blocked base.library readings net has.draft c) has (in_turn base.library readings nets has c)) (only_replies done.0 done.1)).gives) is

pub sessions_are_one_order : SessionsAreOneOrder
sessions_are_one_order readings base = all_alone (sessions readings base) (locals_publish_nothing readings base)
