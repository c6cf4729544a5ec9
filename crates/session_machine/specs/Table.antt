-- What each call of a session does.
use Rattle.std.specs.Prelude.{ℕ, ◌+◌, ◌==◌, nat_lt, Bool, false, if◌then◌else◌, List, [], ◌∷◌, ◌++◌, length, slice_get, Option, Some, None, option_and_then, Result, Ok, Err}
use Rattle.cell_arcs.specs.declared.cells.Cell.{Cell}
use Rattle.netlist_model.specs.Circuit.{Circuit, event_of, fork_of}
use Rattle.netlist_model.specs.Edits.{made, edited}
use Rattle.netlist_model.specs.declared.edits.Edit.{Edit}
use Rattle.netlist_model.specs.declared.faults.EditFault.{EditFault}
use Rattle.netlist_model.specs.declared.faults.EditFault.TheVariants as edits
use Rattle.netlist_model.specs.declared.faults.StatementFault.{StatementFault}
use Rattle.netlist_model.specs.declared.faults.StatementFault.TheVariants as statement
use Rattle.session_script.specs.Calls.{is_shared}
use Rattle.session_script.specs.declared.calls.Call.{Call}
use Rattle.session_script.specs.declared.calls.Call.TheVariants as call
use Rattle.session_machine.specs.Machine.{Step}
use Rattle.session_machine.specs.Versions.{Version, after, head_of, newest}
use Rattle.session_machine.specs.declared.replies.Reply.{Reply}
use Rattle.session_machine.specs.declared.replies.Reply.TheVariants.{Pinned, Rebased, Published, Edited, Dropped, Draft, Refused}
use Rattle.session_machine.specs.declared.replies.Refusal.{Refusal}
use Rattle.session_machine.specs.declared.replies.Refusal.TheVariants.{NotPinned, DraftOpen, NoVersion, EmptyDraft, Stale, Full, Statement, NoEvent, NoFork}
use Rattle.session_machine.specs.declared.replies.Refusal.TheVariants as why

-- the most versions, version 0 among them
abbrev pub version_limit : ℕ
version_limit = 256

-- what is read of the analysis of each netlist: why it is no version's, if it is none, and the replies to queries
pub record Readings : Type 0 where
  pub refusal : Circuit → Option Refusal
  pub period : Circuit → Reply
  pub cycle : Circuit → Reply
  pub report : Circuit → Reply
  -- of an event by its number
  pub arrival : Circuit → ℕ → Reply
  -- of a fork by its place
  pub slack : Circuit → ℕ → Reply

-- what a session has: the number of a version, or none, and the edits of its draft
pub record Holding : Type 0 where
  pub pin : Option ℕ
  pub draft : List Edit

-- a session at first
abbrev pub fresh : Holding
fresh = record { pin = None; draft = [] }

-- what a call does
abbrev pub Act : Type 0
Act = Step Reply Holding Version

-- the session has this then, and nothing is published
abbrev pub only_replies : Holding → Reply → Act
only_replies has reply = record { has = has; reply = reply; gives = None }

-- a refusal leaves the session as it was
abbrev pub refuses : Holding → Refusal → Act
refuses has refusal = only_replies has (Refused refusal)

-- the refusal where there is one, else the act
abbrev pub unless_refused : Option Refusal → Holding → Act → Act
unless_refused (Some refusal) has act = refuses has refusal
unless_refused None has act = act

-- the session with another pin
abbrev pub pinned_at : Holding → ℕ → Holding
pinned_at has number = record { pin = Some number; draft = has.draft }

-- the netlist that a session has pinned
abbrev pub pinned : List Circuit → Holding → Option Circuit
pinned nets has = option_and_then (slice_get nets) has.pin

-- a draft with an edit is open
abbrev pub open_fault : List Edit → Option Refusal
open_fault [] = None
open_fault (e ∷ es) = Some DraftOpen

-- a session without a pin
abbrev pub pin_fault : Option Circuit → Option Refusal
pin_fault None = Some NotPinned
pin_fault (Some c) = None

-- the reply to a query: of what is pinned
abbrev pub query : (Circuit → Reply) → Option Circuit → Reply
query told None = Refused NotPinned
query told (Some c) = told c

-- the reply of what was found by its name
abbrev pub found : Refusal → (ℕ → Reply) → Option ℕ → Reply
found missing told None = Refused missing
found missing told (Some n) = told n

-- an edit at the end of the draft
abbrev pub edit_added : Holding → Edit → Result Circuit StatementFault → Holding × Reply
edit_added has e (Ok c) = (record { pin = has.pin; draft = has.draft ++ e ∷ [] }, Edited (length has.draft + 1))
edit_added has e (Err fault) = (has, Refused (Statement fault))

-- the draft on the newest version; no edits are refused for want of memory
abbrev pub rebased : Holding → ℕ → Result Circuit EditFault → Act
rebased has head (Ok c) = only_replies (pinned_at has head) (Rebased head)
rebased has head (Err (edits.At n fault)) = refuses has (why.Edit n fault)
rebased has head (Err edits.Memory) = refuses has (why.Edit 0 statement.Memory)

-- the draft as a new version
abbrev pub new_version : Holding → ℕ → Act
new_version has number = record { has = record { pin = Some number; draft = [] }; reply = Published number; gives = Some has.draft }

-- whether the pin is this number
abbrev pub is_at : ℕ → Option ℕ → Bool
is_at number None = false
is_at number (Some pin) = pin == number

-- a publish of a draft that nothing blocked: on the newest version, while there may be more
abbrev pub publish : ℕ → Holding → Act
publish head has =
    if is_at head has.pin
    then (if nat_lt (head + 1) version_limit then new_version has (head + 1) else refuses has Full)
    else refuses has (Stale head)

module _ (library : List Cell) (readings : Readings) where
  -- an empty draft is no version, nor is one whose netlist is refused
  abbrev pub draft_fault : Circuit → List Edit → Option Refusal
  draft_fault c [] = Some EmptyDraft
  draft_fault c (e ∷ es) = readings.refusal (after library c (e ∷ es))

  -- the first refusal of a shared call that holds whatever the newest version is
  abbrev pub blocked : Option Circuit → List Edit → Call → Option Refusal
  blocked net draft call.Pin = open_fault draft
  blocked net draft (call.PinAt n) = open_fault draft
  blocked net draft call.Rebase = pin_fault net
  blocked None draft call.Publish = Some NotPinned
  blocked (Some c) draft call.Publish = draft_fault c draft
  blocked net draft (call.Make e) = None
  blocked net draft call.Drop = None
  blocked net draft call.Draft = None
  blocked net draft call.Period = None
  blocked net draft call.Cycle = None
  blocked net draft (call.Arrival event) = None
  blocked net draft (call.Slack fork) = None
  blocked net draft call.Report = None

  -- a shared call that nothing blocked, over the netlists of all versions; the local calls have no row
  abbrev pub in_turn : List Circuit → Holding → Call → Act
  in_turn nets has call.Pin = only_replies (pinned_at has (head_of nets)) (Pinned (head_of nets))
  in_turn nets has (call.PinAt n) =
      if nat_lt (head_of nets) n then refuses has (NoVersion (head_of nets))
      else only_replies (pinned_at has n) (Pinned n)
  in_turn nets has call.Rebase = rebased has (head_of nets) (edited library has.draft (newest nets))
  in_turn nets has call.Publish = publish (head_of nets) has
  in_turn nets has (call.Make e) = refuses has NotPinned
  in_turn nets has call.Drop = refuses has NotPinned
  in_turn nets has call.Draft = refuses has NotPinned
  in_turn nets has call.Period = refuses has NotPinned
  in_turn nets has call.Cycle = refuses has NotPinned
  in_turn nets has (call.Arrival event) = refuses has NotPinned
  in_turn nets has (call.Slack fork) = refuses has NotPinned
  in_turn nets has call.Report = refuses has NotPinned

  -- a local call: what the session has then, and the reply; the shared calls have no row
  abbrev pub local : Option Circuit → Holding → Call → Holding × Reply
  local None has (call.Make e) = (has, Refused NotPinned)
  local (Some c) has (call.Make e) = edit_added has e (made library (after library c has.draft) e)
  local net has call.Drop = (record { pin = has.pin; draft = [] }, Dropped (length has.draft))
  local net has call.Draft = (has, Draft (length has.draft))
  local net has call.Period = (has, query readings.period net)
  local net has call.Cycle = (has, query readings.cycle net)
  local net has (call.Arrival event) = (has, query (λ c. found NoEvent (readings.arrival c) (event_of c.nets event)) net)
  local net has (call.Slack fork) = (has, query (λ c. found NoFork (readings.slack c) (fork_of c.forks fork)) net)
  local net has call.Report = (has, query readings.report net)
  local net has call.Pin = (has, Refused NotPinned)
  local net has (call.PinAt n) = (has, Refused NotPinned)
  local net has call.Rebase = (has, Refused NotPinned)
  local net has call.Publish = (has, Refused NotPinned)

  -- one call, over the netlists of all versions
  abbrev pub act : List Circuit → Holding → Call → Act
  act nets has c =
      if is_shared c
      then unless_refused (blocked (pinned nets has) has.draft c) has (in_turn nets has c)
      else (let done = local (pinned nets has) has c in only_replies done.0 done.1)
