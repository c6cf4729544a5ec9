-- Scripts carried out by the definition. What stands for an analysis tells how many nets a netlist has.
use Rattle.std.specs.Prelude.{◌≡◌, ℕ, ◌==◌, if◌then◌else◌, true, List, [], ◌∷◌, length, codes, Option, Some, None}
use Rattle.netlist_model.specs.Circuit.{Circuit, nothing}
use Rattle.netlist_model.specs.declared.edits.Edit.TheVariants.{Net}
use Rattle.netlist_model.specs.declared.faults.StatementFault.TheVariants.{NameTaken}
use Rattle.session_script.specs.declared.calls.Call.{Call}
use Rattle.session_script.specs.declared.calls.Call.TheVariants as call
use Rattle.session_machine.specs.Machine as machine
use Rattle.session_machine.specs.Table.{Readings}
use Rattle.session_machine.specs.Versions.{Version}
use Rattle.session_machine.specs.Sessions.{Base, sessions}
use Rattle.session_machine.specs.declared.replies.Reply.{Reply}
use Rattle.session_machine.specs.declared.replies.Reply.TheVariants.{Pinned, Rebased, Published, Edited, Dropped, Draft, Refused}
use Rattle.session_machine.specs.declared.replies.Refusal.TheVariants.{NotPinned, DraftOpen, NoVersion, EmptyDraft, NoRoot, Stale, Edit, Statement, NoEvent, NoFork}

-- a netlist without nets
abbrev pub no_nets : Base
no_nets = record { library = []; netlist = nothing }

-- how many nets there are
abbrev pub counted : Circuit → Reply
counted c = Draft (length c.nets)

abbrev pub net_counts : Readings
net_counts = record { refusal = λ c. None; period = counted; cycle = counted; report = counted; arrival = λ c event. counted c; slack = λ c fork. counted c }

-- the same, but a netlist of two nets is no version's
abbrev pub two_refused : Readings
two_refused = record net_counts { refusal = λ c. if length c.nets == 2 then Some NoRoot else None }

-- the replies of each session along an order
abbrev pub told : List (List Call) → List ℕ → List (List Reply)
told scripts order = machine.replies (sessions net_counts no_nets) scripts order

-- what is published at each place of an order
abbrev pub given : List (List Call) → List ℕ → List (Option Version)
given scripts order = machine.published (sessions net_counts no_nets) scripts order

-- adds a net to the draft
abbrev pub adds : List ℕ → Call
adds name = call.Make (Net name)

-- adds a net, publishes, and does so once more on the newest version
abbrev pub twice : List ℕ → List Call
twice name = call.Pin ∷ adds name ∷ call.Publish ∷ call.Rebase ∷ call.Publish ∷ call.Period ∷ []

-- a session that publishes at once, and then has nothing more to publish
abbrev pub first_replies : List Reply
first_replies = Pinned 0 ∷ Edited 1 ∷ Published 1 ∷ Rebased 1 ∷ Refused EmptyDraft ∷ Draft 1 ∷ []

-- a session that comes too late, and publishes on the newest version
abbrev pub later_replies : List Reply
later_replies = Pinned 0 ∷ Edited 1 ∷ Refused (Stale 1) ∷ Rebased 1 ∷ Published 2 ∷ Draft 2 ∷ []

-- whoever comes first, the other comes too late
abbrev pub TakeTurns : Type 0
TakeTurns =
    (told (twice (codes "A") ∷ twice (codes "B") ∷ []) (1 ∷ 2 ∷ 1 ∷ 2 ∷ 1 ∷ 2 ∷ 1 ∷ 2 ∷ []) ≡ first_replies ∷ later_replies ∷ [])
    × (told (twice (codes "A") ∷ twice (codes "B") ∷ []) (2 ∷ 1 ∷ 2 ∷ 1 ∷ 2 ∷ 1 ∷ 2 ∷ 1 ∷ []) ≡ later_replies ∷ first_replies ∷ [])
    × (given (twice (codes "A") ∷ twice (codes "B") ∷ []) (1 ∷ 2 ∷ 1 ∷ 2 ∷ 1 ∷ 2 ∷ 1 ∷ 2 ∷ [])
    ≡ None ∷ None ∷ Some (Net (codes "A") ∷ []) ∷ None ∷ None ∷ None ∷ None ∷ Some (Net (codes "B") ∷ []) ∷ [])

-- queries are of the pinned version, without the draft
abbrev pub QueriesArePinned : Type 0
QueriesArePinned =
    told ((call.Pin ∷ call.Period ∷ adds (codes "A") ∷ call.Period ∷ call.Publish ∷ call.Period ∷ call.PinAt 0 ∷ call.Period ∷ []) ∷ []) (1 ∷ 1 ∷ 1 ∷ [])
    ≡ (Pinned 0 ∷ Draft 0 ∷ Edited 1 ∷ Draft 0 ∷ Published 1 ∷ Draft 1 ∷ Pinned 0 ∷ Draft 0 ∷ []) ∷ []

-- a refused rebase leaves the draft, and the pin of before
abbrev pub RebaseIsRefused : Type 0
RebaseIsRefused =
    told ((call.Pin ∷ adds (codes "A") ∷ call.Publish ∷ []) ∷ (call.Pin ∷ adds (codes "B") ∷ adds (codes "A") ∷ call.Publish ∷ call.Rebase ∷ call.Draft ∷ call.Period ∷ call.Pin ∷ []) ∷ [])
    (1 ∷ 2 ∷ 1 ∷ 2 ∷ 2 ∷ 2 ∷ [])
    ≡ (Pinned 0 ∷ Edited 1 ∷ Published 1 ∷ []) ∷ (Pinned 0 ∷ Edited 1 ∷ Edited 2 ∷ Refused (Stale 1) ∷ Refused (Edit 2 NameTaken) ∷ Draft 2 ∷ Draft 0 ∷ Refused DraftOpen ∷ []) ∷ []

-- the calls of one session that are refused, and those that are not: of two refusals that hold the first is told
abbrev pub IsRefusedInOrder : Type 0
IsRefusedInOrder =
    told ((call.Period ∷ call.Publish ∷ call.Rebase ∷ call.Make (Net []) ∷ call.Drop ∷ call.PinAt 1 ∷ call.Pin ∷ call.Publish
    ∷ adds (codes "A") ∷ call.PinAt 1 ∷ adds (codes "A") ∷ call.Drop
    ∷ call.Arrival (record { net = codes "A"; rising = true }) ∷ call.Slack (codes "f") ∷ call.Draft ∷ []) ∷ []) (1 ∷ 1 ∷ 1 ∷ 1 ∷ 1 ∷ 1 ∷ [])
    ≡ (Refused NotPinned ∷ Refused NotPinned ∷ Refused NotPinned ∷ Refused NotPinned ∷ Dropped 0 ∷ Refused (NoVersion 0) ∷ Pinned 0 ∷ Refused EmptyDraft
    ∷ Edited 1 ∷ Refused DraftOpen ∷ Refused (Statement NameTaken) ∷ Dropped 1
    ∷ Refused NoEvent ∷ Refused NoFork ∷ Draft 0 ∷ []) ∷ []

-- a session whose pin is below the newest version is told first of its empty draft, and of what its netlist lacks
abbrev pub StaleIsToldLast : Type 0
StaleIsToldLast =
    machine.replies (sessions two_refused no_nets)
    ((call.Pin ∷ adds (codes "A") ∷ call.Publish ∷ []) ∷ (call.Pin ∷ call.Publish ∷ adds (codes "B") ∷ adds (codes "C") ∷ call.Publish ∷ call.Drop ∷ adds (codes "B") ∷ call.Publish ∷ []) ∷ [])
    (2 ∷ 1 ∷ 1 ∷ 2 ∷ 2 ∷ 2 ∷ [])
    ≡ (Pinned 0 ∷ Edited 1 ∷ Published 1 ∷ []) ∷ (Pinned 0 ∷ Refused EmptyDraft ∷ Edited 1 ∷ Edited 2 ∷ Refused NoRoot ∷ Dropped 2 ∷ Edited 1 ∷ Refused (Stale 1) ∷ []) ∷ []
