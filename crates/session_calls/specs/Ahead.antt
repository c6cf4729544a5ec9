-- The pinned netlist after the draft, which a session keeps.
use Rattle.std.specs.Prelude.{◌≡◌, List, Option, Some, None, Result, Ok, Err, MatchOption, ⊤}
use Rattle.std.specs.Arc.{arc_value}
use Rattle.netlist_model.specs.Circuit.{Circuit}
use Rattle.netlist_model.specs.Edits.{made, edited}
use Rattle.netlist_model.specs.Sound.{Fits}
use Rattle.netlist_model.specs.declared.edits.Edit.{Edit}
use Rattle.netlist_model.specs.declared.faults.StatementFault.{StatementFault}
use Rattle.pinned_reader.specs.Rows.{RowState}
use Rattle.pinned_reader.specs.declared.queries.Pinned.{Pinned}
use Rattle.session_machine.specs.declared.replies.Refusal.{Refusal}
use Rattle.session_machine.specs.declared.replies.Refusal.TheVariants.{NotPinned, Statement}
use Rattle.session_calls.specs.declared.session.Held.{Held}

-- the row that is held
abbrev pub row_of : Held → RowState
row_of h = arc_value h.pin.row

-- the netlist ahead: the one that was edited, or where no edit was tried the row's
abbrev pub ahead_in : RowState → Option Circuit → Circuit
ahead_in row None = row.netlist
ahead_in row (Some c) = c

abbrev pub ahead_of : Held → Circuit
ahead_of h = ahead_in (row_of h) h.edited

-- the draft makes the netlist ahead of the pinned row's, and it fits the row's library
pub record IsAhead (draft : List Edit) (h : Held) : Type 0 where
  pub made : edited (row_of h).library draft (row_of h).netlist ≡ Ok (ahead_of h)
  pub fits : Fits (row_of h).library (ahead_of h).insts

-- so it is where something is held
abbrev pub HoldsAhead : List Edit → Option Held → Type 0
HoldsAhead draft held = MatchOption held ⊤ (IsAhead draft)

-- why an edit is refused, if it is, and what it leaves
abbrev pub edit_refusal : Result Circuit StatementFault → Option Refusal
edit_refusal (Ok c) = None
edit_refusal (Err fault) = Some (Statement fault)

abbrev pub edit_left : Circuit → Result Circuit StatementFault → Circuit
edit_left before (Ok c) = c
edit_left before (Err fault) = before

-- one more edit on the netlist ahead: where nothing is held it is refused for want of a pin
abbrev pub Tried : Edit → Option Held → Option Held → Option Refusal → Type 0
Tried e None None r = r ≡ Some NotPinned
Tried e None (Some k) r = ⊥
Tried e (Some h) None r = ⊥
Tried e (Some h) (Some k) r =
    (k.pin ≡ h.pin) × (r ≡ edit_refusal (made (row_of h).library (ahead_of h) e)) × (ahead_of k ≡ edit_left (ahead_of h) (made (row_of h).library (ahead_of h) e))

-- the netlist ahead is the pinned one again
abbrev pub Renewed : Option Held → Option Held → Type 0
Renewed None None = ⊤
Renewed None (Some k) = ⊥
Renewed (Some h) None = ⊥
Renewed (Some h) (Some k) = (k.pin ≡ h.pin) × (ahead_of k ≡ (row_of h).netlist) × Fits (row_of h).library (ahead_of k).insts

-- what is held is pinned at another row, and what was edited stays
abbrev pub Moved : Pinned → Option Held → Option Held → Type 0
Moved pin None None = ⊤
Moved pin None (Some k) = ⊥
Moved pin (Some h) None = ⊥
Moved pin (Some h) (Some k) = (k.pin ≡ pin) × (k.edited ≡ h.edited)

-- the netlist ahead fits where something is held
abbrev pub FitsAhead : Option Held → Type 0
FitsAhead held = MatchOption held ⊤ (λ h. Fits (row_of h).library (ahead_of h).insts)
