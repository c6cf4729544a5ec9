-- A session over the rows of a hall.
use Rattle.std.specs.Prelude.{◌≡◌, ℕ, List, [], ◌∷◌, map, Option, Some, None, slice_get, option_map, MatchOption, Ok, Err, ⊤}
use Rattle.cell_arcs.specs.declared.cells.Cell.{Cell}
use Rattle.netlist_model.specs.Circuit.{Circuit}
use Rattle.netlist_model.specs.declared.edits.Edit.{Edit}
use Rattle.netlist_analysis.specs.Findings.{Finding}
use Rattle.netlist_analysis.specs.declared.faults.NetlistFault.TheVariants as net
use Rattle.session_script.specs.declared.calls.Call.{Call}
use Rattle.session_machine.specs.Table.{Holding, local, act, Act}
use Rattle.session_machine.specs.declared.replies.Reply.{Reply}
use Rattle.version_store.specs.declared.state.HallState.{HallState}
use Rattle.version_store.specs.Halls.{rows_of}
use Rattle.pinned_reader.specs.Rows.{RowState}
use Rattle.query_replies.specs.Readings.{Analyses, readings, readings_in}

-- what contracts see of a session: its number, the number and the row of its pin, and the edits of its draft
pub record SessionState : Type 0 where
  pub number : ℕ
  pub pin : Option (ℕ × RowState)
  pub draft : List Edit

-- what the machine knows of a session
abbrev pub holding_of : SessionState → Holding
holding_of s = record { pin = option_map (λ p. p.0) s.pin; draft = s.draft }

-- the netlist that it has pinned
abbrev pub net_of : SessionState → Option Circuit
net_of s = option_map (λ p. p.1.netlist) s.pin

-- the library of a pinned row
abbrev pub library_at : Option (ℕ × RowState) → List Cell
library_at None = []
library_at (Some p) = p.1.library

-- what the analysis of the pinned row's netlist found
abbrev pub finding_at : Option (ℕ × RowState) → Finding
finding_at None = Err net.Memory
finding_at (Some p) = Ok p.1.analysis

-- a local call, where nothing but the analysis of the pinned row is known
abbrev pub alone : SessionState → Call → Holding × Reply
alone s call = local (library_at s.pin) (readings (library_at s.pin) (λ c. finding_at s.pin)) (net_of s) (holding_of s) call

-- the pinned row is over the library whose analyses are known
abbrev pub IsOver : Analyses → SessionState → Type 0
IsOver all s = MatchOption s.pin ⊤ (λ p. p.1.library ≡ all.library)

-- a local call, by the machine
abbrev pub local_by : Analyses → SessionState → Call → Holding × Reply
local_by all s call = local all.library (readings_in all) (net_of s) (holding_of s) call

-- the rows of a hall, the base first
abbrev pub rows : HallState RowState → List RowState
rows h = h.base ∷ rows_of h.items

-- their netlists
abbrev pub nets : List RowState → List Circuit
nets rows = map (λ r. r.netlist) rows

-- the pinned row stands at its number in these rows
abbrev pub Knows : List RowState → SessionState → Type 0
Knows rows s = MatchOption s.pin ⊤ (λ p. slice_get rows p.0 ≡ Some p.1)

-- a call by the machine, where these rows stand
abbrev pub act_on : Analyses → List RowState → SessionState → Call → Act
act_on all rows s call = act all.library (readings_in all) (nets rows) (holding_of s) call
