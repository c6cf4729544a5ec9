-- The machine of sessions over a base, and what holds of it.
use Rattle.std.specs.Prelude.{◌≡◌, ℕ, List, ◌∷◌, ◌++◌, slice_get, Some, None}
use Rattle.cell_arcs.specs.declared.cells.Cell.{Cell}
use Rattle.netlist_model.specs.Circuit.{Circuit}
use Rattle.session_script.specs.Calls.{is_shared}
use Rattle.session_script.specs.declared.calls.Call.{Call}
use Rattle.session_machine.specs.Machine.{Machine, versions_in, opening, run}
use Rattle.session_machine.specs.Laws.{IsQuiet, IsOneOrder}
use Rattle.session_machine.specs.Versions.{Version, netlists, AreMade}
use Rattle.session_machine.specs.Table.{Readings, Holding, fresh, act}
use Rattle.session_machine.specs.declared.replies.Reply.{Reply}
use Rattle.session_machine.specs.declared.replies.Reply.TheVariants.{Refused}
use Rattle.session_machine.specs.declared.replies.Refusal.{Refusal}

-- what sessions start from: a library, and the netlist of version 0
pub record Base : Type 0 where
  pub library : List Cell
  pub netlist : Circuit

-- each call is carried out over the netlists of all versions, found again from their edits
abbrev pub sessions : Readings → Base → Machine Call Reply Holding Version
sessions readings base = record {
  shared = is_shared;
  step = λ versions has call. act base.library readings (netlists base.library base.netlist versions) has call;
  fresh = fresh;
}

-- a call that is refused leaves its session as it was, and publishes nothing
abbrev pub RefusalsChangeNothing : Type 0
RefusalsChangeNothing = (readings : Readings) (base : Base) (versions : List Version) (has : Holding) (call : Call) (refusal : Refusal)
    → ((sessions readings base).step versions has call).reply ≡ Refused refusal
    → (((sessions readings base).step versions has call).has ≡ has) × (((sessions readings base).step versions has call).gives ≡ None)

-- no local call publishes, whatever is read of the analyses
abbrev pub LocalsPublishNothing : Type 0
LocalsPublishNothing = (readings : Readings) (base : Base) → IsQuiet (sessions readings base)

-- so the machine of sessions is what each session is alone
abbrev pub SessionsAreOneOrder : Type 0
SessionsAreOneOrder = (readings : Readings) (base : Base) → IsOneOrder (sessions readings base)

-- no edit of a version is refused, whatever calls are made: each version is made of the one before, and so its netlist is found again
abbrev pub VersionsAreMade : Type 0
VersionsAreMade = (readings : Readings) (base : Base) (calls : List (ℕ × Call)) →
    let versions = versions_in (run (sessions readings base) (opening (sessions readings base)) calls) in
    (nets : List Circuit) × AreMade base.library base.netlist versions nets × (netlists base.library base.netlist versions ≡ base.netlist ∷ nets)

-- versions that are made have the netlists that they make
abbrev pub MadeVersionsHaveNetlists : Type 0
MadeVersionsHaveNetlists = (library : List Cell) (c : Circuit) (versions : List Version) (nets : List Circuit) → AreMade library c versions nets → netlists library c versions ≡ c ∷ nets

-- the netlist of a version stays the same, whatever versions come
abbrev pub NetlistsStay : Type 0
NetlistsStay = (library : List Cell) (c d : Circuit) (versions more : List Version) (number : ℕ) →
    slice_get (netlists library c versions) number ≡ Some d → slice_get (netlists library c (versions ++ more)) number ≡ Some d
