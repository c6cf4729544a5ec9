-- The netlists of versions.
use Rattle.std.specs.Prelude.{◌≡◌, ⊤, ℕ, ◌-◌, List, [], ◌∷◌, length, slice_get, unwrap_or, Result, Ok, Err}
use Rattle.cell_arcs.specs.declared.cells.Cell.{Cell}
use Rattle.netlist_model.specs.Circuit.{Circuit, nothing}
use Rattle.netlist_model.specs.Edits.{edited}
use Rattle.netlist_model.specs.declared.edits.Edit.{Edit}
use Rattle.netlist_model.specs.declared.faults.EditFault.{EditFault}

-- a version is the list of edits that lead to it from the one before
abbrev pub Version : Type 0
Version = List Edit

-- what edits made, or what was there where one was refused
abbrev pub or_before : Circuit → Result Circuit EditFault → Circuit
or_before before (Ok c) = c
or_before before (Err e) = before

-- the netlist after edits in turn; as it was, if one is refused
abbrev pub after : List Cell → Circuit → List Edit → Circuit
after library c edits = or_before c (edited library edits c)

-- the netlist of version 0, and that of each version: the one before it after its edits
abbrev pub netlists : List Cell → Circuit → List Version → List Circuit
netlists library c [] = c ∷ []
netlists library c (v ∷ versions) = c ∷ netlists library (after library c v) versions

-- the number of the newest version
abbrev pub head_of : List Circuit → ℕ
head_of nets = length nets - 1

-- its netlist; there always is one
abbrev pub newest : List Circuit → Circuit
newest nets = unwrap_or (slice_get nets (head_of nets)) nothing

-- each version's edits are made, none of them refused, of the netlist before it, the first of c; and these are the netlists made
abbrev pub AreMade : List Cell → Circuit → List Version → List Circuit → Type 0
AreMade library c [] [] = ⊤
AreMade library c [] (d ∷ nets) = ⊥
AreMade library c (v ∷ versions) [] = ⊥
AreMade library c (v ∷ versions) (d ∷ nets) = (edited library v c ≡ Ok d) × AreMade library d versions nets
