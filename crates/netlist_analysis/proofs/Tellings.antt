-- What is told of each netlist.
use Rattle.std.proofs.Common.{◌≡◌, List, Err}
use Rattle.cell_arcs.specs.IsLibrary.{IsLibrary}
use Rattle.cell_arcs.specs.declared.cells.Cell.{Cell}
use Rattle.netlist_model.specs.Circuit.{Circuit}
use Rattle.netlist_model.specs.Sound.{IsNetlist}
use Rattle.netlist_analysis.specs.declared.faults.NetlistFault.TheVariants.{Memory}
use Rattle.netlist_analysis.specs.Findings.{Finding, IsFinding, IsTelling}
use Rattle.netlist_analysis.proofs.Netlists.{decide_netlist}

-- the laws that tellings rest on
abbrev pub HaveFindings : Type 0
HaveFindings = (library : List Cell) (c : Circuit) → IsLibrary library → IsNetlist c → (finding : Finding) × IsFinding library c finding

abbrev pub FindingsAgree : Type 0
FindingsAgree = (library : List Cell) (c : Circuit) (finding other : Finding) → IsFinding library c finding → IsFinding library c other → finding ≡ other

pub telling : HaveFindings → (library : List Cell) → IsLibrary library → (tell : Circuit → Finding) × IsTelling library tell
telling found library is = ((λ c. tell c (decide_netlist c)), (λ c. right c (decide_netlist c)))
  where
    -- of what is no netlist anything may be told
    tell : (c : Circuit) → Dec (IsNetlist c) → Finding
    tell c (yes sound) = (found library c is sound).0
    tell c (no h) = Err Memory

    right : (c : Circuit) (d : Dec (IsNetlist c)) → IsNetlist c → IsFinding library c (tell c d)
    right c (yes sound) again = (found library c is sound).1
    right c (no h) sound = absurd (h sound)

pub tellings_same : FindingsAgree → (library : List Cell) (tell other : Circuit → Finding) → IsTelling library tell → IsTelling library other
    → (c : Circuit) → IsNetlist c → tell c ≡ other c
tellings_same one library tell other h k c is = one library c (tell c) (other c) (h c is) (k c is)
