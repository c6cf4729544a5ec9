-- What is read is accepted, or refused.
use Rattle.std.proofs.Common.{◌≡◌, ◌≢◌, List, Result, Ok, Err, refl, ap, inl, inr}
use Rattle.cyc_port.specs.Seen.{Seen}
use Rattle.cell_arcs.specs.declared.cells.Cell.{Cell}
use Rattle.netlist_model.specs.Circuit.{Circuit}
use Rattle.netlist_model.specs.declared.faults.WholeFault.{WholeFault}
use Rattle.netlist_model.specs.declared.faults.WholeFault.TheVariants as whole
use Rattle.analysis.specs.declared.analyses.Analysis.{Analysis}
use Rattle.netlist_analysis.specs.Findings.{IsFinding, IsNetlistAnalysis, IsNetlistFault}
use Rattle.netlist_analysis.specs.declared.faults.NetlistFault.{NetlistFault}
use Rattle.netlist_analysis.specs.declared.faults.NetlistFault.TheVariants as net
use Rattle.pinned_reader.specs.Rows.{RowState, IsRow}
use Rattle.query_replies.specs.Served.{base_of}
use Rattle.report_writer.specs.NetlistLines.{netlist_line, whole_line}
use Rattle.report_writer.specs.declared.faults.FaultLine.{FaultLine}
use Rattle.engine.specs.declared.faults.Fault.{Fault}
use Rattle.engine.specs.declared.faults.Fault.TheVariants.{Line, Memory}
use Rattle.engine.specs.Courses.{Course, IsRefusal}
use Rattle.engine.specs.Files.{accepted, analysed, base_analysed}
use Rattle.engine.specs.Steps.{Passes, Stops}

-- a value that was read is passed
pub accepts : {A E : Type 0} (line : E → FaultLine) {r : Result A E} {value : A} → r ≡ Ok value → (seen : Seen) → Passes seen seen (λ next. accepted line next r) value
accepts line same seen = record { to = λ next. record { go = λ end later answer comes. rw same comes } }

-- what refuses stops the run
pub refuses : {A E : Type 0} (line : E → FaultLine) {r : Result A E} {e : E} → r ≡ Err e → IsRefusal (line e) → (seen : Seen)
    → Stops seen seen (λ next. accepted line next r) (Line (line e))
refuses line same is seen = record { at = λ next. inr (rw same (is, refl)) }

-- so does want of memory
pub wants : {A : Type 0} {way : (A → Course) → Course} (seen : Seen) → Stops seen seen way Memory
wants seen = record { at = λ next. inl refl }

-- the line of a netlist that has no analysis is a refusal
whole_is : (c : Circuit) (fault : WholeFault) → IsRefusal (whole_line c fault)
whole_is c (whole.Undriven position) = (tt, tt)
whole_is c whole.NoRoot = (tt, tt)
whole_is c (whole.IdleTick position) = (tt, tt)
whole_is c (whole.TooManyRules count) = (tt, tt)

pub fault_is : (library : List Cell) (c : Circuit) (fault : NetlistFault) → IsNetlistFault library c fault → IsRefusal (netlist_line c fault)
fault_is library c (net.Whole fault) is = whole_is c fault
fault_is library c (net.Unreached event) is = (tt, tt)
fault_is library c (net.NoReturn event) is = (tt, tt)
fault_is library c (net.Dead events) is = (tt, tt)
fault_is library c net.Memory is = absurd is

-- an analysis that is found is passed
pub analysis_passes : {library : List Cell} {c : Circuit} {analysis : Analysis} → IsFinding library c (Ok analysis) → (seen : Seen)
    → Passes seen seen (analysed library c) analysis
analysis_passes {analysis = analysis} is seen = record { to = λ next. record { go = λ end later answer comes. (Ok analysis, is, comes) } }

-- a netlist that has none stops the run
pub analysis_stops : (library : List Cell) (c : Circuit) (fault : NetlistFault) (result : Fault)
    → (result ≢ Memory → (fault ≢ net.Memory) × (result ≡ Line (netlist_line c fault))) → (fault ≢ net.Memory → IsFinding library c (Err fault))
    → (seen : Seen) → Stops seen seen (analysed library c) result
analysis_stops library c fault Memory told found seen = record { at = λ next. inl refl }
analysis_stops library c fault (Line line) told found seen =
    let other : Line line ≢ Memory = λ same. cc in
    let line_is = told other in
    let is : IsNetlistFault library c fault = found line_is.0 in
    record { at = λ next. inr (Err fault, is, (fault_is library c fault is, ap Err line_is.1)) }

-- sessions start from the row of a netlist that was analysed
pub base_passes : {library : List Cell} {c : Circuit} {row : RowState} → row.library ≡ library → row.netlist ≡ c → IsRow row → (seen : Seen)
    → Passes seen seen (base_analysed library c) (base_of row.library row.netlist)
base_passes {library = library} {c = c} {row = row} same_library same_netlist is seen = record {
  to = λ next. record {
    go = λ end later answer comes.
        let right : IsNetlistAnalysis library c row.analysis = rw (same_library, same_netlist) at is.analysis in
        (Ok row.analysis, right, rw (same_library, same_netlist) at comes);
  };
}

-- and from none where it has no analysis
pub base_stops : (library : List Cell) (c : Circuit) (fault : NetlistFault) (result : Fault)
    → (result ≢ Memory → (fault ≢ net.Memory) × (result ≡ Line (netlist_line c fault))) → (fault ≢ net.Memory → IsFinding library c (Err fault))
    → (seen : Seen) → Stops seen seen (base_analysed library c) result
base_stops library c fault result told found seen = record { at = λ next. (analysis_stops library c fault result told found seen).at (λ analysis. next (base_of library c)) }
