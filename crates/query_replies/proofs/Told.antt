-- What is read of the analysis of a row's netlist is read of the row's.
use Rattle.std.proofs.Common.{◌≡◌, ℕ, ℤ, List, Option, Some, None, Ok, refl, sym, ap, ◌∙◌, subst}
use Rattle.std.specs.Prelude.{option_map}
use Rattle.cell_arcs.specs.declared.cells.Cell.{Cell}
use Rattle.netlist_model.specs.Circuit.{Circuit}
use Rattle.analysis.specs.declared.analyses.Analysis.{Analysis}
use Rattle.netlist_analysis.specs.Findings.{Finding, IsFinding}
use Rattle.session_machine.specs.Table.{found}
use Rattle.session_machine.specs.declared.replies.Reply.{Reply}
use Rattle.session_machine.specs.declared.replies.Refusal.{Refusal}
use Rattle.pinned_reader.specs.Rows.{RowState, IsRow}
use Rattle.pinned_reader.specs.Queries.{OfAnalysis}
use Rattle.query_replies.specs.Readings.{told_or}

abbrev pub IsUnique : Type 0
IsUnique = (library : List Cell) (c : Circuit) (finding other : Finding) → IsFinding library c finding → IsFinding library c other → finding ≡ other

pub of_row : IsUnique → (row : RowState) → IsRow row → (P : Analysis → Type 0) → OfAnalysis row P → P row.analysis
of_row unique row is P o =
    let e = unique row.library row.netlist (Ok o.analysis) (Ok row.analysis) o.right is.analysis in
    let same : o.analysis ≡ row.analysis = cc in
    subst P same o.held

-- what was found by its name is replied
pub replied : (missing : Refusal) (time : ℕ → ℤ) (reply : ℤ → Reply) (at : Option ℕ) → told_or missing reply (option_map time at) ≡ found missing (λ n. reply (time n)) at
replied missing time reply None = refl
replied missing time reply (Some n) = refl
