use Rattle.std.proofs.Common.{◌≡◌, false, true, ap}
use Rattle.cell_arcs.specs.Steps.{or_fault}
use Rattle.cell_arcs.specs.declared.faults.LibraryFault.TheVariants.{BadToml}
use Rattle.cell_arcs.proofs.Documents.{document_read, document_refused}
use Rattle.cell_arcs.proofs.libraries.document_of.Goals as goal

pub returns-in-Ok : goal.returns-in-Ok
returns-in-Ok c = ap (or_fault BadToml) (document_read _ _ c.in-Ok.ensures.ok.0 c.in-Ok.ensures.ok.1)

pub returns-else-is_memory : goal.returns-else-is_memory
returns-else-is_memory c = λ _.
    ap (or_fault BadToml) (document_refused _ (λ u. c.in-Err.ensures.refused (λ m. let h : false ≡ true = c.if-is_memory.ensures.1 m in cc) u))
