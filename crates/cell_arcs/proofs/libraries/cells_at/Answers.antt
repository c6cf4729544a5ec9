use Rattle.std.proofs.Common.{◌<◌, ◌≤◌, arith}
use Rattle.std.proofs.lemmas.Result.{IfOk-weaker}
use Rattle.cell_arcs.specs.Library.{member_count}
use Rattle.cell_arcs.specs.IsLibrary.{IsLibrary, AreCells}
use Rattle.toml.specs.View.{table_view}
use Rattle.cell_arcs.proofs.Documents.{no_cells, library_from, too_many, few_enough, table_keys, member_count-view}
use Rattle.cell_arcs.proofs.libraries.cells_at.Goals as goal

pub returns-in_default-clause-library : goal.returns-in_default-clause-library
returns-in_default-clause-library c = rw c.new.ensures.items no_cells

pub returns-then-len-gt-MOST_CELLS-clause-answer : goal.returns-then-len-gt-MOST_CELLS-clause-answer
returns-then-len-gt-MOST_CELLS-clause-answer c = λ _.
    let many : 1024 < member_count (table_view c.in-Some-as_table.table.now) = omega (arith, member_count-view c.in-Some-as_table.table.now.entries, c.len.ensures.len) in
    rw c.in-Some.is (too_many _ _ (rw c.in-Some-as_table.is at c.as_table.ensures) many)

pub returns-clause-library : goal.returns-clause-library
returns-clause-library c =
    let few : member_count (table_view c.in-Some-as_table.table.now) ≤ 1024 = omega (arith, member_count-view c.in-Some-as_table.table.now.entries, c.len.ensures.len) in
    IfOk-weaker c.cells_of.result (λ v. AreCells (table_view c.in-Some-as_table.table.now) v.items) (λ v. IsLibrary v.items) (λ v a. library_from _ v.items few a) c.cells_of.ensures.library

pub returns-clause-answer : goal.returns-clause-answer
returns-clause-answer c =
    let few : member_count (table_view c.in-Some-as_table.table.now) ≤ 1024 = omega (arith, member_count-view c.in-Some-as_table.table.now.entries, c.len.ensures.len) in
    rw (c.in-Some.is, few_enough _ _ (rw c.in-Some-as_table.is at c.as_table.ensures) few) c.cells_of.ensures.answer

pub returns-then-len-gt-MOST_CELLS-clause-by_name : goal.returns-then-len-gt-MOST_CELLS-clause-by_name
returns-then-len-gt-MOST_CELLS-clause-by_name c =
    rw c.in-Some.is (table_keys _ c.in-Some-as_table.table.now.entries (rw c.in-Some-as_table.is at c.as_table.ensures) c.len.ensures.ordered)

pub returns-clause-by_name : goal.returns-clause-by_name
returns-clause-by_name c =
    rw c.in-Some.is (table_keys _ c.in-Some-as_table.table.now.entries (rw c.in-Some-as_table.is at c.as_table.ensures) c.len.ensures.ordered)
