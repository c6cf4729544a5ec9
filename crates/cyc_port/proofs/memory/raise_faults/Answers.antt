use Rattle.std.proofs.Common.{◌≡◌, ℕ, get_or, arith, ap, sym, ◌∙◌, is_some, set}
use Rattle.std.specs.declared.option.Option.{Option}
use Rattle.cyc_port.specs.Counts.{raised}
use Rattle.cyc_port.proofs.CountLemmas.{raised-is}
use Rattle.cyc_port.specs.Rows.{with_fault}
use Rattle.cyc_port.specs.declared.memory.NamedFile.{NamedFile}
use Rattle.cyc_port.proofs.Shelves.{file_of-none, file_of-found, change_first-none, change_first-found}
use Rattle.cyc_port.proofs.memory.raise_faults.Goals as goal

pub returns-in_default-clause-files : goal.returns-in_default-clause-files
returns-in_default-clause-files c =
    change_first-none with_fault c.args.name.now c.args.files.now (file_of-none c.args.name.now c.args.files.now c.in_default.ensures)

pub returns-in_default-clause-found : goal.returns-in_default-clause-found
returns-in_default-clause-found c =
    sym (ap (λ (found : Option NamedFile). is_some found) (file_of-none c.args.name.now c.args.files.now c.in_default.ensures))

pub returns-clause-files : goal.returns-clause-files
returns-clause-files c =
    let files = c.args.files.now in
    let file = get_or files c.in-Some.at c.index-files-at.result in
    let is : file ≡ get_or files c.in-Some.at file = ap (λ (f : NamedFile). get_or files c.in-Some.at f) c.index-files-at.is in
    let count : c.saturating_add-file.result ≡ raised file.faults = raised-is file.faults c.saturating_add-file.result (omega arith) c.saturating_add-file.ensures in
    ap (λ (n : ℕ). set files c.in-Some.at (record { name = file.name; bytes = file.bytes; faults = n; long = file.long })) count
    ∙ change_first-found with_fault c.args.name.now file files c.in-Some.at c.in-Some.ensures is

pub returns-clause-found : goal.returns-clause-found
returns-clause-found c =
    sym (ap (λ (found : Option NamedFile). is_some found) (file_of-found c.args.name.now c.index-files-at.result c.args.files.now c.in-Some.at c.in-Some.ensures c.index-files-at.is))
