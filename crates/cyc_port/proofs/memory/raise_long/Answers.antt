use Rattle.std.proofs.Common.{◌≡◌, ℕ, get_or, arith, ap, ◌∙◌, set}
use Rattle.cyc_port.specs.Counts.{raised}
use Rattle.cyc_port.proofs.CountLemmas.{raised-is}
use Rattle.cyc_port.specs.Rows.{with_long}
use Rattle.cyc_port.specs.declared.memory.NamedFile.{NamedFile}
use Rattle.cyc_port.proofs.Shelves.{file_of-none, change_first-none, change_first-found}
use Rattle.cyc_port.proofs.memory.raise_long.Goals as goal

pub returns-in_default : goal.returns-in_default
returns-in_default c =
    change_first-none with_long c.args.name.now c.args.files.now (file_of-none c.args.name.now c.args.files.now c.in_default.ensures)

pub returns-in-Some : goal.returns-in-Some
returns-in-Some c =
    let files = c.args.files.now in
    let file = get_or files c.in-Some.at c.index-files-at.result in
    let is : file ≡ get_or files c.in-Some.at file = ap (λ (f : NamedFile). get_or files c.in-Some.at f) c.index-files-at.is in
    let count : c.saturating_add-file.result ≡ raised file.long = raised-is file.long c.saturating_add-file.result (omega arith) c.saturating_add-file.ensures in
    ap (λ (n : ℕ). set files c.in-Some.at (record { name = file.name; bytes = file.bytes; faults = file.faults; long = n })) count
    ∙ change_first-found with_long c.args.name.now file files c.in-Some.at c.in-Some.ensures is
