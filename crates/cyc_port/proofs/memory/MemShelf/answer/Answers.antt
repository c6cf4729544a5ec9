use Rattle.std.proofs.Common.{◌≡◌, Some, false, ◌∙◌}
use Rattle.std.specs.Prelude.{◌==◌}
use Rattle.std.specs.List.{list_any}
use Rattle.cyc_port.specs.Rows.{file_of}
use Rattle.cyc_port.specs.MemoryShelf.{ShelfState}
use Rattle.cyc_port.specs.declared.shelf.ShelfFault.TheVariants.{Failed, TooLong}
use Rattle.cyc_port.proofs.Shelves.{absent_file, found_file}
use Rattle.cyc_port.proofs.ShelfSteps.{unlisted_from, answer-none, answer-long, answer-ok, answers-err, answers-ok, answers-memory}
use Rattle.cyc_port.proofs.memory.MemShelf.answer.Goals as goal

pub returns-in_default : goal.returns-in_default
returns-in_default c =
    let name = c.args.name.now in
    let shelf : ShelfState = record { files = c.self.inside.files.items; fail = c.self.inside.fail.items; other = c.self.inside.other; calls = c.self.inside.calls } in
    let unlisted : list_any (λ n. n == shelf.calls) shelf.fail ≡ false = unlisted_from c.contains.result shelf.calls c.deref.result.now shelf.fail c.contains.ensures.value c.deref.ensures.value c.if-contains.false in
    rw (← c.self.view_is) (answers-err shelf name Failed (answer-none shelf name unlisted (absent_file name c.deref-2.result.now shelf.files c.deref-2.ensures.value c.in_default.ensures)))

pub returns-then-bytes-gt-FILE_LIMIT : goal.returns-then-bytes-gt-FILE_LIMIT
returns-then-bytes-gt-FILE_LIMIT c =
    let name = c.args.name.now in
    let file = c.index.result.now in
    let shelf : ShelfState = record { files = c.self.inside.files.items; fail = c.self.inside.fail.items; other = c.self.inside.other; calls = c.self.inside.calls } in
    let unlisted : list_any (λ n. n == shelf.calls) shelf.fail ≡ false = unlisted_from c.contains.result shelf.calls c.deref.result.now shelf.fail c.contains.ensures.value c.deref.ensures.value c.if-contains.false in
    let found : file_of shelf.files name ≡ Some file = found_file name file c.deref-2.result.now shelf.files c.in-Some.at c.deref-2.ensures.value c.in-Some.ensures c.index.ensures in
    rw (← c.self.view_is) (answers-err shelf name TooLong (answer-long shelf name file unlisted found (rw c.bytes-bytes.ensures at c.if-bytes-gt-FILE_LIMIT.true)))

pub returns-in_err-of : goal.returns-in_err-of
returns-in_err-of c =
    let name = c.args.name.now in
    let file = c.index.result.now in
    let shelf : ShelfState = record { files = c.self.inside.files.items; fail = c.self.inside.fail.items; other = c.self.inside.other; calls = c.self.inside.calls } in
    let unlisted : list_any (λ n. n == shelf.calls) shelf.fail ≡ false = unlisted_from c.contains.result shelf.calls c.deref.result.now shelf.fail c.contains.ensures.value c.deref.ensures.value c.if-contains.false in
    let found : file_of shelf.files name ≡ Some file = found_file name file c.deref-2.result.now shelf.files c.in-Some.at c.deref-2.ensures.value c.in-Some.ensures c.index.ensures in
    rw (← c.self.view_is) (answers-memory shelf name file.bytes c.from_residual.result (answer-ok shelf name file unlisted found (rw c.bytes-bytes.ensures at c.if-bytes-gt-FILE_LIMIT.false)) c.from_residual.ensures.1)

pub returns : goal.returns
returns c =
    let name = c.args.name.now in
    let file = c.index.result.now in
    let shelf : ShelfState = record { files = c.self.inside.files.items; fail = c.self.inside.fail.items; other = c.self.inside.other; calls = c.self.inside.calls } in
    let unlisted : list_any (λ n. n == shelf.calls) shelf.fail ≡ false = unlisted_from c.contains.result shelf.calls c.deref.result.now shelf.fail c.contains.ensures.value c.deref.ensures.value c.if-contains.false in
    let found : file_of shelf.files name ≡ Some file = found_file name file c.deref-2.result.now shelf.files c.in-Some.at c.deref-2.ensures.value c.in-Some.ensures c.index.ensures in
    rw (← c.self.view_is) (answers-ok shelf name file.bytes c.in_ok-of.field-0 (answer-ok shelf name file unlisted found (rw c.bytes-bytes.ensures at c.if-bytes-gt-FILE_LIMIT.false)) (c.in_ok-of.ensures ∙ c.bytes-bytes.ensures))
