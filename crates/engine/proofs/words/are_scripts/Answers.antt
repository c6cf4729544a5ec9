use Rattle.std.proofs.Common.{◌≡◌, ◌≤◌, ◌==◌, nat_le, true, false, length, map, arith, ◌∙◌, sym}
use Rattle.std.proofs.lemmas.Bool.Decides.{nat_tests}
use Rattle.std.proofs.lemmas.List.{length-map}
use Rattle.std.proofs.lemmas.List.Folds.{list_all-map}
use Rattle.std.specs.String.{string_bytes}
use Rattle.engine.specs.Words.{is_file_word}
use Rattle.engine.proofs.words.are_scripts.Goals as goal

pub returns-clause-scripts : goal.returns-clause-scripts
returns-clause-scripts c =
    let words = c.args.words.now in
    let none : length words == 0 ≡ false = sym c.is_empty.ensures ∙ c.if-is_empty.false in
    let most : length words ≤ 32 = c.if-words-gt-MOST_SCRIPTS.false in
    let some : nat_le 1 (length words) ≡ true = grind (arith, nat_tests) in
    let few : nat_le (length words) 32 ≡ true = grind (arith, nat_tests) in
    rw (length-map words string_bytes, list_all-map is_file_word string_bytes words, some, few) c.are_files.ensures
