use Rattle.std.proofs.Common.{◌≡◌, suc, length, take}
use Rattle.std.specs.Prelude.{slice_index}
use Rattle.arrival_words.specs.Views.{values_of}
use Rattle.arrival_words.proofs.word_table.words_of.Given as goal

abbrev pub invariant-loop-value : goal.invariant-loop-value
invariant-loop-value l = (length l.words.items ≡ suc l.value-index) × (slice_index l.words.items 0 ≡ 0) × (values_of l.words.items ≡ take l.value-index l.start)
