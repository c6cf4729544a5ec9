use Rattle.std.proofs.Common.{◌≡◌, [], length}
use Rattle.cyc_text.specs.Words.{words_of}
use Rattle.netlist_reader.specs.EditLines as spec
use Rattle.netlist_reader.proofs.words.pin_words.Given as goal

abbrev pub invariant-loop-word : goal.invariant-loop-word
invariant-loop-word l = spec.pin_words l.pins.items (words_of l.rest) ≡ spec.pin_words [] (words_of l.fn.line)

abbrev pub decreases-loop-word : goal.decreases-loop-word
decreases-loop-word l = length l.rest
