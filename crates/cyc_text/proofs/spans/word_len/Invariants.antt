use Rattle.std.proofs.Common.{◌≡◌, ℕ, ◌<◌, get_or, false}
use Rattle.cyc_text.specs.Words.{ends_word}
use Rattle.cyc_text.proofs.spans.word_len.Given as goal

abbrev pub invariant-loop-i : goal.invariant-loop-i
invariant-loop-i l = (k : ℕ) → k < l.i → ends_word (get_or l.rest k 0) ≡ false
