use Rattle.std.proofs.Common.{◌≡◌, ℕ, ◌<◌, get_or, false}
use Rattle.cyc_text.specs.Words.{is_newline}
use Rattle.cyc_text.proofs.spans.line_len.Given as goal

abbrev pub invariant-loop-i : goal.invariant-loop-i
invariant-loop-i l = (k : ℕ) → k < l.i → is_newline (get_or l.rest k 0) ≡ false
