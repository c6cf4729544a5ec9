use Rattle.std.proofs.Common.{◌≡◌, ℕ, ◌<◌, get_or, false}
use Rattle.cyc_text.specs.Words.{is_no_blank}
use Rattle.cyc_text.proofs.spans.blank_len.Given as goal

abbrev pub invariant-loop-i : goal.invariant-loop-i
invariant-loop-i l = (k : ℕ) → k < l.i → is_no_blank (get_or l.rest k 0) ≡ false
