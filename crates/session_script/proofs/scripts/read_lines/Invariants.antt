use Rattle.std.proofs.Common.{◌≡◌, ◌≤◌, ◌+◌, ◌-◌, length, drop, count_by}
use Rattle.std.specs.Str.Lines.{lines}
use Rattle.session_script.specs.Calls.{is_report}
use Rattle.session_script.specs.Scripts as spec
use Rattle.session_script.proofs.scripts.read_lines.Given as goal

abbrev pub invariant-loop-line : goal.invariant-loop-line
invariant-loop-line l = record {
  within : l.at ≤ length l.bytes;
  small : l.number ≤ l.at + 1;
  counted : l.reported ≡ count_by is_report l.calls.items;
  left : spec.after_lines l.lines l.reports l.number (lines (drop l.at l.bytes)) l.calls.items ≡ spec.script_of l.bytes l.lines l.reports;
}

abbrev pub decreases-loop-line : goal.decreases-loop-line
decreases-loop-line l = length l.bytes - l.at
