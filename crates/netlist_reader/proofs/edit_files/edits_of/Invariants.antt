use Rattle.std.proofs.Common.{◌≡◌, ◌≤◌, ◌+◌, ◌-◌, [], length, drop}
use Rattle.std.specs.Str.Lines.{lines}
use Rattle.netlist_reader.specs.EditFiles as spec
use Rattle.netlist_reader.proofs.edit_files.edits_of.Given as goal

abbrev pub invariant-loop-line : goal.invariant-loop-line
invariant-loop-line l = record {
  within : l.at ≤ length l.bytes;
  small : l.number ≤ l.at + 1;
  left : spec.edits_from l.number l.edits.items (lines (drop l.at l.bytes)) ≡ spec.edits_from 1 [] (lines l.bytes);
}

abbrev pub decreases-loop-line : goal.decreases-loop-line
decreases-loop-line l = length l.bytes - l.at
