use Rattle.std.proofs.Common.{◌≡◌, ◌≤◌, ◌+◌, ◌-◌, length, drop}
use Rattle.std.specs.Str.Lines.{lines}
use Rattle.netlist_model.specs.Sound.{Fits}
use Rattle.netlist_reader.specs.NetlistFiles as spec
use Rattle.netlist_reader.proofs.files.read_lines.Given as goal

abbrev pub invariant-loop-line : goal.invariant-loop-line
invariant-loop-line l = record {
  within : l.at ≤ length l.bytes;
  small : l.number ≤ l.at + 1;
  fits : Fits l.library l.net.insts;
  left : spec.after_lines l.library l.number (lines (drop l.at l.bytes)) l.net ≡ spec.after_lines l.library 1 (lines l.bytes) l.fn.net;
}

abbrev pub decreases-loop-line : goal.decreases-loop-line
decreases-loop-line l = length l.bytes - l.at
