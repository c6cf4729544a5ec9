use Rattle.std.proofs.Common.{◌≡◌, ◌+◌, drop}
use Rattle.netlist_model.specs.Edits.{edited, edited_from}
use Rattle.netlist_model.specs.Sound.{Fits}
use Rattle.edit_log.proofs.lists.make_all.Given as goal

abbrev pub invariant-loop-at : goal.invariant-loop-at
invariant-loop-at l = record {
  fits : Fits l.library l.net.insts;
  left : edited_from l.library (l.at + 1) (drop l.at l.edits) l.net ≡ edited l.library l.edits l.fn.net;
}
