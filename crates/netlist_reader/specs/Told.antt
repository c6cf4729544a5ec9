-- What lent words say: the same as texts that hold them.
use Rattle.std.specs.Prelude.{◌≡◌, ◌≢◌, Option, Some, None, Result, MatchResult}
use Rattle.netlist_model.specs.declared.edits.Edit.{Edit}
use Rattle.netlist_model.specs.declared.edits.Edit.TheVariants as edit
use Rattle.netlist_reader.specs.declared.faults.LineFault.{LineFault}
use Rattle.netlist_reader.specs.declared.faults.LineFault.TheVariants.{Memory}
use Rattle.netlist_reader.specs.declared.lent.Said.{Said}
use Rattle.netlist_reader.specs.declared.lent.Said.TheVariants.{Net, Const, Inst, DelInst, DelNet, Move, Swap, Delay, Tick, Root, Fork, DelFork}

-- the edit that is said
abbrev pub told : Said → Edit
told (Net name) = edit.Net name.now
told (Const name) = edit.Const name.now
told (Inst i) = edit.Inst (record { name = i.name.now; cell = i.cell.now; pins = i.pins.items })
told (DelInst name) = edit.DelInst name.now
told (DelNet name) = edit.DelNet name.now
told (Move m) = edit.Move (record { inst = m.inst.now; pin = m.pin.now; net = m.net.now })
told (Swap s) = edit.Swap (record { inst = s.inst.now; cell = s.cell.now })
told (Delay d) = edit.Delay (record { inst = d.inst.now; pin = d.pin.now; rise = d.rise; fall = d.fall })
told (Tick t) = edit.Tick (record { source = t.source; target = t.target; count = t.count })
told (Root event) = edit.Root event
told (Fork f) = edit.Fork (record { name = f.name.now; root = f.root; fast = f.fast; slow = f.slow; margin = f.margin; offset = f.offset })
told (DelFork name) = edit.DelFork name.now

-- the edit that a definition gives, or a refusal where it gives none; want of memory at any time
abbrev pub Says : Result Said LineFault → Option Edit → Type 0
Says answer value = MatchResult answer (λ s. value ≡ Some (told s)) (λ e. e ≢ Memory → value ≡ None)
