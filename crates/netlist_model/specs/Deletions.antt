-- The statements that take something away: the first refusal that holds, or the netlist after it.
use Rattle.std.specs.Prelude.{ℕ, ◌+◌, ◌-◌, ◌*◌, ◌/◌, ◌%◌, ◌==◌, ◌||◌, Bool, false, nat_lt, if◌then◌else◌, List, map, option_map, Result, Ok}
use Rattle.std.specs.List.{list_any, remove}
use Rattle.std.specs.Option.{option_map_or}
use Rattle.cell_arcs.specs.Steps.{◌>>=◌, or_fault}
use Rattle.netlist_model.specs.Circuit.{Circuit, ref_of, inst_of, fork_of}
use Rattle.netlist_model.specs.Statements.{unless}
use Rattle.netlist_model.specs.declared.faults.StatementFault.{StatementFault}
use Rattle.netlist_model.specs.declared.faults.StatementFault.TheVariants.{UnknownInst, UnknownNet, UnknownFork, StillUsed}
use Rattle.netlist_model.specs.declared.parts.Fork.{Fork}
use Rattle.netlist_model.specs.declared.parts.Instance.{Instance}
use Rattle.netlist_model.specs.declared.parts.NetRef.{NetRef}
use Rattle.netlist_model.specs.declared.parts.NetRef.TheVariants.{Net, Const}
use Rattle.netlist_model.specs.declared.parts.Tick.{Tick}

-- delinst NAME
unfoldable pub del_inst : Circuit → List ℕ → Result Circuit StatementFault
del_inst c name = or_fault UnknownInst (inst_of c.insts name) >>= (λ at. Ok (record c { insts = remove c.insts at }))

-- delfork NAME
unfoldable pub del_fork : Circuit → List ℕ → Result Circuit StatementFault
del_fork c name = or_fault UnknownFork (fork_of c.forks name) >>= (λ at. Ok (record c { forks = remove c.forks at }))

-- whether they are one net or one constant
abbrev pub is_same : NetRef → NetRef → Bool
is_same (Net n) (Net m) = n == m
is_same (Const k) (Const l) = k == l
is_same (Net n) (Const l) = false
is_same (Const k) (Net m) = false

-- whether a pin of the instance, the output among them, is on this
abbrev pub is_pinned : NetRef → Instance → Bool
is_pinned r i = list_any (is_same r) i.pins

-- whether the event is the rise or the fall of the net
abbrev pub is_event_of : ℕ → ℕ → Bool
is_event_of net event = net == event / 2

-- whether an event of the tick is of the net
abbrev pub is_ticked : ℕ → Tick → Bool
is_ticked net t = is_event_of net t.source || is_event_of net t.target

-- whether an event of the fork is of the net
abbrev pub is_forked : ℕ → Fork → Bool
is_forked net f = is_event_of net f.root || is_event_of net f.fast || is_event_of net f.slow

-- whether a pin, a tick, the root or a fork uses the net or constant
abbrev pub is_used : Circuit → NetRef → Bool
is_used c (Net n) =
    list_any (is_pinned (Net n)) c.insts || list_any (is_ticked n) c.ticks
    || option_map_or (is_event_of n) c.root false || list_any (is_forked n) c.forks
is_used c (Const k) = list_any (is_pinned (Const k)) c.insts

-- the place of an entry once the one at `gone` is away: the later ones move up by one
abbrev pub moved_up : ℕ → ℕ → ℕ
moved_up gone at = if nat_lt gone at then at - 1 else at

-- what a pin is on, once this net or constant is away
abbrev pub ref_after : NetRef → NetRef → NetRef
ref_after (Net gone) (Net n) = Net (moved_up gone n)
ref_after (Const gone) (Const k) = Const (moved_up gone k)
ref_after (Net gone) (Const k) = Const k
ref_after (Const gone) (Net n) = Net n

-- an event once a net is away: the same edge of its net, which may have moved up
abbrev pub event_after : ℕ → ℕ → ℕ
event_after gone event = 2 * moved_up gone (event / 2) + event % 2

-- an instance once a net or constant is away
abbrev pub inst_after : NetRef → Instance → Instance
inst_after gone i = record i { pins = map (ref_after gone) i.pins }

-- a tick once a net is away
abbrev pub tick_after : ℕ → Tick → Tick
tick_after gone t = record t { source = event_after gone t.source; target = event_after gone t.target }

-- a fork once a net is away
abbrev pub fork_after : ℕ → Fork → Fork
fork_after gone f = record f { root = event_after gone f.root; fast = event_after gone f.fast; slow = event_after gone f.slow }

-- the netlist once a net or constant that nothing uses is away
abbrev pub after_ref : Circuit → NetRef → Circuit
after_ref c (Net gone) = record {
  nets = remove c.nets gone;
  consts = c.consts;
  insts = map (inst_after (Net gone)) c.insts;
  ticks = map (tick_after gone) c.ticks;
  forks = map (fork_after gone) c.forks;
  root = option_map (event_after gone) c.root;
}
after_ref c (Const gone) = record c { consts = remove c.consts gone; insts = map (inst_after (Const gone)) c.insts }

-- delnet NAME
unfoldable pub del_net : Circuit → List ℕ → Result Circuit StatementFault
del_net c name =
    or_fault UnknownNet (ref_of c.nets c.consts name) >>= (λ r.
    unless (is_used c r) StillUsed
    (Ok (after_ref c r)))
