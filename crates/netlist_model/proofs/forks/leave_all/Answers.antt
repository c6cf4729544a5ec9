use Rattle.std.proofs.Common.{◌≡◌, get_or, refl}
use Rattle.netlist_model.specs.Deletions.{fork_after}
use Rattle.netlist_model.specs.declared.parts.Fork.{Fork}
use Rattle.netlist_model.proofs.Taken.{mapped_more}
use Rattle.netlist_model.proofs.forks.leave_all.Goals as goal

pub loop-fork-preserved : goal.loop-fork-preserved
loop-fork-preserved c =
    let old : Fork = get_or c.loop-fork.forks c.loop-fork.fork-index c.fork-item.result in
    let new : Fork = record {
      name = old.name;
      root = c.event_after-fork.result;
      fast = c.event_after-fork-in-loop-fork.result;
      slow = c.event_after-fork-in-loop-fork-2.result;
      margin = old.margin;
      offset = old.offset;
    } in
    let is : new ≡ fork_after c.args.gone old = rw (c.event_after-fork.ensures, c.event_after-fork-in-loop-fork.ensures, c.event_after-fork-in-loop-fork-2.ensures) refl in
    mapped_more (fork_after c.args.gone) c.args.forks.now c.loop-fork.forks c.loop-fork.fork-index c.fork-item.result new c.loop-fork-test.true c.loop-fork.auto.forks c.loop-fork.invariant is
