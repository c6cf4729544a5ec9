use Rattle.std.proofs.Common.{◌≡◌, get_or, refl}
use Rattle.netlist_model.specs.Deletions.{inst_after}
use Rattle.netlist_model.specs.declared.parts.Instance.{Instance}
use Rattle.netlist_model.proofs.Taken.{mapped_more}
use Rattle.netlist_model.proofs.instances.leave_all.Goals as goal

pub loop-instance-preserved : goal.loop-instance-preserved
loop-instance-preserved c =
    let old : Instance = get_or c.loop-instance.items c.loop-instance.instance-index c.instance-item.result in
    let new : Instance = record { name = old.name; cell = old.cell; pins = c.leave.new.self; delays = old.delays } in
    let is : new ≡ inst_after c.args.gone old = rw c.leave.ensures refl in
    mapped_more (inst_after c.args.gone) c.args.items.now c.loop-instance.items c.loop-instance.instance-index c.instance-item.result new c.loop-instance-test.true c.loop-instance.auto.items
    c.loop-instance.invariant is
