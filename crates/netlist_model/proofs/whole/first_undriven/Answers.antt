use Rattle.std.proofs.Common.{◌≡◌, ◌<◌, length, is_none, true, false, sym, refl, ◌∙◌, arith, rules}
use Rattle.netlist_model.specs.Circuit.{driver_of}
use Rattle.netlist_model.proofs.FirstLemmas.{undriven_step}
use Rattle.netlist_model.proofs.whole.first_undriven.Goals as goal

pub returns-then-is_none-clause-found : goal.returns-then-is_none-clause-found
returns-then-is_none-clause-found c =
    let low : c.loop-at.at < length c.args.nets.now = omega arith in
    let none : is_none (driver_of c.args.insts.now c.loop-at.at) ≡ true = rw (← c.driver.ensures.place) (search rules) in
    sym (c.loop-at.invariant ∙ undriven_step c.args.insts.now c.args.nets.now c.loop-at.at low ∙ rw none refl)

pub loop-at-preserved : goal.loop-at-preserved
loop-at-preserved c =
    let low : c.loop-at.at < length c.args.nets.now = omega arith in
    let some : is_none (driver_of c.args.insts.now c.loop-at.at) ≡ false = rw (← c.driver.ensures.place) (search rules) in
    c.loop-at.invariant ∙ undriven_step c.args.insts.now c.args.nets.now c.loop-at.at low ∙ rw some refl
