use Rattle.std.proofs.Common.{◌≡◌, length, sym, ap, ◌∙◌, arith}
use Rattle.netlist_model.proofs.ticks.Ticks.blocks.Goals as goal

pub returns-clause-small : goal.returns-clause-small
returns-clause-small c =
    let n : length c.args.self.now ≡ c.self.inside.count = ap length (sym c.self.view_is) ∙ sym c.self.invariant.0 in
    omega arith
