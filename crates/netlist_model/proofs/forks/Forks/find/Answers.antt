use Rattle.std.proofs.Common.{◌∙◌}
use Rattle.netlist_model.specs.declared.parts.Fork.{Fork}
use Rattle.netlist_model.proofs.Tables.{place_among}
use Rattle.netlist_model.proofs.forks.Forks.find.Goals as goal

pub returns-clause-place : goal.returns-clause-place
returns-clause-place c = c.find.ensures.place ∙ place_among (λ (i : Fork). i.name) c.self.inside.items.items c.args.self.now c.self.inside.names c.args.name.now c.self.invariant.0 c.self.view_is
