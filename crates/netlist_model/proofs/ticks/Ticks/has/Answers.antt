use Rattle.std.proofs.Common.{ap, ◌∙◌, is_some}
use Rattle.netlist_model.specs.Circuit.{tick_of}
use Rattle.netlist_model.specs.declared.pairs.Place.{Place}
use Rattle.netlist_model.specs.declared.parts.Tick.{Tick}
use Rattle.netlist_model.proofs.CountLemmas.{both_there}
use Rattle.netlist_model.proofs.ticks.Ticks.has.Goals as goal

pub returns : goal.returns
returns c =
    c.is_some.ensures ∙ ap is_some c.find.ensures ∙ both_there (λ (p : Place). p.count) (λ (x : Tick). x.count) _ _ (c.self.invariant.2.told c.args.source c.args.target)
    ∙ ap (λ ticks. is_some (tick_of ticks c.args.source c.args.target)) c.self.view_is
