use Rattle.std.proofs.Common.{◌+◌, option_map, position, subst, sym, ap, ◌∙◌}
use Rattle.netlist_model.specs.ArcRules.{is_unjoined}
use Rattle.netlist_model.specs.Circuit.{Circuit}
use Rattle.netlist_model.specs.Sound.{Fits}
use Rattle.netlist_model.specs.Whole.{idle_of}
use Rattle.netlist_model.specs.declared.faults.WholeFault.TheVariants.{IdleTick}
use Rattle.netlist_model.proofs.RuleLemmas.{idle_is}
use Rattle.netlist_model.proofs.netlist.Netlist.check_ticks.Goals as goal

pub first_idle-requires-clause-fits : goal.first_idle-requires-clause-fits
first_idle-requires-clause-fits c = subst (λ (n : Circuit). Fits c.args.library.now n.insts) (sym c.self.view_is) c.requires

pub returns-in-Some : goal.returns-in-Some
returns-in-Some c =
    let found = sym (sym c.in-Some.is ∙ c.first_idle.ensures.place ∙ ap (position (is_unjoined c.args.library.now c.self.inside.insts)) c.blocks-2.ensures.ticks ∙ idle_is c.args.library.now _ c.self.invariant ∙ ap (idle_of c.args.library.now) c.self.view_is) in
    ap (option_map (λ t. IdleTick (t + 1))) found

pub returns-in-None : goal.returns-in-None
returns-in-None c =
    let found = sym (sym c.in-None.is ∙ c.first_idle.ensures.place ∙ ap (position (is_unjoined c.args.library.now c.self.inside.insts)) c.blocks-2.ensures.ticks ∙ idle_is c.args.library.now _ c.self.invariant ∙ ap (idle_of c.args.library.now) c.self.view_is) in
    ap (option_map (λ t. IdleTick (t + 1))) found
