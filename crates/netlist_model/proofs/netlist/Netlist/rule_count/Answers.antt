use Rattle.std.proofs.Common.{length, subst, sym, ap, ◌∙◌}
use Rattle.netlist_model.specs.Circuit.{Circuit}
use Rattle.netlist_model.specs.Expansion.{rules_of}
use Rattle.netlist_model.specs.Sound.{Fits}
use Rattle.netlist_model.proofs.RuleLemmas.{counted, few_insts}
use Rattle.netlist_model.proofs.netlist.Netlist.rule_count.Goals as goal

pub insts_count-requires-clause-fits : goal.insts_count-requires-clause-fits
insts_count-requires-clause-fits c = subst (Fits c.args.library.now) (ap (λ (n : Circuit). n.insts) (sym c.self.view_is) ∙ sym c.list.ensures) c.requires

pub insts_count-requires-clause-few : goal.insts_count-requires-clause-few
insts_count-requires-clause-few c = rw c.list.ensures (few_insts _ c.self.invariant)

pub returns : goal.returns
returns c = c.insts_count.ensures ∙ rw c.list.ensures (counted c.args.library.now _ c.self.invariant) ∙ ap (λ (n : Circuit). length (rules_of c.args.library.now n)) c.self.view_is
