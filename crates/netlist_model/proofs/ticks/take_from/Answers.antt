use Rattle.std.proofs.Common.{not, rules}
use Rattle.std.proofs.lemmas.Fn.{filter_same}
use Rattle.netlist_model.specs.Circuit.{is_between}
use Rattle.netlist_model.proofs.ticks.take_from.Goals as goal

pub returns-clause-kept : goal.returns-clause-kept
returns-clause-kept c = filter_same _ (λ t. not (is_between c.args.source c.args.target t)) _ (λ x b f' k. search rules) _ _ c.retain.ensures.filtered
