use Rattle.std.proofs.Common.{ap, sym, Some, ◌∙◌}
use Rattle.std.specs.List.{slice_get}
use Rattle.netlist_model.proofs.KeyedLemmas.{named_at}
use Rattle.netlist_model.proofs.keys.Keys.name.Goals as goal

pub returns : goal.returns
returns c =
    ap (λ names. slice_get names c.args.at) (sym c.self.view_is)
    ∙ named_at c.self.inside.names.entries c.args.at c.index.result.now c.index.ensures ∙ ap Some (sym c.deref.ensures.value)
