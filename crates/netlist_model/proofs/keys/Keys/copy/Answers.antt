use Rattle.std.proofs.Common.{ap, sym, ◌∙◌, ◌++◌, ◌∷◌, []}
use Rattle.netlist_model.specs.Circuit.{place_of}
use Rattle.netlist_model.proofs.KeyedLemmas.{not_before, take_next}
use Rattle.netlist_model.proofs.keys.Keys.copy.Goals as goal

pub push-requires : goal.push-requires
push-requires c =
    ap (place_of c.name.result.now) c.loop-at.invariant
    ∙ not_before c.args.self.now c.loop-at.at c.name.result.now c.requires c.name.ensures

pub loop-at-preserved : goal.loop-at-preserved
loop-at-preserved c =
    c.in_ok-push.ensures.ok ∙ ap (λ names. names ++ c.name.result.now ∷ []) c.loop-at.invariant
    ∙ sym (take_next c.args.self.now c.loop-at.at c.name.result.now c.name.ensures)
