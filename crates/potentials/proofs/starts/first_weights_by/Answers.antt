use Rattle.potentials.proofs.Growth.{root_weight, weights_attained}
use Rattle.potentials.proofs.starts.first_weights_by.Goals as goal

pub returns-clause-root : goal.returns-clause-root
returns-clause-root c = rw c.of.ensures (root_weight _ _ _ _ _ _ c.requires.root c.in_ok-weights.ensures.weights)

pub returns-clause-attained : goal.returns-clause-attained
returns-clause-attained c = rw (c.of.ensures, ← c.top.ensures.top, ← c.bottom.ensures.bottom) (weights_attained c.top.result c.bottom.result c.args.system.now.events c.args.system.now.rules c.args.root c.in_ok-weights.weights.items c.in_ok-weights.ensures.weights)
