use Rattle.std.proofs.Common.{ℤ, List, sym, subst}
use Rattle.rule_system.specs.Weights.{AreAttained}
use Rattle.relax_rounds.proofs.rounds.arrivals_by.Goals as goal

pub first_weights_by-requires-clause-reachable : goal.first_weights_by-requires-clause-reachable
first_weights_by-requires-clause-reachable g c = λ event near. (c.requires.root.1 event near).0

pub open-requires-clause-start : goal.open-requires-clause-start
open-requires-clause-start g c =
    subst (λ (x : List ℤ). AreAttained c.args.period.top c.args.period.bottom c.args.system.now.events c.args.system.now.rules c.args.root x) (sym c.list.ensures) c.in_ok-start.ensures.attained
