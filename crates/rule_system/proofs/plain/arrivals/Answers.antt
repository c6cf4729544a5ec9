use Rattle.std.proofs.Common.{rules, ℤ, ◌≡◌, arith, sym, subst, w64}
use Rattle.std.proofs.lemmas.Int.{to_z-of_z}
use Rattle.rule_system.specs.Weights.{IsArrival}
use Rattle.rule_system.proofs.GreatestWeight.{next_arrival}
use Rattle.rule_system.proofs.plain.arrivals.Goals as goal

pub arrival-time-requires-clause-reached : goal.arrival-time-requires-clause-reached
arrival-time-requires-clause-reached c = (c.requires.connected c.events.event (let e : c.events-event-end.result ≡ c.args.system.now.events = c.events-event-end.ensures.count in omega arith)).0

pub events-preserved : goal.events-preserved
events-preserved c =
    next_arrival _ _ _ _ _ _ _ _ c.in_ok-push.ensures.items c.events.invariant
    (subst (λ (z : ℤ). IsArrival c.args.top c.args.bottom c.args.system.now.rules c.args.root c.events.event z) (sym (to_z-of_z w64 c.arrival-time.result (search rules))) c.arrival-time.ensures)
