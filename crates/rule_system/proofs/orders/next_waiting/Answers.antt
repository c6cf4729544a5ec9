use Rattle.std.proofs.Common.{◌≡◌, ℕ, ◌<◌, List, length, get_or, sym, subst}
use Rattle.rule_system.specs.Rules.{target_of}
use Rattle.rule_system.proofs.Lists.{into_inside, into_target}
use Rattle.rule_system.proofs.Places.{all_settled}
use Rattle.rule_system.proofs.orders.next_waiting.Goals as goal

pub first_waiting-at-requires-clause-row : goal.first_waiting-at-requires-clause-row
first_waiting-at-requires-clause-row c =
    subst (λ (row : List ℕ). (k : ℕ) → k < length row → get_or row k 0 < length c.args.system.now.rules) (sym c.into_event-row.ensures) (into_inside c.args.system.now.rules c.args.event)

pub returns-then-at-row-clause-some : goal.returns-then-at-row-clause-some
returns-then-at-row-clause-some c = record {
  inside = subst (λ (row : List ℕ). (k : ℕ) → k < length row → get_or row k 0 < length c.args.system.now.rules) (sym c.into_event-row.ensures) (into_inside c.args.system.now.rules c.args.event) _ c.if-at-row.true;
  to_it = subst (λ (row : List ℕ). (k : ℕ) → k < length row → target_of c.args.system.now.rules (get_or row k 0) ≡ c.args.event) (sym c.into_event-row.ensures) (into_target c.args.system.now.rules c.args.event) _ c.if-at-row.true;
  dead = c.first_waiting-at.ensures.dead c.if-at-row.true;
  left = c.first_waiting-at.ensures.left c.if-at-row.true;
}

pub returns-else-at-row-clause-none : goal.returns-else-at-row-clause-none
returns-else-at-row-clause-none c =
    all_settled _ _ _ c.args.tried.now c.args.event c.into_event-row.result.now c.first_waiting-at.result c.into_event-row.ensures c.requires.event c.requires.tried c.first_waiting-at.ensures.settled c.if-at-row.false
