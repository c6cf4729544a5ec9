use Rattle.std.proofs.Common.{◌≡◌, ℕ, ◌<◌, ◌≤◌, ◌++◌, ◌∷◌, [], List, length, get_or, slice_set, slice_index_or, ap, subst, sym, ◌∙◌, arith}
use Rattle.rule_system.specs.declared.rules.Rule.{Rule}
use Rattle.rule_system.specs.Rules.{no_rule, rule_at}
use Rattle.rule_system.specs.Orders.{IsTrail, place_of}
use Rattle.std.proofs.lemmas.List.{length-append}
use Rattle.rule_system.proofs.Places.{less_to_do, put, put_same, room, stays, tried_on}
use Rattle.rule_system.proofs.Trails.{at_root, closes, no_items, shorter}
use Rattle.rule_system.proofs.orders.place.Goals as goal

pub returns-then-len-events-clause-cycle : goal.returns-then-len-events-clause-cycle
returns-then-len-events-clause-cycle c = λ _.
    closes _ _ _ _ _ c.steps.trail.items c.in-Some.number c.rules-rules.ensures.ends c.steps.invariant.2 c.in-Some.ensures.some long
  where
    long : c.args.system.now.events ≤ length (c.steps.trail.items ++ c.in-Some.number ∷ [])
    long =
        let count : c.push.new.self.len ≡ length c.push.new.self.items = cc (c.push.new.self.ok.0) in
        let items : length c.push.new.self.items ≡ length (c.steps.trail.items ++ c.in-Some.number ∷ []) = ap length c.in_ok-push.ensures.items in
        omega (arith, count, items, c.if-len-events.true, c.len.ensures, c.events.ensures.count)

pub overflow_cast-places : goal.overflow_cast-places
overflow_cast-places c =
    let r : length c.steps.order.items < c.args.system.now.events = room _ _ _ _ c.steps.event c.steps.invariant.0 c.steps.invariant.2.is_event c.steps.invariant.2.is_left in
    let count : c.steps.order.len ≡ length c.steps.order.items = cc (c.steps.order.ok.0) in
    omega (arith, r, count, c.len-in_default.ensures, c.rules-rules.ensures.system.0)

pub returns-in_default-pop-clause-placed : goal.returns-in_default-pop-clause-placed
returns-in_default-pop-clause-placed c = λ _. record {
  are_places = rw (c.in_ok-push-2.ensures.items, count) (put _ _ _ _ c.steps.event c.rules-rules.ensures.ends c.steps.invariant.0 c.steps.invariant.2.is_event c.steps.invariant.2.is_left c.in_default.ensures.none);
  are_tried = tried_on _ _ _ _ c.steps.event _ c.steps.invariant.2.is_left c.next_waiting.ensures.tried;
  placed = placed;
  stay = λ other l. stays _ _ c.steps.event _ c.steps.invariant.2.is_left other (c.steps.invariant.3 other l);
}
  where
    count : c.len-in_default.result ≡ length c.steps.order.items
    count = cc (c.steps.order.ok.0, c.len-in_default.ensures)

    at : c.steps.event ≡ c.args.root
    at =
        let len : c.steps.trail.len ≡ length c.steps.trail.items = cc (c.steps.trail.ok.0) in
        at_root _ _ _ _ _ c.steps.trail.items (no_items c.steps.trail.items (λ l. c.in_default-pop.ensures.variant.1 (omega (arith, l, len)))) c.steps.invariant.2

    placed : place_of (slice_set c.steps.places c.steps.event c.len-in_default.result) c.args.root < c.args.system.now.events
    placed =
        let r : length c.steps.order.items < c.args.system.now.events = room _ _ _ _ c.steps.event c.steps.invariant.0 c.steps.invariant.2.is_event c.steps.invariant.2.is_left in
        let n : length c.steps.places ≡ c.args.system.now.events = c.steps.invariant.0.counts in
        let here : place_of (slice_set c.steps.places c.steps.event c.len-in_default.result) c.steps.event ≡ c.len-in_default.result = put_same c.steps.places c.steps.event c.len-in_default.result (omega (arith, n, c.steps.invariant.2.is_event)) in
        let there : place_of (slice_set c.steps.places c.steps.event c.len-in_default.result) c.args.root ≡ c.len-in_default.result = ap (place_of (slice_set c.steps.places c.steps.event c.len-in_default.result)) (sym at) ∙ here in
        omega (arith, r, there, count)

pub steps-smaller : goal.steps-smaller
steps-smaller c =
    less_to_do c.args.system.now.events (length c.steps.order.items) _ (length c.steps.trail.items) _ c.rules-rules.ensures.system.0
    (room _ _ _ _ c.steps.event c.steps.invariant.0 c.steps.invariant.2.is_event c.steps.invariant.2.is_left)
    (ap length c.in_ok-push-2.ensures.items ∙ length-append c.steps.order.items (c.steps.event ∷ []))

pub steps-preserved : goal.steps-preserved
steps-preserved c =
    let count : c.len-in_default.result ≡ length c.steps.order.items = cc (c.steps.order.ok.0, c.len-in_default.ensures) in
    let rule : get_or c.rules-rules.result.now c.in-Some-pop.number no_rule ≡ rule_at c.args.system.now.rules c.in-Some-pop.number = ap (λ (rules : List Rule). slice_index_or rules c.in-Some-pop.number no_rule) c.rules-rules.ensures.rules in (
      rw (c.in_ok-push-2.ensures.items, count) (put _ _ _ _ c.steps.event c.rules-rules.ensures.ends c.steps.invariant.0 c.steps.invariant.2.is_event c.steps.invariant.2.is_left c.in_default.ensures.none),
      tried_on _ _ _ _ c.steps.event _ c.steps.invariant.2.is_left c.next_waiting.ensures.tried,
      subst (λ (e : ℕ). IsTrail c.args.system.now.events c.args.system.now.rules (slice_set c.steps.places c.steps.event c.len-in_default.result) c.args.root e c.pop.new.self.items) (ap (λ (r : Rule). r.target) (sym rule))
          (shorter _ _ _ _ c.steps.event c.steps.trail.items c.pop.new.self.items c.in-Some-pop.number _ c.rules-rules.ensures.ends c.in-Some-pop.ensures.items c.steps.invariant.2 c.in_default.ensures.none),
      λ other l. stays _ _ c.steps.event _ c.steps.invariant.2.is_left other (c.steps.invariant.3 other l),
    )
