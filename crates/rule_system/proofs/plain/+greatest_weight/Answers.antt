use Rattle.std.proofs.Common.{ℤ, Some, None, pos, ◌≡◌, ◌-◌, ◌<◌, length, arith, ap, ◌∙◌, to_z, of_z, w64}
use Rattle.std.proofs.lemmas.Int.{ints}
use Rattle.rule_system.specs.Rules.{rule_at, source_of, target_of}
use Rattle.rule_system.specs.Weights.{rule_weight}
use Rattle.rule_system.specs.Plain.{IsGreatest, greater_of, after_rule}
use Rattle.rule_system.proofs.GreatestWeight.{begins_same, begins_apart, no_heads, one_more, within_more, passed_over}
use Rattle.rule_system.proofs.plain.+greatest_weight.Goals as goal
use Rattle.rule_system.proofs.plain.+greatest_weight.Goals.{then-from-to, else-from-to, then-rule-from, else-rule-from}

pub returns-then-left-eq0-clause-greatest : goal.returns-then-left-eq0-clause-greatest
returns-then-left-eq0-clause-greatest t c =
    elim c.if-from-to.branch [
      | then-from-to w ↦ rw (c.if-left-eq0.true, w.best-is) (no_heads c.args.top c.args.bottom c.args.system.now.rules c.args.from c.args.to (Some (pos 0)) (begins_same c.args.top c.args.bottom c.args.system.now.rules 0 c.args.from c.args.to w.if-from-to.true))
      | else-from-to w ↦ rw (c.if-left-eq0.true, w.best-is) (no_heads c.args.top c.args.bottom c.args.system.now.rules c.args.from c.args.to None (begins_apart c.args.top c.args.bottom c.args.system.now.rules 0 c.args.from c.args.to w.if-from-to.false))
    ]

pub heads-preserved : goal.heads-preserved
heads-preserved t c =
    elim c.if-rule-from.branch [
      | then-rule-from w ↦
          let inside : c.heads.rule-index < length c.args.system.now.rules = rw c.rules-rule-items.ensures.rules at c.heads-test.true in
          let from : source_of c.args.system.now.rules c.heads.rule-index ≡ c.args.from = rw c.rules-rule-items.ensures.rules at w.if-rule-from.true in
          let first : w.weight_of.result ≡ rule_weight c.args.top c.args.bottom (rule_at c.args.system.now.rules c.heads.rule-index) = rw c.rules-rule-items.ensures.rules at w.weight_of.ensures.weight in
          let passed : to_z w64 (of_z w64 w.weight_of.result) ≡ w.weight_of.result = omega (arith, ints) in
          let rest : IsGreatest c.args.top c.args.bottom c.args.system.now.rules (c.args.left - 1) (target_of c.args.system.now.rules c.heads.rule-index) c.args.to w.greatest_weight-rest.result = rw c.rules-rule-items.ensures.rules at w.greatest_weight-rest.ensures.greatest in
          let best : c.if-rule-from.best ≡ greater_of c.heads.best (after_rule w.weight_of.result w.greatest_weight-rest.result) = w.best-is ∙ w.greater-best.ensures ∙ ap (greater_of c.heads.best) (w.after.ensures ∙ ap (λ (z : ℤ). after_rule z w.greatest_weight-rest.result) passed) in
          record {
            greatest = rw (best, first) (one_more c.args.top c.args.bottom c.args.system.now.rules c.args.left c.args.from c.args.to c.heads.rule-index c.heads.best w.greatest_weight-rest.result (omega arith) inside from c.heads.invariant.greatest rest);
            within = rw best (within_more c.args.left w.weight_of.result c.heads.best w.greatest_weight-rest.result (omega arith) w.weight_of.ensures.within.0 w.weight_of.ensures.within.1 c.heads.invariant.within w.greatest_weight-rest.ensures.within);
          }
      | else-rule-from w ↦
          let away : source_of c.args.system.now.rules c.heads.rule-index ≡ c.args.from → ⊥ = rw c.rules-rule-items.ensures.rules at w.if-rule-from.false in
          record {
            greatest = rw w.best-is (passed_over c.args.top c.args.bottom c.args.system.now.rules c.args.left c.args.from c.args.to c.heads.rule-index c.heads.best away c.heads.invariant.greatest);
            within = rw w.best-is c.heads.invariant.within;
          }
    ]
