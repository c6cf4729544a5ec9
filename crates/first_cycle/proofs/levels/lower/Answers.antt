use Rattle.std.proofs.Common.{◌∙◌, sym}
use Rattle.first_cycle.proofs.Passes.{pass_still, pass_skip}
use Rattle.first_cycle.proofs.Turned.{pass_along}
use Rattle.first_cycle.proofs.levels.lower.Goals.{then-keep-number+then-lower_source, else-keep-number, else-keep-number-via-then-keep-number+else-lower_source, else-keep-number-via-else-keep-number}
use Rattle.first_cycle.proofs.levels.lower.Goals as goal

pub rules-preserved : goal.rules-preserved
rules-preserved c =
    let inside = rw c.rules-number-end.ensures.rules at c.rules-test.true in
    elim c.if-keep-number.branch [
      | then-keep-number+then-lower_source w ↦
          let low = rw w.rule_along.ensures.rule at (sym w.lower_source.ensures.result ∙ w.if-lower_source.true) in
          rw (w.lowered-is, w.levels-is, w.lower_source.ensures.levels, w.rule_along.ensures.rule)
          (pass_along _ _ _ _ _ _ _ _ _ w.rule_along.ensures.ends c.requires.count inside w.if-keep-number.true low c.rules.invariant)
      | else-keep-number w ↦ rw (w.lowered-is, w.levels-is) (elim w.else-keep-number.branch [
        | else-keep-number-via-then-keep-number+else-lower_source v ↦
            let low = rw v.rule_along.ensures.rule at (sym v.lower_source.ensures.result ∙ v.if-lower_source.false) in
            rw (v.levels-is, v.lower_source.ensures.levels, v.rule_along.ensures.rule) (pass_still _ _ _ _ _ _ _ low c.rules.invariant)
        | else-keep-number-via-else-keep-number v ↦ rw v.levels-is (pass_skip _ _ _ _ _ _ _ v.if-keep-number.false c.rules.invariant)
      ])
    ]
