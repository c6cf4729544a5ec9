use Rattle.std.proofs.Common.{ℕ, arith, ◌<◌, ◌∙◌, sym, length}
use Rattle.cycle_ratio.proofs.Trees.{part_none, part_raise, part_still, settled_no_gain}
use Rattle.cycle_ratio.proofs.gains.round.Goals.{then-raise, else-raise}
use Rattle.cycle_ratio.proofs.gains.round.Goals as goal

pub rules-init : goal.rules-init
rules-init c = part_none _ _ _ _ _ _ c.requires.tree c.requires.small

pub rules-preserved : goal.rules-preserved
rules-preserved c =
    let inside = rw c.rules-rule-items.ensures.rules at c.rules-test.true in
    elim c.if-raise.branch [
      | then-raise w ↦
          let test = rw c.rules-rule-items.ensures.rules at (sym c.raise.ensures.result ∙ w.if-raise.true) in
          rw (w.rose-is, c.raise.ensures.numbers, c.raise.ensures.parents, c.rules-rule-items.ensures.rules)
          (part_raise _ _ _ _ _ _ _ _ _ c.requires.ratio.1 c.rules-rule-items.ensures.system inside test c.rules.invariant)
      | else-raise w ↦
          let test = rw c.rules-rule-items.ensures.rules at (sym c.raise.ensures.result ∙ w.if-raise.false) in
          rw (w.rose-is, c.raise.ensures.numbers, c.raise.ensures.parents, c.rules-rule-items.ensures.rules)
          (part_still _ _ _ _ _ _ _ _ _ test c.rules.invariant)
    ]

pub returns-clause-settled : goal.returns-clause-settled
returns-clause-settled c = λ e. settled_no_gain _ _ _ _ (λ n k. c.rules.invariant.settled e n (below n k))
  where
    below : (n : ℕ) → n < length c.args.system.now.rules → n < c.rules.number
    below n k = let e = rw c.rules-rule-items.ensures.rules at c.rules-test.false in omega arith
