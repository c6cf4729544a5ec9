use Rattle.std.proofs.Common.{arith, subst}
use Rattle.arrival_words.specs.About.{About, IsReached}
use Rattle.arrival_words.specs.Views.{value_of}
use Rattle.arrival_words.specs.Seats.{about_words}
use Rattle.arrival_words.proofs.Reach.{reached_further}
use Rattle.arrival_words.proofs.Knowing.{rule_relaxes, rule_keeps}
use Rattle.arrival_words.proofs.word_table.WordTable.relax_rule.Goals as goal

pub raise-requires-clause-reached : goal.raise-requires-clause-reached
raise-requires-clause-reached c = rw c.offer-offer.ensures (reached_further (about_words c.args.self.now) c.args.n c.rule-rule.result _ c.requires.n c.rule-rule.ensures.rule
    (subst (λ (a : About). IsReached a c.rule-rule.result.source (value_of c.load-found.result)) c.requires.seat.about c.load-found.ensures.learns.reached.reached))

pub returns-clause-relaxed : goal.returns-clause-relaxed
returns-clause-relaxed c = rule_relaxes (about_words c.args.self.now) c.args.n c.rule-rule.result _ _ _ _ _ _ c.rule-rule.ensures.rule
    (omega (arith, c.requires.seat.wide, c.rule-rule.ensures.within.0)) (omega (arith, c.requires.seat.wide, c.rule-rule.ensures.within.1))
    c.load-found.ensures.learns c.raise.ensures.learns c.offer-offer.ensures

pub returns-clause-kept : goal.returns-clause-kept
returns-clause-kept c = rule_keeps _ _ _ c.rule-rule.result.source c.rule-rule.result.target _ _ _
    (omega (arith, c.requires.seat.wide, c.rule-rule.ensures.within.0)) (omega (arith, c.requires.seat.wide, c.rule-rule.ensures.within.1))
    c.load-found.ensures.learns c.raise.ensures.learns
