use Rattle.std.proofs.Common.{ap, arith}
use Rattle.rule_system.specs.Bounds.{EventRules}
use Rattle.relax_rounds.proofs.Reading.{all_known, all_attained, all_within}
use Rattle.relax_rounds.proofs.reads.read_all.Goals as goal

pub returns-clause-known : goal.returns-clause-known
returns-clause-known c = let e = ap (λ (s : EventRules). s.events) c.system.ensures in all_known c.args.words.now.about c.events.event _ _ c.events.invariant.2 (omega arith)

pub returns-clause-attained : goal.returns-clause-attained
returns-clause-attained c = let e = ap (λ (s : EventRules). s.events) c.system.ensures in all_attained c.args.words.now.about c.events.event _ _ c.events.invariant.2 (omega arith) (omega arith)

pub returns-clause-within : goal.returns-clause-within
returns-clause-within c = let e = ap (λ (s : EventRules). s.events) c.system.ensures in all_within c.args.words.now.about c.events.event _ _ c.events.invariant.2 (omega arith)
