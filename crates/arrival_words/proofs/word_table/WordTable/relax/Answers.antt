use Rattle.std.proofs.Common.{arith}
use Rattle.arrival_words.proofs.Knowing.{relaxes_more, relaxes_none, relaxes_to, sinks-trans, sinks-refl}
use Rattle.arrival_words.proofs.word_table.WordTable.relax.Goals as goal

pub loop-n-init : goal.loop-n-init
loop-n-init c = (c.requires.seat, relaxes_none _ _ _ _, sinks-refl _)

pub loop-n-preserved : goal.loop-n-preserved
loop-n-preserved c = (
  c.relax_rule.ensures.seat,
  relaxes_more _ _ _ _ _ _ c.loop-n.invariant.1 c.loop-n.invariant.2 c.relax_rule.ensures.relaxed c.relax_rule.ensures.kept,
  sinks-trans _ _ _ c.loop-n.invariant.2 c.relax_rule.ensures.kept,
)

pub returns-clause-relaxed : goal.returns-clause-relaxed
returns-clause-relaxed c = relaxes_to _ _ c.loop-n.n _ _ _ (omega arith) c.loop-n.invariant.1
