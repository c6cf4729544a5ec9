use Rattle.netlist_model.specs.ArcRules.{is_unjoined}
use Rattle.netlist_model.proofs.FirstLemmas.{IsWalk}
use Rattle.netlist_model.proofs.whole.first_idle.Given as goal

abbrev pub invariant-loop-block : goal.invariant-loop-block
invariant-loop-block l = IsWalk (is_unjoined l.library l.insts) l.blocks l.block-index l.before
