use Rattle.analysis.proofs.Existence.{no_fault}
use Rattle.analysis.proofs.laws.analyses_exclude_faults.Goals as goal

pub returns : goal.returns
returns c = λ system root forks analysis fault h f. no_fault system root forks analysis fault (record { none = c.dead_cycles_have_no_offset.ensures system.rules }) h f
