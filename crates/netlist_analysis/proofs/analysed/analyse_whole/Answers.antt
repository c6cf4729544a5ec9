use Rattle.netlist_analysis.proofs.ForkLemmas.{forks_within}
use Rattle.netlist_analysis.proofs.analysed.analyse_whole.Goals as goal

pub analyse_from-requires-clause-forks : goal.analyse_from-requires-clause-forks
analyse_from-requires-clause-forks g c κs within =
    rw (c.deref.ensures.value, c.in_ok-forks.ensures, c.in_ok-system.ensures) (forks_within c.args.netlist.now c.sound.ensures)
