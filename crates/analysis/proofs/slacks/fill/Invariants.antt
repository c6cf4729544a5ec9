use Rattle.analysis.proofs.Roots.{WritesFirst}
use Rattle.analysis.proofs.slacks.fill.Given as goal

abbrev pub invariant-forks : goal.invariant-forks
invariant-forks l = WritesFirst l.period.top l.period.bottom l.forks l.root l.arrivals l.initial.slacks l.number l.slacks
