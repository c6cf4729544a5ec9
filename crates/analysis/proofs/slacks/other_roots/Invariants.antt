use Rattle.analysis.proofs.Roots.{AreRoots}
use Rattle.analysis.proofs.slacks.other_roots.Given as goal

abbrev pub invariant-forks : goal.invariant-forks
invariant-forks l = AreRoots l.forks l.root l.number l.roots.items
