use Rattle.std.proofs.Common.{All}
use Rattle.analysis.specs.Forks.{IsFork}
use Rattle.analysis.proofs.drawn_tests.drawn_forks.Given as goal

abbrev pub invariant-forks : goal.invariant-forks
invariant-forks l = All (IsFork l.events) l.forks.items
