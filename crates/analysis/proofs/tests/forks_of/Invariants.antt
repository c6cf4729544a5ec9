use Rattle.std.proofs.Common.{All}
use Rattle.analysis.specs.Forks.{IsFork}
use Rattle.analysis.proofs.tests.forks_of.Given as goal

abbrev pub invariant-forks : goal.invariant-forks
invariant-forks g l = All (IsFork l.events) l.forks.items
