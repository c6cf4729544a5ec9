use Rattle.std.proofs.Common.{◌≡◌, ◌+◌}
use Rattle.version_store.proofs.tests.full_hall.Given as goal

abbrev pub invariant-loop : goal.invariant-loop
invariant-loop l = l.hall.room + l.counter ≡ 257
