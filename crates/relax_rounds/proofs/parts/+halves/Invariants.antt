-- Each call has fewer workers left than the one before, or comes nearer to their threads.
use Rattle.std.proofs.Common.{◌+◌, ◌-◌, ◌*◌}
use Rattle.relax_rounds.proofs.parts.+halves.Given as goal

abbrev pub decreases-relax_parts : goal.decreases-relax_parts
decreases-relax_parts g l = 3 * (l.last - l.first)

abbrev pub decreases-relax_halves : goal.decreases-relax_halves
decreases-relax_halves g l = 3 * (l.last - l.first) - 1

abbrev pub decreases-relax_halves-join_mut+arg2 : goal.decreases-relax_halves-join_mut+arg2
decreases-relax_halves-join_mut+arg2 g l = 3 * (l.middle - l.first) + 1

abbrev pub decreases-relax_halves-join_mut+arg3 : goal.decreases-relax_halves-join_mut+arg3
decreases-relax_halves-join_mut+arg3 g l = 3 * (l.last - l.middle) + 1
