use Rattle.edit_log.proofs.InTurn.{joined, refused_first, refused_second}
use Rattle.edit_log.proofs.laws.edits_are_joined.Goals as goal

pub returns-clause-made : goal.returns-clause-made
returns-clause-made c = joined

pub returns-clause-first : goal.returns-clause-first
returns-clause-first c = refused_first

pub returns-clause-second : goal.returns-clause-second
returns-clause-second c = refused_second
