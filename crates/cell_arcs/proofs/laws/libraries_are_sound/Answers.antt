use Rattle.cell_arcs.proofs.SoundLibraries.{library_sound, never_memory}
use Rattle.cell_arcs.proofs.laws.libraries_are_sound.Goals as goal

pub returns-clause-accepted : goal.returns-clause-accepted
returns-clause-accepted c = library_sound

pub returns-clause-refused : goal.returns-clause-refused
returns-clause-refused c = never_memory
