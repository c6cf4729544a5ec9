use Rattle.engine.proofs.Completing.{same_answer, plain_answer}
use Rattle.engine.proofs.laws.answer_is_unique.Goals as goal

pub returns-clause-one : goal.returns-clause-one
returns-clause-one c = same_answer c.finding_is_unique.ensures c.tellings_exist.ensures (record {
  libraries = c.libraries_are_sound.ensures.accepted;
  no_library = c.libraries_are_sound.ensures.refused;
  netlists = c.netlists_are_sound.ensures.accepted;
  no_netlist = c.netlists_are_sound.ensures.refused;
  statements = c.netlists_are_sound.ensures.statements;
  no_edits = c.edit_files_are_told.ensures.refused;
  scripts = c.first_faulty_line_is_told.ensures;
  no_edited = c.edited_netlists_are_sound.ensures.refused;
  edit_statements = c.edited_netlists_are_sound.ensures.statements;
})

pub returns-clause-plain : goal.returns-clause-plain
returns-clause-plain c = plain_answer (record {
  libraries = c.libraries_are_sound.ensures.accepted;
  no_library = c.libraries_are_sound.ensures.refused;
  netlists = c.netlists_are_sound.ensures.accepted;
  no_netlist = c.netlists_are_sound.ensures.refused;
  statements = c.netlists_are_sound.ensures.statements;
  no_edits = c.edit_files_are_told.ensures.refused;
  scripts = c.first_faulty_line_is_told.ensures;
  no_edited = c.edited_netlists_are_sound.ensures.refused;
  edit_statements = c.edited_netlists_are_sound.ensures.statements;
})
