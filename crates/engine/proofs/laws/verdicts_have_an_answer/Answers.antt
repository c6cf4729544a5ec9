use Rattle.engine.proofs.Completing.{has_answer, known_answer, told_answer}
use Rattle.engine.proofs.laws.verdicts_have_an_answer.Goals as goal

pub returns-clause-answered : goal.returns-clause-answered
returns-clause-answered c = has_answer c.netlists_have_a_finding.ensures (record {
  libraries = c.libraries_are_sound.ensures.accepted;
  no_library = c.libraries_are_sound.ensures.refused;
  netlists = c.netlists_are_sound.ensures.accepted;
  no_netlist = c.netlists_are_sound.ensures.refused;
  statements = c.netlists_are_sound.ensures.statements;
  no_edits = c.edit_files_are_told.ensures.refused;
  scripts = c.first_faulty_line_is_told.ensures;
  no_edited = c.edited_netlists_are_sound.ensures.refused;
  edit_statements = c.edited_netlists_are_sound.ensures.statements;
})

pub returns-clause-known : goal.returns-clause-known
returns-clause-known c = known_answer

pub returns-clause-told : goal.returns-clause-told
returns-clause-told c = told_answer
