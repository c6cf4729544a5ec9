-- What commands do with the files that they open.
use Rattle.std.specs.Prelude.{◌+◌, ◌-◌, ℕ, List, [], ◌∷◌, ◌++◌, count_by, length, sum_by, Result, Ok, Err}
use Rattle.cell_arcs.specs.Library.{library_of}
use Rattle.cell_arcs.specs.declared.cells.Cell.{Cell}
use Rattle.netlist_model.specs.Circuit.{Circuit}
use Rattle.netlist_model.specs.declared.edits.Edit.{Edit}
use Rattle.netlist_model.specs.declared.faults.StatementFault.TheVariants as statement
use Rattle.netlist_reader.specs.EditFiles.{edits_of}
use Rattle.netlist_reader.specs.NetlistFiles.{netlist_of}
use Rattle.netlist_reader.specs.declared.faults.EditsFault.{EditsFault}
use Rattle.netlist_reader.specs.declared.faults.EditsFault.TheVariants as edits
use Rattle.netlist_reader.specs.declared.faults.NetFault.{NetFault}
use Rattle.netlist_reader.specs.declared.faults.NetFault.TheVariants as net
use Rattle.session_script.specs.Calls.{is_report}
use Rattle.session_script.specs.Scripts.{script_of}
use Rattle.session_script.specs.declared.calls.Call.{Call}
use Rattle.session_script.specs.declared.faults.ScriptFault.{ScriptFault}
use Rattle.session_script.specs.declared.faults.ScriptFault.TheVariants as script
use Rattle.session_machine.specs.Sessions.{Base}
use Rattle.query_replies.specs.Served.{base_of}
use Rattle.analysis.specs.declared.analyses.Analysis.{Analysis}
use Rattle.report_writer.specs.NetlistLines.{netlist_line}
use Rattle.report_writer.specs.declared.faults.FaultLine.{FaultLine}
use Rattle.report_writer.specs.declared.faults.FaultLine.TheVariants.{Library, NetSyntax, NetStatement, EditsSyntax, EditsStatement, ScriptSyntax, ScriptTooMany}
use Rattle.engine.specs.Courses.{Course, Refuses, Opens, Analyses}

-- the value that was read, or the line of its refusal
abbrev pub accepted : {A E : Type 0} → (E → FaultLine) → (A → Course) → Result A E → Course
accepted line next (Ok value) = next value
accepted line next (Err e) = Refuses (line e)

-- the line of a refused netlist file; want of memory, which refuses none, is told as a statement's
abbrev pub net_line : NetFault → FaultLine
net_line (net.Syntax line) = NetSyntax line
net_line (net.Statement line e) = NetStatement line e
net_line net.Memory = NetStatement 0 statement.Memory

-- the line of a refused file of edits
abbrev pub edits_line : EditsFault → FaultLine
edits_line (edits.Syntax line) = EditsSyntax line
edits_line edits.Memory = EditsStatement 0 statement.Memory

-- the line of a refused script, which is told by its number
abbrev pub script_line : ℕ → ScriptFault → FaultLine
script_line number (script.Syntax line) = ScriptSyntax number line
script_line number (script.TooMany limit) = ScriptTooMany number limit
script_line number script.Memory = EditsStatement 0 statement.Memory

-- bytes are read as a library
abbrev pub library_read : List ℕ → (List Cell → Course) → Course
library_read bytes next = accepted Library next (library_of bytes)

-- bytes are read as a netlist over a library
abbrev pub netlist_read : List Cell → List ℕ → (Circuit → Course) → Course
netlist_read library bytes next = accepted net_line next (netlist_of library bytes)

-- bytes are read as edits
abbrev pub edits_read : List ℕ → (List Edit → Course) → Course
edits_read bytes next = accepted edits_line next (edits_of bytes)

-- bytes are read as the script of a number, where so many calls and so many reports are left
abbrev pub script_read : ℕ → ℕ → ℕ → List ℕ → (List Call → Course) → Course
script_read number calls reports bytes next = accepted (script_line number) next (script_of bytes calls reports)

-- a file is opened and read as a library
abbrev pub library_opened : List ℕ → (List Cell → Course) → Course
library_opened name next = Opens name (λ bytes. library_read bytes next)

-- a file is opened and read as a netlist
abbrev pub netlist_opened : List Cell → List ℕ → (Circuit → Course) → Course
netlist_opened library name next = Opens name (λ bytes. netlist_read library bytes next)

-- a file is opened and read as edits
abbrev pub edits_opened : List ℕ → (List Edit → Course) → Course
edits_opened name next = Opens name (λ bytes. edits_read bytes next)

-- a file is opened and read as a script
abbrev pub script_opened : ℕ → ℕ → ℕ → List ℕ → (List Call → Course) → Course
script_opened number calls reports name next = Opens name (λ bytes. script_read number calls reports bytes next)

-- the most calls and the most reports of all scripts
abbrev pub most_calls : ℕ
most_calls = 4096

abbrev pub most_reports : ℕ
most_reports = 64

-- how many of them these scripts leave
abbrev pub calls_left : List (List Call) → ℕ
calls_left scripts = most_calls - sum_by length scripts

abbrev pub reports_left : List (List Call) → ℕ
reports_left scripts = most_reports - sum_by (count_by is_report) scripts

-- files are opened and read as scripts, one after another, behind these scripts
abbrev pub scripts_opened : List (List ℕ) → List (List Call) → (List (List Call) → Course) → Course
scripts_opened [] scripts next = next scripts
scripts_opened (name ∷ names) scripts next =
    script_opened (length scripts + 1) (calls_left scripts) (reports_left scripts) name
    (λ script. scripts_opened names (scripts ++ script ∷ []) next)

-- a netlist is analysed, or refused by the line of why it has no analysis
abbrev pub analysed : List Cell → Circuit → (Analysis → Course) → Course
analysed library c next = Analyses library c (accepted (netlist_line c) next)

-- a netlist is analysed, as what sessions start from
abbrev pub base_analysed : List Cell → Circuit → (Base → Course) → Course
base_analysed library c next = analysed library c (λ analysis. next (base_of library c))

-- two files are opened and read as what sessions start from: a library, and a netlist over it that has an analysis
abbrev pub netlist_based : List ℕ → List Cell → (Base → Course) → Course
netlist_based netlist library next = netlist_opened library netlist (λ c. base_analysed library c next)

abbrev pub base_opened : List ℕ → List ℕ → (Base → Course) → Course
base_opened library netlist next = library_opened library (λ cells. netlist_based netlist cells next)
