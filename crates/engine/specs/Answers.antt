-- What the program answers: the status, the text and the order of each answer.
use Rattle.std.specs.Prelude.{ℕ, List, [], Result, Ok, Err}
use Rattle.report_writer.specs.FaultLines.{fault_text}
use Rattle.report_writer.specs.Sources.{source_of}
use Rattle.report_writer.specs.declared.faults.FaultLine.{FaultLine}
use Rattle.report_writer.specs.declared.faults.Source.{Source}
use Rattle.report_writer.specs.declared.faults.Source.TheVariants.{Words, Library, Netlist, Edits, Script, Reading}
use Rattle.engine.specs.declared.faults.Fault.{Fault}
use Rattle.engine.specs.declared.faults.Fault.TheVariants.{Line, Memory}
use Rattle.engine.specs.declared.outcome.Written.{Written}

-- what is written, or a fault
abbrev pub Answer : Type 0
Answer = Result Written Fault

-- a text of no sessions
abbrev pub plain : List ℕ → Written
plain text = record { text = text; order = [] }

-- the fault that a line tells
abbrev pub told : FaultLine → Answer
told line = Err (Line line)

-- the status of what a line tells of
abbrev pub source_status : Source → ℕ
source_status Words = 2
source_status Library = 3
source_status Netlist = 4
source_status Edits = 4
source_status Script = 5
source_status Reading = 6

-- the status of each answer
abbrev pub status_of : Answer → ℕ
status_of (Ok written) = 0
status_of (Err (Line line)) = source_status (source_of line)
status_of (Err Memory) = 8

-- what is written for it; for want of memory nothing
abbrev pub text_of : Answer → List ℕ
text_of (Ok written) = written.text
text_of (Err (Line line)) = fault_text line
text_of (Err Memory) = []

-- the order of the sessions' shared calls; a fault has none
abbrev pub order_of : Answer → List ℕ
order_of (Ok written) = written.order
order_of (Err fault) = []
