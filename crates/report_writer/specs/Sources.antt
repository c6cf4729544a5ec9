-- What the line of a fault tells of.
use Rattle.report_writer.specs.declared.faults.FaultLine.{FaultLine}
use Rattle.report_writer.specs.declared.faults.FaultLine.TheVariants as line
use Rattle.report_writer.specs.declared.faults.Source.{Source}
use Rattle.report_writer.specs.declared.faults.Source.TheVariants.{Words, Library, Netlist, Edits, Script, Reading}

-- the words, a file's content, or the reading of a file
abbrev pub source_of : FaultLine → Source
source_of line.Usage = Words
source_of (line.Library e) = Library
source_of (line.NetSyntax n) = Netlist
source_of (line.NetStatement n e) = Netlist
source_of (line.Undriven net) = Netlist
source_of line.NoRoot = Netlist
source_of (line.IdleTick tick) = Netlist
source_of (line.TooManyRules count) = Netlist
source_of (line.Unreached event) = Netlist
source_of (line.NoReturn event) = Netlist
source_of (line.Dead events) = Netlist
source_of (line.EditsSyntax n) = Edits
source_of (line.EditsStatement n e) = Edits
source_of (line.ScriptSyntax script n) = Script
source_of (line.ScriptTooMany script limit) = Script
source_of (line.ReadFault name) = Reading
source_of (line.TooLong name) = Reading
