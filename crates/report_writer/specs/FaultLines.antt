-- The line of each fault.
use Rattle.std.specs.Prelude.{◌++◌, ℕ, List, [], ◌∷◌, codes, decimal}
use Rattle.cyc_text.specs.declared.limits.Limit.{Limit}
use Rattle.cyc_text.specs.declared.limits.Limit.TheVariants as limit
use Rattle.cell_arcs.specs.declared.faults.LibraryFault.{LibraryFault}
use Rattle.cell_arcs.specs.declared.faults.LibraryFault.TheVariants as library
use Rattle.netlist_model.specs.declared.faults.StatementFault.{StatementFault}
use Rattle.netlist_model.specs.declared.faults.StatementFault.TheVariants as statement
use Rattle.report_writer.specs.declared.faults.FaultLine.{FaultLine}
use Rattle.report_writer.specs.declared.faults.FaultLine.TheVariants.{Usage, Library, NetSyntax, NetStatement, Undriven, NoRoot, IdleTick, TooManyRules, Unreached, NoReturn, Dead, EditsSyntax, EditsStatement, ScriptSyntax, ScriptTooMany, ReadFault, TooLong}

-- what there is too many of
abbrev pub limit_word : Limit → List ℕ
limit_word limit.Cells = codes "cells"
limit_word limit.Inputs = codes "inputs"
limit_word limit.Nets = codes "nets"
limit_word limit.Consts = codes "consts"
limit_word limit.Forks = codes "forks"
limit_word limit.Roots = codes "roots"
limit_word limit.Lines = codes "lines"
limit_word limit.Reports = codes "reports"

-- a cell by its position
abbrev pub at_cell : List ℕ → ℕ → List ℕ
at_cell code cell = code ++ codes " cell " ++ decimal cell

-- a pin of a cell by their positions
abbrev pub at_pin : List ℕ → ℕ → ℕ → List ℕ
at_pin code cell pin = at_cell code cell ++ codes " pin " ++ decimal pin

-- an arc of a cell by their positions
abbrev pub at_arc : List ℕ → ℕ → ℕ → List ℕ
at_arc code cell arc = at_cell code cell ++ codes " arc " ++ decimal arc

-- too many cells are of the whole library, too many of another kind of a cell
abbrev pub too_many_text : Limit → ℕ → List ℕ
too_many_text limit.Cells cell = codes "L9 cells"
too_many_text limit.Inputs cell = at_cell (codes "L9 inputs") cell
too_many_text limit.Nets cell = at_cell (codes "L9 nets") cell
too_many_text limit.Consts cell = at_cell (codes "L9 consts") cell
too_many_text limit.Forks cell = at_cell (codes "L9 forks") cell
too_many_text limit.Roots cell = at_cell (codes "L9 roots") cell
too_many_text limit.Lines cell = at_cell (codes "L9 lines") cell
too_many_text limit.Reports cell = at_cell (codes "L9 reports") cell

-- why a library is refused, and where
abbrev pub library_text : LibraryFault → List ℕ
library_text library.BadToml = codes "L1"
library_text (library.BadShape cell) = at_cell (codes "L2") cell
library_text (library.BadName cell pin) = at_pin (codes "L3") cell pin
library_text (library.RepeatedPin cell pin) = at_pin (codes "L4") cell pin
library_text (library.UnknownPin cell arc) = at_arc (codes "L5") cell arc
library_text (library.RepeatedArc cell arc) = at_arc (codes "L6") cell arc
library_text (library.BadSense cell arc) = at_arc (codes "L7") cell arc
library_text (library.BadDelay cell arc) = at_arc (codes "L8") cell arc
library_text (library.TooMany limit cell) = too_many_text limit cell
library_text library.Memory = codes "L10"

-- the code of a statement's fault, and a blank where a payload follows
abbrev pub statement_code : StatementFault → List ℕ
statement_code statement.BadName = codes "S1"
statement_code statement.NameTaken = codes "S2"
statement_code statement.UnknownNet = codes "S3"
statement_code statement.UnknownCell = codes "S4"
statement_code statement.UnknownInst = codes "S5"
statement_code statement.UnknownPin = codes "S6"
statement_code statement.BadPins = codes "S7"
statement_code (statement.DriverTaken at) = codes "S8 "
statement_code statement.ConstDriven = codes "S9"
statement_code statement.NoArc = codes "S10"
statement_code (statement.OutOfRange number) = codes "S11 "
statement_code statement.TickTaken = codes "S12"
statement_code statement.UnknownEvent = codes "S13"
statement_code statement.RootTaken = codes "S14"
statement_code statement.ForkTaken = codes "S15"
statement_code statement.UnknownFork = codes "S16"
statement_code statement.StillUsed = codes "S17"
statement_code (statement.TooMany limit) = codes "S18 "
statement_code statement.Memory = codes "S19"

-- the position of a driver, a number out of range, what there is too many of
abbrev pub statement_payload : StatementFault → List ℕ
statement_payload statement.BadName = []
statement_payload statement.NameTaken = []
statement_payload statement.UnknownNet = []
statement_payload statement.UnknownCell = []
statement_payload statement.UnknownInst = []
statement_payload statement.UnknownPin = []
statement_payload statement.BadPins = []
statement_payload (statement.DriverTaken at) = decimal at
statement_payload statement.ConstDriven = []
statement_payload statement.NoArc = []
statement_payload (statement.OutOfRange number) = decimal number
statement_payload statement.TickTaken = []
statement_payload statement.UnknownEvent = []
statement_payload statement.RootTaken = []
statement_payload statement.ForkTaken = []
statement_payload statement.UnknownFork = []
statement_payload statement.StillUsed = []
statement_payload (statement.TooMany limit) = limit_word limit
statement_payload statement.Memory = []

-- why a statement is refused
abbrev pub statement_text : StatementFault → List ℕ
statement_text e = statement_code e ++ statement_payload e

-- each name with a space before it
unfoldable pub spaced : List (List ℕ) → List ℕ
spaced [] = []
spaced (name ∷ names) = codes " " ++ name ++ spaced names

-- the text behind `fault: `
abbrev pub told : FaultLine → List ℕ
told Usage = codes "usage"
told (Library e) = codes "library " ++ library_text e
told (NetSyntax line) = codes "netlist line " ++ decimal line ++ codes " syntax"
told (NetStatement line e) = codes "netlist line " ++ decimal line ++ codes " " ++ statement_text e
told (Undriven net) = codes "netlist H1 " ++ net
told NoRoot = codes "netlist H2"
told (IdleTick tick) = codes "netlist H3 " ++ decimal tick
told (TooManyRules count) = codes "netlist H4 " ++ decimal count
told (Unreached event) = codes "netlist V1 " ++ event
told (NoReturn event) = codes "netlist V2 " ++ event
told (Dead events) = codes "netlist V3" ++ spaced events
told (EditsSyntax line) = codes "edits line " ++ decimal line ++ codes " syntax"
told (EditsStatement edit e) = codes "edits edit " ++ decimal edit ++ codes " " ++ statement_text e
told (ScriptSyntax script line) = codes "script " ++ decimal script ++ codes " line " ++ decimal line ++ codes " syntax"
told (ScriptTooMany script limit) = codes "script " ++ decimal script ++ codes " P2 " ++ limit_word limit
told (ReadFault name) = codes "read " ++ name
told (TooLong name) = codes "too long " ++ name

-- the line of a fault
abbrev pub fault_text : FaultLine → List ℕ
fault_text fault = codes "fault: " ++ told fault ++ codes "\n"
