-- The line of a netlist that has no analysis.
use Rattle.std.specs.Prelude.{◌-◌, map}
use Rattle.netlist_model.specs.Circuit.{Circuit}
use Rattle.netlist_model.specs.EventNames.{name_at, event_name}
use Rattle.netlist_model.specs.declared.faults.StatementFault.TheVariants as statement
use Rattle.netlist_model.specs.declared.faults.WholeFault.{WholeFault}
use Rattle.netlist_model.specs.declared.faults.WholeFault.TheVariants as whole
use Rattle.netlist_analysis.specs.declared.faults.NetlistFault.{NetlistFault}
use Rattle.netlist_analysis.specs.declared.faults.NetlistFault.TheVariants as net
use Rattle.report_writer.specs.declared.faults.FaultLine.{FaultLine}
use Rattle.report_writer.specs.declared.faults.FaultLine.TheVariants.{NetStatement, Undriven, NoRoot, IdleTick, TooManyRules, Unreached, NoReturn, Dead}

-- a net is told by its name, a tick by its position
abbrev pub whole_line : Circuit → WholeFault → FaultLine
whole_line c (whole.Undriven position) = Undriven (name_at c.nets (position - 1))
whole_line c whole.NoRoot = NoRoot
whole_line c (whole.IdleTick position) = IdleTick position
whole_line c (whole.TooManyRules count) = TooManyRules count

-- events are told by their names, a dead cycle by those of its rules' sources; a want of memory is told as a statement's
abbrev pub netlist_line : Circuit → NetlistFault → FaultLine
netlist_line c (net.Whole fault) = whole_line c fault
netlist_line c (net.Unreached event) = Unreached (event_name c.nets event)
netlist_line c (net.NoReturn event) = NoReturn (event_name c.nets event)
netlist_line c (net.Dead events) = Dead (map (event_name c.nets) events)
netlist_line c net.Memory = NetStatement 0 statement.Memory
