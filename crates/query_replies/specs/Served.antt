-- What sessions over a netlist are replied.
use Rattle.std.specs.Prelude.{◌≡◌, ℕ, List}
use Rattle.cell_arcs.specs.declared.cells.Cell.{Cell}
use Rattle.netlist_model.specs.Circuit.{Circuit}
use Rattle.session_script.specs.Calls.{is_shared}
use Rattle.session_script.specs.declared.calls.Call.{Call}
use Rattle.session_machine.specs.Orders.{IsOrder}
use Rattle.session_machine.specs.Machine as machine
use Rattle.session_machine.specs.Sessions.{Base, sessions}
use Rattle.session_machine.specs.declared.replies.Reply.{Reply}
use Rattle.query_replies.specs.Readings.{Analyses, readings_in}

-- what sessions start from
abbrev pub base_of : List Cell → Circuit → Base
base_of library c = record { library = library; netlist = c }

-- the order has each session as often as its script has shared calls, and the replies are those of the machine of sessions that takes
-- the calls one at a time along it, where each query is read of the analysis of its version's netlist, found again from the edits
pub record AreServed (library : List Cell) (c : Circuit) (scripts : List (List Call)) (order : List ℕ) (replies : List (List Reply)) : Type 0 where
  pub order_is : IsOrder is_shared scripts order
  pub replies_are : (all : Analyses) → all.library ≡ library → replies ≡ machine.replies (sessions (readings_in all) (base_of library c)) scripts order
