-- The worked scripts, computed.
use Rattle.std.proofs.Common.{refl}
use Rattle.cyc_text.specs.Name.{is_name}
use Rattle.netlist_model.specs.Edits.{edited_from}
use Rattle.netlist_model.specs.Statements.{add_net}
use Rattle.session_machine.specs.WorkedScripts.{TakeTurns, QueriesArePinned, RebaseIsRefused, IsRefusedInOrder, StaleIsToldLast}

pub turns_taken : TakeTurns
unfolding is_name edited_from add_net
turns_taken = (refl, refl, refl)

pub queries_pinned : QueriesArePinned
unfolding is_name edited_from add_net
queries_pinned = refl

pub rebase_refused : RebaseIsRefused
unfolding is_name edited_from add_net
rebase_refused = refl

pub refused_in_order : IsRefusedInOrder
unfolding is_name edited_from add_net
refused_in_order = refl

pub stale_last : StaleIsToldLast
unfolding is_name edited_from add_net
stale_last = refl
