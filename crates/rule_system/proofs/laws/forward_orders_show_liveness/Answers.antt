use Rattle.rule_system.proofs.Forward.{live_by_order}
use Rattle.rule_system.proofs.laws.forward_orders_show_liveness.Goals as goal

pub returns : goal.returns
returns c = live_by_order
