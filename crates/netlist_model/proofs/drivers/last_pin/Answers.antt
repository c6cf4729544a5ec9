use Rattle.std.proofs.Common.{◌∙◌}
use Rattle.netlist_model.proofs.DriverLemmas.{last_at}
use Rattle.netlist_model.proofs.drivers.last_pin.Goals as goal

pub returns : goal.returns
returns c = c.copied.ensures ∙ c.last.ensures.value ∙ last_at c.args.pins.now
