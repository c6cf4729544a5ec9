use Rattle.std.proofs.Common.{◌-◌, length}
use Rattle.rule_system.specs.Rows.{AreChains}
use Rattle.rule_system.proofs.rows.link_all.Given as goal

abbrev pub invariant-places : goal.invariant-places
invariant-places l = AreChains l.ends (length l.ends - l.back) l.events l.firsts l.nexts
