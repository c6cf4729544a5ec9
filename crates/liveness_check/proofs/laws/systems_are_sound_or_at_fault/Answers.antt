use Rattle.std.proofs.Common.{arith}
use Rattle.rule_system.specs.Walks.{has_no_offset}
use Rattle.liveness_check.proofs.Soundness.{sound_or_at_fault}
use Rattle.liveness_check.proofs.laws.systems_are_sound_or_at_fault.Goals as goal

pub returns : goal.returns
returns c = λ events rules root ends inside. sound_or_at_fault events rules root (record {
  short = c.short_walks_weigh_most.ensures 0 0 events rules ends (λ cycle h. omega arith);
  first = c.kept_cycles_have_a_first.ensures events rules (has_no_offset rules) ends;
  live = c.systems_without_dead_cycles_are_live.ensures rules;
}) ends inside
