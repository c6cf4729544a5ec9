use Rattle.std.proofs.Common.{arith}
use Rattle.ring_maker.specs.Ring as spec
use Rattle.ring_maker.proofs.Stages.{stage_written, all_stages_written}
use Rattle.ring_maker.proofs.rings.push_nets.Goals as goal

pub loop-stage-preserved : goal.loop-stage-preserved
loop-stage-preserved c = stage_written spec.net_lines c.loop-stage.stage c.args.stages _ _ _ (omega arith) c.in_ok-push_stage_nets.ensures c.loop-stage.invariant

pub returns : goal.returns
returns c = all_stages_written spec.net_lines c.loop-stage.stage c.args.stages _ _ (omega arith) c.loop-stage.invariant
