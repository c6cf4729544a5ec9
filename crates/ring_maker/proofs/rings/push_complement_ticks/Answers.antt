use Rattle.std.proofs.Common.{arith}
use Rattle.ring_maker.specs.Ring as spec
use Rattle.ring_maker.proofs.Stages.{line_of_stage_written, all_lines_written}
use Rattle.ring_maker.proofs.rings.push_complement_ticks.Goals as goal

pub loop-stage-preserved : goal.loop-stage-preserved
loop-stage-preserved c = line_of_stage_written spec.complement_tick c.loop-stage.stage c.args.stages _ _ _ (omega arith) c.in_ok-push_tick.ensures c.loop-stage.invariant

pub returns : goal.returns
returns c = all_lines_written spec.complement_tick c.loop-stage.stage c.args.stages _ _ (omega arith) c.loop-stage.invariant
