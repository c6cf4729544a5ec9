use Rattle.std.proofs.Common.{map}
use Rattle.std.specs.String.{string_bytes}
use Rattle.engine.specs.Runs.{run_of}
use Rattle.engine.proofs.Ending.{run_ends}
use Rattle.engine.proofs.top.serve.Goals as goal

pub returns-clause-run : goal.returns-clause-run
returns-clause-run g c =
    run_ends (run_of (map string_bytes c.args.words.now) (g.F.Shelf.seen c.args.shelf.now) (g.F.Shelf.seen c.judge_serve-answer.new.shelf)
    (g.K.Sink.seen c.args.sink.now) (g.K.Sink.seen c.write_answer.new.sink))
    c.judge_serve-answer.result c.write_answer.result c.judge_serve-answer.ensures.may c.write_answer.ensures.known c.write_answer.ensures.whole
    c.write_answer.ensures.order c.write_answer.ensures.cut c.write_answer.ensures.memory c.write_answer.ensures.untold
