use Rattle.arrival_words.specs.Samples.{one_net, one_net_start}
use Rattle.arrival_words.proofs.Samples.{attained_at}
use Rattle.arrival_words.proofs.tests.what_one_seat_raises_another_reads.Goals as goal

pub open-requires-clause-start : goal.open-requires-clause-start
open-requires-clause-start g c = attained_at c.of.result.top c.of.result.bottom 12 2 one_net one_net_start c.in_ok-system.system c.in_ok-system.ensures
    c.of.ensures.equal c.of.ensures.bottom c.of.ensures.lowest.positive c.one_net_can_be_opened.ensures.start
