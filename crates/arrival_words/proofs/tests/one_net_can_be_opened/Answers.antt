use Rattle.arrival_words.proofs.Samples.{no_gain, starts}
use Rattle.arrival_words.proofs.tests.one_net_can_be_opened.Goals as goal

pub returns-clause-no_gain : goal.returns-clause-no_gain
returns-clause-no_gain c = no_gain

pub returns-clause-start : goal.returns-clause-start
returns-clause-start c = starts
