use Rattle.cyc_text.specs.Words.{ends_word}
use Rattle.cyc_text.proofs.WordLemmas.{none_found}
use Rattle.cyc_text.proofs.spans.word_len.Goals as goal

pub returns-clause-first : goal.returns-clause-first
returns-clause-first c = none_found ends_word c.args.rest.now c.loop-i.i c.loop-i.invariant c.loop-i-test.false
