use Rattle.std.proofs.Common.{arith, sym, ◌∙◌}
use Rattle.cyc_text.proofs.WordLemmas.{none_past_comment, none_left, blanks_lead, first_left, left_behind_word}
use Rattle.cyc_text.proofs.spans.next_word.Goals as goal

pub returns-then-has_comment : goal.returns-then-has_comment
returns-then-has_comment c =
    none_past_comment c.args.bytes.now c.args.line.from c.args.at c.args.line.to c.requires.before (sym c.has_comment.ensures ∙ c.if-has_comment.true)

pub returns-then-len-eq0 : goal.returns-then-len-eq0
returns-then-len-eq0 c =
    none_left c.args.bytes.now c.args.line.from c.args.at c.args.line.to c.blank_len.result c.word_len-len.result
    c.requires.after c.requires.before (sym c.has_comment.ensures ∙ c.if-has_comment.false) c.blank_len.ensures.first c.word_len-len.ensures.first c.if-len-eq0.true

pub returns : goal.returns
returns c = record {
  starts = omega arith;
  lead = blanks_lead c.args.bytes.now c.args.at c.args.line.to c.blank_len.result c.blank_len.ensures.first (omega arith);
  some = omega arith;
  within = omega arith;
  cut =
      first_left c.args.bytes.now c.args.line.from c.args.at c.args.line.to c.blank_len.result c.word_len-len.result
      c.requires.after c.requires.before (sym c.has_comment.ensures ∙ c.if-has_comment.false) c.blank_len.ensures.first c.word_len-len.ensures.first (omega arith) (omega arith);
  further =
      left_behind_word c.args.bytes.now c.args.line.from c.args.at c.args.line.to c.blank_len.result c.word_len-len.result
      c.requires.after c.requires.before (sym c.has_comment.ensures ∙ c.if-has_comment.false) c.blank_len.ensures.first c.word_len-len.ensures.first;
}
