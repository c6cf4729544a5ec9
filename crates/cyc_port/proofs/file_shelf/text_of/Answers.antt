use Rattle.std.specs.IoError.{error_kind}
use Rattle.cyc_port.proofs.Reading.{whole_of, long_of}
use Rattle.cyc_port.proofs.file_shelf.text_of.Goals as goal

pub returns-clause-whole : goal.returns-clause-whole
returns-clause-whole g c =
    whole_of g.F.Read.remaining (λ bytes. bytes.items) (λ error. error_kind error) c.args.opened c.read_front.result c.answer_of.result
    c.read_front.ensures.front c.answer_of.ensures.bytes c.answer_of.ensures.error

pub returns-clause-too_long : goal.returns-clause-too_long
returns-clause-too_long g c =
    long_of g.F.Read.remaining (λ bytes. bytes.items) (λ error. error_kind error) c.args.opened c.read_front.result c.answer_of.result
    c.read_front.ensures.front c.answer_of.ensures.bytes c.answer_of.ensures.error
