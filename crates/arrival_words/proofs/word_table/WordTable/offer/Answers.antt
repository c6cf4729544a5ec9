use Rattle.std.proofs.Common.{◌*◌, ◌≤◌}
use Rattle.std.proofs.lemmas.Nat.{mul-le}
use Rattle.arrival_words.proofs.Limit.{offer_is}
use Rattle.arrival_words.proofs.word_table.WordTable.offer.Goals as goal

pub returns : goal.returns
returns c =
    let top = c.args.self.now.period.top in
    let offset = c.args.rule.offset in
    let down : top * offset ≤ 491520000000 = mul-le top offset 32768000000 15 c.args.self.now.small.0 c.requires.rule.2.1 in
    rw (c.bottom.ensures.bottom, c.top.ensures.top)
    (offer_is c.args.found (c.args.self.now.period.bottom * c.args.rule.delay) (top * offset) c.requires.within.0 down)
