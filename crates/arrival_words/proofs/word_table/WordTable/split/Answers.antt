use Rattle.std.proofs.Common.{arith}
use Rattle.arrival_words.proofs.Moves.{splits}
use Rattle.arrival_words.proofs.word_table.WordTable.split.Goals as goal

pub split_seat-requires : goal.split_seat-requires
split_seat-requires c = (c.requires.table, omega (arith, c.args.self.now.wide), splits c.args.self.now.table.shared.key _ _)
