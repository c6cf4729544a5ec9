use Rattle.std.proofs.Common.{arith}
use Rattle.std.proofs.lemmas.Grind.{common_steps}
use Rattle.engine.proofs.commands.bench.of_words.Goals as goal

pub returns : goal.returns
returns g c = λ seen. let may = c.of_named.ensures seen in grind (arith, common_steps)
