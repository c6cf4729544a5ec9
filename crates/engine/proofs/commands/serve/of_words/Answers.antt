use Rattle.std.proofs.Common.{inr, refl}
use Rattle.std.specs.String.{string_bytes}
use Rattle.engine.proofs.OneMore.{few_words}
use Rattle.engine.proofs.commands.serve.of_words.Goals as goal

pub returns-in_default-clause-may : goal.returns-in_default-clause-may
returns-in_default-clause-may g c = rw (few_words string_bytes c.args.words.now c.in_default.len_below) (inr refl)
