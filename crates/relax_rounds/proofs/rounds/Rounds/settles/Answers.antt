use Rattle.relax_rounds.proofs.Reading.{within_wider}
use Rattle.relax_rounds.proofs.Rounding.{feasible_in}
use Rattle.relax_rounds.proofs.rounds.Rounds.settles.Goals as goal

pub feasible-requires-clause-within : goal.feasible-requires-clause-within
feasible-requires-clause-within g c = within_wider _ c.read_all.ensures.within

pub returns-clause-feasible : goal.returns-clause-feasible
returns-clause-feasible g c = λ h. feasible_in c.args.words.now.about _ _ _ _ c.period.ensures.top c.period.ensures.bottom c.system.ensures (c.feasible.ensures.0 h)
