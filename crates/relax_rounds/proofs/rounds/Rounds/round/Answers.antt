use Rattle.relax_rounds.proofs.Joining.{all_parts}
use Rattle.relax_rounds.proofs.rounds.Rounds.round.Goals as goal

pub returns-clause-round : goal.returns-clause-round
returns-clause-round g c = all_parts c.args.words.now.about c.args.self.now.workers c.args.seat.now.known c.relax_parts.new.seat.known c.args.self.now.some c.relax_parts.ensures.relaxed c.relax_parts.ensures.kept
