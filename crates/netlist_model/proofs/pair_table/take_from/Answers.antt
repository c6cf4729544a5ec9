use Rattle.netlist_model.proofs.PairLemmas.{put_away}
use Rattle.netlist_model.proofs.pair_table.take_from.Goals as goal

pub returns-in-Some-clause-updates : goal.returns-in-Some-clause-updates
returns-in-Some-clause-updates c = λ q.
    put_away c.args.slots.now c.let_go.new.slots c.args.others.now.entries c.remove-other.new.self.entries c.args.key c.let_go.ensures.updates (λ k. c.remove-other.ensures.updates.0 k) q

pub returns-in-None-clause-updates : goal.returns-in-None-clause-updates
returns-in-None-clause-updates c = λ q.
    put_away c.args.slots.now c.let_go.new.slots c.args.others.now.entries c.remove-other.new.self.entries c.args.key c.let_go.ensures.updates (λ k. c.remove-other.ensures.updates.0 k) q
