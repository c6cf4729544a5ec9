use Rattle.std.proofs.Common.{ap, ◌∙◌}
use Rattle.netlist_model.specs.Keyed.{event_before, told_of}
use Rattle.netlist_model.proofs.PairLemmas.{left_at, numbered_left, told_left}
use Rattle.netlist_model.proofs.pairs.Pairs.leave.Goals as goal

pub invariant_of-self : goal.invariant_of-self
invariant_of-self c =
    numbered_left c.self.inside.places c.self.inside.numbers.items c.forget-2.new.numbers.items c.self.inside.next c.args.gone c.self.invariant
    (λ n. left_at c.self.inside.numbers.items c.forget.new.numbers.items c.forget-2.new.numbers.items c.args.gone n c.forget.ensures c.forget-2.ensures)

pub returns : goal.returns
returns c = λ u v.
    told_left c.self.inside.places c.self.inside.numbers.items c.forget-2.new.numbers.items c.args.gone u v
    (λ n. left_at c.self.inside.numbers.items c.forget.new.numbers.items c.forget-2.new.numbers.items c.args.gone n c.forget.ensures c.forget-2.ensures)
    ∙ ap (λ t. told_of t (event_before c.args.gone u) (event_before c.args.gone v)) c.self.view_is
