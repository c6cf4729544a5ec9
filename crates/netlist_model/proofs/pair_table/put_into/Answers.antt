use Rattle.std.proofs.Common.{ap, refl, ◌∙◌}
use Rattle.netlist_model.specs.PairTables.{placed_of}
use Rattle.netlist_model.proofs.PairLemmas.{put_map}
use Rattle.netlist_model.proofs.pair_table.put_into.Goals as goal

pub returns-clause-ok : goal.returns-clause-ok
returns-clause-ok c = λ q.
    ap (λ s. placed_of (s, c.insert.new.self.entries) q) (c.if-hold.ensures.same refl)
    ∙ put_map c.args.slots.now c.args.others.now.entries c.insert.new.self.entries c.args.key c.args.place (c.if-hold.ensures.other refl) (λ k. c.in_ok-insert.ensures.updates.0 k) q
