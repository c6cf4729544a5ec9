use Rattle.std.proofs.Common.{◌<◌, arith, sym, ◌∙◌, refl, subst}
use Rattle.arrival_words.specs.About.{About, IsReached}
use Rattle.arrival_words.specs.Views.{value_of}
use Rattle.arrival_words.proofs.Moves.{raises}
use Rattle.arrival_words.proofs.Knowing.{seat_after}
use Rattle.arrival_words.proofs.word_table.WordTable.raise.Goals as goal

pub fetch_max-requires : goal.fetch_max-requires
fetch_max-requires c = (
  c.requires.seat.table,
  omega (arith, c.args.self.now.wide, c.requires.event),
  raises c.args.self.now.table.shared.key _ _ c.args.seat.now.me c.args.event _ c.args.offer refl (c.requires.seat.about ∙ sym c.args.self.now.tied)
      (subst (λ (a : About). c.args.event < a.events) (sym c.args.self.now.tied) c.requires.event) (omega (arith, c.requires.seat.wide, c.requires.event))
      (subst (λ (a : About). IsReached a c.args.event (value_of c.args.offer)) (sym c.args.self.now.tied) c.requires.reached),
)

pub returns-clause-seat : goal.returns-clause-seat
returns-clause-seat c = seat_after _ _ _ c.args.event _ _ c.requires.seat c.fetch_max.ensures.0 c.fetch_max.ensures.2.0 (c.fetch_max.ensures.2.1 c.args.event refl)
