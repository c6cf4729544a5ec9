use Rattle.std.proofs.Common.{◌<◌, arith, sym, ◌∙◌, refl, subst}
use Rattle.arrival_words.specs.About.{About}
use Rattle.arrival_words.proofs.Moves.{loads}
use Rattle.arrival_words.proofs.Knowing.{seat_after}
use Rattle.arrival_words.proofs.word_table.WordTable.load.Goals as goal

pub load-requires : goal.load-requires
load-requires c = (
  c.requires.seat.table,
  omega (arith, c.args.self.now.wide, c.requires.event),
  loads c.args.self.now.table.shared.key _ _ c.args.seat.now.me c.args.event _ refl (c.requires.seat.about ∙ sym c.args.self.now.tied)
      (subst (λ (a : About). c.args.event < a.events) (sym c.args.self.now.tied) c.requires.event) (omega (arith, c.requires.seat.wide, c.requires.event)),
)

pub returns-clause-seat : goal.returns-clause-seat
returns-clause-seat c = seat_after _ _ _ c.args.event _ _ c.requires.seat c.load.ensures.0 c.load.ensures.2.0 (c.load.ensures.2.1 c.args.event refl)
