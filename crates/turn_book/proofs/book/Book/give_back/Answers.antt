use Rattle.std.proofs.Common.{rules, [], ◌∷◌, ◌++◌, Some, None, ap, sym, ◌∙◌}
use Rattle.atomic_table.specs.Table.{rest}
use Rattle.turn_book.specs.Seats.{turn_list}
use Rattle.turn_book.specs.Slots.{held_at, last_of}
use Rattle.turn_book.specs.Views.{served, after_turn}
use Rattle.turn_book.proofs.Turns.{serves}
use Rattle.turn_book.proofs.Calls.{last_of-snoc, snoc_same, turn_stage, holds_one}
use Rattle.turn_book.proofs.book.Book.give_back.Goals as goal

pub place-place-requires-clause-entry : goal.place-place-requires-clause-entry
place-place-requires-clause-entry g c =
    let t = c.requires.entry in
    let l = turn_list c.args.turn in
    let k = turn_stage c.args.seat.now.seat.me.0.stage l c.requires.turn.2 in
    (k.0, l, t.0, k.1, ap last_of t.2 ∙ last_of-snoc l t.0, t.1)

pub exchange-old-requires : goal.exchange-old-requires
exchange-old-requires g c =
    let t = c.requires.entry in
    let l = turn_list c.args.turn in
    let k = turn_stage c.args.seat.now.seat.me.0.stage l c.requires.turn.2 in
    let p = (c.place-place.ensures.placed k.0 l t.0 k.1 (ap last_of t.2 ∙ last_of-snoc l t.0)).1 in
    (c.place-place.ensures.book, (None, holds_one _ _ (c.place-place.new.seat.holds ∙ ap (λ v. held_at v.stage) p)))

pub fetch_add-requires : goal.fetch_add-requires
fetch_add-requires g c =
    let t = c.requires.entry in
    let l = turn_list c.args.turn in
    let k = turn_stage c.args.seat.now.seat.me.0.stage l c.requires.turn.2 in
    let p = (c.place-place.ensures.placed k.0 l t.0 k.1 (ap last_of t.2 ∙ last_of-snoc l t.0)).1 in
    let held = c.place-place.new.seat.holds ∙ ap (λ v. held_at v.stage) p in
    let now = c.exchange-old.ensures.3 in
    let v = ap (λ m. m.0) now ∙ p in (
      c.exchange-old.ensures.0 ∙ c.place-place.ensures.book,
      search rules,
      serves _ _ _ _ _ _ _ _ (ap (λ v. v.role) v ∙ c.requires.session) k.0 (l ++ t.0 ∷ []) (ap (λ v. v.stage) v) c.args.turn.value
          (ap (λ m. m.1) now ∙ ap (λ l. (0, Some c.args.turn.value) ∷ rest l) held) (ap (λ v. v.origin) v ∙ c.requires.origin) t.2,
    )

pub returns-clause-place : goal.returns-clause-place
returns-clause-place g c =
    let t = c.requires.entry in
    let l = turn_list c.args.turn in
    let k = turn_stage c.args.seat.now.seat.me.0.stage l c.requires.turn.2 in
    (c.place-place.ensures.placed k.0 l t.0 k.1 (ap last_of t.2 ∙ last_of-snoc l t.0)).0

pub returns-clause-seat : goal.returns-clause-seat
returns-clause-seat g c = λ e is.
    let t = c.requires.entry in
    let l = turn_list c.args.turn in
    let k = turn_stage c.args.seat.now.seat.me.0.stage l c.requires.turn.2 in
    let p = c.place-place.ensures.placed k.0 l t.0 k.1 (ap last_of t.2 ∙ last_of-snoc l t.0) in
    let same = snoc_same l l t.0 e (sym t.2 ∙ is) in
    ap (λ m. m.0) c.fetch_add.ensures.2
    ∙ (ap (λ m. served m.0) c.exchange-old.ensures.3 ∙ (ap served p.1 ∙ (λ i. after_turn c.args.seat.now.seat.me.0 l (same.1 i))))
