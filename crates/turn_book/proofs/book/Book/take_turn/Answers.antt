use Rattle.std.proofs.Common.{rules, ◌≡◌, ◌<◌, [], length, Some, refl, ap, sym, ◌∙◌, subst}
use Rattle.std.specs.Prelude.{unwrap_or}
use Rattle.turn_book.specs.declared.view.Stage.TheVariants.{Out}
use Rattle.turn_book.specs.Views.{StartsWith, own, staged, turn_in}
use Rattle.turn_book.proofs.Steps.{draws, looks}
use Rattle.turn_book.proofs.Calls.{waited, found, got_of, got_holds, holds_one, some_none}
use Rattle.turn_book.proofs.book.Book.take_turn.Goals as goal

pub fetch_add-ticket-requires : goal.fetch_add-ticket-requires
fetch_add-ticket-requires g c = (c.requires.book, search rules, draws _ _ _ _ _ _ _ _ c.requires.session c.requires.idle c.requires.left)

pub loop-init : goal.loop-init
loop-init g c = (refl, refl)

pub load-requires : goal.load-requires
load-requires g c =
    let at = c.loop.invariant.1 ∙ c.fetch_add-ticket.ensures.2 in (
      c.loop.invariant.0 ∙ (c.fetch_add-ticket.ensures.0 ∙ c.requires.book),
      search rules,
      looks _ _ _ _ _ _ _ _ (ap (λ m. m.0.role) at ∙ c.requires.session) c.fetch_add-ticket.result (ap (λ m. m.0.stage) at),
    )

pub exchange-requires : goal.exchange-requires
exchange-requires g c =
    let at = c.loop.invariant.1 ∙ c.fetch_add-ticket.ensures.2 in
    let f = found _ _ _ _ _ _ _ _ _ c.args.seat.now.holds c.requires.idle at c.load.ensures.2 c.if-load-ticket.true in (
      c.load.ensures.0 ∙ (c.loop.invariant.0 ∙ (c.fetch_add-ticket.ensures.0 ∙ c.requires.book)),
      (Some f.value, holds_one _ _ (ap (λ m. m.1) f.is)),
    )

pub invariant_of-seat-then-load-ticket : goal.invariant_of-seat-then-load-ticket
invariant_of-seat-then-load-ticket g c =
    let at = c.loop.invariant.1 ∙ c.fetch_add-ticket.ensures.2 in
    let f = found _ _ _ _ _ _ _ _ _ c.args.seat.now.holds c.requires.idle at c.load.ensures.2 c.if-load-ticket.true in
    let h = got_of _ _ _ _ _ _ _ f c.exchange.ensures.2 c.exchange.ensures.3 in
    record { holds = got_holds _ _ _ _ _ _ h }

pub unreachable-requires : goal.unreachable-requires
unreachable-requires g c =
    let at = c.loop.invariant.1 ∙ c.fetch_add-ticket.ensures.2 in
    let f = found _ _ _ _ _ _ _ _ _ c.args.seat.now.holds c.requires.idle at c.load.ensures.2 c.if-load-ticket.true in
    let h = got_of _ _ _ _ _ _ _ f c.exchange.ensures.2 c.exchange.ensures.3 in
    some_none _ h.value h.found c.in_default.is

pub returns-then-load-ticket-clause-book : goal.returns-then-load-ticket-clause-book
returns-then-load-ticket-clause-book g c = c.exchange.ensures.0 ∙ (c.load.ensures.0 ∙ (c.loop.invariant.0 ∙ (c.fetch_add-ticket.ensures.0 ∙ c.requires.book)))

pub returns-then-load-ticket-clause-turn : goal.returns-then-load-ticket-clause-turn
returns-then-load-ticket-clause-turn g c =
    let at = c.loop.invariant.1 ∙ c.fetch_add-ticket.ensures.2 in
    let f = found _ _ _ _ _ _ _ _ _ c.args.seat.now.holds c.requires.idle at c.load.ensures.2 c.if-load-ticket.true in
    let h = got_of _ _ _ _ _ _ _ f c.exchange.ensures.2 c.exchange.ensures.3 in
    let snap = c.of.ensures in
    let stage = ap (λ m. m.0.stage) h.is in
    let list_is = ap (λ s. unwrap_or (turn_in s.me.0.stage) []) snap ∙ ap (λ t. unwrap_or (turn_in t) []) stage in
    (ap (λ s. s.table_id) snap, ap (λ s. s.me.0.number) snap, ap turn_in stage ∙ ap Some (sym list_is))

pub returns-then-load-ticket-clause-seat : goal.returns-then-load-ticket-clause-seat
returns-then-load-ticket-clause-seat g c =
    let at = c.loop.invariant.1 ∙ c.fetch_add-ticket.ensures.2 in
    let f = found _ _ _ _ _ _ _ _ _ c.args.seat.now.holds c.requires.idle at c.load.ensures.2 c.if-load-ticket.true in
    let h = got_of _ _ _ _ _ _ _ f c.exchange.ensures.2 c.exchange.ensures.3 in
    let snap = c.of.ensures in
    let stage = ap (λ m. m.0.stage) h.is in
    let list_is = ap (λ s. unwrap_or (turn_in s.me.0.stage) []) snap ∙ ap (λ t. unwrap_or (turn_in t) []) stage in
    (h.ticket, ap (λ m. m.0) h.is ∙ ap (λ l. staged c.args.seat.now.seat.me.0 (Out h.ticket l)) (sym list_is))

pub returns-then-load-ticket-clause-origin : goal.returns-then-load-ticket-clause-origin
returns-then-load-ticket-clause-origin g c =
    let at = c.loop.invariant.1 ∙ c.fetch_add-ticket.ensures.2 in
    let f = found _ _ _ _ _ _ _ _ _ c.args.seat.now.holds c.requires.idle at c.load.ensures.2 c.if-load-ticket.true in
    let h = got_of _ _ _ _ _ _ _ f c.exchange.ensures.2 c.exchange.ensures.3 in
    let is : c.exchange.result ≡ Some c.in-Some-exchange.value = c.in-Some-exchange.is in
    let a = h.found in
    let same : h.value ≡ c.in-Some-exchange.value = cc in
    h.begins.origin_is ∙ ap (λ x. Some (g.V.Stands.origin x)) same

pub returns-then-load-ticket-clause-list : goal.returns-then-load-ticket-clause-list
returns-then-load-ticket-clause-list g c =
    let at = c.loop.invariant.1 ∙ c.fetch_add-ticket.ensures.2 in
    let f = found _ _ _ _ _ _ _ _ _ c.args.seat.now.holds c.requires.idle at c.load.ensures.2 c.if-load-ticket.true in
    let h = got_of _ _ _ _ _ _ _ f c.exchange.ensures.2 c.exchange.ensures.3 in
    let is : c.exchange.result ≡ Some c.in-Some-exchange.value = c.in-Some-exchange.is in
    let a = h.found in
    let same : h.value ≡ c.in-Some-exchange.value = cc in
    let snap = c.of.ensures in
    let stage = ap (λ m. m.0.stage) h.is in
    let list_is = ap (λ s. unwrap_or (turn_in s.me.0.stage) []) snap ∙ ap (λ t. unwrap_or (turn_in t) []) stage in
    ap g.V.Stands.entries (sym same) ∙ (h.begins.list_is ∙ sym list_is)

pub returns-then-load-ticket-clause-room : goal.returns-then-load-ticket-clause-room
returns-then-load-ticket-clause-room g c =
    let at = c.loop.invariant.1 ∙ c.fetch_add-ticket.ensures.2 in
    let f = found _ _ _ _ _ _ _ _ _ c.args.seat.now.holds c.requires.idle at c.load.ensures.2 c.if-load-ticket.true in
    let h = got_of _ _ _ _ _ _ _ f c.exchange.ensures.2 c.exchange.ensures.3 in
    let snap = c.of.ensures in
    let stage = ap (λ m. m.0.stage) h.is in
    let list_is = ap (λ s. unwrap_or (turn_in s.me.0.stage) []) snap ∙ ap (λ t. unwrap_or (turn_in t) []) stage in
    subst (λ l. length l < c.args.seat.now.seat.me.0.total) (sym list_is) h.begins.room

pub returns-then-load-ticket-clause-seen : goal.returns-then-load-ticket-clause-seen
returns-then-load-ticket-clause-seen g c =
    let at = c.loop.invariant.1 ∙ c.fetch_add-ticket.ensures.2 in
    let f = found _ _ _ _ _ _ _ _ _ c.args.seat.now.holds c.requires.idle at c.load.ensures.2 c.if-load-ticket.true in
    let h = got_of _ _ _ _ _ _ _ f c.exchange.ensures.2 c.exchange.ensures.3 in
    let snap = c.of.ensures in
    let stage = ap (λ m. m.0.stage) h.is in
    let list_is = ap (λ s. unwrap_or (turn_in s.me.0.stage) []) snap ∙ ap (λ t. unwrap_or (turn_in t) []) stage in
    subst (λ l. StartsWith l c.args.seat.now.seat.me.0.seen) (sym list_is) h.begins.more

pub returns-then-load-ticket-clause-made : goal.returns-then-load-ticket-clause-made
returns-then-load-ticket-clause-made g c =
    let at = c.loop.invariant.1 ∙ c.fetch_add-ticket.ensures.2 in
    let f = found _ _ _ _ _ _ _ _ _ c.args.seat.now.holds c.requires.idle at c.load.ensures.2 c.if-load-ticket.true in
    let h = got_of _ _ _ _ _ _ _ f c.exchange.ensures.2 c.exchange.ensures.3 in
    let snap = c.of.ensures in
    let stage = ap (λ m. m.0.stage) h.is in
    let list_is = ap (λ s. unwrap_or (turn_in s.me.0.stage) []) snap ∙ ap (λ t. unwrap_or (turn_in t) []) stage in
    ap (own g.V.Stands.session c.args.seat.now.seat.me.0.number) list_is ∙ h.begins.mine

pub invariant_of-seat-else-load-ticket : goal.invariant_of-seat-else-load-ticket
invariant_of-seat-else-load-ticket g c =
    let at = c.loop.invariant.1 ∙ c.fetch_add-ticket.ensures.2 in
    let stays = waited _ _ _ c.args.seat.now.seat.me.0 _ _ _ _ _ at c.load.ensures.2 c.if-load-ticket.false in
    record { holds = rw stays c.loop.seat.holds }

pub loop-preserved : goal.loop-preserved
loop-preserved g c =
    let at = c.loop.invariant.1 ∙ c.fetch_add-ticket.ensures.2 in
    let stays = waited _ _ _ c.args.seat.now.seat.me.0 _ _ _ _ _ at c.load.ensures.2 c.if-load-ticket.false in
    (c.load.ensures.0 ∙ c.loop.invariant.0, stays ∙ c.loop.invariant.1)
