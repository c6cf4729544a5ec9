use Rattle.std.proofs.Common.{◌≡◌, ◌<◌, ◌≤◌, ◌+◌, pos, ◌≤ℤ◌, ap, arith}
use Rattle.std.proofs.lemmas.Int.{ints}
use Rattle.rule_system.proofs.Sums.{ends_below}
use Rattle.rule_system.specs.Bounds.{EventRules}
use Rattle.rule_system.specs.Weights.{time_of}
use Rattle.arrival_words.specs.About.{About}
use Rattle.relax_rounds.proofs.Rounding.{begun_with, one_round, feasible_covers, not_below, ends_in, covers_read}
use Rattle.relax_rounds.proofs.Joining.{sinks-trans}
use Rattle.relax_rounds.proofs.rounds.Rounds.settle.Goals as goal

pub rounds-init : goal.rounds-init
rounds-init g c =
    let a : About = c.args.words.now.about in
    let z = c.requires.root in
    let root : pos 0 ≤ℤ time_of c.args.seat.now.known a.root = omega (arith, ints) in
    (c.requires.seat, begun_with _ _ _ _ c.requires.count (c.rounds_begin.ensures a.top a.bottom a.rules a.root c.args.seat.now.known root))

pub settles-requires-clause-seat : goal.settles-requires-clause-seat
settles-requires-clause-seat g c κs h = c.rounds.invariant.0

pub rounds-preserved : goal.rounds-preserved
rounds-preserved g c =
    let a : About = c.args.words.now.about in (
      c.settles.ensures.seat,
      one_round _ _ _ _ _ _ _ c.settles.new.times _ _ c.rounds.invariant.1
          (c.round_covers_one_more.ensures a.top a.bottom a.rules a.root c.rounds.counter c.rounds.seat.known c.settles.new.times c.rounds.invariant.1.covers c.settles.ensures.round)
          c.settles.ensures.kept c.settles.ensures.known c.settles.ensures.attained c.settles.ensures.within c.settles.ensures.steps,
    )

pub returns-then-settles-clause-arrivals : goal.returns-then-settles-clause-arrivals
returns-then-settles-clause-arrivals g c =
    let a : About = c.args.words.now.about in
    let root = not_below a _ _ _ c.requires.root (sinks-trans _ _ _ c.rounds.invariant.1.kept c.settles.ensures.kept) c.settles.ensures.known in
    c.attained_bounds_are_arrivals.ensures a.top a.bottom a.events a.rules a.root c.settles.new.times c.settles.ensures.attained
    (feasible_covers a c.settles.new.times root (c.feasible_numbers_bound_walks.ensures a.top a.bottom a.rules c.settles.new.times (c.settles.ensures.feasible c.if-settles.true)))

pub returns-clause-arrivals : goal.returns-clause-arrivals
returns-clause-arrivals g c =
    let a : About = c.args.words.now.about in
    let event = c.sound.ensures.root in
    let e : c.system.result.now.events ≡ a.events = ap (λ (s : EventRules). s.events) c.system.ensures in
    let root : a.root < a.events = omega arith in
    let n : c.rounds.counter ≡ a.events = omega arith in
    let some : 0 < c.rounds.counter = omega arith in
    let enough : a.events ≤ c.rounds.counter + 1 = omega arith in
    c.attained_bounds_are_arrivals.ensures a.top a.bottom a.events a.rules a.root c.rounds.times (c.rounds.invariant.1.attained some)
    (c.rounds_end.ensures a.top a.bottom a.events a.rules a.root c.rounds.counter c.rounds.times
    (ends_in a _ c.system.ensures (ends_below _ _ c.events-events.ensures.system))
    c.sound.ensures.no_gain
    root enough (covers_read a _ _ _ _ _ _ c.rounds.invariant.1 some))
