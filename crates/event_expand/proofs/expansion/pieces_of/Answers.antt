use Rattle.std.proofs.Common.{◌≡◌, ◌<◌, ◌-◌, ◌∙◌, length, ap, arith}
use Rattle.std.specs.List.{range_with_len}
use Rattle.rayon.specs.Numbers.{nat_range}
use Rattle.rayon.proofs.ToStd.{nat_range-All}
use Rattle.event_expand.proofs.PieceLemmas.{collected}
use Rattle.event_expand.proofs.expansion.pieces_of.Goals as goal

pub collect-requires-clause-ready : goal.collect-requires-clause-ready
collect-requires-clause-ready g c κs within =
    let ends = c.into_par_iter.ensures in
    let n = length c.args.net.now.insts in
    let inside = nat_range-All (λ i. i < n) 0 n (λ i low high. high) in
    rw (c.fold.ensures.base, c.fold.ensures.op, c.with_min_len.ensures.base, ends.0, ends.1, c.inst_count.ensures)
    (tt, λ k d lt a. (inside k d lt, c.requires.sound, c.requires.fits), λ u. tt)

pub returns : goal.returns
returns g c =
    let ends = c.into_par_iter.ensures in
    let n = length c.args.net.now.insts in
    let whole : n - 0 ≡ n = omega arith in
    let made = rw (c.fold.ensures.base, c.fold.ensures.op, c.with_min_len.ensures.base) at c.in_ok-collect.ensures in
    let chain = made.1 in
    let places = chain.1 ∙ (λ i. nat_range (ends.0 i) ((ends.1 ∙ c.inst_count.ensures) i)) ∙ ap (range_with_len 0) whole in
    collected c.args.library.now c.args.net.now chain.0 made.0 c.in_ok-collect.field-0 places chain.2 made.2
