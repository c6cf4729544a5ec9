use Rattle.std.proofs.Common.{◌≡◌, ◌+◌, ap, ◌∙◌, length, option_map, refl, subst, unwrap_or, arith}
use Rattle.std.proofs.lemmas.Option.{slice_get_read}
use Rattle.netlist_model.specs.Uses.{Tells, count_at, many_at}
use Rattle.netlist_model.proofs.UseLemmas.{count_raised}
use Rattle.netlist_model.proofs.uses.raised.Goals as goal

pub returns : goal.returns
returns c = λ u told n.
    let now = c.reach.new.counts.items in
    let at = c.args.place in
    let was = subst (λ o. Tells (option_map (λ v. v.items) o) u) c.in_ok-counts.was told in
    let here : count_at now at ≡ c.index.result.now = ap (λ o. unwrap_or o 0) (slice_get_read now (length now) at c.index.result.now refl c.in_ok-reach.ensures.room c.index.ensures) in
    let more : c.in_ok-count.count ≡ count_at now at + 1 = omega (arith, here, c.in_ok-count.ensures) in
    count_raised now at n c.in_ok-count.count c.in_ok-reach.ensures.room more ∙ ap (λ k. k + many_at 1 at n) (c.reach.ensures.told n ∙ was n)
