use Rattle.std.proofs.Common.{ap, ◌∙◌, option_map, subst, unwrap_or}
use Rattle.netlist_model.specs.Uses.{Tells, moved_back}
use Rattle.netlist_model.proofs.PairLemmas.{forgotten_at}
use Rattle.netlist_model.proofs.uses.left.Goals as goal

pub returns : goal.returns
returns c = λ u told n.
    let old = c.in_ok-counts.counts.items in
    let was = subst (λ o. Tells (option_map (λ v. v.items) o) u) c.in_ok-counts.was told in
    ap (λ o. unwrap_or o 0) (forgotten_at old c.forget.new.counts.items c.args.place n c.forget.ensures) ∙ was (moved_back c.args.place n)
