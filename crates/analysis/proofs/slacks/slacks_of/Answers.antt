use Rattle.std.proofs.Common.{◌≡◌, length}
use Rattle.std.proofs.lemmas.List.{with_items_is}
use Rattle.analysis.proofs.Roots.{filled_all, roots_within}
use Rattle.analysis.proofs.slacks.slacks_of.Goals as goal

pub arrivals_each-requires-clause-roots : goal.arrivals_each-requires-clause-roots
arrivals_each-requires-clause-roots g c = rw c.deref.ensures.value (roots_within _ _ _ _ c.requires.forks c.requires.connected c.in_ok-roots.ensures.theirs)

pub returns : goal.returns
returns g c =
    let made = c.fill_all.ensures in
    let same : length c.fill_all.new.slacks ≡ c.in_ok-slacks.slacks.len = cc (made.counts, c.in_ok-slacks.ensures.len) in
    rw (c.of.ensures, with_items_is c.in_ok-slacks.slacks c.fill_all.new.slacks same)
    (filled_all _ _ _ _ _ _ _ c.in_ok-roots.ensures.made (rw c.deref-2.ensures.value at made))
