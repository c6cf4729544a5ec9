use Rattle.std.proofs.Common.{◌≡◌, ℕ, length, subst, arith}
use Rattle.potentials.specs.Makers.{AreArrivalsFrom}
use Rattle.analysis.specs.Forks.{AreSlacksOf}
use Rattle.analysis.proofs.Roots.{filled_more, forks_within, list_here, zip_at, zip_long}
use Rattle.analysis.proofs.slacks.fill_each.Goals as goal

pub bounds-roots-at : goal.bounds-roots-at
bounds-roots-at c = (zip_at _ _ _ c.lists.at 0 c.index-lists-at.result c.requires.lists c.lists-test.true).0

pub fill-requires-clause-forks : goal.fill-requires-clause-forks
fill-requires-clause-forks c =
    forks_within _ _ _ (list_here _ _ _ _ _ _ _ _ c.requires.lists c.lists-test.true c.index-lists-at.is c.list.ensures).0.0 c.requires.forks

pub fill-requires-clause-within : goal.fill-requires-clause-within
fill-requires-clause-within c = (list_here _ _ _ _ _ _ _ _ c.requires.lists c.lists-test.true c.index-lists-at.is c.list.ensures).1

pub lists-preserved : goal.lists-preserved
lists-preserved c =
    filled_more _ _ _ _ _ _ _ _ _ _ _ c.lists.invariant (list_here _ _ _ _ _ _ _ _ c.requires.lists c.lists-test.true c.index-lists-at.is c.list.ensures).0
    c.requires.forks (record { counts = c.fill.ensures.count; slacks = c.fill.ensures.slacks })

pub returns : goal.returns
returns c =
    let long = zip_long _ _ _ c.requires.lists in
    let all : c.lists.at ≡ length c.args.roots.now = omega (arith, c.lists-test.false, c.lists.auto.at-end, long) in
    subst (λ (n : ℕ). AreSlacksOf c.args.period.top c.args.period.bottom c.args.system.now.rules c.args.forks.now c.args.root c.args.roots.now n c.lists.slacks) all c.lists.invariant
