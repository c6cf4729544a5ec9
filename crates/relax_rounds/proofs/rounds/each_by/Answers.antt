use Rattle.std.proofs.Common.{◌≡◌, ap, ◌∙◌, IfOk}
use Rattle.rayon.proofs.ToStd.{slice-AllZip}
use Rattle.potentials.specs.Makers.{AreArrivalsFrom}
use Rattle.potentials.proofs.Collected.{collected}
use Rattle.relax_rounds.proofs.rounds.each_by.Goals as goal

pub collect-requires-clause-ready : goal.collect-requires-clause-ready
collect-requires-clause-ready g c κs within =
    rw (c.map.ensures.base, c.map.ensures.f, c.par_iter.ensures)
    (λ k d lt x is. (((c.requires.ratio, rw is (c.requires.roots k d lt), c.requires.no_gain), record { shared = c.type_bounds.sync-R.shared }), λ y h. tt))

pub returns : goal.returns
returns g c =
    let slice = ap (λ it. it.slice.now) c.map.ensures.base ∙ c.par_iter.ensures in
    let made = c.in_ok-collect.ensures in
    let chain = made.1 in
    let R = AreArrivalsFrom c.args.period.top c.args.period.bottom c.args.system.now in
    collected R c.args.roots.now made.0 c.in_ok-collect.field-0
    (slice-AllZip chain.0 c.args.roots.now (chain.1 ∙ slice) (λ root y. IfOk y (R root)) made.0 (rw c.map.ensures.f at chain.2)) made.2
