use Rattle.std.proofs.Common.{◌≡◌, sym, subst}
use Rattle.cyc_num.specs.Ratio.{Fraction}
use Rattle.rule_system.specs.Weights.{AreArrivals}
use Rattle.rule_system.specs.CriticalCycle.{IsCriticalCycle}
use Rattle.analysis.specs.Forks.{AreSlacks}
use Rattle.analysis.proofs.Uniqueness.{same_fraction, same_slacks, same_analysis}
use Rattle.analysis.proofs.laws.analysis_is_unique.Goals as goal

pub returns : goal.returns
returns c = λ system root forks a b h k.
    let e = c.period_is_unique.ensures system.rules a.period.top a.period.bottom b.period.top b.period.bottom h.live h.period k.period in
    let p : a.period ≡ b.period = same_fraction a.period b.period e.0 e.1 in
    let cycle : IsCriticalCycle a.period.top a.period.bottom system.events system.rules root b.cycle = subst (λ (u : Fraction). IsCriticalCycle u.top u.bottom system.events system.rules root b.cycle) (sym p) k.cycle in
    let arrivals : AreArrivals a.period.top a.period.bottom system.events system.rules root b.arrivals = subst (λ (u : Fraction). AreArrivals u.top u.bottom system.events system.rules root b.arrivals) (sym p) k.arrivals in
    let slacks : AreSlacks a.period.top a.period.bottom system.rules forks b.slacks = subst (λ (u : Fraction). AreSlacks u.top u.bottom system.rules forks b.slacks) (sym p) k.slacks in
    same_analysis a b p
    (c.critical_cycle_is_unique.ensures a.period.top a.period.bottom system.events system.rules root a.cycle b.cycle h.cycle cycle)
    (c.arrivals_are_unique.ensures a.period.top a.period.bottom system.events system.rules root a.arrivals b.arrivals h.arrivals arrivals)
    (same_slacks a.period.top a.period.bottom system.rules forks a.slacks b.slacks (record { single = c.arrival_is_unique.ensures a.period.top a.period.bottom system.rules }) h.slacks slacks)
