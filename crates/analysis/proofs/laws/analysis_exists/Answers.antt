use Rattle.rule_system.specs.Weights.{HasPeriod}
use Rattle.analysis.proofs.Existence.{HaveArrivals, all_slacks}
use Rattle.analysis.proofs.laws.analysis_exists.Goals as goal

pub returns : goal.returns
returns c = λ system root forks ends two inside all connected live.
    let some = c.connected_systems_have_a_cycle.ensures system.events system.rules root two connected in
    let p : HasPeriod system.rules = c.live_systems_have_a_period.ensures system.events system.rules ends live some.0 some.1 in
    let have : HaveArrivals p.top p.bottom system.events system.rules = record { from = λ own k h. c.connected_systems_have_arrivals.ensures p.top p.bottom system.events system.rules own ends p.is_period.greatest k h } in
    let arrivals = have.from root inside connected in
    let cycle = c.critical_cycle_exists.ensures p.top p.bottom system.events system.rules root ends inside connected p.is_period in
    let slacks = all_slacks p.top p.bottom system.events system.rules root forks connected have all in (
      record { period = record { top = p.top; bottom = p.bottom }; cycle = cycle.0; arrivals = arrivals.0; slacks = slacks.0 },
      record { connected = connected; live = live; period = p.is_period; cycle = cycle.1; arrivals = arrivals.1; slacks = slacks.1 },
    )
