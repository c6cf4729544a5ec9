use Rattle.std.proofs.Common.{sym}
use Rattle.rule_system.specs.FirstCycle.{kept_by}
use Rattle.rule_system.specs.Weights.{is_tight}
use Rattle.analysis.proofs.Tight.{Agree, cycle_kept, first_kept}
use Rattle.analysis.proofs.critical.critical_cycle.Goals as goal

pub unreachable-requires : goal.unreachable-requires
unreachable-requires c =
    let rules = c.args.system.now.rules in
    let tight = is_tight c.args.period.top c.args.period.bottom rules c.args.arrivals.now in
    let same : Agree rules tight (kept_by c.deref.result.now) = record { at = λ n k. sym (rw c.deref.ensures.value (c.in_ok-tight.ensures.tight n k)) } in
    let found = c.tight_cycles_have_a_first.ensures c.args.period.top c.args.period.bottom c.args.system.now.events rules c.args.root c.args.arrivals.now c.tight_flags.ensures.ends c.requires.period c.requires.arrivals in
    (rw c.in-None.is at c.in_ok-cycle.ensures.none) found.0 found.1.is_cycle (cycle_kept rules tight (kept_by c.deref.result.now) same found.0 found.1.is_cycle found.1.is_kept)

pub returns : goal.returns
returns c =
    let rules = c.args.system.now.rules in
    let tight = is_tight c.args.period.top c.args.period.bottom rules c.args.arrivals.now in
    let same : Agree rules (kept_by c.deref.result.now) tight = record { at = λ n k. rw c.deref.ensures.value (c.in_ok-tight.ensures.tight n k) } in
    record {
      times = c.args.arrivals.now;
      are_arrivals = c.requires.arrivals;
      first = first_kept rules (kept_by c.deref.result.now) tight c.in-Some.cycle same (rw c.in-Some.is at c.in_ok-cycle.ensures.some);
    }
