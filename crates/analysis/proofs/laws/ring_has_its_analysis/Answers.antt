use Rattle.std.proofs.Common.{ℕ, zero, suc, ◌<◌, pos, [], ◌∷◌, refl, arith}
use Rattle.rule_system.specs.InverterRing.{inverter_ring}
use Rattle.rule_system.specs.Weights.{time_of}
use Rattle.analysis.specs.Forks.{fork_at, IsSlack}
use Rattle.analysis.specs.InverterRing.{ring_fork}
use Rattle.analysis.proofs.laws.ring_has_its_analysis.Goals as goal

pub returns : goal.returns
returns c = record {
  connected = c.ring_has_its_period.ensures.connected;
  live = c.ring_has_its_period.ensures.live;
  period = c.ring_has_its_period.ensures.period;
  cycle = c.ring_has_its_critical_cycle.ensures;
  arrivals = c.ring_has_its_arrivals.ensures;
  slacks = (refl, slack);
}
  where
    slack : (n : ℕ) → n < 1 → IsSlack 66 1 inverter_ring (fork_at (ring_fork ∷ []) n) (time_of (pos 10 ∷ []) n)
    slack zero i = record {
      slow = pos 32;
      fast = pos 22;
      slow_arrives = c.ring_has_its_arrivals.ensures.1 1 (omega arith);
      fast_arrives = c.ring_has_its_arrivals.ensures.1 4 (omega arith);
      is_slack = refl;
    }
    slack (suc n) i = absurd (omega arith)
