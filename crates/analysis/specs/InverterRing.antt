-- A ring of three inverters, whose events are A+ A- B+ B- C+ C- as 0 to 5, with a fork, and its analysis.
use Rattle.std.specs.Prelude.{pos, [], ◌∷◌}
use Rattle.rule_system.specs.Bounds.{EventRules}
use Rattle.rule_system.specs.InverterRing.{inverter_ring, ring_times}
use Rattle.fork_slack.specs.declared.slacks.ForkOf.{ForkOf}
use Rattle.analysis.specs.declared.analyses.Analysis.{Analysis}

-- the ring of three inverters, as a system
abbrev pub ring_system : EventRules
ring_system = record { events = 6; rules = inverter_ring }

-- A- is to come no earlier than C+, both from A+
abbrev pub ring_fork : ForkOf
ring_fork = record { root = 0; fast = 4; slow = 1; margin = 0; offset = 0 }

-- period 66/1, once round, arrivals from A+, and slack 10
abbrev pub ring_analysis : Analysis
ring_analysis = record {
  period = record { top = 66; bottom = 1 };
  cycle = 1 ∷ 2 ∷ 5 ∷ 0 ∷ 3 ∷ 4 ∷ [];
  arrivals = ring_times;
  slacks = pos 10 ∷ [];
}
