-- What makers of arrivals are asked for, and what they give.
use Rattle.std.specs.Prelude.{◌≡◌, ℕ, ◌<◌, ℤ, All, List}
use Rattle.cyc_num.specs.Within.{LiesWithin, time_limit}
use Rattle.rule_system.specs.Bounds.{EventRules}
use Rattle.rule_system.specs.Walks.{IsConnected}
use Rattle.rule_system.specs.Weights.{AreArrivals}

-- an event of the system from which the system is connected
abbrev pub IsRootOf : EventRules → ℕ → Type 0
IsRootOf system root = (root < system.events) × IsConnected system.events system.rules root

-- the arrivals from a root, each within the limit
abbrev pub AreArrivalsFrom : ℕ → ℕ → EventRules → ℕ → List ℤ → Type 0
AreArrivalsFrom top bottom system root times =
    AreArrivals top bottom system.events system.rules root times × All (LiesWithin time_limit) times
