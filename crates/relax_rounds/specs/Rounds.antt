-- What rounds leave, in the system, from the root and at the period that words are about.
use Rattle.std.specs.Prelude.{ℤ, List}
use Rattle.rule_system.specs.Weights.{IsRound, IsFeasible, AreAttained, AreArrivals}
use Rattle.arrival_words.specs.About.{About}

-- no number sinks, and each rule's target has at least what its source had and the rule's weight
abbrev pub IsRoundIn : About → List ℤ → List ℤ → Type 0
IsRoundIn a before after = IsRound a.top a.bottom a.rules before after

-- along each rule the numbers rise by at least its weight
abbrev pub IsFeasibleIn : About → List ℤ → Type 0
IsFeasibleIn a times = IsFeasible a.top a.bottom a.rules times

-- each number is the weight of a walk from the root to its event
abbrev pub AreAttainedIn : About → List ℤ → Type 0
AreAttainedIn a times = AreAttained a.top a.bottom a.events a.rules a.root times

-- each number is the greatest weight of a walk from the root to its event
abbrev pub AreArrivalsIn : About → List ℤ → Type 0
AreArrivalsIn a times = AreArrivals a.top a.bottom a.events a.rules a.root times
