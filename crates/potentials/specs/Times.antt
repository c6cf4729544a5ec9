-- Numbers of events that are weights of paths.
use Rattle.std.specs.Prelude.{◌≡◌, ℕ, ◌<◌, ℤ, List, length}
use Rattle.rule_system.specs.declared.rules.Rule.{Rule}
use Rattle.rule_system.specs.Walks.{IsPath, Reaches}
use Rattle.rule_system.specs.Weights.{weight, time_of}

-- time is the weight of a walk from the root to the event that comes by no event twice
pub record IsPathWeight (top bottom : ℕ) (rules : List Rule) (root event : ℕ) (time : ℤ) : Type 0 where
  pub path : List ℕ
  pub is_path : IsPath rules root path event
  pub attained : weight top bottom rules path ≡ time

-- each number is the weight of such a walk from the root to its event
abbrev pub ArePathWeights : ℕ → ℕ → ℕ → List Rule → ℕ → List ℤ → Type 0
ArePathWeights top bottom events rules root times =
    (length times ≡ events) × ((event : ℕ) → event < events → IsPathWeight top bottom rules root event (time_of times event))

-- walks lead from the root to each event
abbrev pub AllReachable : ℕ → List Rule → ℕ → Type 0
AllReachable events rules root = (event : ℕ) → event < events → Reaches rules root event
