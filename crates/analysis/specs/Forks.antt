-- Forks of a system, and their slacks.
use Rattle.std.specs.Prelude.{◌≡◌, ℕ, ◌<◌, ◌==◌, ◌⊎◌, ℤ, List, length, slice_index_or, if◌then◌else◌}
use Rattle.rule_system.specs.declared.rules.Rule.{Rule}
use Rattle.rule_system.specs.Weights.{IsArrival, time_of}
use Rattle.fork_slack.specs.declared.slacks.ForkOf.{ForkOf}
use Rattle.fork_slack.specs.Slack.{HasBranches, slack_between, slack_of}

-- a fork of three of so many events, its margin and its offset within the limits
abbrev pub IsFork : ℕ → ForkOf → Type 0
IsFork events fork = (fork.root < events) × HasBranches events fork

-- what stands for the fork of a number that is out of range
abbrev pub no_fork : ForkOf
no_fork = record { root = 0; fast = 0; slow = 0; margin = 0; offset = 0 }

-- the fork of a number
abbrev pub fork_at : List ForkOf → ℕ → ForkOf
fork_at forks n = slice_index_or forks n no_fork

-- the slack of a fork by the arrivals of its slow and its fast event, over all walks, from the fork's own root
pub record IsSlack (top bottom : ℕ) (rules : List Rule) (fork : ForkOf) (slack : ℤ) : Type 0 where
  pub slow : ℤ
  pub fast : ℤ
  pub slow_arrives : IsArrival top bottom rules fork.root fork.slow slow
  pub fast_arrives : IsArrival top bottom rules fork.root fork.fast fast
  pub is_slack : slack ≡ slack_between top bottom fork slow fast

-- for each fork, in order, its slack
abbrev pub AreSlacks : ℕ → ℕ → List Rule → List ForkOf → List ℤ → Type 0
AreSlacks top bottom rules forks slacks =
    (length slacks ≡ length forks) × ((n : ℕ) → n < length forks → IsSlack top bottom rules (fork_at forks n) (time_of slacks n))

-- for a fork of the root its slack by these arrivals, and for any other fork what stood there
abbrev pub slack_or : ℕ → ℕ → ℕ → List ℤ → ForkOf → ℤ → ℤ
slack_or top bottom root arrivals fork before = if fork.root == root then slack_of top bottom fork arrivals else before

-- the root of a number
abbrev pub root_at : List ℕ → ℕ → ℕ
root_at roots k = slice_index_or roots k 0

-- the root is among these
abbrev pub IsAmong : List ℕ → ℕ → Type 0
IsAmong roots own = (k : ℕ) × (k < length roots) × (root_at roots k ≡ own)

-- the root is the system's or among these
abbrev pub IsMade : ℕ → List ℕ → ℕ → Type 0
IsMade root roots own = (own ≡ root) ⊎ IsAmong roots own

-- a fork has the root
abbrev pub HasRoot : List ForkOf → ℕ → Type 0
HasRoot forks own = (n : ℕ) × (n < length forks) × ((fork_at forks n).root ≡ own)

-- slacks of the forks of the system's root, and of those of the first roots
pub record AreSlacksOf (top bottom : ℕ) (rules : List Rule) (forks : List ForkOf) (root : ℕ) (roots : List ℕ) (count : ℕ) (slacks : List ℤ) : Type 0 where
  pub counts : length slacks ≡ length forks
  pub of_root : (n : ℕ) → n < length forks → (fork_at forks n).root ≡ root → IsSlack top bottom rules (fork_at forks n) (time_of slacks n)
  pub of_each : (n k : ℕ) → n < length forks → k < count → root_at roots k ≡ (fork_at forks n).root → IsSlack top bottom rules (fork_at forks n) (time_of slacks n)
