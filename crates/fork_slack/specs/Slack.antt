-- The slack of a fork.
use Rattle.std.specs.Prelude.{ℕ, ◌*◌, ◌<◌, ◌≤◌, ℤ, pos, ◌+ℤ◌, ◌-ℤ◌, List, slice_index_or}
use Rattle.fork_slack.specs.declared.slacks.ForkOf.{ForkOf}

-- the arrival of an event in a list of arrivals
abbrev pub arrival_of : List ℤ → ℕ → ℤ
arrival_of arrivals event = slice_index_or arrivals event (pos 0)

-- both events of the fork are below a number, its margin and its offset within the limits
abbrev pub HasBranches : ℕ → ForkOf → Type 0
HasBranches events fork = (fork.fast < events) × (fork.slow < events) × (fork.margin ≤ 1000000) × (fork.offset ≤ 15)

-- the formula of a slack: by how much the slow event, a number of periods later, comes after the fast one, beyond the margin,
-- where these are the arrivals of the two
abbrev pub slack_between : ℕ → ℕ → ForkOf → ℤ → ℤ → ℤ
slack_between top bottom fork slow fast = ((slow -ℤ fast) +ℤ pos (top * fork.offset)) -ℤ pos (bottom * fork.margin)

-- the slack by a list of arrivals
abbrev pub slack_of : ℕ → ℕ → ForkOf → List ℤ → ℤ
slack_of top bottom fork arrivals = slack_between top bottom fork (arrival_of arrivals fork.slow) (arrival_of arrivals fork.fast)
