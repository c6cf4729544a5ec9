-- A connected and live system has an analysis, and none of the faults.
use Rattle.std.proofs.Common.{◌≡◌, ℕ, zero, suc, ◌<◌, ℤ, All, List, [], ◌∷◌, length, refl, ap, arith}
use Rattle.rule_system.specs.declared.rules.Rule.{Rule}
use Rattle.rule_system.specs.Bounds.{EventRules}
use Rattle.rule_system.specs.Rules.{offset_sum}
use Rattle.rule_system.specs.Walks.{IsKept, IsConnected, has_no_offset}
use Rattle.rule_system.specs.Weights.{AreArrivals, time_of}
use Rattle.fork_slack.specs.declared.slacks.ForkOf.{ForkOf}
use Rattle.fork_slack.specs.Slack.{slack_of}
use Rattle.liveness_check.specs.Liveness.{IsFault}
use Rattle.analysis.specs.declared.analyses.Analysis.{Analysis}
use Rattle.analysis.specs.declared.faults.AnalyseFault.{AnalyseFault}
use Rattle.analysis.specs.declared.faults.AnalyseFault.TheVariants.{Unreached, NoReturn, Dead, Memory}
use Rattle.analysis.specs.Analysis.{IsAnalysis}
use Rattle.analysis.specs.Faults.{live_fault}
use Rattle.analysis.specs.Forks.{IsFork, no_fork, fork_at, IsSlack, AreSlacks}
use Rattle.analysis.proofs.Roots.{connected_from, slack_right}

-- the slack of one fork more
one_more : (top bottom : ℕ) (rs : List Rule) (fork : ForkOf) (forks : List ForkOf) (slack : ℤ) (slacks : List ℤ) → IsSlack top bottom rs fork slack → AreSlacks top bottom rs forks slacks → AreSlacks top bottom rs (fork ∷ forks) (slack ∷ slacks)
one_more top bottom rs fork forks slack slacks h k = (ap (λ (n : ℕ). suc n) k.0, at)
  where
    at : (n : ℕ) → n < length (fork ∷ forks) → IsSlack top bottom rs (fork_at (fork ∷ forks) n) (time_of (slack ∷ slacks) n)
    at zero i = h
    at (suc n) i = k.1 n (omega arith)

-- an event of a connected system has arrivals
pub record HaveArrivals (top bottom events : ℕ) (rules : List Rule) : Type 0 where
  pub from : (root : ℕ) → root < events → IsConnected events rules root → (times : List ℤ) × AreArrivals top bottom events rules root times

one_slack : (top bottom events : ℕ) (rs : List Rule) (root : ℕ) (fork : ForkOf) → IsConnected events rs root → HaveArrivals top bottom events rs → IsFork events fork → (slack : ℤ) × IsSlack top bottom rs fork slack
one_slack top bottom events rs root fork connected have f = go (have.from fork.root f.0 (connected_from events rs root fork.root connected f.0))
  where
    go : (times : List ℤ) × AreArrivals top bottom events rs fork.root times → (slack : ℤ) × IsSlack top bottom rs fork slack
    go t = (slack_of top bottom fork t.0, slack_right top bottom events rs fork.root t.0 fork t.1 f refl)

pub all_slacks : (top bottom events : ℕ) (rs : List Rule) (root : ℕ) (forks : List ForkOf) → IsConnected events rs root → HaveArrivals top bottom events rs → All (IsFork events) forks → (slacks : List ℤ) × AreSlacks top bottom rs forks slacks
all_slacks top bottom events rs root [] connected have all = ([], (refl, λ n i. absurd (omega arith)))
all_slacks top bottom events rs root (fork ∷ forks) connected have all =
    go (one_slack top bottom events rs root fork connected have (all 0 no_fork (omega arith))) (all_slacks top bottom events rs root forks connected have (λ n d i. all (suc n) d (omega arith)))
  where
    go : (slack : ℤ) × IsSlack top bottom rs fork slack → (slacks : List ℤ) × AreSlacks top bottom rs forks slacks → (slacks : List ℤ) × AreSlacks top bottom rs (fork ∷ forks) slacks
    go s t = (s.0 ∷ t.0, one_more top bottom rs fork forks s.0 t.0 s.1 t.1)

-- a cycle of rules without offset has none
pub record DeadHaveNone (rules : List Rule) : Type 0 where
  pub none : (cycle : List ℕ) → IsKept (has_no_offset rules) cycle → offset_sum rules cycle ≡ 0

pub no_fault : (system : EventRules) (root : ℕ) (forks : List ForkOf) (analysis : Analysis) (fault : AnalyseFault) → DeadHaveNone system.rules → IsAnalysis system root forks analysis → IsFault system.events system.rules root (live_fault fault) → fault ≡ Memory
no_fault system root forks analysis (Unreached event) dead h f = absurd (f.unreached (h.connected event f.is_event).0)
no_fault system root forks analysis (NoReturn event) dead h f = absurd (f.1.without_return (h.connected event f.1.is_event).1)
no_fault system root forks analysis (Dead cycle) dead h f = absurd (omega (arith, dead.none cycle f.1.is_kept, h.live cycle f.1.is_cycle))
no_fault system root forks analysis Memory dead h f = refl
