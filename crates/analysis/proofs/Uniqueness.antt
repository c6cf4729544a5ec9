-- At most one analysis.
use Rattle.std.proofs.Common.{◌≡◌, ℕ, ◌<◌, ℤ, pos, List, length, refl, sym, subst, ◌∙◌}
use Rattle.std.proofs.lemmas.List.{same_lists, get_or_default}
use Rattle.cyc_num.specs.Ratio.{Fraction}
use Rattle.rule_system.specs.declared.rules.Rule.{Rule}
use Rattle.rule_system.specs.Weights.{IsArrival, time_of}
use Rattle.fork_slack.specs.declared.slacks.ForkOf.{ForkOf}
use Rattle.fork_slack.specs.Slack.{slack_between}
use Rattle.analysis.specs.declared.analyses.Analysis.{Analysis}
use Rattle.analysis.specs.Forks.{fork_at, IsSlack, AreSlacks}

-- an event has at most one arrival
pub record AreSingle (top bottom : ℕ) (rules : List Rule) : Type 0 where
  pub single : (root event : ℕ) (time other : ℤ) → IsArrival top bottom rules root event time → IsArrival top bottom rules root event other → time ≡ other

same_slack : (top bottom : ℕ) (rs : List Rule) (fork : ForkOf) (x y : ℤ) → AreSingle top bottom rs → IsSlack top bottom rs fork x → IsSlack top bottom rs fork y → x ≡ y
same_slack top bottom rs fork x y one h k =
    let slow : h.slow ≡ k.slow = one.single fork.root fork.slow h.slow k.slow h.slow_arrives k.slow_arrives in
    let fast : h.fast ≡ k.fast = one.single fork.root fork.fast h.fast k.fast h.fast_arrives k.fast_arrives in
    let e : x ≡ slack_between top bottom fork h.slow h.fast = h.is_slack in
    let f : y ≡ slack_between top bottom fork k.slow k.fast = k.is_slack in
    cc

same_times : (xs ys : List ℤ) → length xs ≡ length ys → ((n : ℕ) → n < length xs → time_of xs n ≡ time_of ys n) → xs ≡ ys
same_times xs ys e h = same_lists xs ys e (λ n d k. get_or_default xs n d (pos 0) k ∙ (h n k ∙ sym (get_or_default ys n d (pos 0) (subst (λ (m : ℕ). n < m) e k))))

pub same_slacks : (top bottom : ℕ) (rs : List Rule) (forks : List ForkOf) (xs ys : List ℤ) → AreSingle top bottom rs → AreSlacks top bottom rs forks xs → AreSlacks top bottom rs forks ys → xs ≡ ys
same_slacks top bottom rs forks xs ys one h k = same_times xs ys (h.0 ∙ sym k.0) (λ n l. let i : n < length forks = subst (λ (m : ℕ). n < m) h.0 l in same_slack top bottom rs (fork_at forks n) (time_of xs n) (time_of ys n) one (h.1 n i) (k.1 n i))

pub same_fraction : (p q : Fraction) → p.top ≡ q.top → p.bottom ≡ q.bottom → p ≡ q
same_fraction p q e f =
    subst (λ (t : ℕ). p ≡ record { top = t; bottom = q.bottom }) e
    (subst (λ (b : ℕ). p ≡ record { top = p.top; bottom = b }) f refl)

pub same_analysis : (a b : Analysis) → a.period ≡ b.period → a.cycle ≡ b.cycle → a.arrivals ≡ b.arrivals → a.slacks ≡ b.slacks → a ≡ b
same_analysis a b p c x s =
    subst (λ (u : Fraction). a ≡ record { period = u; cycle = b.cycle; arrivals = b.arrivals; slacks = b.slacks }) p
    (subst (λ (u : List ℕ). a ≡ record { period = a.period; cycle = u; arrivals = b.arrivals; slacks = b.slacks }) c
    (subst (λ (u : List ℤ). a ≡ record { period = a.period; cycle = a.cycle; arrivals = u; slacks = b.slacks }) x
    (subst (λ (u : List ℤ). a ≡ record { period = a.period; cycle = a.cycle; arrivals = a.arrivals; slacks = u }) s refl)))
