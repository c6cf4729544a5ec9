-- Other roots than the system's, and the slacks of the forks of each root.
use Rattle.std.proofs.Common.{◌≡◌, ℕ, ◌+◌, ◌<◌, ◌≤◌, ◌==◌, ◌⊎◌, inl, inr, ℤ, All, List, [], ◌∷◌, ◌++◌, zero, suc, length, slice_index_or, refl, sym, ap, subst, ◌∙◌, arith}
use Rattle.std.specs.List.{AllZip}
use Rattle.std.proofs.lemmas.List.{get_or_append_left, get_or_push, length-append}
use Rattle.std.proofs.lemmas.List.Elements.{All-append}
use Rattle.std.proofs.lemmas.Bool.{cases_eq, cases_lt, eq-eqb, ne_eqb, cond-true, cond-false}
use Rattle.rule_system.specs.declared.rules.Rule.{Rule}
use Rattle.rule_system.specs.Rules.{target_of}
use Rattle.rule_system.specs.Walks.{IsWalk, Reaches, IsConnected}
use Rattle.rule_system.specs.Weights.{AreArrivals, IsArrival, time_of}
use Rattle.potentials.specs.Makers.{AreArrivalsFrom, IsRootOf}
use Rattle.rule_system.specs.Bounds.{EventRules}
use Rattle.fork_slack.specs.declared.slacks.ForkOf.{ForkOf}
use Rattle.fork_slack.specs.Slack.{slack_of}
use Rattle.analysis.specs.Forks.{IsFork, no_fork, fork_at, HasRoot, IsMade, IsSlack, AreSlacks, AreSlacksOf, root_at, slack_or}

walk_join : (rs : List Rule) (a : ℕ) (v : List ℕ) (b : ℕ) (w : List ℕ) (c : ℕ) → IsWalk rs a v b → IsWalk rs b w c → IsWalk rs a (v ++ w) c
walk_join rs a [] b w c h k = rw h k
walk_join rs a (n ∷ v) b w c h k = (h.0, h.1, walk_join rs (target_of rs n) v b w c h.2 k)

reaches_join : (rs : List Rule) (a b c : ℕ) → Reaches rs a b → Reaches rs b c → Reaches rs a c
reaches_join rs a b c h k = (h.0 ++ k.0, walk_join rs a h.0 b k.0 c h.1 k.1)

-- a system that is connected from one event is connected from each
pub connected_from : (events : ℕ) (rs : List Rule) (root own : ℕ) → IsConnected events rs root → own < events → IsConnected events rs own
connected_from events rs root own h inside = λ event k. (
  reaches_join rs own root event (h own inside).1 (h event k).0,
  reaches_join rs event root own (h event k).1 (h own inside).0,
)

-- the formula over the arrivals from the fork's own root gives its slack
pub slack_right : (top bottom events : ℕ) (rs : List Rule) (root : ℕ) (arrivals : List ℤ) (fork : ForkOf) → AreArrivals top bottom events rs root arrivals → IsFork events fork → fork.root ≡ root → IsSlack top bottom rs fork (slack_of top bottom fork arrivals)
slack_right top bottom events rs root arrivals fork h f e = record {
  slow = time_of arrivals fork.slow;
  fast = time_of arrivals fork.fast;
  slow_arrives = subst (λ (r : ℕ). IsArrival top bottom rs r fork.slow (time_of arrivals fork.slow)) (sym e) (h.1 fork.slow f.1.1);
  fast_arrives = subst (λ (r : ℕ). IsArrival top bottom rs r fork.fast (time_of arrivals fork.fast)) (sym e) (h.1 fork.fast f.1.0);
  is_slack = refl;
}

-- slacks after those of a root were written
pub record Writes (top bottom : ℕ) (forks : List ForkOf) (root : ℕ) (arrivals before after : List ℤ) : Type 0 where
  pub counts : length after ≡ length forks
  pub slacks : (n : ℕ) → n < length forks → time_of after n ≡ slack_or top bottom root arrivals (fork_at forks n) (time_of before n)

-- what was written at a fork of the root is right
written : (top bottom events : ℕ) (rs : List Rule) (forks : List ForkOf) (root : ℕ) (arrivals before after : List ℤ) → AreArrivals top bottom events rs root arrivals → All (IsFork events) forks → Writes top bottom forks root arrivals before after → (n : ℕ) → n < length forks → (fork_at forks n).root ≡ root → IsSlack top bottom rs (fork_at forks n) (time_of after n)
written top bottom events rs forks root arrivals before after h all w n inside e =
    let same : time_of after n ≡ slack_of top bottom (fork_at forks n) arrivals = w.slacks n inside ∙ cond-true ((fork_at forks n).root == root) _ _ (eq-eqb (fork_at forks n).root root e) in
    subst (λ (s : ℤ). IsSlack top bottom rs (fork_at forks n) s) (sym same) (slack_right top bottom events rs root arrivals (fork_at forks n) h (all n no_fork inside) e)

-- and at the others nothing changes
kept : (top bottom : ℕ) (rs : List Rule) (forks : List ForkOf) (root : ℕ) (arrivals before after : List ℤ) → Writes top bottom forks root arrivals before after → (n : ℕ) → n < length forks → ((fork_at forks n).root ≡ root → ⊥) → IsSlack top bottom rs (fork_at forks n) (time_of before n) → IsSlack top bottom rs (fork_at forks n) (time_of after n)
kept top bottom rs forks root arrivals before after w n inside other h =
    let same : time_of after n ≡ time_of before n = w.slacks n inside ∙ cond-false ((fork_at forks n).root == root) _ _ (ne_eqb (fork_at forks n).root root other) in
    subst (λ (s : ℤ). IsSlack top bottom rs (fork_at forks n) s) (sym same) h

pub filled_first : (top bottom events : ℕ) (rs : List Rule) (forks : List ForkOf) (root : ℕ) (roots : List ℕ) (arrivals before after : List ℤ) → AreArrivals top bottom events rs root arrivals → All (IsFork events) forks → Writes top bottom forks root arrivals before after → AreSlacksOf top bottom rs forks root roots 0 after
filled_first top bottom events rs forks root roots arrivals before after h all w = record {
  counts = w.counts;
  of_root = λ n inside e. written top bottom events rs forks root arrivals before after h all w n inside e;
  of_each = λ n k inside none e. absurd (omega arith);
}

pub filled_more : (top bottom events : ℕ) (rs : List Rule) (forks : List ForkOf) (root : ℕ) (roots : List ℕ) (count : ℕ) (arrivals before after : List ℤ) → AreSlacksOf top bottom rs forks root roots count before → AreArrivals top bottom events rs (root_at roots count) arrivals → All (IsFork events) forks → Writes top bottom forks (root_at roots count) arrivals before after → AreSlacksOf top bottom rs forks root roots (count + 1) after
filled_more top bottom events rs forks root roots count arrivals before after f h all w = record {
  counts = w.counts;
  of_root = λ n inside e. step n inside (λ _. f.of_root n inside e);
  of_each = λ n k inside early e. step n inside (λ other. f.of_each n k inside (earlier n k early e other) e);
}
  where
    step : (n : ℕ) → n < length forks → (((fork_at forks n).root ≡ root_at roots count → ⊥) → IsSlack top bottom rs (fork_at forks n) (time_of before n)) → IsSlack top bottom rs (fork_at forks n) (time_of after n)
    step n inside old = go (cases_eq (fork_at forks n).root (root_at roots count))
      where
        go : ((fork_at forks n).root ≡ root_at roots count) ⊎ ((fork_at forks n).root ≡ root_at roots count → ⊥) → IsSlack top bottom rs (fork_at forks n) (time_of after n)
        go (inl e) = written top bottom events rs forks (root_at roots count) arrivals before after h all w n inside e
        go (inr other) = kept top bottom rs forks (root_at roots count) arrivals before after w n inside other (old other)

    earlier : (n k : ℕ) → k < count + 1 → root_at roots k ≡ (fork_at forks n).root → ((fork_at forks n).root ≡ root_at roots count → ⊥) → k < count
    earlier n k early e other = go (cases_lt k count)
      where
        go : (k < count) ⊎ (count ≤ k) → k < count
        go (inl l) = l
        go (inr g) = let same : k ≡ count = omega arith in absurd (other (sym e ∙ ap (root_at roots) same))

-- where each fork's root had its turn, all are slacks
pub filled_all : (top bottom : ℕ) (rs : List Rule) (forks : List ForkOf) (root : ℕ) (roots : List ℕ) (slacks : List ℤ) → ((n : ℕ) → n < length forks → IsMade root roots (fork_at forks n).root) → AreSlacksOf top bottom rs forks root roots (length roots) slacks → AreSlacks top bottom rs forks slacks
filled_all top bottom rs forks root roots slacks made f = (
  f.counts,
  λ n inside. elim (made n inside) [
    | inl e ↦ f.of_root n inside e
    | inr k ↦ f.of_each n k.0 inside k.1 k.2
  ],
)

-- each root is an event of the system, from which it is connected
pub roots_within : (system : EventRules) (forks : List ForkOf) (root : ℕ) (roots : List ℕ) → All (IsFork system.events) forks → IsConnected system.events system.rules root → All (HasRoot forks) roots → All (IsRootOf system) roots
roots_within system forks root roots all connected theirs = λ i d inside.
    let (n, low, is) = theirs i d inside in
    let near : slice_index_or roots i d < system.events = subst (λ (e : ℕ). e < system.events) is (all n no_fork low).0 in
    (near, connected_from system.events system.rules root (slice_index_or roots i d) connected near)

-- ---- the different roots

made_kept : (root : ℕ) (roots : List ℕ) (more own : ℕ) → IsMade root roots own → IsMade root (roots ++ more ∷ []) own
made_kept root roots more own (inl e) = inl e
made_kept root roots more own (inr k) = inr (k.0, rw (length-append roots (more ∷ [])) (omega (arith, k.1)), get_or_append_left roots (more ∷ []) 0 k.0 k.1 ∙ k.2)

-- the last of the roots
made_last : (root : ℕ) (roots : List ℕ) (own : ℕ) → IsMade root (roots ++ own ∷ []) own
made_last root roots own = inr (length roots, rw (length-append roots (own ∷ [])) (omega arith), get_or_push roots own 0 (length roots) refl)

-- the roots of the first forks are made, and each is a fork's
pub record AreRoots (forks : List ForkOf) (root count : ℕ) (roots : List ℕ) : Type 0 where
  pub made : (n : ℕ) → n < count → IsMade root roots (fork_at forks n).root
  pub theirs : All (HasRoot forks) roots

pub no_roots : (forks : List ForkOf) (root : ℕ) → AreRoots forks root 0 []
no_roots forks root = record { made = λ n low. absurd (omega arith); theirs = λ i d low. absurd (omega arith) }

-- the next fork, whose root comes in or is made
next_made : (forks : List ForkOf) (root count : ℕ) (roots : List ℕ) → ((n : ℕ) → n < count → IsMade root roots (fork_at forks n).root) → IsMade root roots (fork_at forks count).root → (n : ℕ) → n < count + 1 → IsMade root roots (fork_at forks n).root
next_made forks root count roots made here n low = go (cases_lt n count)
  where
    go : (n < count) ⊎ (count ≤ n) → IsMade root roots (fork_at forks n).root
    go (inl l) = made n l
    go (inr g) = let same : count ≡ n = omega arith in subst (λ (k : ℕ). IsMade root roots (fork_at forks k).root) same here

pub one_root_more : (forks : List ForkOf) (root count : ℕ) (roots : List ℕ) → count < length forks → AreRoots forks root count roots → AreRoots forks root (count + 1) (roots ++ (fork_at forks count).root ∷ [])
one_root_more forks root count roots low are = record {
  made = next_made forks root count (roots ++ own ∷ []) (λ n l. made_kept root roots own (fork_at forks n).root (are.made n l)) (made_last root roots own);
  theirs = All-append (HasRoot forks) roots (own ∷ []) are.theirs last;
}
  where
    own : ℕ
    own = (fork_at forks count).root

    last : All (HasRoot forks) (own ∷ [])
    last zero d l = (count, low, refl)
    last (suc i) d l = absurd (omega arith)

pub root_again : (forks : List ForkOf) (root count : ℕ) (roots : List ℕ) → IsMade root roots (fork_at forks count).root → AreRoots forks root count roots → AreRoots forks root (count + 1) roots
root_again forks root count roots had are = record { made = next_made forks root count roots are.made had; theirs = are.theirs }

-- lists for roots, one by one
pub zip_at : {X Y : Type 0} (R : X → Y → Type 0) (xs : List X) (ys : List Y) (i : ℕ) (d : X) (e : Y) → AllZip R xs ys → i < length ys → (i < length xs) × R (slice_index_or xs i d) (slice_index_or ys i e)
zip_at R xs [] i d e h low = absurd (omega arith)
zip_at R [] (y ∷ ys) i d e h low = absurd h
zip_at R (x ∷ xs) (y ∷ ys) zero d e h low = (omega arith, h.0)
zip_at R (x ∷ xs) (y ∷ ys) (suc i) d e h low = let (l, r) = zip_at R xs ys i d e h.1 (omega arith) in (omega arith, r)

pub zip_long : {X Y : Type 0} (R : X → Y → Type 0) (xs : List X) (ys : List Y) → AllZip R xs ys → length xs ≡ length ys
zip_long R [] [] h = refl
zip_long R [] (y ∷ ys) h = absurd h
zip_long R (x ∷ xs) [] h = absurd h
zip_long R (x ∷ xs) (y ∷ ys) h = let e = zip_long R xs ys h.1 in omega (arith, e)

-- the list of a root's arrivals
pub list_here : (top bottom : ℕ) (system : EventRules) (roots : List ℕ) (lists : List (List ℤ)) (at : ℕ) (list now : List ℤ) → AllZip (AreArrivalsFrom top bottom system) roots lists → at < length lists
    → list ≡ slice_index_or lists at list → now ≡ list → AreArrivalsFrom top bottom system (root_at roots at) now
list_here top bottom system roots lists at list now h low is same =
    subst (AreArrivalsFrom top bottom system (root_at roots at)) (sym is ∙ sym same) (zip_at (AreArrivalsFrom top bottom system) roots lists at 0 list h low).1

pub forks_within : (events : ℕ) (forks : List ForkOf) (times : List ℤ) → length times ≡ events → All (IsFork events) forks → All (IsFork (length times)) forks
forks_within events forks times e h = subst (λ (n : ℕ). All (IsFork n) forks) (sym e) h

-- slacks after those of the first forks that have the root were written
pub record WritesFirst (top bottom : ℕ) (forks : List ForkOf) (root : ℕ) (arrivals before : List ℤ) (count : ℕ) (after : List ℤ) : Type 0 where
  pub counts : length after ≡ length forks
  pub below : (n : ℕ) → n < count → n < length forks → time_of after n ≡ slack_or top bottom root arrivals (fork_at forks n) (time_of before n)
  pub above : (n : ℕ) → count ≤ n → time_of after n ≡ time_of before n
