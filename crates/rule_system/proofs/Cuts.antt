-- A walk that comes by an event twice is parted round the closed part between.
use Rattle.std.proofs.Common.{ℕ, ◌<◌, ◌≤◌, List, [], ◌∷◌, length, refl, ap, arith, ◌⊎◌, inl, inr}
use Rattle.rule_system.specs.declared.rules.Rule.{Rule}
use Rattle.rule_system.specs.Rules.{target_of}
use Rattle.rule_system.specs.Walks.{IsWalk, IsPath, EndsBelow, ClosedPart}
use Rattle.rule_system.proofs.Paths.{PartedAt, Misses, part_at, path_cons, path_short, empty_path}
use Rattle.rule_system.proofs.Erase.{close}

-- a path, or else some part of the walk is a cycle without repeated events
pub path_or_part : (rs : List Rule) (a : ℕ) (walk : List ℕ) (b : ℕ) → IsWalk rs a walk b → IsPath rs a walk b ⊎ ClosedPart rs a walk b
path_or_part rs a [] b h = inl (empty_path rs a b h)
path_or_part rs a (n ∷ w) b h = go (path_or_part rs (target_of rs n) w b h.2)
  where
    either : IsPath rs (target_of rs n) w b → Misses rs (target_of rs n) w a ⊎ PartedAt rs (target_of rs n) w b a → IsPath rs a (n ∷ w) b ⊎ ClosedPart rs a (n ∷ w) b
    either p (inl away) = inl (path_cons rs a n w b h.0 h.1 away p)
    either p (inr s) = inr (record {
      event = a;
      before = [];
      part = n ∷ s.before;
      after = s.after;
      joined = ap (λ (v : List ℕ). n ∷ v) s.joined;
      to_it = refl;
      closed = (h.0, h.1, s.to_it.0);
      is_simple = close rs a n s.before h.0 h.1 s.to_it;
      from_it = s.from_it.0;
    })

    go : IsPath rs (target_of rs n) w b ⊎ ClosedPart rs (target_of rs n) w b → IsPath rs a (n ∷ w) b ⊎ ClosedPart rs a (n ∷ w) b
    go (inl p) = either p (part_at rs (target_of rs n) w b p a)
    go (inr c) = inr (record {
      event = c.event;
      before = n ∷ c.before;
      part = c.part;
      after = c.after;
      joined = ap (λ (v : List ℕ). n ∷ v) c.joined;
      to_it = (h.0, h.1, c.to_it);
      closed = c.closed;
      is_simple = c.is_simple;
      from_it = c.from_it;
    })

-- a walk of at least as many rules as there are events has a closed part
pub long_walk : (events : ℕ) (rs : List Rule) → EndsBelow events rs → (a : ℕ) (walk : List ℕ) (b : ℕ) → a < events → IsWalk rs a walk b → events ≤ length walk → ClosedPart rs a walk b
long_walk events rs ends a walk b k h long = go (path_or_part rs a walk b h)
  where
    go : IsPath rs a walk b ⊎ ClosedPart rs a walk b → ClosedPart rs a walk b
    go (inl p) = let short : length walk < events = path_short rs events ends a walk b k p in absurd (omega arith)
    go (inr c) = c
