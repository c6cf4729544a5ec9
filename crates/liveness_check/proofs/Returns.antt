-- What the levels to the root and from it say of walks that lead there and from there, where every rule is kept.
use Rattle.std.proofs.Common.{◌≡◌, ℕ, ◌<◌, ◌≤◌, true, false, List, [], ◌∷◌, length, replicate, Option, Some, None, IfNone, arith}
use Rattle.std.proofs.lemmas.List.{get_or-replicate}
use Rattle.rule_system.specs.declared.rules.Rule.{Rule}
use Rattle.rule_system.specs.Rules.{target_of}
use Rattle.rule_system.specs.Walks.{IsWalk, IsKept, Reaches}
use Rattle.rule_system.specs.FirstCycle.{kept_by}
use Rattle.first_cycle.specs.Levels.{AreLevels, AreLevelsFrom, level_of, IsKeptWalk}
use Rattle.liveness_check.specs.Liveness.{IsFirstLost, IsLeastUnreached, IsLeastWithoutReturn}

all_kept : (rs : List Rule) (a : ℕ) (w : List ℕ) (b : ℕ) → IsWalk rs a w b → IsKept (kept_by (replicate (length rs) true)) w
all_kept rs a [] b h = tt
all_kept rs a (n ∷ w) b h = (get_or-replicate (length rs) n true false h.0, all_kept rs (target_of rs n) w b h.2)

-- a level below the number of events is a walk
pub returns_low : (events : ℕ) (rs : List Rule) (root : ℕ) (levels : List ℕ) (event : ℕ) → AreLevels events rs (replicate (length rs) true) root levels → event < events → level_of levels event < events → Reaches rs event root
returns_low events rs root levels event h inside low = go (h.reached event (let c : length levels ≡ events = h.count in omega arith) (let c : length levels ≡ events = h.count in omega arith))
  where
    go : (w : List ℕ) × IsKeptWalk rs (replicate (length rs) true) event w root × (length w ≡ level_of levels event) → Reaches rs event root
    go w = (w.0, w.1.0)

pub lost_event : (events : ℕ) (rs : List Rule) (root : ℕ) (levels : List ℕ) (event : ℕ) → AreLevels events rs (replicate (length rs) true) root levels → IsFirstLost events levels event → IsLeastWithoutReturn events rs root event
lost_event events rs root levels event h l = record {
  is_event = l.is_event;
  without_return = λ r.
      let low : level_of levels event < events = h.below event r.0 l.is_event (r.1, all_kept rs event r.0 root r.1) in
      let high : events ≤ level_of levels event = l.lost in
      absurd (omega arith);
  least = λ other k. let i : event < events = l.is_event in returns_low events rs root levels other h (omega arith) (l.first other k);
}

pub all_return : (found : Option ℕ) (events : ℕ) (rs : List Rule) (root : ℕ) (levels : List ℕ) → AreLevels events rs (replicate (length rs) true) root levels → IfNone found ((event : ℕ) → event < events → level_of levels event < events) → IfNone found ((event : ℕ) → event < events → Reaches rs event root)
all_return (Some x) events rs root levels h k = k
all_return None events rs root levels h k = λ event inside. returns_low events rs root levels event h inside (k event inside)

-- the same of walks from the root
reached_low : (events : ℕ) (rs : List Rule) (root : ℕ) (levels : List ℕ) (event : ℕ) → AreLevelsFrom events rs (replicate (length rs) true) root levels → event < events → level_of levels event < events → Reaches rs root event
reached_low events rs root levels event h inside low = go (h.reached event (let c : length levels ≡ events = h.count in omega arith) (let c : length levels ≡ events = h.count in omega arith))
  where
    go : (w : List ℕ) × IsKeptWalk rs (replicate (length rs) true) root w event × (length w ≡ level_of levels event) → Reaches rs root event
    go w = (w.0, w.1.0)

pub unreached_event : (events : ℕ) (rs : List Rule) (root : ℕ) (levels : List ℕ) (event : ℕ) → AreLevelsFrom events rs (replicate (length rs) true) root levels → IsFirstLost events levels event → IsLeastUnreached events rs root event
unreached_event events rs root levels event h l = record {
  is_event = l.is_event;
  unreached = λ r.
      let low : level_of levels event < events = h.below event r.0 l.is_event (r.1, all_kept rs root r.0 event r.1) in
      let high : events ≤ level_of levels event = l.lost in
      absurd (omega arith);
  least = λ other k. let i : event < events = l.is_event in reached_low events rs root levels other h (omega arith) (l.first other k);
}

pub all_reached : (found : Option ℕ) (events : ℕ) (rs : List Rule) (root : ℕ) (levels : List ℕ) → AreLevelsFrom events rs (replicate (length rs) true) root levels → IfNone found ((event : ℕ) → event < events → level_of levels event < events) → IfNone found ((event : ℕ) → event < events → Reaches rs root event)
all_reached (Some x) events rs root levels h k = k
all_reached None events rs root levels h k = λ event inside. reached_low events rs root levels event h inside (k event inside)
