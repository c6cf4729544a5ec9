-- Walks of the rules turned round, and levels over them.
use Rattle.std.proofs.Common.{◌≡◌, ℕ, zero, suc, ◌+◌, ◌<◌, ◌≤◌, Bool, true, nat_lt, List, [], ◌∷◌, ◌++◌, length, map, Result, Ok, Err, IfOk, refl, sym, ap, subst, ◌∙◌, arith}
use Rattle.std.proofs.lemmas.List.{length-append, length-map}
use Rattle.rule_system.specs.declared.rules.Rule.{Rule}
use Rattle.rule_system.specs.Rules.{rule_at, source_of, target_of}
use Rattle.rule_system.specs.Walks.{EndsBelow}
use Rattle.rule_system.specs.FirstCycle.{kept_by}
use Rattle.first_cycle.specs.declared.levels.Way.{Way}
use Rattle.first_cycle.specs.declared.levels.Way.TheVariants.{To, From}
use Rattle.first_cycle.specs.Levels.{IsKeptWalk, level_of, lowered, AreFound, AreReached, AreSettled, AreLevels, AreLevelsFrom}
use Rattle.first_cycle.specs.Ways.{turned, rules_along}
use Rattle.first_cycle.proofs.Passes.{IsPass, pass_lower, found_lowered, least_levels}

pub turned_at : (rs : List Rule) (n : ℕ) → rule_at (map turned rs) n ≡ turned (rule_at rs n)
turned_at [] n = refl
turned_at (r ∷ rs) zero = refl
turned_at (r ∷ rs) (suc n) = turned_at rs n

turned_twice : (rs : List Rule) → map turned (map turned rs) ≡ rs
turned_twice [] = refl
turned_twice (r ∷ rs) = ap (λ (t : List Rule). r ∷ t) (turned_twice rs)

pub length_along : (way : Way) (rs : List Rule) → length (rules_along way rs) ≡ length rs
length_along To rs = refl
length_along From rs = length-map rs turned

pub ends_along : (way : Way) (events : ℕ) (rs : List Rule) → EndsBelow events rs → EndsBelow events (rules_along way rs)
ends_along To events rs ends = ends
ends_along From events rs ends = λ n inside.
    let e : (source_of rs n < events) × (target_of rs n < events) = ends n (subst (λ (k : ℕ). n < k) (length-map rs turned) inside) in
    subst (λ (r : Rule). (r.source < events) × (r.target < events)) (sym (turned_at rs n)) (e.1, e.0)

-- a number of a rule is one of the rules, whichever way
inside_along : (way : Way) (rs : List Rule) (n : ℕ) → n < length rs → n < length (rules_along way rs)
inside_along way rs n inside = subst (λ (k : ℕ). n < k) (sym (length_along way rs)) inside

-- a search may lower the source of a kept rule, whichever way
pub found_along : (way : Way) (events : ℕ) (rs : List Rule) (keep : List Bool) (end n : ℕ) (levels : List ℕ) → EndsBelow events rs → n < length rs → kept_by keep n ≡ true → AreFound events (rules_along way rs) keep end levels → AreFound events (rules_along way rs) keep end (lowered (rule_at (rules_along way rs) n) levels)
found_along way events rs keep end n levels ends inside kept h = found_lowered events (rules_along way rs) keep end n levels (ends_along way events rs ends) (inside_along way rs n inside) kept h

-- so may a pass
pub pass_along : (way : Way) (events : ℕ) (rs : List Rule) (keep : List Bool) (end count : ℕ) (before now : List ℕ) (changed : Bool) → EndsBelow events rs → length before ≡ events → count < length rs → kept_by keep count ≡ true → nat_lt (level_of now (target_of (rules_along way rs) count) + 1) (level_of now (source_of (rules_along way rs) count)) ≡ true → IsPass (rules_along way rs) keep end count before now changed → IsPass (rules_along way rs) keep end (count + 1) before (lowered (rule_at (rules_along way rs) count) now) true
pass_along way events rs keep end count before now changed ends total inside kept low h = pass_lower events (rules_along way rs) keep end count before now changed (ends_along way events rs ends) total (inside_along way rs count inside) kept low h

-- settled levels are the least, whichever way
pub least_along : (way : Way) (events : ℕ) (rs : List Rule) (keep : List Bool) (end : ℕ) (levels : List ℕ) → EndsBelow events rs → length levels ≡ events → level_of levels end ≡ 0 → AreReached (rules_along way rs) keep end levels → AreSettled (rules_along way rs) keep levels (length rs) → AreLevels events (rules_along way rs) keep end levels
least_along way events rs keep end levels ends c z r h =
    least_levels events (rules_along way rs) keep end levels (ends_along way events rs ends) c z r
    (subst (λ (k : ℕ). AreSettled (rules_along way rs) keep levels k) (sym (length_along way rs)) h)

-- a kept walk of so many rules
abbrev IsJoined : List Rule → List Bool → ℕ → ℕ → ℕ → Type 0
IsJoined rs keep a b count = (walk : List ℕ) × IsKeptWalk rs keep a walk b × (length walk ≡ count)

-- a walk with one rule more at its end
then_rule : (rs : List Rule) (keep : List Bool) (a : ℕ) (w : List ℕ) (b n : ℕ) → IsKeptWalk rs keep a w b → n < length rs → source_of rs n ≡ b → kept_by keep n ≡ true → IsKeptWalk rs keep a (w ++ n ∷ []) (target_of rs n)
then_rule rs keep a [] b n h inside from kept = ((inside, from ∙ sym h.0, refl), (kept, tt))
then_rule rs keep a (m ∷ w) b n h inside from kept =
    let rest : IsKeptWalk rs keep (target_of rs m) (w ++ n ∷ []) (target_of rs n) = then_rule rs keep (target_of rs m) w b n (h.0.2, h.1.1) inside from kept in
    ((h.0.0, h.0.1, rest.0), (h.1.0, rest.1))

walk_turned : (rs : List Rule) (keep : List Bool) (a : ℕ) (w : List ℕ) (b : ℕ) → IsKeptWalk rs keep a w b → IsJoined (map turned rs) keep b a (length w)
walk_turned rs keep a [] b h = ([], (sym h.0, tt), refl)
walk_turned rs keep a (n ∷ w) b h = go (walk_turned rs keep (target_of rs n) w b (h.0.2, h.1.1))
  where
    inside : n < length (map turned rs)
    inside = subst (λ (k : ℕ). n < k) (sym (length-map rs turned)) h.0.0

    from : source_of (map turned rs) n ≡ target_of rs n
    from = ap (λ (r : Rule). r.source) (turned_at rs n)

    to : target_of (map turned rs) n ≡ a
    to = ap (λ (r : Rule). r.target) (turned_at rs n) ∙ h.0.1

    go : IsJoined (map turned rs) keep b (target_of rs n) (length w) → IsJoined (map turned rs) keep b a (length (n ∷ w))
    go r = (
      r.0 ++ n ∷ [],
      subst (λ (e : ℕ). IsKeptWalk (map turned rs) keep b (r.0 ++ n ∷ []) e) to (then_rule (map turned rs) keep b r.0 (target_of rs n) n r.1 inside from h.1.0),
      let l : length (r.0 ++ n ∷ []) ≡ length r.0 + 1 = length-append r.0 (n ∷ []) in
          let s : length r.0 ≡ length w = r.2 in
          omega arith,
    )

walk_back : (rs : List Rule) (keep : List Bool) (a : ℕ) (w : List ℕ) (b : ℕ) → IsKeptWalk (map turned rs) keep a w b → IsJoined rs keep b a (length w)
walk_back rs keep a w b h = subst (λ (l : List Rule). IsJoined l keep b a (length w)) (turned_twice rs) (walk_turned (map turned rs) keep a w b h)

-- levels to an event along the rules turned round are levels from it
pub levels_turned : (events : ℕ) (rs : List Rule) (keep : List Bool) (start : ℕ) (levels : List ℕ) → AreLevels events (map turned rs) keep start levels → AreLevelsFrom events rs keep start levels
levels_turned events rs keep start levels h = record {
  count = h.count;
  reached = λ event inside low. back event (h.reached event inside low);
  least = λ event walk w. least event walk (walk_turned rs keep start walk event w);
  below = λ event walk inside w. let t : IsJoined (map turned rs) keep event start (length walk) = walk_turned rs keep start walk event w in h.below event t.0 inside t.1;
}
  where
    back : (event : ℕ) → IsJoined (map turned rs) keep event start (level_of levels event) → IsJoined rs keep start event (level_of levels event)
    back event w = subst (λ (k : ℕ). IsJoined rs keep start event k) w.2 (walk_back rs keep event w.0 start w.1)

    least : (event : ℕ) (walk : List ℕ) → IsJoined (map turned rs) keep event start (length walk) → level_of levels event ≤ length walk
    least event walk t =
        let l : level_of levels event ≤ length t.0 = h.least event t.0 t.1 in
        let s : length t.0 ≡ length walk = t.2 in
        omega arith

pub ok_then : {T E : Type 0} (r : Result T E) (P Q : T → Type 0) → IfOk r P → ((v : T) → P v → Q v) → IfOk r Q
ok_then (Ok v) P Q h f = f v h
ok_then (Err e) P Q h f = tt
