-- Numbers that no kept rule raises: a kept cycle stays on one of them.
use Rattle.std.proofs.Common.{◌≡◌, ℕ, ◌≤◌, Bool, List, [], ◌∷◌, ap, arith}
use Rattle.rule_system.specs.declared.rules.Rule.{Rule}
use Rattle.rule_system.specs.Rules.{source_of, target_of}
use Rattle.rule_system.specs.FirstCycle.{start_of, kept_by}
use Rattle.rule_system.specs.Walks.{IsWalk, IsCycle, IsKept}
use Rattle.first_cycle.specs.Numbers.{number_of, AreUnraised, StaysOnNumber}

-- a kept walk does not raise them
not_raised : (rs : List Rule) (keep : List Bool) (numbers : List ℕ) → AreUnraised rs keep numbers → (a : ℕ) (walk : List ℕ) (b : ℕ) → IsWalk rs a walk b → IsKept (kept_by keep) walk → number_of numbers b ≤ number_of numbers a
not_raised rs keep numbers h a [] b w k = let e : number_of numbers a ≡ number_of numbers b = ap (number_of numbers) w in omega arith
not_raised rs keep numbers h a (n ∷ walk) b w k =
    let rest : number_of numbers b ≤ number_of numbers (target_of rs n) = not_raised rs keep numbers h (target_of rs n) walk b w.2 k.1 in
    let here : number_of numbers (target_of rs n) ≤ number_of numbers (source_of rs n) = h n w.0 k.0 in
    let e : number_of numbers (source_of rs n) ≡ number_of numbers a = ap (number_of numbers) w.1 in
    omega arith

-- so from an event on a kept cycle a kept rule leads to an event of the same number
pub no_cycle_from : (rs : List Rule) (keep : List Bool) (numbers : List ℕ) (event : ℕ) → AreUnraised rs keep numbers → ((n : ℕ) → StaysOnNumber rs keep numbers event n → ⊥) → (cycle : List ℕ) → IsCycle rs cycle → IsKept (kept_by keep) cycle → start_of rs cycle ≡ event → ⊥
no_cycle_from rs keep numbers event h none [] c k s = c
no_cycle_from rs keep numbers event h none (n ∷ walk) c k s =
    let rest : number_of numbers (source_of rs n) ≤ number_of numbers (target_of rs n) = not_raised rs keep numbers h (target_of rs n) walk (source_of rs n) c.2 k.1 in
    let here : number_of numbers (target_of rs n) ≤ number_of numbers (source_of rs n) = h n c.0 k.0 in
    let e : number_of numbers (source_of rs n) ≡ number_of numbers event = ap (number_of numbers) s in
    none n (record { inside = c.0; from = s; kept = k.0; same = omega arith })
