use Rattle.std.proofs.Common.{None, pos, ◌≡◌, ◌+ℤ◌, ◌≤ℤ◌, ◌*◌, ◌≤◌, arith, refl, to_z, of_z, w64}
use Rattle.std.proofs.lemmas.Int.{ints}
use Rattle.rule_system.specs.Walks.{EndsBelow}
use Rattle.rule_system.specs.Plain.{IsGreatest, IsGreatestWeight}
use Rattle.rule_system.proofs.Sums.{ends_below}
use Rattle.rule_system.proofs.GreatestWeight.{is_arrival, some_arrival}
use Rattle.rule_system.proofs.plain.arrival.Goals as goal

pub returns-in-Some : goal.returns-in-Some
returns-in-Some c =
    let few : c.args.system.now.events ≤ 32768 = c.events.ensures.system.0 in
    let count : c.events.result ≡ c.args.system.now.events = c.events.ensures.count in
    let low : pos 0 ≤ℤ (c.in-Some.time +ℤ pos (491520000000 * c.events.result)) = c.in-Some.ensures.within.0 in
    let high : c.in-Some.time ≤ℤ pos (491520000000 * c.events.result) = c.in-Some.ensures.within.1 in
    let passed : to_z w64 (of_z w64 c.in-Some.time) ≡ c.in-Some.time = omega (arith, ints) in
    let greatest : IsGreatestWeight c.args.top c.args.bottom c.args.system.now.rules c.args.system.now.events c.args.root c.args.event c.in-Some.time = rw c.events.ensures.count at c.in-Some.ensures.greatest in
    let ends : EndsBelow c.args.system.now.events c.args.system.now.rules = ends_below c.args.system.now.events c.args.system.now.rules c.events.ensures.system in
    rw passed (is_arrival c.args.top c.args.bottom c.args.system.now.events c.args.system.now.rules c.args.root c.args.event c.in-Some.time ends c.requires.no_gain c.requires.root greatest)

pub returns-in-None : goal.returns-in-None
returns-in-None c =
    let none : IsGreatest c.args.top c.args.bottom c.args.system.now.rules c.args.system.now.events c.args.root c.args.event None = rw c.events.ensures.count at c.in-None.ensures.greatest in
    let ends : EndsBelow c.args.system.now.events c.args.system.now.rules = ends_below c.args.system.now.events c.args.system.now.rules c.events.ensures.system in
    some_arrival c.args.top c.args.bottom c.args.system.now.events c.args.system.now.rules c.args.root c.args.event None (pos 0) refl ends c.requires.no_gain c.requires.root c.requires.reached none
