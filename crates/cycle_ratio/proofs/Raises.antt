-- A raised ratio leaves less to raise, and how large the sums along short cycles are.
use Rattle.std.proofs.Common.{◌≡◌, ℕ, ◌+◌, ◌-◌, ◌*◌, ◌%◌, ◌<◌, ◌≤◌, List, [], ◌∷◌, length, arith, lit<}
use Rattle.std.proofs.lemmas.Nat.{div-add-mod'}
use Rattle.std.proofs.Math.Nat.{mul-le-mul_left, le-div_iff_mul-le}
use Rattle.rule_system.specs.declared.rules.Rule.{Rule}
use Rattle.rule_system.specs.Rules.{source_of, delay_sum, offset_sum}
use Rattle.rule_system.specs.Walks.{IsLive}
use Rattle.rule_system.specs.Weights.{rank, Gains}
use Rattle.rule_system.specs.Bounds.{AreSmallSums, IsSystem}
use Rattle.rule_system.proofs.Ratios.{rank_rises}
use Rattle.rule_system.proofs.Sums.{walk_sums, walk_within}
use Rattle.cycle_ratio.specs.Cycles.{IsShortCycle}

-- the sums along a cycle of at most as many rules as there are events
pub short_cycle_sums : (events : ℕ) (rs : List Rule) (cycle : List ℕ) → IsSystem events rs → IsShortCycle events rs cycle → AreSmallSums rs cycle
short_cycle_sums events rs [] h c = absurd c.is_cycle
short_cycle_sums events rs (n ∷ w) h c =
    let short : length (n ∷ w) ≤ events = c.short in
    let few : events ≤ 32768 = h.0 in
    let sums : (delay_sum rs (n ∷ w) ≤ 1000000 * length (n ∷ w)) × (offset_sum rs (n ∷ w) ≤ 15 * length (n ∷ w)) = walk_sums events rs h (source_of rs n) (n ∷ w) (source_of rs n) c.is_cycle in
    record { within = walk_within rs (source_of rs n) (n ∷ w) (source_of rs n) c.is_cycle; short = omega arith; delay = omega arith; offset = omega arith }

-- no ratio ranks above the greatest top over 1
rank_below : (bound top bottom most : ℕ) → 1 ≤ bottom → top ≤ most → rank bound top bottom ≤ rank bound most 1
rank_below bound top bottom most b h =
    let low : rank bound top bottom * bottom + bound * bound * top % bottom ≡ bound * bound * top = div-add-mod' (bound * bound * top) bottom in
    let grow : rank bound top bottom * 1 ≤ rank bound top bottom * bottom = mul-le-mul_left (rank bound top bottom) b in
    let most_top : bound * bound * top ≤ bound * bound * most = mul-le-mul_left (bound * bound) h in
    (le-div_iff_mul-le {k = 1} (lit< tt)).1 (omega arith)

pub less_left : (events : ℕ) (rs : List Rule) (cycle next : List ℕ) → IsSystem events rs → IsLive rs → IsShortCycle events rs cycle → IsShortCycle events rs next → Gains (delay_sum rs cycle) (offset_sum rs cycle) rs next → rank 491520 32768000000 1 - rank 491520 (delay_sum rs next) (offset_sum rs next) < rank 491520 32768000000 1 - rank 491520 (delay_sum rs cycle) (offset_sum rs cycle)
less_left events rs cycle next sys live c n g =
    let a : AreSmallSums rs cycle = short_cycle_sums events rs cycle sys c in
    let b : AreSmallSums rs next = short_cycle_sums events rs next sys n in
    let o : 1 ≤ offset_sum rs cycle = live cycle c.is_cycle in
    let p : 1 ≤ offset_sum rs next = live next n.is_cycle in
    let r : rank 491520 (delay_sum rs cycle) (offset_sum rs cycle) < rank 491520 (delay_sum rs next) (offset_sum rs next) = rank_rises (delay_sum rs cycle) (offset_sum rs cycle) (delay_sum rs next) (offset_sum rs next) 491520 o p a.offset b.offset (let h : delay_sum rs cycle * offset_sum rs next < offset_sum rs cycle * delay_sum rs next = g in omega arith) in
    let t : rank 491520 (delay_sum rs next) (offset_sum rs next) ≤ rank 491520 32768000000 1 = rank_below 491520 (delay_sum rs next) (offset_sum rs next) 32768000000 p b.delay in
    omega arith
