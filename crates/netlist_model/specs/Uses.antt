-- How often nets and constants are named; no contract of the crate's public calls speaks of it.
use Rattle.std.specs.Prelude.{◌≡◌, ℕ, ◌+◌, ◌/◌, ◌<◌, nat_eq, nat_lt, suc, cond, if◌then◌else◌, List, Option, Some, None, slice_get, sum_by, unwrap_or}
use Rattle.netlist_model.specs.Deletions.{is_same}
use Rattle.netlist_model.specs.declared.parts.Instance.{Instance}
use Rattle.netlist_model.specs.declared.parts.NetRef.{NetRef}
use Rattle.netlist_model.specs.declared.parts.NetRef.TheVariants.{Net, Const}
use Rattle.netlist_model.specs.declared.parts.Tick.{Tick}

-- the count at a place: 0 behind the last
abbrev pub count_at : List ℕ → ℕ → ℕ
count_at counts n = unwrap_or (slice_get counts n) 0

-- so many at a place, and none at another
abbrev pub many_at : ℕ → ℕ → ℕ → ℕ
many_at many place n = cond (nat_eq n place) many 0

-- counts that are known tell how often each place is named
abbrev pub Tells : Option (List ℕ) → (ℕ → ℕ) → Type 0
Tells None uses = Unit {0}
Tells (Some counts) uses = (n : ℕ) → count_at counts n ≡ uses n

-- where an entry stood, before the one at `gone` was away
abbrev pub moved_back : ℕ → ℕ → ℕ
moved_back gone n = if nat_lt n gone then n else suc n

-- one where the pin is on the net or constant
abbrev pub one_on : NetRef → NetRef → ℕ
one_on r pin = cond (is_same r pin) 1 0

-- how many pins are on the net or constant
abbrev pub pins_on : NetRef → List NetRef → ℕ
pins_on r pins = sum_by (one_on r) pins

-- how many pins of instances are on the net or constant
abbrev pub uses_of : List Instance → NetRef → ℕ
uses_of insts r = sum_by (λ i. pins_on r i.pins) insts

-- counts of nets and of constants tell how many pins are on each
pub record TellsPins (counts : Option (List ℕ) × Option (List ℕ)) (uses : NetRef → ℕ) : Type 0 where
  pub nets : Tells counts.0 (λ n. uses (Net n))
  pub consts : Tells counts.1 (λ k. uses (Const k))

-- what stood there, before this net or constant was away
abbrev pub ref_before : NetRef → NetRef → NetRef
ref_before (Net gone) (Net n) = Net (moved_back gone n)
ref_before (Const gone) (Const k) = Const (moved_back gone k)
ref_before (Net gone) (Const k) = Const k
ref_before (Const gone) (Net n) = Net n

-- it stands behind this net or constant in its list
abbrev pub IsBehind : NetRef → NetRef → Type 0
IsBehind (Net gone) (Net n) = gone < n
IsBehind (Const gone) (Const k) = gone < k
IsBehind (Net gone) (Const k) = ⊥
IsBehind (Const gone) (Net n) = ⊥

-- how many events of the tick are of the net
abbrev pub ends_on : ℕ → Tick → ℕ
ends_on n t = many_at 1 (t.source / 2) n + many_at 1 (t.target / 2) n

-- how many events of ticks are of the net
abbrev pub ends_of : List Tick → ℕ → ℕ
ends_of ticks n = sum_by (ends_on n) ticks
