-- How names, drivers and ticks are found; no contract of the crate's public calls speaks of it.
use Rattle.std.specs.Prelude.{◌≡◌, ℕ, ◌+◌, ◌*◌, ◌<◌, ◌==◌, ◌⊎◌, nat_lt, true, false, if◌then◌else◌, List, All, Option, Some, None, is_some, option_and_then, option_map, map, slice_get, unwrap_or, Vec}
use Rattle.std.specs.BTreeMap.{BTreeMap, get_by}
use Rattle.std.specs.Cmp.Lexicographic.{slice_cmp}
use Rattle.std.specs.List.{IsDistinct}
use Rattle.std.specs.Str.{bytes_eq}
use Rattle.std.specs.declared.alloc.Global.{Global}
use Rattle.std.specs.Ordering.{nat_cmp}
use Rattle.netlist_model.specs.Circuit.{place_of}
use Rattle.netlist_model.specs.Deletions.{moved_up}
use Rattle.netlist_model.specs.PairTables.{Table, placed_of}

-- the names of the entries of an index map, in order
abbrev pub names_in : List (ℕ × Vec ℕ Global) → List (List ℕ)
names_in entries = map (λ e. e.1.items) entries

-- the number that an ordered map tells of a name
abbrev pub number_in : BTreeMap (Vec ℕ Global) ℕ → List ℕ → Option ℕ
number_in numbers name = get_by (λ v. slice_cmp nat_cmp name v.items) numbers

-- how names in order, each with a number of its own, are found: a number that is told of a name is the name's own, and a name of which
-- none is told stands at its hint
pub record IsFound (names : List (List ℕ)) (numbers : List ℕ) (hint number : List ℕ → Option ℕ) : Type 0 where
  pub own : (name : List ℕ) (n : ℕ) → number name ≡ Some n → option_and_then (slice_get numbers) (place_of name names) ≡ Some n
  pub told : (name : List ℕ) (k : ℕ) → place_of name names ≡ Some k → number name ≡ None → hint name ≡ Some k

-- names in order that differ, each with a number of its own: all are found, and all numbers are below the next
pub record IsKeyed (names : List (List ℕ)) (numbers : List ℕ) (hint number : List ℕ → Option ℕ) (next : ℕ) : Type 0 where
  pub found : IsFound names numbers hint number
  pub below : All (λ n. n < next) numbers
  pub differ : IsDistinct bytes_eq names

-- one more name is noted, with its number and place: at its hint, or by its number
pub record HasNoted (name : List ℕ) (n place : ℕ) (hint number hint' number' : List ℕ → Option ℕ) : Type 0 where
  pub kept : (q : List ℕ) (k : ℕ) → hint q ≡ Some k → hint' q ≡ Some k
  pub others : (q : List ℕ) → bytes_eq name q ≡ false → number' q ≡ number q
  pub here : ((hint' name ≡ Some place) × (number' name ≡ number name)) ⊎ (number' name ≡ Some n)

-- the place that is told at a place, if one is
abbrev pub told_at : List (Option ℕ) → ℕ → Option ℕ
told_at places n = unwrap_or (slice_get places n) None

-- the place of what may be there, once the entry at `gone` is away
abbrev pub place_after : ℕ → Option ℕ → Option ℕ
place_after gone None = None
place_after gone (Some k) = if k == gone then None else Some (moved_up gone k)

-- the numbers of two events, if both have one
abbrev pub key_of : List ℕ → ℕ → ℕ → Option (ℕ × ℕ)
key_of numbers source target = option_and_then (λ a. option_map (λ b. (a, b)) (slice_get numbers target)) (slice_get numbers source)

-- what a table of pairs of numbers, and the events' numbers, tell of two events
abbrev pub told_of : {A : Type 0} → (Table A × List ℕ) → ℕ → ℕ → Option A
told_of table source target = option_and_then (placed_of table.0) (key_of table.1 source target)

-- numbers that differ, all below the next; what is placed is placed at numbers below it
pub record IsNumbered {A : Type 0} (table : Table A) (numbers : List ℕ) (next : ℕ) : Type 0 where
  pub once : (i j n : ℕ) → slice_get numbers i ≡ Some n → slice_get numbers j ≡ Some n → i ≡ j
  pub below : (i n : ℕ) → slice_get numbers i ≡ Some n → n < next
  pub known : (a b : ℕ) → is_some (placed_of table (a, b)) ≡ true → (a < next) × (b < next)

-- an event, before a net was taken away
abbrev pub event_before : ℕ → ℕ → ℕ
event_before gone event = if nat_lt event (2 * gone) then event else event + 2
