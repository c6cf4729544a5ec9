-- How the blocks of a netlist's ticks are found; no contract of the crate's public calls speaks of them.
use Rattle.std.specs.Prelude.{◌≡◌, ℕ, ◌+◌, ◌<◌, ◌==◌, ◌&&◌, ◌++◌, ◌∷◌, [], ◌⊎◌, Bool, false, List, Option, Some, None, option_map, slice_get, slice_set, length, slice_index_or}
use Rattle.std.specs.List.{list_any}
use Rattle.netlist_model.specs.Circuit.{is_between, tick_of}
use Rattle.netlist_model.specs.declared.parts.Tick.{Tick}

-- whether two pairs of events are the same
abbrev pub pair_eq : (ℕ × ℕ) → (ℕ × ℕ) → Bool
pair_eq a b = (a.0 == b.0) && (a.1 == b.1)

-- whether this is the place
abbrev pub is_at : ℕ → Option ℕ → Bool
is_at j None = false
is_at j (Some k) = j == k

-- a block has a tick of a pair exactly where the pair's place is that block's
pub record IsIndexed (blocks : List (List Tick)) (place : ℕ → ℕ → Option ℕ) : Type 0 where
  pub found : (j s t : ℕ) (b : List Tick) → slice_get blocks j ≡ Some b → list_any (is_between s t) b ≡ is_at j (place s t)
  pub within : (k s t : ℕ) → place s t ≡ Some k → k < length blocks

-- a pair has a count exactly where it has a tick, and that tick's
pub record TellsCounts (ticks : List Tick) (count : ℕ → ℕ → Option ℕ) : Type 0 where
  pub told : (s t : ℕ) → count s t ≡ option_map (λ x. x.count) (tick_of ticks s t)

-- the blocks are as they were, or there is one more that is empty
abbrev pub Grown : List (List Tick) → List (List Tick) → Type 0
Grown old new = (new ≡ old) ⊎ (new ≡ old ++ [] ∷ [])

-- a tick stands at the end of the last block, and that is block k
pub record PutLast (old new : List (List Tick)) (k : ℕ) (tick : Tick) : Type 0 where
  pub mid : List (List Tick)
  pub grown : Grown old mid
  pub last : k + 1 ≡ length mid
  pub put : new ≡ slice_set mid k (slice_index_or mid k [] ++ tick ∷ [])
