-- Numbers of rules by event, in one list.
use Rattle.std.specs.Prelude.{◌≡◌, ℕ, ◌+◌, ◌-◌, ◌<◌, ◌≤◌, ◌==◌, Option, Some, None, List, [], ◌∷◌, length, get_or, slice_range}
use Rattle.std.specs.List.{range_with_len, filter}

-- of the places of a list from one on, those that hold the event, in rising order
abbrev pub places_from : List ℕ → ℕ → ℕ → List ℕ
places_from ends first event = filter (λ n. get_or ends n 0 == event) (range_with_len first (length ends - first))

-- event by event, a part of the numbers, from where the event's part begins to where the next one's does
pub record AreParts (lists : ℕ → List ℕ) (events : ℕ) (begins numbers : List ℕ) : Type 0 where
  pub count : length begins ≡ events + 1
  pub rising : (event : ℕ) → event < events → get_or begins event 0 ≤ get_or begins (event + 1) 0
  pub inside : (event : ℕ) → event < events → get_or begins (event + 1) 0 ≤ length numbers
  pub parts : (event : ℕ) → event < events → slice_range numbers (get_or begins event 0) (get_or begins (event + 1) 0) ≡ lists event

-- a start and, after each number, the next one lead through the list, whose numbers are at least the least
abbrev pub IsChain : List (Option ℕ) → ℕ → Option ℕ → List ℕ → Type 0
IsChain nexts least start [] = start ≡ None
IsChain nexts least start (n ∷ row) = (start ≡ Some n) × (least ≤ n) × (n < length nexts) × IsChain nexts least (get_or nexts n None) row

-- event by event, such a list of the places from one on that hold it
pub record AreChains (ends : List ℕ) (least events : ℕ) (firsts nexts : List (Option ℕ)) : Type 0 where
  pub firsts_count : length firsts ≡ events
  pub nexts_count : length nexts ≡ length ends
  pub chains : (event : ℕ) → event < events → IsChain nexts least (get_or firsts event None) (places_from ends least event)
