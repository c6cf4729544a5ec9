-- Tables of what is told of two numbers; no contract of the crate's public calls speaks of them.
use Rattle.std.specs.Prelude.{◌≡◌, ℕ, ◌+◌, ◌*◌, ◌/◌, ◌%◌, ◌==◌, if◌then◌else◌, Bool, true, Option, Some, None, List, length, get_or}
use Rattle.std.specs.Map.{lookup}
use Rattle.std.specs.Ordering.{is_eq, nat_cmp, ordering_then}
use Rattle.std.specs.declared.cmp.Ordering.{Ordering}
use Rattle.cell_arcs.specs.Steps.{or_else}
use Rattle.netlist_model.specs.Blocks.{pair_eq}

-- the order of pairs of numbers
abbrev pub pair_cmp : (ℕ × ℕ) → (ℕ × ℕ) → Ordering
pair_cmp a b = ordering_then (nat_cmp a.0 b.0) (nat_cmp a.1 b.1)

-- slots that hold a pair of numbers or none, and an ordered map of further pairs
abbrev pub Table : Type 0 → Type 0
Table A = List (Option ((ℕ × ℕ) × A)) × List ((ℕ × ℕ) × A)

-- a hash of two numbers of 32 bits, by products with the golden ratio (Knuth 1973)
abbrev pub pair_hash : (ℕ × ℕ) → ℕ
pair_hash key = (key.0 % 4294967296 * 2654435769 % 4294967296 + key.1 % 4294967296) % 4294967296 * 2654435769 % 4294967296

-- the slot of two numbers among so many
abbrev pub pair_slot : ℕ → (ℕ × ℕ) → ℕ
pair_slot size key = pair_hash key * size / 4294967296

-- what a slot tells of two numbers
abbrev pub held_by : {A : Type 0} → (ℕ × ℕ) → Option ((ℕ × ℕ) × A) → Option A
held_by key None = None
held_by key (Some e) = if pair_eq key e.0 then Some e.1 else None

-- whether a slot holds no other two numbers
abbrev pub is_free_for : {A : Type 0} → (ℕ × ℕ) → Option ((ℕ × ℕ) × A) → Bool
is_free_for key None = true
is_free_for key (Some e) = pair_eq key e.0

-- what the slot of two numbers tells of them
abbrev pub held_at : {A : Type 0} → List (Option ((ℕ × ℕ) × A)) → (ℕ × ℕ) → Option A
held_at slots key = held_by key (get_or slots (pair_slot (length slots) key) None)

-- what is found of two numbers in an ordered map
abbrev pub mapped_at : {A : Type 0} → List ((ℕ × ℕ) × A) → (ℕ × ℕ) → Option A
mapped_at entries key = lookup (λ q. is_eq (pair_cmp key q)) entries

-- what a table tells of two numbers: what their slot does, or else the map
abbrev pub placed_of : {A : Type 0} → Table A → (ℕ × ℕ) → Option A
placed_of table key = or_else (held_at table.0 key) (mapped_at table.1 key)

-- a table has taken over what a slot of other slots tells of the pairs of that slot
abbrev pub TakesOver : {A : Type 0} → List (Option ((ℕ × ℕ) × A)) → ℕ → Table A → Table A → Type 0
TakesOver slots at old new =
    (q : ℕ × ℕ) → placed_of new q ≡ (if pair_slot (length slots) q == at then or_else (held_at slots q) (placed_of old q) else placed_of old q)
