-- The places that hashes of names lead to; no contract of the crate's public calls speaks of it.
use Rattle.std.specs.Prelude.{ℕ, zero, suc, ◌+◌, ◌*◌, ◌/◌, ◌%◌, ◌==◌, if◌then◌else◌, Option, Some, None, List, [], ◌∷◌, length, get_or}
use Rattle.netlist_model.specs.Deletions.{moved_up}

-- a hash of 32 bits, after the bytes of a name (Fowler, Noll and Vo's product, with a sum in place of an exclusive or)
abbrev pub hash_after : ℕ → List ℕ → ℕ
hash_after hash [] = hash
hash_after hash (byte ∷ name) = hash_after ((hash + byte) * 16777619 % 4294967296) name

-- the slot of a name in a table of so many slots
abbrev pub slot_of : ℕ → List ℕ → ℕ
slot_of size name = hash_after 2166136261 name * size / 4294967296

-- the place that a slot tells: none where it holds 0, else one less than it holds
abbrev pub place_in : ℕ → Option ℕ
place_in zero = None
place_in (suc place) = Some place

-- the place that a table tells of a name
abbrev pub hint_of : List ℕ → List ℕ → Option ℕ
hint_of slots name = place_in (get_or slots (slot_of (length slots) name) 0)

-- what a slot holds, once the place `gone` is away
abbrev pub held_after : ℕ → ℕ → ℕ
held_after gone zero = zero
held_after gone (suc place) = if place == gone then 0 else suc (moved_up gone place)
