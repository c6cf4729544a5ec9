use Rattle.std.proofs.Common.{◌≡◌, ℕ, length, nat_lt, if◌then◌else◌}
use Rattle.netlist_model.specs.PairTables.{mapped_at, pair_slot, placed_of}
use Rattle.netlist_model.proofs.pair_table.PairTable.grown.Given as goal

abbrev pub invariant-loop-at : goal.invariant-loop-at
invariant-loop-at l = (q : ℕ × ℕ) → placed_of l.table q ≡ (if nat_lt (pair_slot (length l.self.0) q) l.at then placed_of l.self q else mapped_at l.self.1 q)
