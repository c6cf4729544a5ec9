use Rattle.std.proofs.Common.{◌≡◌, ◌<◌, drop}
use Rattle.netlist_model.specs.Hints.{hash_after}
use Rattle.netlist_model.proofs.hints.hash.Given as goal

abbrev pub invariant-bytes : goal.invariant-bytes
invariant-bytes l = (l.hash < 4294967296) × (hash_after l.hash (drop l.byte-index l.name) ≡ hash_after 2166136261 l.name)
