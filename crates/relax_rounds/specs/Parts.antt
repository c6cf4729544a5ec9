-- Parts of a list of rules, one for each worker. Workers are counted from 0 here.
use Rattle.std.specs.Prelude.{ℕ, ◌*◌, ◌/◌, ℤ, List, length}
use Rattle.arrival_words.specs.About.{About}
use Rattle.arrival_words.specs.Known.{Relaxes}

-- of so many rules the number of the first that is in the part of the worker, or of the first behind all parts
abbrev pub part_begin : ℕ → ℕ → ℕ → ℕ
part_begin rules workers worker = worker * rules / workers

-- the parts of the workers from the first up to, but not including, the last are relaxed
abbrev pub RelaxesParts : About → ℕ → ℕ → ℕ → List ℤ → List ℤ → Type 0
RelaxesParts a workers first last before after =
    Relaxes a (part_begin (length a.rules) workers first) (part_begin (length a.rules) workers last) before after
