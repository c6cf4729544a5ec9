-- What of a shelf and of a sink is seen.
use Rattle.std.specs.Prelude.{◌≡◌, ℕ, List}
use Rattle.std.specs.declared.option.Option.{Option}
use Rattle.cyc_port.specs.Counts.{NoneFell}
use Rattle.cyc_port.specs.Files.{Files}

-- the files, where they are told, and how often a read of each name failed and found too long a file
pub record Seen : Type 0 where
  pub files : Option Files
  pub faults : List ℕ → ℕ
  pub long_reads : List ℕ → ℕ

-- the same files, and no count fell
pub record Later (before now : Seen) : Type 0 where
  pub files : now.files ≡ before.files
  pub faults : NoneFell before.faults now.faults
  pub long_reads : NoneFell before.long_reads now.long_reads

-- the bytes that were written, where they are told, and how often a write failed
pub record SinkSeen : Type 0 where
  pub written : Option (List ℕ)
  pub faults : ℕ
