-- What errors and bytes that were read are told as, and which count that raises.
use Rattle.std.specs.Prelude.{ℕ, List, length, nat_lt, Ok, Err, if◌then◌else◌}
use Rattle.std.specs.declared.result.Result.{Result}
use Rattle.std.specs.declared.io.ErrorKind.{ErrorKind}
use Rattle.std.specs.declared.io.ErrorKind.TheVariants.{OutOfMemory}
use Rattle.cyc_port.specs.declared.shelf.ShelfFault.{ShelfFault}
use Rattle.cyc_port.specs.declared.shelf.ShelfFault.TheVariants.{Failed, TooLong, Memory}
use Rattle.cyc_port.specs.Counts.{raised}
use Rattle.cyc_port.specs.Files.{file_limit}

-- want of memory is told as such, every other error as a failure
abbrev pub fault_of : ErrorKind → ShelfFault
fault_of OutOfMemory = Memory
fault_of _ = Failed

-- bytes within the limit are the answer, more are too long
abbrev pub answer_of_bytes : List ℕ → Result (List ℕ) ShelfFault
answer_of_bytes bytes = if nat_lt file_limit (length bytes) then Err TooLong else Ok bytes

-- a failure is counted
abbrev pub faults_after : Result (List ℕ) ShelfFault → ℕ → ℕ
faults_after (Err Failed) count = raised count
faults_after _ count = count

-- a file that is too long is counted
abbrev pub long_after : Result (List ℕ) ShelfFault → ℕ → ℕ
long_after (Err TooLong) count = raised count
long_after _ count = count
