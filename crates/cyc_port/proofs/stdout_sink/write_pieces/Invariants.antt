use Rattle.std.proofs.Common.{◌≤◌, length, take}
use Rattle.std.specs.Io.KnownBytes.{Appends}
use Rattle.cyc_port.proofs.stdout_sink.write_pieces.Given as goal

abbrev pub invariant-pieces : goal.invariant-pieces
invariant-pieces g l = record { within : l.taken ≤ length l.bytes; front : Appends (g.W.Write.contents l.initial.out) (g.W.Write.contents l.out) (take l.taken l.bytes) }
