use Rattle.std.proofs.Common.{◌≡◌, ◌≤◌, drop}
use Rattle.cyc_port.specs.MemorySink.{let_through}
use Rattle.cyc_port.proofs.memory_sink.let_through.Given as goal

abbrev pub invariant-loop-stop : goal.invariant-loop-stop
invariant-loop-stop l = record { within : l.taken ≤ l.count; rest : let_through l.call l.count l.fail ≡ let_through l.call l.taken (drop l.stop-index l.fail) }
