use Rattle.std.proofs.Common.{◌≡◌}
use Rattle.cyc_port.specs.MemorySink.{sink_after}
use Rattle.cyc_port.proofs.Sinks.{later, appended, rose, front, empty_ok, unchanged}
use Rattle.cyc_port.proofs.memory_sink.MemSinkSink.write_all.Goals as goal

pub returns : goal.returns
returns c =
    let sink = c.args.self.now in
    let piece = c.args.bytes.now in
    let r = c.write.result in
    let fails = c.write.ensures.fails in
    let after : c.write.new.self ≡ sink_after sink piece = c.write.ensures.after in
    record {
      fails = fails;
      after = after;
      later = rw after (later sink piece);
      ok = rw after (appended r sink piece fails);
      failed = rw after (rose r sink piece fails);
      front = rw after (front r sink piece fails);
      empty_ok = empty_ok r sink piece fails;
      empty = rw after (unchanged sink piece);
    }
