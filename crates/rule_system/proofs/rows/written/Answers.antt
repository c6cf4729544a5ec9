use Rattle.std.proofs.Common.{◌≡◌, length}
use Rattle.rule_system.specs.Rows.{places_from}
use Rattle.rule_system.proofs.Parts.{more_filled, short_places}
use Rattle.rule_system.proofs.rows.written.Goals as goal

pub events-preserved : goal.events-preserved
events-preserved c =
    let count : c.append.new.numbers.len ≡ length c.append.new.numbers.items = cc (c.append.new.numbers.ok.0) in
    rw (c.in_ok-push-2.ensures.items, c.len.ensures, count)
    (more_filled (places_from c.args.ends.now 0) c.events.event c.events.begins.items c.events.numbers.items _ (c.in_ok-append.ensures (places_from c.args.ends.now 0 c.events.event) (c.requires.chains c.events.event c.events-test.true) (rw c.requires.nexts_count (short_places c.args.ends.now c.events.event))) c.events.invariant)
