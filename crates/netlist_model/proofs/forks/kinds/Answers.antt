use Rattle.std.proofs.Common.{[], ap, sym, get_or, take, nat_eq, ◌∙◌}
use Rattle.std.proofs.lemmas.Option.{slice_get-get_or}
use Rattle.indexmap.specs.IndexSet.{insert_key}
use Rattle.netlist_model.specs.Circuit.{kinds_after}
use Rattle.netlist_model.proofs.KeyedLemmas.{take_next}
use Rattle.netlist_model.proofs.Tables.{kinds_push}
use Rattle.netlist_model.proofs.forks.kinds.Goals as goal

pub loop-event-init : goal.loop-event-init
unfolding kinds_after
loop-event-init c = c.new-kinds.ensures.empty

pub loop-event-preserved : goal.loop-event-preserved
loop-event-preserved c =
    let xs = c.args.events.now in
    let k = c.loop-event.event-index in
    let x = get_or xs k 0 in
    c.in_ok-insert.ensures.keys ∙ ap (λ keys. insert_key nat_eq keys x) c.loop-event.invariant
    ∙ sym (ap (kinds_after []) (take_next xs k x (slice_get-get_or xs k 0 c.loop-event-test.true)) ∙ kinds_push [] (take k xs) x)
