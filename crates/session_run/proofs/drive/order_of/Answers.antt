use Rattle.std.proofs.Common.{◌++◌, map, sym, ap, ◌∙◌}
use Rattle.std.proofs.Math.ListN.{drop_of_length-le}
use Rattle.std.proofs.lemmas.List.{append-nil}
use Rattle.version_store.specs.declared.entry.HallEntry.{HallEntry}
use Rattle.session_run.proofs.InTurns.{sessions_of}
use Rattle.session_run.proofs.drive.order_of.Goals as goal

pub returns : goal.returns
returns c =
    let all = c.entries-entries.result.now in
    c.of.ensures
    ∙ (sym (append-nil c.loop-entry.order.items)
    ∙ (ap (λ l. c.loop-entry.order.items ++ map (λ (e : HallEntry). e.session) l) (sym (drop_of_length-le all c.loop-entry-test.false))
    ∙ (c.loop-entry.invariant.same ∙ (ap (map (λ (e : HallEntry). e.session)) c.entries-entries.ensures ∙ sessions_of c.args.hall.now.items))))
