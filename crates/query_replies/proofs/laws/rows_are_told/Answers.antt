use Rattle.std.proofs.Common.{◌≡◌, Ok, sym, ap, ◌∙◌, subst, refl}
use Rattle.netlist_analysis.specs.Findings.{IsFinding}
use Rattle.query_replies.specs.Readings.{Analyses}
use Rattle.query_replies.proofs.laws.rows_are_told.Goals as goal

pub returns-clause-told : goal.returns-clause-told
returns-clause-told c = λ all is. let row = c.args.row.now in
    c.finding_is_unique.ensures row.library row.netlist (all.tell row.netlist) (Ok row.analysis)
    (subst (λ l. IsFinding l row.netlist (all.tell row.netlist)) is (all.right row.netlist (rw (← c.row.view_is) c.sound.ensures))) c.right.ensures.analysis

pub returns-clause-some : goal.returns-clause-some
returns-clause-some c =
    let t = c.tellings_exist.ensures c.args.row.now.library (rw (← c.row.view_is, ← c.deref.ensures) c.sound-2.ensures) in
    (record { library = c.args.row.now.library; tell = t.0; right = t.1 }, refl)
