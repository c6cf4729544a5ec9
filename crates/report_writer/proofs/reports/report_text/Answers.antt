use Rattle.report_writer.proofs.reports.report_text.Goals as goal

pub push_report-requires-clause-cycle : goal.push_report-requires-clause-cycle
push_report-requires-clause-cycle c =
    c.first_cycles_have_small_sums.ensures c.args.system.now.events c.args.system.now.rules _ c.sound.ensures.system c.args.analysis.now.cycle c.requires.right.right.cycle.first
