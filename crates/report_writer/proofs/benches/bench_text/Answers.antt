use Rattle.report_writer.proofs.benches.bench_text.Goals as goal

pub push_cycle-requires : goal.push_cycle-requires
push_cycle-requires c =
    rw (c.rules-rules.ensures.rules, c.list.ensures.numbers)
    (c.first_cycles_have_small_sums.ensures c.args.system.now.events c.args.system.now.rules _ c.rules-rules.ensures.system c.args.analysis.now.cycle
    c.requires.right.right.cycle.first)
