use Rattle.std.proofs.Common.{◌≡◌, map}
use Rattle.rule_system.specs.Bounds.{AreSmallSums}
use Rattle.rule_system.specs.Rules.{source_of}
use Rattle.liveness_check.specs.declared.faults.LiveFault.TheVariants as live
use Rattle.netlist_analysis.proofs.SystemFaults.{fault_is, dead_is, sources_below}
use Rattle.netlist_analysis.proofs.analysed.system_fault.Goals as goal

pub returns-in-NoReturn-clause-found : goal.returns-in-NoReturn-clause-found
returns-in-NoReturn-clause-found c =
    λ other. fault_is c.args.library.now c.args.netlist.now c.args.system.now c.args.root c.requires.system c.requires.rooted
    (live.NoReturn c.in-NoReturn.event) (rw c.in-NoReturn.is at c.requires.holds)

pub sources-requires : goal.sources-requires
sources-requires c =
    let fault = rw c.in-Dead.is at c.requires.holds in
    let small : AreSmallSums c.args.system.now.rules c.in-Dead.cycle =
    c.first_cycles_have_small_sums.ensures c.args.system.now.events c.args.system.now.rules _ c.rules-rules.ensures.system c.in-Dead.cycle fault.1 in
    record { within = rw (c.list.ensures.numbers, c.rules-rules.ensures.rules) small.within }

pub returns-in-Ok-clause-found : goal.returns-in-Ok-clause-found
returns-in-Ok-clause-found c =
    let told : c.in-Ok.events ≡ map (source_of c.args.system.now.rules) c.in-Dead.cycle =
    rw (c.rules-rules.ensures.rules, c.list.ensures.numbers) at c.in-Ok.ensures in
    λ other. dead_is c.args.library.now c.args.netlist.now c.args.system.now c.args.root c.requires.system c.requires.rooted
    c.in-Dead.cycle c.in-Ok.events (rw c.in-Dead.is at c.requires.holds) told

pub returns-in-Ok-clause-events : goal.returns-in-Ok-clause-events
returns-in-Ok-clause-events c =
    let fault = rw c.in-Dead.is at c.requires.holds in
    let small : AreSmallSums c.args.system.now.rules c.in-Dead.cycle =
    c.first_cycles_have_small_sums.ensures c.args.system.now.events c.args.system.now.rules _ c.rules-rules.ensures.system c.in-Dead.cycle fault.1 in
    let told : c.in-Ok.events ≡ map (source_of c.args.system.now.rules) c.in-Dead.cycle =
    rw (c.rules-rules.ensures.rules, c.list.ensures.numbers) at c.in-Ok.ensures in
    sources_below c.args.system.now.events c.args.system.now.rules c.in-Dead.cycle c.in-Ok.events c.rules-rules.ensures.ends small.within told
