use Rattle.engine.specs.Commands.{analyze_netlist, analyze_circuit}
use Rattle.engine.proofs.Along.{later_refl, stays, goes_on, ends_with, quits}
use Rattle.engine.proofs.commands.analyze.of_files.Goals as goal

pub returns-in_err-library-clause-may : goal.returns-in_err-library-clause-may
returns-in_err-library-clause-may g c =
    quits (analyze_netlist c.args.netlist_name.now) c.from_residual.result stays c.in_err-library.ensures.later c.in_err-library.ensures.err
    c.from_residual.ensures.1

pub returns-in_err-netlist-clause-may : goal.returns-in_err-netlist-clause-may
returns-in_err-netlist-clause-may g c =
    quits (analyze_circuit c.in_ok-library.library) c.from_residual-in_err-netlist.result
    (c.in_ok-library.ensures.ok.to (analyze_netlist c.args.netlist_name.now)) c.in_err-netlist.ensures.later c.in_err-netlist.ensures.err
    c.from_residual-in_err-netlist.ensures.1

pub returns-clause-may : goal.returns-clause-may
returns-clause-may g c =
    ends_with _ (goes_on (analyze_circuit c.in_ok-library.library) (c.in_ok-library.ensures.ok.to (analyze_netlist c.args.netlist_name.now))
    c.in_ok-netlist.ensures.later c.in_ok-netlist.ensures.ok) (later_refl _) (c.report_of.ensures _)
