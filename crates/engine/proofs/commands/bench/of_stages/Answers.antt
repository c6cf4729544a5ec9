use Rattle.engine.specs.Commands.{bench_circuit, bench_netlist}
use Rattle.engine.proofs.Along.{later_refl, stays, goes_on, ends_with, quits}
use Rattle.engine.proofs.commands.bench.of_stages.Goals as goal

pub returns-in_err-library : goal.returns-in_err-library
returns-in_err-library g c =
    λ seen. quits (bench_netlist c.args.stages) c.from_residual.result stays (later_refl seen)
    (rw c.ring_cells.ensures at (c.in_err-library.ensures.err seen)) c.from_residual.ensures.1

pub returns-in_err-netlist : goal.returns-in_err-netlist
returns-in_err-netlist g c =
    λ seen. quits (bench_circuit c.args.stages c.in_ok-library.library) c.from_residual-in_err-netlist.result
    ((rw c.ring_cells.ensures at (c.in_ok-library.ensures.ok seen)).to (bench_netlist c.args.stages)) (later_refl seen)
    (rw (c.bytes.ensures, c.in_ok-ring.ensures) at (c.in_err-netlist.ensures.err seen)) c.from_residual-in_err-netlist.ensures.1

pub returns : goal.returns
returns g c =
    λ seen. ends_with seen (goes_on (bench_circuit c.args.stages c.in_ok-library.library)
    ((rw c.ring_cells.ensures at (c.in_ok-library.ensures.ok seen)).to (bench_netlist c.args.stages)) (later_refl seen)
    (rw (c.bytes.ensures, c.in_ok-ring.ensures) at (c.in_ok-netlist.ensures.ok seen))) (later_refl seen) (c.result_of.ensures seen)
