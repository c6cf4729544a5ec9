use Rattle.std.proofs.Common.{◌≡◌, ◌≢◌}
use Rattle.std.specs.Prelude.{Err}
use Rattle.netlist_reader.specs.NetlistFiles as spec
use Rattle.netlist_reader.specs.declared.faults.NetFault.TheVariants.{Memory}
use Rattle.netlist_reader.proofs.Refusals.{carried}
use Rattle.netlist_reader.proofs.files.read.Goals as goal

pub returns-in_err-read_lines-clause-refused : goal.returns-in_err-read_lines-clause-refused
returns-in_err-read_lines-clause-refused c =
    carried c.from_residual-in_err-read_lines.result c.in_err-read_lines.field-0.0
    (λ e. e ≢ Memory → spec.netlist_of c.args.library.now c.args.bytes.now ≡ Err e)
    c.from_residual-in_err-read_lines.ensures.1 (rw c.in_ok-net.ensures at c.in_err-read_lines.ensures.refused)
