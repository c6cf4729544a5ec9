-- Refusals that are handed on.
use Rattle.std.proofs.Common.{◌≡◌}
use Rattle.std.specs.Prelude.{Result, Ok, Err, IfErr, IsErrAnd}
use Rattle.netlist_reader.specs.declared.faults.NetFault.{NetFault}

-- what holds of a refusal holds of the answer that carries it
pub carried : {A : Type 0} (answer : Result A NetFault) (e : NetFault) (P : NetFault → Type 0) → IsErrAnd answer (λ x. x ≡ e) → P e → IfErr answer P
carried (Ok x) e P is h = tt
carried (Err x) e P is h = rw is h
