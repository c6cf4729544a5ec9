use Rattle.std.proofs.Common.{◌≡◌, ◌≢◌, sym, subst}
use Rattle.std.specs.Prelude.{Result, Ok, Err, IfErr, IsErrAnd}
use Rattle.netlist_model.specs.Circuit.{Circuit}
use Rattle.netlist_model.specs.Edits.{edited}
use Rattle.netlist_model.specs.Sound.{Fits}
use Rattle.netlist_model.specs.declared.faults.EditFault.{EditFault}
use Rattle.netlist_model.specs.declared.faults.EditFault.TheVariants.{Memory}
use Rattle.edit_log.proofs.lists.apply.Goals as goal

-- what holds of a refusal holds of the answer that carries it
carried : {A : Type 0} (answer : Result A EditFault) (e : EditFault) (P : EditFault → Type 0) → IsErrAnd answer (λ x. x ≡ e) → P e → IfErr answer P
carried (Ok x) e P is h = tt
carried (Err x) e P is h = rw is h

pub make_all-requires : goal.make_all-requires
make_all-requires c = subst (λ (n : Circuit). Fits c.args.library.now n.insts) (sym c.in_ok-made.ensures) c.requires

pub returns-in_err-make_all-clause-refused : goal.returns-in_err-make_all-clause-refused
returns-in_err-make_all-clause-refused c =
    carried c.from_residual-in_err-make_all.result c.in_err-make_all.field-0.0
    (λ e. e ≢ Memory → edited c.args.library.now c.args.edits.now c.args.net.now ≡ Err e)
    c.from_residual-in_err-make_all.ensures.1 (rw c.in_ok-made.ensures at c.in_err-make_all.ensures.refused)
