use Rattle.std.proofs.Common.{◌≡◌, ◌≢◌, refl}
use Rattle.std.specs.Prelude.{Result, Ok, Err, IfErr, IsErrAnd}
use Rattle.netlist_analysis.specs.declared.faults.NetlistFault.{NetlistFault}
use Rattle.netlist_analysis.specs.declared.faults.NetlistFault.TheVariants.{Memory}
use Rattle.pinned_reader.specs.Rows.{IsNextFault}
use Rattle.pinned_reader.proofs.rows.Row.next.Goals as goal

-- what holds of a fault holds of the answer that carries it
carried : {A : Type 0} (answer : Result A NetlistFault) (e : NetlistFault) (P : NetlistFault → Type 0) → IsErrAnd answer (λ x. x ≡ e) → P e → IfErr answer P
carried (Ok x) e P is h = tt
carried (Err x) e P is h = rw is h

pub apply-requires : goal.apply-requires
apply-requires g c = rw c.deref.ensures c.parent.invariant.fits

pub analyse_netlist_from-requires-after_bounds : goal.analyse_netlist_from-requires-after_bounds
analyse_netlist_from-requires-after_bounds g c κs within = rw (c.deref-2.ensures, ← c.deref.ensures) c.in-Ok.ensures.fits

pub returns-in_err-analysed-clause-refused : goal.returns-in_err-analysed-clause-refused
returns-in_err-analysed-clause-refused g c =
    carried c.from_residual.result c.in_err-analysed.field-0.0
    (λ e. e ≢ Memory → IsNextFault c.args.parent.now c.args.edits.now e)
    c.from_residual.ensures.1 (λ other. rw (← c.parent.view_is) (record {
      made = c.in-Ok.netlist;
      accepted = rw (← c.deref.ensures) c.in-Ok.ensures.ok;
      holds = rw (← c.deref-2.ensures) (c.in_err-analysed.ensures.refused other);
      events = c.in_err-analysed.ensures.events;
    }))

pub returns-in_err-edits-clause-refused : goal.returns-in_err-edits-clause-refused
returns-in_err-edits-clause-refused g c =
    carried c.from_residual-in_err-edits.result Memory
    (λ e. e ≢ Memory → IsNextFault c.args.parent.now c.args.edits.now e)
    c.from_residual-in_err-edits.ensures.1 (λ other. absurd (other refl))

pub row_of-requires : goal.row_of-requires
row_of-requires g c = record {
  fits = rw (← c.deref.ensures) c.in-Ok.ensures.fits;
  system = rw (← c.deref-2.ensures) c.in_ok-analysed.ensures.system;
  analysis = rw (← c.deref-2.ensures) c.in_ok-analysed.ensures.found;
}
