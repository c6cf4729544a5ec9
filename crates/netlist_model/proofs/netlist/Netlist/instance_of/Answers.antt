use Rattle.std.proofs.Common.{Some, Ok, Err, ◌≡◌, ◌≢◌, subst, ap, length, ◌∙◌, rules}
use Rattle.netlist_model.specs.Circuit.{Circuit}
use Rattle.netlist_model.specs.Sound.{IsInstance}
use Rattle.netlist_model.specs.Statements.{add_inst_of}
use Rattle.netlist_model.specs.Wired.{pins_of}
use Rattle.netlist_model.specs.declared.faults.StatementFault.TheVariants.{Memory}
use Rattle.netlist_model.proofs.InstanceLemmas.{instance_sound, last_push}
use Rattle.netlist_model.proofs.WiredPins.{pins_given, pins_refused}
use Rattle.netlist_model.proofs.netlist.Netlist.instance_of.Goals as goal

pub returns-in_err-refs-clause-refused : goal.returns-in_err-refs-clause-refused
returns-in_err-refs-clause-refused c =
    let may : c.in_err-refs.field-0.0 ≢ Memory → add_inst_of c.args.self.now c.args.name.now c.args.at c.args.cell.now c.args.pins.now ≡ Err c.in_err-refs.field-0.0 = λ other.
    pins_refused c.args.self.now c.args.name.now c.args.at c.args.cell.now c.args.pins.now c.in_err-refs.field-0.0
    (subst (λ (n : Circuit). pins_of n.nets n.consts c.args.cell.now c.args.pins.now ≡ Err c.in_err-refs.field-0.0) c.self.view_is (c.in_err-refs.ensures.refused other)) in
    search rules

pub returns-in_err-net-clause-refused : goal.returns-in_err-net-clause-refused
returns-in_err-net-clause-refused c =
    let given = pins_given c.args.self.now c.args.name.now c.args.at c.args.cell.now c.args.pins.now c.in_ok-refs.refs.items c.in_ok-refs.output
    (subst (λ (n : Circuit). pins_of n.nets n.consts c.args.cell.now c.args.pins.now ≡ Ok (c.in_ok-refs.refs.items, c.in_ok-refs.output)) c.self.view_is c.in_ok-refs.ensures.ok) in
    search rules

pub returns-clause-ok : goal.returns-clause-ok
returns-clause-ok c =
    let given = pins_given c.args.self.now c.args.name.now c.args.at c.args.cell.now c.args.pins.now c.in_ok-refs.refs.items c.in_ok-refs.output
    (subst (λ (n : Circuit). pins_of n.nets n.consts c.args.cell.now c.args.pins.now ≡ Ok (c.in_ok-refs.refs.items, c.in_ok-refs.output)) c.self.view_is c.in_ok-refs.ensures.ok) in
    search rules

pub returns-clause-sound : goal.returns-clause-sound
returns-clause-sound c =
    subst (λ (n : Circuit). IsInstance (length n.nets) (length n.consts) (record { name = c.in_ok-of.field-0; cell = c.args.at; pins = c.of-2.result; delays = c.of-3.result })) c.self.view_is
    (rw (c.in_ok-of.ensures, c.of-2.ensures, c.in_ok-push.ensures.items, c.of-3.ensures, c.in_ok-no_delays.ensures)
    (instance_sound (length c.self.inside.nets) (length c.self.inside.consts) c.args.at c.in_ok-net.net c.args.name.now c.in_ok-refs.refs.items c.in_ok-refs.output _ c.requires
    c.in_ok-refs.ensures.within c.in_ok-refs.ensures.output c.in_ok-net.ensures.ok.0))

pub returns-clause-output : goal.returns-clause-output
returns-clause-output c = rw (c.of-2.ensures, c.in_ok-push.ensures.items) (last_push c.in_ok-refs.refs.items c.in_ok-refs.output ∙ ap Some c.in_ok-net.ensures.ok.0)
