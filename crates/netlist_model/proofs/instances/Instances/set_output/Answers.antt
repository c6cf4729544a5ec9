use Rattle.std.proofs.Common.{◌≡◌, ◌<◌, ◌+◌, ◌-◌, List, Some, None, cond, nat_eq, length, refl, ap, sym, subst, ◌∙◌, get_or, slice_get, rules, arith}
use Rattle.std.proofs.lemmas.Option.{get_or_from_slice_get, slice_get_read}
use Rattle.netlist_model.specs.Circuit.{last_of}
use Rattle.netlist_model.specs.declared.parts.Instance.{Instance}
use Rattle.std.specs.Vec.{vec_len}
use Rattle.netlist_model.specs.ArcRules.{HaveOneDriver}
use Rattle.netlist_model.specs.Circuit.{driver_of}
use Rattle.netlist_model.specs.declared.parts.NetRef.TheVariants.{Net}
use Rattle.std.proofs.Common.{set}
use Rattle.std.proofs.lemmas.List.{length-set}
use Rattle.netlist_model.proofs.DriverLemmas.{driver_moved, last_at, last_set_end, told_set}
use Rattle.netlist_model.proofs.Places.{stands}
use Rattle.netlist_model.specs.Uses.{one_on, uses_of}
use Rattle.netlist_model.proofs.PinLemmas.{uses_moved}
use Rattle.netlist_model.proofs.UseLemmas.{pins_same}
use Rattle.netlist_model.proofs.Tables.{named_set}
use Rattle.netlist_model.proofs.instances.Instances.set_output.Goals as goal

pub index_mut-requires : goal.index_mut-requires
index_mut-requires c =
    let room : c.args.old < length c.reach.new.drivers.items = c.in_ok-reach.ensures.room in
    let more : c.args.old < length c.reach-2.new.drivers.items = omega (arith, room, c.reach-2.ensures.grows) in
    let count : vec_len c.reach-2.new.drivers ≡ length c.reach-2.new.drivers.items = search rules in
    omega (arith, more, count)

pub set-requires : goal.set-requires
set-requires c =
    let old = c.self.inside.items.items in
    let now = c.index_mut-instance.result.now in
    let low : c.args.at < length old = subst (λ (xs : List Instance). c.args.at < length xs) (sym c.self.view_is) c.requires.within in
    let at : slice_get old c.args.at ≡ Some now = slice_get_read old (length old) c.args.at now refl low c.index_mut-instance.ensures.value in
    let here : slice_get c.args.self.now c.args.at ≡ Some now = ap (λ xs. slice_get xs c.args.at) (sym c.self.view_is) ∙ at in
    let end : length now.pins ≡ c.args.pin + 1 = (c.requires.output now here).0 in
    omega (arith, end)

pub invariant_of-self-2 : goal.invariant_of-self-2
invariant_of-self-2 c =
    let old = c.self.inside.items.items in
    let now = c.index_mut-instance.result.now in
    let low : c.args.at < length old = subst (λ (xs : List Instance). c.args.at < length xs) (sym c.self.view_is) c.requires.within in
    let at : slice_get old c.args.at ≡ Some now = slice_get_read old (length old) c.args.at now refl low c.index_mut-instance.ensures.value in
    let here : slice_get c.args.self.now c.args.at ≡ Some now = ap (λ xs. slice_get xs c.args.at) (sym c.self.view_is) ∙ at in
    let out = c.requires.output now here in
    let new : Instance = record { name = now.name; cell = now.cell; pins = c.set.new.self; delays = now.delays } in
    let one : HaveOneDriver old = subst HaveOneDriver (sym c.self.view_is) c.requires.driven in
    let told = c.reach-2.new.drivers.items in
    let room : c.args.old < length told = omega (arith, c.in_ok-reach.ensures.room, c.reach-2.ensures.grows) in
    let room' : c.args.net < length (set told c.args.old None) = omega (arith, c.in_ok-reach-2.ensures.room, length-set told c.args.old None) in
    let last : last_of c.set.new.self ≡ Some (Net c.args.net) = ap last_of c.set.ensures ∙ last_set_end now.pins c.args.pin (Net c.args.net) out.0 in (
      named_set (λ (i : Instance). i.name) old c.args.at _ now _ c.self.invariant.0 (ap (λ (i : Instance). i.name) c.index_mut-instance.ensures.value),
      λ n. told_set (set told c.args.old None) c.args.net n (Some c.args.at) room'
          ∙ ap (cond (nat_eq c.args.net n) (Some c.args.at)) (told_set told c.args.old n None room ∙ ap (cond (nat_eq c.args.old n) None) (c.reach-2.ensures.told n ∙ c.reach.ensures.told n ∙ c.self.invariant.1 n))
          ∙ sym (driver_moved old c.args.at c.args.old c.args.net n now _ one at out.1 last (λ k is. c.requires.free k (ap (λ xs. driver_of xs c.args.net) (sym c.self.view_is) ∙ is))),
      c.lower.ensures (uses_of (set old c.args.at new)) (pins_same _ (λ r. uses_of old r + one_on r (Net c.args.net)) _ (λ r. uses_moved old c.args.at c.args.pin new now (Net c.args.net) (Net c.args.old) r at (ap (slice_get now.pins) (let e : c.args.pin ≡ length now.pins - 1 = omega (arith, out.0) in e) ∙ last_at now.pins ∙ out.1) c.set.ensures) (c.raise.ensures (uses_of old) c.self.invariant.2)),
    )

pub returns-clause-ok : goal.returns-clause-ok
returns-clause-ok c =
    let (i, e) = stands c.args.self.now c.args.at c.requires.within in
    let same : c.index_mut-instance.result.now ≡ i =
    c.index_mut-instance.ensures.value ∙ ap (λ xs. get_or xs c.args.at c.index_mut-instance.result.now) c.self.view_is
    ∙ get_or_from_slice_get c.args.self.now c.args.at i c.index_mut-instance.result.now e in
    rw (c.set.ensures, same, c.self.view_is, e) refl
