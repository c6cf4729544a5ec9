use Rattle.std.proofs.Common.{◌≡◌, ◌<◌, ◌++◌, ◌∷◌, [], None, Some, length, cond, nat_eq, ap, ◌∙◌, rules, arith}
use Rattle.std.specs.Vec.{vec_len, vec_capacity}
use Rattle.netlist_model.specs.Circuit.{inst_of, driver_of}
use Rattle.netlist_model.specs.Keyed.{told_at}
use Rattle.netlist_model.specs.declared.parts.Instance.{Instance}
use Rattle.netlist_model.proofs.DriverLemmas.{told_set}
use Rattle.std.proofs.lemmas.List.Sums.{sum_by_push}
use Rattle.netlist_model.specs.Uses.{pins_on, uses_of}
use Rattle.netlist_model.proofs.UseLemmas.{pins_same}
use Rattle.netlist_model.proofs.Tables.{driven_push, named_push, place_among, pushed_of}
use Rattle.netlist_model.proofs.instances.Instances.push.Goals as goal

pub push-requires : goal.push-requires
push-requires c =
    place_among (λ (i : Instance). i.name) c.self.inside.items.items c.args.self.now c.self.inside.names c.bytes.result.now c.self.invariant.0 c.self.view_is
    ∙ ap (inst_of c.args.self.now) c.bytes.ensures ∙ c.requires.fresh

pub invariant_of-self-2 : goal.invariant_of-self-2
invariant_of-self-2 c =
    let old = c.self.inside.items.items in
    let room : vec_len c.reserve.new.self < vec_capacity c.reserve.new.self = omega (arith, c.in_ok-reserve.ensures.ok) in
    let items : c.push-2.new.self.items ≡ old ++ c.args.instance ∷ [] =
    c.push-2.ensures.items ∙ pushed_of c.push-2.result _ _ (c.push-2.ensures.succeeds room) ∙ ap (λ xs. xs ++ c.args.instance ∷ []) c.reserve.ensures.items in
    let counted : c.len-at.result ≡ length old = search rules in
    let free : driver_of old c.args.net ≡ None = ap (λ insts. driver_of insts c.args.net) c.self.view_is ∙ c.requires.free in
    rw items (
      named_push (λ (i : Instance). i.name) old c.args.instance c.self.inside.names _ c.self.invariant.0 (c.in_ok-push.ensures.ok ∙ ap (λ name. c.self.inside.names ++ name ∷ []) c.bytes.ensures),
      driven_push old c.args.instance c.args.net (told_at c.self.inside.drivers.items) _ c.requires.output free c.self.invariant.1
          (λ n. told_set c.reach.new.drivers.items c.args.net n (Some c.len-at.result) c.in_ok-reach.ensures.room
          ∙ ap (cond (nat_eq c.args.net n) (Some c.len-at.result)) (c.reach.ensures.told n) ∙ ap (λ k. cond (nat_eq c.args.net n) (Some k) (told_at c.self.inside.drivers.items n)) counted),
      pins_same _ _ _ (λ r. omega (arith, sum_by_push (λ (i : Instance). pins_on r i.pins) old c.args.instance, ap (pins_on r) c.list.ensures)) (c.raise_all.ensures (uses_of old) c.self.invariant.2),
    )
