use Rattle.std.proofs.Common.{◌≡◌, ◌<◌, ◌++◌, ◌∷◌, [], nat_eq, ap, ◌∙◌, arith}
use Rattle.std.specs.Vec.{vec_len, vec_capacity}
use Rattle.indexmap.specs.IndexSet.{insert_key}
use Rattle.netlist_model.specs.Circuit.{fork_of}
use Rattle.netlist_model.specs.declared.parts.Fork.{Fork}
use Rattle.netlist_model.proofs.Tables.{named_push, on_ok_at, place_among, pushed_of, roots_push}
use Rattle.netlist_model.proofs.forks.Forks.push.Goals as goal

pub push-requires : goal.push-requires
push-requires c =
    place_among (λ (f : Fork). f.name) c.self.inside.items.items c.args.self.now c.self.inside.names c.bytes.result.now c.self.invariant.0 c.self.view_is
    ∙ ap (fork_of c.args.self.now) c.bytes.ensures ∙ c.requires

pub invariant_of-self-2 : goal.invariant_of-self-2
invariant_of-self-2 c =
    let old = c.self.inside.items.items in
    let room : vec_len c.reserve.new.self < vec_capacity c.reserve.new.self = omega (arith, c.in_ok-reserve.ensures.ok) in
    let items : c.push-2.new.self.items ≡ old ++ c.args.fork ∷ [] =
    c.push-2.ensures.items ∙ pushed_of c.push-2.result _ _ (c.push-2.ensures.succeeds room) ∙ ap (λ xs. xs ++ c.args.fork ∷ []) c.reserve.ensures.items in
    let inserted = on_ok_at c.insert.result c.insert.ensures.keys (c.insert.ensures.succeeds c.in_ok-reserve-2.ensures.ok) in
    rw items (
      named_push (λ (f : Fork). f.name) old c.args.fork c.self.inside.names _ c.self.invariant.0 (c.in_ok-push.ensures.ok ∙ ap (λ name. c.self.inside.names ++ name ∷ []) c.bytes.ensures),
      roots_push old c.args.fork c.self.inside.roots.keys c.insert.new.self.keys c.self.invariant.1 (inserted ∙ ap (λ keys. insert_key nat_eq keys c.args.fork.root) c.reserve-2.ensures.keys),
    )
