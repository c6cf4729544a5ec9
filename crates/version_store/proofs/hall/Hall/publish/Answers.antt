use Rattle.std.proofs.Common.{◌≡◌, ◌+◌, ◌<◌, ◌++◌, ◌∷◌, [], sym, ap, ◌∙◌, map, arith}
use Rattle.std.specs.Prelude.{slice_get}
use Rattle.std.specs.Arc.{arc_value}
use Rattle.std.proofs.lemmas.List.{map-append}
use Rattle.version_store.specs.declared.entry.HallEntry.{HallEntry}
use Rattle.version_store.specs.declared.entry.HallAct.TheVariants.{Publish}
use Rattle.version_store.specs.Halls.{head_of, rows_of, row_limit}
use Rattle.version_store.proofs.Items.{head_is, rows_are, kept_given, noted_given, takes_here}
use Rattle.version_store.proofs.hall.Hall.publish.Goals as goal

pub push_reserved-requires : goal.push_reserved-requires
push_reserved-requires g c =
    let k = c.self.invariant.2 in
    let r = c.self.invariant.1 in
    let h = c.head-head.ensures.head in
    let f = c.head-head.ensures.few in
    let m : head_of c.args.self.now ≡ c.self.inside.rows.len = sym (ap head_of c.self.view_is) ∙ head_is k in
    omega arith

pub invariant_of-self : goal.invariant_of-self
invariant_of-self g c =
    let k = c.self.invariant.2 in
    let h = c.head-head.ensures.head in
    let f = c.head-head.ensures.few in
    let m : head_of c.args.self.now ≡ c.self.inside.rows.len = sym (ap head_of c.self.view_is) ∙ head_is k in
    let b : c.args.base ≡ c.self.inside.rows.len = let q = c.requires.base in omega arith in
    let few : c.self.inside.rows.len + 1 < row_limit = omega arith in
    let e : HallEntry = record { session = c.args.session; act = Publish c.args.base } in
    let news : map (λ r. arc_value r) c.push_reserved.new.self.items ≡ map (λ r. arc_value r) c.self.inside.rows.items ++ arc_value c.args.row ∷ [] = ap (map (λ r. arc_value r)) c.push_reserved.ensures.items ∙ map-append (λ r. arc_value r) c.self.inside.rows.items (c.args.row ∷ []) in
    let a = c.self.invariant.0 in
    let l = c.push_reserved-2.ensures.len in
    let p = c.push_reserved-2.ensures.capacity in
    let p1 = c.push_reserved.ensures.capacity in
    let p2 = c.self.invariant.1 in
    let r : 0 < c.self.inside.room = rw (ap (λ h. h.room) c.self.view_is) c.requires.room in
    let one = c.push_reserved.ensures.len in (
      omega arith,
      omega arith,
      rw (news, c.push_reserved-2.ensures.items, one)
          (kept_given e (arc_value c.args.row) k (takes_here _ c.args.base b few) few (λ parent is. c.requires.follows parent
          (ap (λ h. slice_get (h.base ∷ rows_of h.items) c.args.base) (sym c.self.view_is) ∙ ((λ i. slice_get (c.self.inside.base.value ∷ rows_are k i) (b i)) ∙ is)))),
    )

pub returns-clause-entry : goal.returns-clause-entry
returns-clause-entry g c =
    let k = c.self.invariant.2 in
    let h = c.head-head.ensures.head in
    let f = c.head-head.ensures.few in
    let m : head_of c.args.self.now ≡ c.self.inside.rows.len = sym (ap head_of c.self.view_is) ∙ head_is k in
    let b : c.args.base ≡ c.self.inside.rows.len = let q = c.requires.base in omega arith in
    let few : c.self.inside.rows.len + 1 < row_limit = omega arith in
    noted_given c.self.inside.room c.args.session c.args.base (arc_value c.args.row) _ _ _ c.self.view_is k (takes_here _ c.args.base b few)
    (ap (map (λ r. arc_value r)) c.push_reserved.ensures.items ∙ map-append (λ r. arc_value r) c.self.inside.rows.items (c.args.row ∷ [])) c.push_reserved-2.ensures.items
