use Rattle.std.proofs.Common.{◌≡◌, ◌<◌, ◌∷◌, ◌-◌, length, sym, ap, ◌∙◌, refl, map, arith, Some}
use Rattle.std.specs.Prelude.{slice_get}
use Rattle.std.proofs.lemmas.List.{length-map}
use Rattle.std.specs.Arc.{arc_value}
use Rattle.version_store.specs.Halls.{head_of, rows_of}
use Rattle.version_store.proofs.Items.{head_is, rows_are, get_map, get_next}
use Rattle.version_store.proofs.hall.Hall.pin.Goals.{then-number-eq0+in_ok-row, else-number-eq0+in_ok-row-2}
use Rattle.version_store.proofs.hall.Hall.pin.Goals as goal

pub index-requires : goal.index-requires
index-requires g c =
    let k = c.self.invariant.2 in
    let q = c.requires in
    let m : head_of c.args.self.now ≡ c.self.inside.rows.len = sym (ap head_of c.self.view_is) ∙ head_is k in
    omega arith

pub returns : goal.returns
returns g c =
    let k = c.self.invariant.2 in
    let q = c.requires in
    let m : head_of c.args.self.now ≡ c.self.inside.rows.len = sym (ap head_of c.self.view_is) ∙ head_is k in
    let base_is : c.self.inside.base.value ≡ c.args.self.now.base = ap (λ h. h.base) c.self.view_is in
    let all : slice_get (c.args.self.now.base ∷ rows_of c.args.self.now.items) c.args.number ≡ slice_get (c.self.inside.base.value ∷ map (λ r. arc_value r) c.self.inside.rows.items) c.args.number =
    ap (λ h. slice_get (h.base ∷ rows_of h.items) c.args.number) (sym c.self.view_is) ∙ ap (λ l. slice_get (c.self.inside.base.value ∷ l) c.args.number) (rows_are k) in
    let b = c.self.inside.base.value in
    let xs = map (λ r. arc_value r) c.self.inside.rows.items in (
      refl,
      elim c.if-number-eq0.branch [
        | then-number-eq0+in_ok-row w ↦ all ∙ (ap (λ n. slice_get (b ∷ xs) n) w.if-number-eq0.true ∙ ap (λ x. Some x) (sym (ap (λ x. arc_value x) w.row-is ∙ w.in_ok-row.ensures)))
        | else-number-eq0+in_ok-row-2 w ↦ let pos : 0 < c.args.number = let n = w.if-number-eq0.false in omega arith in
            let within : c.args.number - 1 < length c.self.inside.rows.items = let n = k.count_is in let l = length-map c.self.inside.rows.items (λ r. arc_value r) in omega arith in
            all ∙ (get_next b xs c.args.number pos ∙ (get_map (λ r. arc_value r) c.self.inside.rows.items (c.args.number - 1) w.index.result.now within w.index.ensures ∙ ap (λ x. Some x) (sym (ap (λ x. arc_value x) w.row-is ∙ w.in_ok-row-2.ensures))))
      ],
    )
