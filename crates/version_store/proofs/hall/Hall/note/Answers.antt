use Rattle.std.proofs.Common.{◌≡◌, ◌<◌, false, sym, ap, ◌∙◌, arith}
use Rattle.version_store.specs.declared.entry.HallEntry.{HallEntry}
use Rattle.version_store.specs.Halls.{head_of, takes}
use Rattle.version_store.proofs.Items.{head_is, kept_plain, noted_plain}
use Rattle.version_store.proofs.hall.Hall.note.Goals as goal

pub returns : goal.returns
returns g c =
    let k = c.self.invariant.2 in
    let t : takes c.self.inside.rows.len c.args.act ≡ false = ap (λ n. takes n c.args.act) (sym (head_is k) ∙ ap head_of c.self.view_is) ∙ c.requires.plain in
    noted_plain c.self.inside.room c.args.session c.args.act _ _ c.self.view_is k t c.push_reserved.ensures.items

pub invariant_of-self : goal.invariant_of-self
invariant_of-self g c =
    let k = c.self.invariant.2 in
    let e : HallEntry = record { session = c.args.session; act = c.args.act } in
    let t : takes c.self.inside.rows.len c.args.act ≡ false = ap (λ n. takes n c.args.act) (sym (head_is k) ∙ ap head_of c.self.view_is) ∙ c.requires.plain in
    let a = c.self.invariant.0 in
    let l = c.push_reserved.ensures.len in
    let p = c.push_reserved.ensures.capacity in
    let r : 0 < c.self.inside.room = rw (ap (λ h. h.room) c.self.view_is) c.requires.room in
    (omega arith, c.self.invariant.1, rw c.push_reserved.ensures.items (kept_plain e k t))
