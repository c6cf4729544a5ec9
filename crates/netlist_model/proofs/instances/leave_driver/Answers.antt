use Rattle.std.proofs.Common.{◌≡◌, ◌+◌, None, Some, cond, length, map, ap, refl, sym, slice_get, ◌∙◌, rules, arith}
use Rattle.std.proofs.lemmas.Option.{slice_get_read}
use Rattle.netlist_model.specs.Circuit.{is_net, last_of}
use Rattle.netlist_model.specs.Keyed.{place_after, told_at}
use Rattle.netlist_model.specs.declared.parts.Instance.{Instance}
use Rattle.netlist_model.proofs.DriverLemmas.{driver_last, driver_removed, told_map}
use Rattle.netlist_model.proofs.Taken.{written}
use Rattle.netlist_model.proofs.instances.leave_driver.Goals as goal

pub returns-then-gone-items : goal.returns-then-gone-items
returns-then-gone-items c = λ n.
    let xs = c.args.items.now in
    let gone = c.args.gone in
    let x = c.index-items-gone.result in
    let at : slice_get xs gone ≡ Some x = slice_get_read xs (length xs) gone x refl c.requires.within c.index-items-gone.is in
    let end : length xs ≡ gone + 1 = omega (arith, c.if-gone-items.true, c.requires.within) in
    c.release.ensures n ∙ ap (λ pins. cond (is_net n (last_of pins)) None (told_at c.args.drivers.now.items n)) (c.list.ensures ∙ ap (λ (i : Instance). i.pins) (sym c.index-items-gone.is)) ∙ ap (cond (is_net n (last_of x.pins)) None) (c.requires.told n)
    ∙ driver_last xs gone n x c.requires.driven at end

pub returns-else-gone-items : goal.returns-else-gone-items
returns-else-gone-items c = λ n.
    let told = c.args.drivers.now.items in
    let gone = c.args.gone in
    let count : c.args.drivers.now.len ≡ length told = search rules in
    ap (λ ds. told_at ds n) (written (place_after gone) c.close_up.new.drivers told c.args.drivers.now.len (c.close_up.ensures ∙ ap (map (place_after gone)) c.deref_mut.ensures.value) count)
    ∙ told_map gone told n ∙ ap (place_after gone) (c.requires.told n) ∙ sym (driver_removed c.args.items.now gone n c.requires.driven c.requires.within)
