use Rattle.std.proofs.Common.{◌≡◌, ◌∙◌, get_or, length, not, subst, sym, ap, refl}
use Rattle.std.proofs.lemmas.Option.{slice_get_read}
use Rattle.netlist_model.specs.Sound.{IsOfLibrary}
use Rattle.netlist_model.proofs.whole.is_unjoined.Goals as goal

pub inst_joins-requires : goal.inst_joins-requires
inst_joins-requires c =
    let here : c.index-list-at.result ≡ get_or c.args.insts.now c.in-Some.at c.index-list-at.result = c.index-list-at.is ∙ ap (λ xs. get_or xs c.in-Some.at c.index-list-at.result) c.list.ensures in
    subst (IsOfLibrary c.args.library.now) (sym here) (c.requires c.in-Some.at c.index-list-at.result c.in-Some.ensures.within)

pub returns-in-Some : goal.returns-in-Some
returns-in-Some c =
    let here : c.index-list-at.result ≡ get_or c.args.insts.now c.in-Some.at c.index-list-at.result = c.index-list-at.is ∙ ap (λ xs. get_or xs c.in-Some.at c.index-list-at.result) c.list.ensures in
    rw (sym c.driver.ensures.place ∙ c.in-Some.is, slice_get_read c.args.insts.now (length c.args.insts.now) c.in-Some.at c.index-list-at.result refl c.in-Some.ensures.within here) (ap not c.inst_joins.ensures)
