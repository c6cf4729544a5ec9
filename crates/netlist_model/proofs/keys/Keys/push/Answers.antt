use Rattle.std.proofs.Common.{◌≡◌, ◌++◌, ◌∷◌, [], ◌+◌, None, ap, arith, length, nat_eq, ◌∙◌, rules}
use Rattle.indexmap.specs.IndexMap.{insert_entry}
use Rattle.netlist_model.specs.Circuit.{place_of}
use Rattle.netlist_model.specs.Hints.{hint_of}
use Rattle.netlist_model.specs.Keyed.{names_in, number_in}
use Rattle.netlist_model.proofs.KeyedLemmas.{as_many, keys_many, names_push, table_push}
use Rattle.netlist_model.proofs.Tables.{on_ok_at}
use Rattle.netlist_model.proofs.keys.Keys.push.Goals as goal

pub invariant_of-self-2 : goal.invariant_of-self-2
invariant_of-self-2 c =
    let old = c.self.inside.names.entries in
    let name = c.args.name.now in
    let inserted : c.insert.new.self.entries ≡ insert_entry nat_eq old c.self.inside.next c.in_ok-kept.kept =
    on_ok_at c.insert.result c.insert.ensures.entries (c.insert.ensures.succeeds c.in_ok-reserve.ensures.ok) ∙ ap (λ es. insert_entry nat_eq es c.self.inside.next c.in_ok-kept.kept) c.reserve.ensures.entries in
    let fresh : place_of name (names_in old) ≡ None = ap (place_of name) (c.self.view_is ∙ c.make_room.ensures) ∙ c.requires in
    let one : c.in-Some.next ≡ c.self.inside.next + 1 = search rules in
    let at_end : c.len-at.result ≡ length (names_in old) = omega (arith, c.len-at.ensures.len, as_many old, keys_many old) in
    table_push old c.insert.new.self.entries (hint_of c.self.inside.hints) (number_in c.self.inside.numbers) (hint_of c.note.new.hints) (number_in c.note.new.numbers) c.self.inside.next c.in-Some.next name c.in_ok-kept.kept
    c.self.invariant inserted c.in_ok-kept.ensures.items fresh (rw (← at_end) c.in_ok-note.ensures.ok) one

pub returns-clause-ok : goal.returns-clause-ok
returns-clause-ok c =
    let old = c.self.inside.names.entries in
    let inserted : c.insert.new.self.entries ≡ insert_entry nat_eq old c.self.inside.next c.in_ok-kept.kept =
    on_ok_at c.insert.result c.insert.ensures.entries (c.insert.ensures.succeeds c.in_ok-reserve.ensures.ok) ∙ ap (λ es. insert_entry nat_eq es c.self.inside.next c.in_ok-kept.kept) c.reserve.ensures.entries in
    names_push old c.insert.new.self.entries c.self.inside.next c.args.name.now c.in_ok-kept.kept c.self.invariant.below inserted c.in_ok-kept.ensures.items
    ∙ ap (λ names. names ++ c.args.name.now ∷ []) (c.self.view_is ∙ c.make_room.ensures)
