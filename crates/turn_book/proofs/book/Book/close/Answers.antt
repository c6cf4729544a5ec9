use Rattle.std.proofs.Common.{◌≡◌, Some, ap, sym, ◌∙◌, subst}
use Rattle.std.specs.List.{AllByRecursion}
use mathlib.Core.Option.{some-injective}
use Rattle.turn_book.specs.Views.{HasPairs, IsGiven}
use Rattle.turn_book.proofs.Seating.{closes}
use Rattle.turn_book.proofs.book.Book.close.Goals as goal

pub unreachable-requires : goal.unreachable-requires
unreachable-requires g c =
    let s = closes _ _ _ _ _ _ _ _ _ c.requires.opening c.requires.ended c.close_with-closed.ensures.values.2 in
    let e : Some s.value ≡ c.take.result = some-injective _ _ (sym s.there ∙ c.take.ensures.value) in
    let is = c.in_default.is in absurd (cc)

pub returns-clause-origin : goal.returns-clause-origin
returns-clause-origin g c =
    let s = closes _ _ _ _ _ _ _ _ _ c.requires.opening c.requires.ended c.close_with-closed.ensures.values.2 in
    let e : Some s.value ≡ c.take.result = some-injective _ _ (sym s.there ∙ c.take.ensures.value) in
    let is : c.take.result ≡ Some c.in-Some.value = c.in-Some.is in
    let same : s.value ≡ c.in-Some.value = cc in s.same ∙ ap (λ x. Some (g.V.Stands.origin x)) same

pub returns-clause-list : goal.returns-clause-list
returns-clause-list g c =
    let s = closes _ _ _ _ _ _ _ _ _ c.requires.opening c.requires.ended c.close_with-closed.ensures.values.2 in
    let e : Some s.value ≡ c.take.result = some-injective _ _ (sym s.there ∙ c.take.ensures.value) in
    let is : c.take.result ≡ Some c.in-Some.value = c.in-Some.is in
    let same : s.value ≡ c.in-Some.value = cc in ap g.V.Stands.entries (sym same) ∙ s.list

pub returns-clause-pairs : goal.returns-clause-pairs
returns-clause-pairs g c =
    let s = closes _ _ _ _ _ _ _ _ _ c.requires.opening c.requires.ended c.close_with-closed.ensures.values.2 in
    let e : Some s.value ≡ c.take.result = some-injective _ _ (sym s.there ∙ c.take.ensures.value) in
    let is : c.take.result ≡ Some c.in-Some.value = c.in-Some.is in
    let same : s.value ≡ c.in-Some.value = cc in
    let list = ap g.V.Stands.entries (sym same) ∙ s.list in
    subst (λ l. HasPairs g.V.Stands.session l c.args.seat.seat.me.0.ended) (sym list) s.known.each

pub returns-clause-numbers : goal.returns-clause-numbers
returns-clause-numbers g c =
    let s = closes _ _ _ _ _ _ _ _ _ c.requires.opening c.requires.ended c.close_with-closed.ensures.values.2 in
    let e : Some s.value ≡ c.take.result = some-injective _ _ (sym s.there ∙ c.take.ensures.value) in
    let is : c.take.result ≡ Some c.in-Some.value = c.in-Some.is in
    let same : s.value ≡ c.in-Some.value = cc in
    let list = ap g.V.Stands.entries (sym same) ∙ s.list in
    subst (λ l. AllByRecursion (IsGiven g.V.Stands.session c.args.seat.seat.me.0.given) l) (sym list) s.known.given
