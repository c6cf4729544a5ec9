use Rattle.std.proofs.Common.{rules, sym, subst}
use Rattle.std.specs.List.{All, AllZip}
use Rattle.std.proofs.lemmas.List.Elements.{All-take, All-drop}
use Rattle.std.proofs.lemmas.Result.{IfOk-at_ok}
use Rattle.session_run.specs.Jobs.{IsEnded, IsReadyJob}
use Rattle.session_run.proofs.Halves.{zip_halves}
use Rattle.session_run.proofs.threads.+serve.Goals as goal

pub returns : goal.returns
returns g t c =
    let b = c.args.book.now in
    zip_halves (IsEnded b) _ _ _ _ _ _ _ c.in_ok-high.ensures.items c.in_ok-high.ensures.tail c.in_ok-append.ensures.items
    (IfOk-at_ok (λ v. AllZip (IsEnded b) _ v.items) c.in_ok-all.was c.join-front.ensures.first)
    (IfOk-at_ok (λ v. AllZip (IsEnded b) _ v.items) c.in_ok-rest.was c.join-front.ensures.second)

pub join-front-requires-after_bounds : goal.join-front-requires-after_bounds
join-front-requires-after_bounds g t c κs within =
    let b = c.args.book.now in
    let low : All (IsReadyJob b) c.split_off.new.self.items = subst (All (IsReadyJob b)) (sym c.in_ok-high.ensures.items) (All-take (IsReadyJob b) _ c.args.low.items c.requires) in
    let high : All (IsReadyJob b) c.in_ok-high.high.items = subst (All (IsReadyJob b)) (sym c.in_ok-high.ensures.tail) (All-drop (IsReadyJob b) _ c.args.low.items c.requires) in (
      (search rules, ((λ a m. m), ((λ a m. m), ((λ a m. m), (low, (search rules, search rules, search rules)))))),
      (search rules, ((λ a m. m), ((λ a m. m), ((λ a m. m), (high, (search rules, search rules, search rules)))))),
    )
