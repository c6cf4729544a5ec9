use Rattle.std.proofs.Common.{◌≡◌, ◌+◌, ◌-◌, ◌<◌, [], ◌∷◌, ◌++◌, map, drop, length, count_by, refl, sym, ap, ◌∙◌, inl, arith}
use Rattle.std.proofs.lemmas.List.{length-append}
use Rattle.std.specs.String.{string_bytes}
use Rattle.session_script.specs.Calls.{is_report}
use Rattle.engine.specs.Files.{calls_left, reports_left, script_opened, scripts_opened}
use Rattle.engine.specs.Steps.{Stops}
use Rattle.engine.proofs.Along.{later_trans, goes_on, gives_up, err_exit}
use Rattle.engine.proofs.OneMore.{one_more, calls_less, reports_less}
use Rattle.engine.proofs.scripts.open_scripts.Goals as goal

pub returns-in_err-script-clause-err : goal.returns-in_err-script-clause-err
returns-in_err-script-clause-err g c =
    let names = c.args.names.now in
    let rest = map string_bytes (drop (c.loop-name.name-index + 1) names) in
    let scripts = c.loop-name.scripts.items in
    let within : c.loop-name.name-index < length names = let t = c.loop-name-test.true in omega arith in
    let tie = c.loop-name.scripts.ok.0 in
    let numbered : c.len.result + 1 ≡ length scripts + 1 = let e = c.len.ensures in omega (arith, tie, e) in
    err_exit (Stops (g.F.Shelf.seen c.args.shelf.now) (g.F.Shelf.seen c.open_script.new.shelf) (scripts_opened (map string_bytes names) []))
    c.from_residual.result c.from_residual.ensures.1
    (record {
      at = λ next. gives_up (λ script. scripts_opened rest (scripts ++ script ∷ []) next)
          (rw (one_more string_bytes names c.loop-name.name-index c.name-item.result c.as_str.result.now (c.len.result + 1) c.loop-name.calls c.loop-name.reports
          scripts next within c.name-item.is c.as_str.ensures.value numbered c.loop-name.invariant.calls c.loop-name.invariant.reports)
          at (c.loop-name.invariant.reached next))
          c.in_err-script.ensures.later c.in_err-script.ensures.err;
    })

pub returns-in_err-push-clause-err : goal.returns-in_err-push-clause-err
returns-in_err-push-clause-err g c =
    err_exit (Stops (g.F.Shelf.seen c.args.shelf.now) (g.F.Shelf.seen c.open_script.new.shelf) (scripts_opened (map string_bytes c.args.names.now) []))
    c.from_residual-in_err-push.result c.from_residual-in_err-push.ensures.1 (record { at = λ next. inl refl })

pub loop-name-preserved : goal.loop-name-preserved
loop-name-preserved g c =
    let names = c.args.names.now in
    let rest = map string_bytes (drop (c.loop-name.name-index + 1) names) in
    let scripts = c.loop-name.scripts.items in
    let script = c.in_ok-script.script in
    let within : c.loop-name.name-index < length names = let t = c.loop-name-test.true in omega arith in
    let tie = c.loop-name.scripts.ok.0 in
    let numbered : c.len.result + 1 ≡ length scripts + 1 = let e = c.len.ensures in omega (arith, tie, e) in
    let items : c.push.new.self.items ≡ scripts ++ script ∷ [] = c.in_ok-push.ensures.items in
    let few : c.saturating_sub-calls.result ≡ calls_left scripts - length script =
    rw (c.list.ensures, c.loop-name.invariant.calls) at c.saturating_sub-calls.ensures in
    let reports : c.saturating_sub-reports.result ≡ reports_left scripts - count_by is_report script =
    rw (c.report_count.ensures, c.list-in-loop-name.ensures, c.loop-name.invariant.reports) at c.saturating_sub-reports.ensures in
    record {
      later = later_trans _ _ _ c.loop-name.invariant.later c.in_ok-script.ensures.later;
      count = ap length items ∙ length-append scripts (script ∷ []) ∙ ap (λ n. n + 1) c.loop-name.invariant.count;
      calls = few ∙ calls_less scripts script ∙ ap calls_left (sym items);
      reports = reports ∙ reports_less scripts script ∙ ap reports_left (sym items);
      reached = λ next. rw items
          (goes_on (λ read. scripts_opened rest (scripts ++ read ∷ []) next)
          (rw (one_more string_bytes names c.loop-name.name-index c.name-item.result c.as_str.result.now (c.len.result + 1) c.loop-name.calls c.loop-name.reports
          scripts next within c.name-item.is c.as_str.ensures.value numbered c.loop-name.invariant.calls c.loop-name.invariant.reports)
          at (c.loop-name.invariant.reached next))
          c.in_ok-script.ensures.later c.in_ok-script.ensures.ok);
    }
