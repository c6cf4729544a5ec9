use Rattle.std.proofs.Common.{◌≡◌, ◌+◌, List, length, get_or, sym, ap, ◌∙◌, subst, arith}
use Rattle.std.proofs.lemmas.List.{get_or_default}
use Rattle.version_store.specs.declared.state.HallState.{HallState}
use Rattle.session_script.specs.declared.calls.Call.{Call}
use Rattle.pinned_reader.specs.Rows.{RowState}
use Rattle.session_run.specs.declared.players.Player.{Player}
use Rattle.session_run.specs.InTurn.{AreSeated}
use Rattle.session_run.proofs.Seated.{seated_free, seated_knows, seated_play, seated_skip, seated_round}
use Rattle.session_run.proofs.rounds.round.Goals.{then-at-script+in_ok-play, else-at-script}
use Rattle.session_run.proofs.rounds.round.Goals as goal

pub bounds-players-i : goal.bounds-players-i
bounds-players-i g c = let s = c.loop-i.invariant.seated c.requires.some.0 c.requires.some.1 in let m = s.many in let t = c.loop-i-test.true in omega arith

pub play-requires-clause-room : goal.play-requires-clause-room
play-requires-clause-room g c κs within = λ sh.
    let s = c.loop-i.invariant.seated c.requires.some.0 c.requires.some.1 in
    let p : Player = get_or c.loop-i.players c.loop-i.i c.index-players-i.result in
    let here : p ≡ get_or c.loop-i.players c.loop-i.i p = get_or_default c.loop-i.players c.loop-i.i c.index-players-i.result p (let m = s.many in let t = c.loop-i-test.true in omega arith) in
    let script : c.list-script.result.now ≡ get_or c.args.scripts.now c.loop-i.i c.list-script.result.now = subst (λ (y : List Call). y ≡ get_or c.args.scripts.now c.loop-i.i y) (sym c.list-script.ensures) c.index-scripts-i.is in
    seated_free c.requires.some.0 c.loop-i.hall c.args.scripts.now c.loop-i.players c.loop-i.i c.args.at c.list-script.result.now p c.index-script-at.result s c.loop-i-test.true script here c.if-at-script.true c.index-script-at.is
    c.loop-i.invariant.room sh

pub play-requires-clause-known : goal.play-requires-clause-known
play-requires-clause-known g c κs within =
    let s = c.loop-i.invariant.seated c.requires.some.0 c.requires.some.1 in
    let p : Player = get_or c.loop-i.players c.loop-i.i c.index-players-i.result in
    let here : p ≡ get_or c.loop-i.players c.loop-i.i p = get_or_default c.loop-i.players c.loop-i.i c.index-players-i.result p (let m = s.many in let t = c.loop-i-test.true in omega arith) in
    let script : c.list-script.result.now ≡ get_or c.args.scripts.now c.loop-i.i c.list-script.result.now = subst (λ (y : List Call). y ≡ get_or c.args.scripts.now c.loop-i.i y) (sym c.list-script.ensures) c.index-scripts-i.is in
    seated_knows c.requires.some.0 c.loop-i.hall c.args.scripts.now c.loop-i.players c.loop-i.i c.args.at c.list-script.result.now p c.index-script-at.result s c.loop-i-test.true script here c.if-at-script.true c.index-script-at.is

pub play-requires-clause-some : goal.play-requires-clause-some
play-requires-clause-some g c κs within = (c.requires.some.0, ap (λ (r : RowState). r.library) c.loop-i.invariant.base ∙ c.requires.some.1)

pub loop-i-preserved : goal.loop-i-preserved
loop-i-preserved g c =
    let i = c.loop-i.invariant in
    let many = (i.seated c.requires.some.0 c.requires.some.1).many in
    let script : c.list-script.result.now ≡ get_or c.args.scripts.now c.loop-i.i c.list-script.result.now = subst (λ (y : List Call). y ≡ get_or c.args.scripts.now c.loop-i.i y) (sym c.list-script.ensures) c.index-scripts-i.is in
    elim c.if-at-script.branch [
      | then-at-script+in_ok-play w ↦
          let p : Player = get_or c.loop-i.players c.loop-i.i w.index-players-i.result in
          let here : p ≡ get_or c.loop-i.players c.loop-i.i p = get_or_default c.loop-i.players c.loop-i.i w.index-players-i.result p (let m = many in let t = c.loop-i-test.true in omega arith) in
          let hall = w.in_ok-play.ensures.hall in
          record {
            seated = λ all b. subst (λ (z : HallState RowState × List Player). AreSeated all z.0.base z.0.items c.args.scripts.now z.1 (c.loop-i.i + 1) c.args.at) (λ j. (sym w.hall-is j, sym w.players-is j))
                (seated_play all c.loop-i.hall c.args.scripts.now c.loop-i.players c.loop-i.i c.args.at c.list-script.result.now p w.index-script-at.result (i.seated all b) c.loop-i-test.true script here w.if-at-script.true w.index-script-at.is
                w.play.new.hall w.play.new.player hall (w.in_ok-play.ensures.playing all (ap (λ (r : RowState). r.library) i.base ∙ b)));
            base = ap (λ (h : HallState RowState). h.base) w.hall-is ∙ (hall.base ∙ i.base);
            room = i.room ∙ (sym hall.kept ∙ ap (λ (h : HallState RowState). length h.items + h.room) (sym w.hall-is));
          }
      | else-at-script w ↦
          record {
            seated = λ all b. subst (λ (z : HallState RowState × List Player). AreSeated all z.0.base z.0.items c.args.scripts.now z.1 (c.loop-i.i + 1) c.args.at) (λ j. (sym w.hall-is j, sym w.players-is j))
                (seated_skip all c.loop-i.hall.base c.args.scripts.now c.loop-i.i c.args.at c.loop-i.hall.items c.loop-i.players (i.seated all b) c.loop-i-test.true c.list-script.result.now script w.if-at-script.false);
            base = ap (λ (h : HallState RowState). h.base) w.hall-is ∙ i.base;
            room = i.room ∙ ap (λ (h : HallState RowState). length h.items + h.room) (sym w.hall-is);
          }
    ]

pub returns-clause-seated : goal.returns-clause-seated
returns-clause-seated g c = λ all b.
    seated_round all c.loop-i.hall.base c.loop-i.hall.items c.args.scripts.now c.loop-i.players c.loop-i.i c.args.at c.loop-i-test.false (c.loop-i.invariant.seated all (sym (ap (λ (r : RowState). r.library) c.loop-i.invariant.base) ∙ b))
