use Rattle.std.proofs.Common.{◌+◌, ◌∷◌, [], ℕ, List, length, get_or, sym, ap, ◌∙◌, subst, arith, length-append, None}
use Rattle.session_calls.specs.States.{SessionState}
use Rattle.session_run.specs.declared.players.Player.{Player}
use Rattle.session_run.specs.InTurn.{Sits}
use Rattle.session_run.proofs.Seated.{sits_more}
use Rattle.session_run.proofs.drive.seat_all.Goals as goal

pub loop-script-preserved : goal.loop-script-preserved
loop-script-preserved c =
    let i = c.loop-script.invariant in
    let p : Player = record { session = c.new.result; replies = c.new-in-loop-script.result } in
    let items = c.push_reserved.ensures.items in
    let new = c.new.ensures ∙ ap (λ (m : ℕ). let s : SessionState = record { number = m + 1; pin = None; draft = [] } in s) i.number in
    record {
      number = ap (λ n. n + 1) i.number;
      count = let l = c.push_reserved.ensures.len in let n = i.count in omega arith;
      many = ap length items ∙ (length-append c.loop-script.players.items (p ∷ []) ∙ ap (λ n. n + 1) i.many);
      room = c.push_reserved.ensures.capacity ∙ i.room;
      sit = λ all base k x q h. subst (λ (ps : List Player). Sits all base [] 0 k (get_or c.args.scripts.now k x) (get_or ps k q)) (sym items)
          (sits_more c.args.scripts.now c.loop-script.players.items c.loop-script.script-index p i.many new c.new-in-loop-script.ensures.items i.sit all base k x q h);
    }
