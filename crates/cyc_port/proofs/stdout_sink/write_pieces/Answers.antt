use Rattle.std.proofs.Common.{◌≡◌, ℕ, ◌+◌, ◌-◌, List, ◌++◌, length, take, drop, arith, take-append-drop}
use Rattle.std.proofs.lemmas.List.{take-take, drop-take, length-take, length-drop}
use Rattle.std.proofs.lemmas.Slice.{between_to_end}
use Rattle.std.proofs.KnownBytes.{Appends-trans, Appends-kept}
use Rattle.cyc_port.proofs.stdout_sink.write_pieces.Goals as goal
use Rattle.cyc_port.proofs.stdout_sink.write_pieces.Goals.{in-Ok, in-Err+else-ne}

take_further : (bytes : List ℕ) (n m : ℕ) → take n bytes ++ take m (take (length bytes - n) (drop n bytes)) ≡ take (n + m) bytes
take_further bytes n m =
    let whole : take (length bytes - n) (drop n bytes) ≡ drop n bytes = between_to_end bytes n (length bytes) (omega arith) in
    let split = take-append-drop n (take (n + m) bytes) in
    rw whole
    (rw (take-take n (n + m) bytes (omega arith), drop-take n m bytes) at split)

pub pieces-preserved : goal.pieces-preserved
pieces-preserved g c =
    elim c.match-write.branch [
      | in-Ok w ↦ record {
        within = omega (arith, w.in-Ok.ensures.bound, w.taken-is, length-take {A = ℕ}, length-drop {A = ℕ});
        front =
            rw (w.taken-is, ← take_further c.args.bytes.now c.pieces.taken w.in-Ok.count)
            (Appends-trans (g.W.Write.contents c.args.out.now) (g.W.Write.contents c.pieces.out) (g.W.Write.contents c.write.new.self) _ _ c.pieces.invariant.front w.in-Ok.ensures.bytes);
      }
      | in-Err+else-ne w ↦ record {
        within = omega (arith, w.taken-is);
        front = rw w.taken-is (Appends-kept (g.W.Write.contents c.args.out.now) (g.W.Write.contents c.pieces.out) (g.W.Write.contents c.write.new.self) _ c.pieces.invariant.front w.in-Err.ensures.bytes);
      }
    ]
