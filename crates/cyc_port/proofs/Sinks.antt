-- What a write to a memory sink leaves.
use Rattle.std.proofs.Common.{◌≡◌, ℕ, ◌≤◌, true, false, List, [], ◌∷◌, ◌++◌, ◌||◌, length, min, refl, ap, sym, arith, inl, inr, Ok, Err, Some}
use Rattle.std.proofs.lemmas.Bool.{cases_Bool, or_parts, ltb-false}
use Rattle.std.proofs.lemmas.List.{take_all}
use Rattle.std.proofs.Common.{append-nil}
use Rattle.std.specs.Prelude.{◌==◌, nat_lt, is_err, IsOk, OnOk, OnErr}
use Rattle.std.specs.declared.result.Result.{Result}
use Rattle.std.specs.Io.KnownBytes.{Appends}
use Rattle.cyc_port.specs.Counts.{Rose}
use Rattle.cyc_port.specs.Written.{AppendsFront}
use Rattle.cyc_port.specs.declared.sink.SinkFailed.{SinkFailed}
use Rattle.cyc_port.specs.declared.sink_stop.SinkStop.{SinkStop}
use Rattle.cyc_port.specs.MemorySink.{SinkState, let_through, is_listed, room_left, write_fails, taken_of, sink_after}
use Rattle.cyc_port.proofs.CountLemmas.{raised-grows, raised-rose}

-- where no stop is of the call, all goes through
all_through : (call n : ℕ) (fail : List SinkStop) → is_listed call fail ≡ false → let_through call n fail ≡ n
all_through call n [] none = refl
all_through call n (stop ∷ fail) none =
    let parts = or_parts (stop.call == call) (is_listed call fail) none in
    rw parts.0 (all_through call n fail parts.1)

-- no more goes through than there is
through_within : (call n : ℕ) (fail : List SinkStop) → let_through call n fail ≤ n
through_within call n [] = omega arith
through_within call n (stop ∷ fail) =
    elim (cases_Bool (stop.call == call)) [
      | inl of_call ↦ rw of_call (omega (arith, through_within call (min n stop.taken) fail))
      | inr other ↦ rw other (through_within call n fail)
    ]

some : (b : ℕ) (bs : List ℕ) → (length (b ∷ bs) == 0) ≡ false
some b bs = search arith

-- a write that fails of no cause takes the whole piece
all_taken : (sink : SinkState) (piece : List ℕ) → (is_listed sink.calls sink.fail || nat_lt (room_left sink) (length piece)) ≡ false → taken_of sink piece ≡ piece
all_taken sink piece none =
    let parts = or_parts (is_listed sink.calls sink.fail) (nat_lt (room_left sink) (length piece)) none in
    let fits : length piece ≤ room_left sink = ltb-false (room_left sink) (length piece) parts.1 in
    rw (all_through sink.calls (min (length piece) (room_left sink)) sink.fail parts.0) (take_all (min (length piece) (room_left sink)) piece (omega arith))

pub later : (sink : SinkState) (piece : List ℕ) → sink.faults ≤ (sink_after sink piece).faults
later sink [] = omega arith
later sink (b ∷ bs) =
    rw (some b bs)
    (elim (cases_Bool (is_listed sink.calls sink.fail || nat_lt (room_left sink) (length (b ∷ bs)))) [
      | inl fails ↦ rw fails (raised-grows sink.faults)
      | inr passes ↦ rw passes (omega arith)
    ])

pub appended : (r : Result (Unit {0}) SinkFailed) (sink : SinkState) (piece : List ℕ) → is_err r ≡ write_fails sink piece → OnOk r (Appends (Some sink.written) (Some (sink_after sink piece).written) piece)
appended (Err e) sink piece is = tt
appended (Ok u) sink [] is = sym (append-nil sink.written)
appended (Ok u) sink (b ∷ bs) is =
    rw (some b bs) (ap (λ (ys : List ℕ). sink.written ++ ys) (all_taken sink (b ∷ bs) (sym (rw (some b bs) at is))))

pub rose : (r : Result (Unit {0}) SinkFailed) (sink : SinkState) (piece : List ℕ) → is_err r ≡ write_fails sink piece → OnErr r (Rose sink.faults (sink_after sink piece).faults)
rose (Ok u) sink piece is = tt
rose (Err e) sink [] is = absurd (cc)
rose (Err e) sink (b ∷ bs) is =
    let fails : (is_listed sink.calls sink.fail || nat_lt (room_left sink) (length (b ∷ bs))) ≡ true = sym (rw (some b bs) at is) in
    rw (some b bs, fails) (raised-rose sink.faults)

pub front : (r : Result (Unit {0}) SinkFailed) (sink : SinkState) (piece : List ℕ) → is_err r ≡ write_fails sink piece → OnErr r (AppendsFront (Some sink.written) (Some (sink_after sink piece).written) piece)
front (Ok u) sink piece is = tt
front (Err e) sink [] is = absurd (cc)
front (Err e) sink (b ∷ bs) is =
    let n = let_through sink.calls (min (length (b ∷ bs)) (room_left sink)) sink.fail in
    rw (some b bs) (n, omega (arith, through_within sink.calls (min (length (b ∷ bs)) (room_left sink)) sink.fail), refl)

pub empty_ok : (r : Result (Unit {0}) SinkFailed) (sink : SinkState) (piece : List ℕ) → is_err r ≡ write_fails sink piece → piece ≡ [] → IsOk r
empty_ok (Ok u) sink piece is empty = refl
empty_ok (Err e) sink piece is empty = absurd (cc (rw empty at is))

pub unchanged : (sink : SinkState) (piece : List ℕ) → piece ≡ [] → sink_after sink piece ≡ sink
unchanged sink piece empty = rw empty refl
