-- A sink in memory: what it holds, when a write fails, and what the write leaves.
use Rattle.std.specs.Prelude.{◌-◌, ◌==◌, ◌||◌, ℕ, Bool, List, [], ◌∷◌, ◌++◌, length, take, min, nat_lt, false, if◌then◌else◌}
use Rattle.std.specs.List.{list_any}
use Rattle.cyc_port.specs.declared.sink_stop.SinkStop.{SinkStop}
use Rattle.cyc_port.specs.Counts.{raised}

-- the most bytes that it holds, what was written, the stops, the faults and the calls so far
pub record SinkState : Type 0 where
  pub room : ℕ
  pub written : List ℕ
  pub fail : List SinkStop
  pub faults : ℕ
  pub calls : ℕ

-- a sink that nobody has written to
abbrev pub new_sink : ℕ → List SinkStop → SinkState
new_sink room fail = record { room = room; written = []; fail = fail; faults = 0; calls = 0 }

-- the room that is left
abbrev pub room_left : SinkState → ℕ
room_left sink = sink.room - length sink.written

-- whether the call is listed
abbrev pub is_listed : ℕ → List SinkStop → Bool
is_listed call fail = list_any (λ (stop : SinkStop). stop.call == call) fail

-- how many of n bytes go through: each stop of the call lets at most its number through
abbrev pub let_through : ℕ → ℕ → List SinkStop → ℕ
let_through call n [] = n
let_through call n (stop ∷ fail) = let_through call (if stop.call == call then min n stop.taken else n) fail

-- a write fails where its call is listed or the piece is longer than the room that is left; an empty piece never fails
abbrev pub write_fails : SinkState → List ℕ → Bool
write_fails sink piece = if length piece == 0 then false else (is_listed sink.calls sink.fail || nat_lt (room_left sink) (length piece))

-- the bytes of a piece that a call takes: as many as go through of those that fit
abbrev pub taken_of : SinkState → List ℕ → List ℕ
taken_of sink piece = take (let_through sink.calls (min (length piece) (room_left sink)) sink.fail) piece

-- one call more, and one fault more where it fails; an empty piece changes nothing
abbrev pub sink_after : SinkState → List ℕ → SinkState
sink_after sink piece =
    if length piece == 0 then sink
    else record { room = sink.room; written = sink.written ++ taken_of sink piece; fail = sink.fail; faults = if write_fails sink piece then raised sink.faults else sink.faults; calls = raised sink.calls }
