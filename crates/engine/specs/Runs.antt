-- What a run may answer, and what it leaves in the sink. For all commands.
use Rattle.std.specs.Prelude.{◌≡◌, ◌≤◌, ◌<◌, ◌⊎◌, ℕ, List, [], Option, Some, None, Err, IfSome}
use Rattle.std.specs.Io.KnownBytes.{Appends, Keeps}
use Rattle.cyc_port.specs.Counts.{Rose}
use Rattle.cyc_port.specs.Files.{Files}
use Rattle.cyc_port.specs.Seen.{Seen, SinkSeen}
use Rattle.cyc_port.specs.Written.{AppendsFront}
use Rattle.report_writer.specs.declared.faults.FaultLine.TheVariants.{Usage}
use Rattle.engine.specs.declared.faults.Fault.TheVariants.{Memory}
use Rattle.engine.specs.declared.outcome.Outcome.{Outcome}
use Rattle.engine.specs.Answers.{Answer, told, status_of, text_of, order_of}
use Rattle.engine.specs.Commands.{course_of}
use Rattle.engine.specs.Courses.{Course, Comes, IsVerdict, IsFileWord}

-- the words, and the shelf and the sink as the run begins and as it ends
pub record Run : Type 0 where
  pub words : List (List ℕ)
  pub before : Seen
  pub now : Seen
  pub sink_before : SinkSeen
  pub sink_now : SinkSeen

-- words that are no command are refused; else the answer comes along the command's course
abbrev pub IsAlong : Seen → Seen → Answer → Option Course → Type 0
IsAlong before now answer None = answer ≡ told Usage
IsAlong before now answer (Some course) = Comes before now course answer

-- what a command's words may give: want of memory, or what comes along its course
abbrev pub MayGive : Option Course → Seen → Seen → Answer → Type 0
MayGive course before now answer = (answer ≡ Err Memory) ⊎ IsAlong before now answer course

-- when each answer may come
abbrev pub May : Run → Answer → Type 0
May run answer = MayGive (course_of run.words) run.before run.now answer

-- the answer that words and told files come to
abbrev pub IsOfCourse : Files → Answer → Option Course → Type 0
IsOfCourse files answer None = answer ≡ told Usage
IsOfCourse files answer (Some course) = IsVerdict files course answer

abbrev pub IsAnswer : List (List ℕ) → Files → Answer → Type 0
IsAnswer words files answer = IsOfCourse files answer (course_of words)

-- no count of faults of a file word rose
abbrev pub HadNoFault : Run → Type 0
HadNoFault run =
    (name : List ℕ) → IfSome (course_of run.words) (λ course. IsFileWord course name) →
    Rose (run.before.faults name) (run.now.faults name) → ⊥

-- an answer that may come has this status and this order, and its whole text was written
pub record IsWhole (run : Run) (outcome : Outcome) : Type 0 where
  pub answer : Answer
  pub may : May run answer
  pub has_status : status_of answer ≡ outcome.status
  pub has_order : order_of answer ≡ outcome.order
  pub wrote : Appends run.sink_before.written run.sink_now.written (text_of answer)

-- the sink failed, and has a front of the text of an answer that may come and has this order
pub record IsCut (run : Run) (outcome : Outcome) : Type 0 where
  pub cause : Rose run.sink_before.faults run.sink_now.faults
  pub answer : Answer
  pub may : May run answer
  pub has_text : status_of answer < 7
  pub has_order : order_of answer ≡ outcome.order
  pub wrote : AppendsFront run.sink_before.written run.sink_now.written (text_of answer)

-- an answer that the words and these files come to has this status and this order, and its whole text was written
pub record IsWritten (run : Run) (outcome : Outcome) (files : Files) : Type 0 where
  pub answer : Answer
  pub is_answer : IsAnswer run.words files answer
  pub has_status : status_of answer ≡ outcome.status
  pub has_order : order_of answer ≡ outcome.order
  pub wrote : Appends run.sink_before.written run.sink_now.written (text_of answer)

-- how a run ends
pub record IsRun (run : Run) (outcome : Outcome) : Type 0 where
  -- with status 0 to 6 the sink gained the text of an answer that may come, whole and nothing else, and its order is told
  pub whole : outcome.status < 7 → IsWhole run outcome
  -- with 7 the sink failed, and holds a front of such a text, whose order is told
  pub cut : outcome.status ≡ 7 → IsCut run outcome
  -- with 8 memory was wanting, and nothing is written
  pub memory : outcome.status ≡ 8 → Keeps run.sink_before.written run.sink_now.written
  -- and no order is told
  pub untold : outcome.status ≡ 8 → outcome.order ≡ []
  -- there is no other status
  pub known : outcome.status ≤ 8
  -- over told files and with no fault: an answer that they come to is written, or memory was wanting
  pub complete : HadNoFault run → ¬ Rose run.sink_before.faults run.sink_now.faults →
      IfSome run.before.files (λ files. (outcome.status ≡ 8) ⊎ IsWritten run outcome files)
  -- over told files, whatever the counts: a text, and a refusal of words or of what a file says, is an answer that they come to
  pub done : outcome.status < 6 → IfSome run.before.files (IsWritten run outcome)
  -- by the words alone: they are refused only where they are no command
  pub usage : outcome.status ≡ 2 → course_of run.words ≡ None
  -- and where they are none, nothing else is answered
  pub refused_words : course_of run.words ≡ None → (outcome.status ≡ 2) ⊎ ((outcome.status ≡ 7) ⊎ (outcome.status ≡ 8))

-- a run over what was seen of the shelf and of the sink
abbrev pub run_of : List (List ℕ) → Seen → Seen → SinkSeen → SinkSeen → Run
run_of words before now sink_before sink_now =
    record { words = words; before = before; now = now; sink_before = sink_before; sink_now = sink_now }
