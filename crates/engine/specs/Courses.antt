-- What a command does, file by file, and what it may answer. For all commands.
use Rattle.std.specs.Prelude.{◌≡◌, ◌≢◌, ◌≤◌, ◌<◌, ◌⊎◌, ℕ, List, length, Option, Some, None, Ok}
use Rattle.std.specs.FinMap as map
use Rattle.cyc_port.specs.Counts.{Rose}
use Rattle.cyc_port.specs.Files.{Files, IsFile, IsLongFile, file_limit}
use Rattle.cyc_port.specs.Seen.{Seen}
use Rattle.cell_arcs.specs.declared.cells.Cell.{Cell}
use Rattle.cell_arcs.specs.declared.faults.LibraryFault.TheVariants as library
use Rattle.netlist_model.specs.Circuit.{Circuit}
use Rattle.netlist_model.specs.declared.faults.StatementFault.TheVariants as statement
use Rattle.netlist_analysis.specs.Findings.{Finding, IsFinding}
use Rattle.session_script.specs.declared.calls.Call.{Call}
use Rattle.session_machine.specs.declared.replies.Reply.{Reply}
use Rattle.query_replies.specs.Served.{AreServed}
use Rattle.report_writer.specs.declared.faults.FaultLine.{FaultLine}
use Rattle.report_writer.specs.declared.faults.FaultLine.TheVariants.{Library, NetStatement, EditsStatement, ReadFault, TooLong}
use Rattle.report_writer.specs.declared.faults.Source.{Source}
use Rattle.report_writer.specs.declared.faults.Source.TheVariants.{Words, Reading}
use Rattle.report_writer.specs.ServeText.{serve_text}
use Rattle.report_writer.specs.Sources.{source_of}
use Rattle.engine.specs.Answers.{Answer, plain, told}

-- it writes a text; or refuses by a line; or serves the sessions of scripts over a netlist; or opens a file and goes on by its bytes;
-- or has a netlist analysed and goes on by what is found
pub data Course : Type 0 where
  Writes : List ℕ → Course
  Refuses : FaultLine → Course
  Serves : List Cell → Circuit → List (List Call) → Course
  Opens : List ℕ → (List ℕ → Course) → Course
  Analyses : List Cell → Circuit → (Finding → Course) → Course

-- a file's content is told of
abbrev pub OfContent : Source → Type 0
OfContent Words = ⊥
OfContent Reading = ⊥
OfContent source = Unit {0}

-- no want of memory is told
abbrev pub TellsNoWant : FaultLine → Type 0
TellsNoWant (Library e) = e ≢ library.Memory
TellsNoWant (NetStatement line e) = e ≢ statement.Memory
TellsNoWant (EditsStatement edit e) = e ≢ statement.Memory
TellsNoWant line = Unit {0}

-- a line that refuses what a file says
abbrev pub IsRefusal : FaultLine → Type 0
IsRefusal line = OfContent (source_of line) × TellsNoWant line

-- the answer tells the line, which refuses what a file says
abbrev pub IsRefused : FaultLine → Answer → Type 0
IsRefused line answer = IsRefusal line × (answer ≡ told line)

-- the answer tells an order of the sessions' shared calls, and writes it with the replies that all calls get along it
pub record IsServed (library : List Cell) (c : Circuit) (scripts : List (List Call)) (answer : Answer) : Type 0 where
  pub order : List ℕ
  pub replies : List (List Reply)
  pub served : AreServed library c scripts order replies
  pub is : answer ≡ Ok (record { text = serve_text order replies; order = order })

-- what is due for what stands under a name: no file is there, or it is too long, or what its bytes are due
abbrev pub IsDue : List ℕ → (List ℕ → Type 0) → Answer → Option (List ℕ) → Type 0
IsDue name Rest answer None = answer ≡ told (ReadFault name)
IsDue name Rest answer (Some bytes) =
    ((length bytes ≤ file_limit) × Rest bytes) ⊎ ((file_limit < length bytes) × (answer ≡ told (TooLong name)))

-- the verdict: the answer that told files come to
abbrev pub IsVerdict : Files → Course → Answer → Type 0
IsVerdict files (Writes text) answer = answer ≡ Ok (plain text)
IsVerdict files (Refuses line) answer = IsRefused line answer
IsVerdict files (Serves library c scripts) answer = IsServed library c scripts answer
IsVerdict files (Opens name next) answer = IsDue name (λ bytes. IsVerdict files (next bytes) answer) answer (map.get files name)
IsVerdict files (Analyses library c next) answer = (finding : Finding) × IsFinding library c finding × IsVerdict files (next finding) answer

-- a file word: a name that the course can open
abbrev pub IsFileWord : Course → List ℕ → Type 0
IsFileWord (Writes text) name = ⊥
IsFileWord (Refuses line) name = ⊥
IsFileWord (Serves library c scripts) name = ⊥
IsFileWord (Opens word next) name = (name ≡ word) ⊎ ((bytes : List ℕ) × IsFileWord (next bytes) name)
IsFileWord (Analyses library c next) name = (finding : Finding) × IsFileWord (next finding) name

-- why a name has no bytes: its read failed and its count of faults rose, or its file is too long and its count of long reads rose
abbrev pub IsUnread : Seen → Seen → List ℕ → Answer → Type 0
IsUnread before now name answer =
    ((answer ≡ told (ReadFault name)) × Rose (before.faults name) (now.faults name))
    ⊎ ((answer ≡ told (TooLong name)) × Rose (before.long_reads name) (now.long_reads name) × IsLongFile before.files name)

-- the answer comes along the course: each file before was read and accepted, and is the told one where files are told
abbrev pub Comes : Seen → Seen → Course → Answer → Type 0
Comes before now (Writes text) answer = answer ≡ Ok (plain text)
Comes before now (Refuses line) answer = IsRefused line answer
Comes before now (Serves library c scripts) answer = IsServed library c scripts answer
Comes before now (Opens name next) answer =
    IsUnread before now name answer
    ⊎ ((bytes : List ℕ) × IsFile before.files name bytes × Comes before now (next bytes) answer)
Comes before now (Analyses library c next) answer = (finding : Finding) × IsFinding library c finding × Comes before now (next finding) answer
