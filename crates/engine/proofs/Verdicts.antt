-- Over told files each course has one answer at most, and one where it is complete.
use Rattle.std.proofs.Common.{◌≡◌, ◌≤◌, ◌<◌, ℕ, List, [], length, Option, Some, None, refl, sym, ap, ◌∙◌, inl, inr, arith, subst}
use Rattle.std.specs.Prelude.{◌⊎◌, Ok}
use Rattle.std.specs.FinMap as map
use Rattle.std.proofs.lemmas.Bool.{cases_lt}
use Rattle.cyc_port.specs.Files.{Files, file_limit}
use Rattle.cell_arcs.specs.declared.cells.Cell.{Cell}
use Rattle.cell_arcs.specs.IsLibrary.{IsLibrary}
use Rattle.netlist_model.specs.Circuit.{Circuit}
use Rattle.netlist_model.specs.Sound.{IsNetlist}
use Rattle.netlist_analysis.specs.Findings.{Finding, IsFinding, IsTelling}
use Rattle.session_script.specs.declared.calls.Call.{Call}
use Rattle.session_machine.specs.declared.replies.Reply.{Reply}
use Rattle.query_replies.specs.Readings.{Analyses}
use Rattle.report_writer.specs.ServeText.{serve_text}
use Rattle.report_writer.specs.declared.faults.FaultLine.TheVariants.{ReadFault, TooLong}
use Rattle.engine.specs.Answers.{Answer, plain, told, order_of}
use Rattle.engine.specs.Courses as course
use Rattle.engine.specs.Courses.{Course, Writes, Refuses, Serves, Opens, IsRefusal, IsServed, IsDue, IsVerdict}

-- the laws that verdicts rest on
abbrev pub OneFinding : Type 0
OneFinding = (library : List Cell) (c : Circuit) (finding other : Finding) → IsFinding library c finding → IsFinding library c other → finding ≡ other

abbrev pub HasFinding : Type 0
HasFinding = (library : List Cell) (c : Circuit) → IsLibrary library → IsNetlist c → (finding : Finding) × IsFinding library c finding

abbrev pub HasTelling : Type 0
HasTelling = (library : List Cell) → IsLibrary library → (tell : Circuit → Finding) × IsTelling library tell

-- it refuses by refusals alone, and has netlists analysed that have a finding; it serves sessions only if it may, of sound bases
abbrev pub IsComplete : Type 0 → Course → Type 0
IsComplete MayServe (Writes text) = Unit {0}
IsComplete MayServe (Refuses line) = IsRefusal line
IsComplete MayServe (Serves library c scripts) = MayServe × IsLibrary library × IsNetlist c
IsComplete MayServe (Opens name next) = (bytes : List ℕ) → IsComplete MayServe (next bytes)
IsComplete MayServe (course.Analyses library c next) =
    IsLibrary library × IsNetlist c × ((finding : Finding) → IsFinding library c finding → IsComplete MayServe (next finding))

-- sessions that may be served are
abbrev pub HasServed : Type 0 → Type 0
HasServed MayServe = MayServe → (library : List Cell) (c : Circuit) (scripts : List (List Call)) → IsLibrary library → IsNetlist c
    → (answer : Answer) × IsServed library c scripts answer

due_exists : (name : List ℕ) (Rest : List ℕ → Answer → Type 0) (o : Option (List ℕ)) → ((bytes : List ℕ) → o ≡ Some bytes → (answer : Answer) × Rest bytes answer)
    → (answer : Answer) × IsDue name (λ bytes. Rest bytes answer) answer o
due_exists name Rest None each = (told (ReadFault name), refl)
due_exists name Rest (Some bytes) each = by (cases_lt file_limit (length bytes))
  where
    by : (file_limit < length bytes) ⊎ (length bytes ≤ file_limit) → (answer : Answer) × IsDue name (λ b. Rest b answer) answer (Some bytes)
    by (inl long) = (told (TooLong name), inr (long, refl))
    by (inr short) = let rest = each bytes refl in (rest.0, inl (short, rest.1))

pub verdict_exists : {S : Type 0} → HasFinding → HasServed S → (files : Files) (course : Course) → IsComplete S course
    → (answer : Answer) × IsVerdict files course answer
verdict_exists has serves files (Writes text) complete = (Ok (plain text), refl)
verdict_exists has serves files (Refuses line) complete = (told line, (complete, refl))
verdict_exists has serves files (Serves library c scripts) (may, is, sound) = serves may library c scripts is sound
verdict_exists has serves files (Opens name next) complete =
    due_exists name (λ bytes answer. IsVerdict files (next bytes) answer) (map.get files name)
    (λ bytes there. verdict_exists has serves files (next bytes) (complete bytes))
verdict_exists has serves files (course.Analyses library c next) (is, sound, each) =
    let first : (finding : Finding) × IsFinding library c finding = has library c is sound in
    let rest : (answer : Answer) × IsVerdict files (next first.0) answer = verdict_exists has serves files (next first.0) (each first.0 first.1) in
    (rest.0, (first.0, first.1, rest.1))

due_one : (name : List ℕ) (Rest : List ℕ → Answer → Type 0) (a b : Answer) (o : Option (List ℕ)) → ((bytes : List ℕ) → o ≡ Some bytes → Rest bytes a → Rest bytes b → a ≡ b)
    → IsDue name (λ bytes. Rest bytes a) a o → IsDue name (λ bytes. Rest bytes b) b o → a ≡ b
due_one name Rest a b None each first second = first ∙ sym second
due_one name Rest a b (Some bytes) each (inl first) (inl second) = each bytes refl first.1 second.1
due_one name Rest a b (Some bytes) each (inl first) (inr second) = absurd (let x = first.0 in let y = second.0 in omega (arith, x, y))
due_one name Rest a b (Some bytes) each (inr first) (inl second) = absurd (let x = first.0 in let y = second.0 in omega (arith, x, y))
due_one name Rest a b (Some bytes) each (inr first) (inr second) = first.1 ∙ sym second.1

-- two answers of one order that sessions are served are one
one_served : HasTelling → (library : List Cell) (c : Circuit) (scripts : List (List Call)) (a b : Answer) → IsLibrary library
    → IsServed library c scripts a → IsServed library c scripts b → order_of a ≡ order_of b → a ≡ b
one_served has library c scripts a b is first second orders =
    let told : (tell : Circuit → Finding) × IsTelling library tell = has library is in
    let all : Analyses = record { library = library; tell = told.0; right = told.1 } in
    let same : first.order ≡ second.order = rw (first.is, second.is) at orders in
    let texts : serve_text first.order first.replies ≡ serve_text second.order second.replies =
    rw (first.served.replies_are all refl, second.served.replies_are all refl, same) refl in
    rw (first.is, second.is, texts, same) refl

pub one_verdict : (S : Type 0) → OneFinding → HasTelling → (files : Files) (course : Course) → IsComplete S course
    → (a b : Answer) → IsVerdict files course a → IsVerdict files course b → order_of a ≡ order_of b → a ≡ b
one_verdict S one has files (Writes text) complete a b first second orders = first ∙ sym second
one_verdict S one has files (Refuses line) complete a b first second orders = first.1 ∙ sym second.1
one_verdict S one has files (Serves library c scripts) complete a b first second orders =
    one_served has library c scripts a b complete.1 first second orders
one_verdict S one has files (Opens name next) complete a b first second orders =
    due_one name (λ bytes answer. IsVerdict files (next bytes) answer) a b (map.get files name)
    (λ bytes there x y. one_verdict S one has files (next bytes) (complete bytes) a b x y orders) first second
one_verdict S one has files (course.Analyses library c next) complete a b (x, is_x, rest_x) (y, is_y, rest_y) orders =
    let same : y ≡ x = one library c y x is_y is_x in
    one_verdict S one has files (next x) (complete.2 x is_x) a b rest_x (subst (λ finding. IsVerdict files (next finding) b) same rest_y) orders

due_order : (name : List ℕ) (Rest : List ℕ → Type 0) (answer : Answer) (o : Option (List ℕ)) → ((bytes : List ℕ) → Rest bytes → order_of answer ≡ [])
    → IsDue name Rest answer o → order_of answer ≡ []
due_order name Rest answer None each same = rw same refl
due_order name Rest answer (Some bytes) each (inl (short, rest)) = each bytes rest
due_order name Rest answer (Some bytes) each (inr (long, same)) = rw same refl

-- where no sessions may be served, no order is told
pub plain_verdict : {S : Type 0} → (S → ⊥) → (files : Files) (course : Course) → IsComplete S course → (answer : Answer)
    → IsVerdict files course answer → order_of answer ≡ []
plain_verdict none files (Writes text) complete answer same = rw same refl
plain_verdict none files (Refuses line) complete answer same = rw same.1 refl
plain_verdict none files (Serves library c scripts) complete answer served = absurd (none complete.0)
plain_verdict none files (Opens name next) complete answer due =
    due_order name (λ bytes. IsVerdict files (next bytes) answer) answer (map.get files name)
    (λ bytes. plain_verdict none files (next bytes) (complete bytes) answer) due
plain_verdict none files (course.Analyses library c next) complete answer (finding, is, rest) =
    plain_verdict none files (next finding) (complete.2 finding is) answer rest
