-- Each command's course is complete, so that words and files come to an answer.
use Rattle.std.proofs.Common.{◌≡◌, ◌≢◌, ◌+◌, ℕ, List, [], ◌∷◌, ◌++◌, Bool, true, false, Option, Some, None, Result, Ok, Err, IfSome, refl, sym, ◌∙◌, inl, inr, arith, length, nat_le, if◌then◌else◌}
use Rattle.std.specs.Prelude.{◌&&◌, codes, is_some, option_map}
use Rattle.std.specs.Str.{bytes_eq}
use Rattle.std.specs.FinMap as map
use Rattle.cyc_port.specs.Files.{Files}
use Rattle.cell_arcs.specs.declared.cells.Cell.{Cell}
use Rattle.cell_arcs.specs.declared.faults.LibraryFault.TheVariants as library
use Rattle.cell_arcs.specs.IsLibrary.{IsLibrary}
use Rattle.cell_arcs.specs.Library.{library_of}
use Rattle.netlist_model.specs.Circuit.{Circuit}
use Rattle.netlist_model.specs.Edits.{edited}
use Rattle.netlist_model.specs.Expansion.{rules_of}
use Rattle.netlist_model.specs.Sound.{IsNetlist}
use Rattle.netlist_model.specs.declared.edits.Edit.{Edit}
use Rattle.netlist_model.specs.declared.faults.EditFault.{EditFault}
use Rattle.netlist_model.specs.declared.faults.EditFault.TheVariants as edit
use Rattle.netlist_model.specs.declared.faults.StatementFault.TheVariants as statement
use Rattle.netlist_reader.specs.EditFiles.{edits_of}
use Rattle.netlist_reader.specs.NetlistFiles.{netlist_of}
use Rattle.netlist_reader.specs.declared.faults.EditsFault.{EditsFault}
use Rattle.netlist_reader.specs.declared.faults.EditsFault.TheVariants as edits
use Rattle.netlist_reader.specs.declared.faults.NetFault.{NetFault}
use Rattle.netlist_reader.specs.declared.faults.NetFault.TheVariants as net
use Rattle.analysis.specs.declared.analyses.Analysis.{Analysis}
use Rattle.netlist_analysis.specs.Findings.{Finding, IsFinding}
use Rattle.session_script.specs.FaultyLines.{FirstFaultyLineTold}
use Rattle.session_script.specs.Scripts.{script_of}
use Rattle.session_script.specs.declared.calls.Call.{Call}
use Rattle.session_script.specs.declared.faults.ScriptFault.{ScriptFault}
use Rattle.session_script.specs.declared.faults.ScriptFault.TheVariants as script
use Rattle.query_replies.specs.Served.{base_of}
use Rattle.ring_maker.specs.Ring.{muller_ring, ring_library}
use Rattle.report_writer.specs.NetlistLines.{netlist_line}
use Rattle.report_writer.specs.ServeText.{serve_text}
use Rattle.report_writer.specs.Sources.{source_of}
use Rattle.report_writer.specs.declared.faults.FaultLine.{FaultLine}
use Rattle.report_writer.specs.declared.faults.FaultLine.TheVariants as line
use Rattle.report_writer.specs.declared.faults.Source.{Source}
use Rattle.report_writer.specs.declared.faults.Source.TheVariants as source
use Rattle.engine.specs.declared.faults.Fault.TheVariants.{Line}
use Rattle.engine.specs.Answers.{Answer, plain, told, source_status, status_of, order_of}
use Rattle.engine.specs.Courses.{Course, Writes, Refuses, Serves, Opens, Analyses, IsRefusal, TellsNoWant, IsDue, IsVerdict}
use Rattle.engine.specs.Files.{accepted, net_line, edits_line, script_line, library_read, netlist_read, edits_read, scripts_opened, calls_left, reports_left, netlist_based, base_analysed, analysed}
use Rattle.engine.specs.Words.{are_scripts, is_file_word, is_serve, stages_of, workers_behind, workers_of}
use Rattle.engine.specs.Commands as commands
use Rattle.engine.specs.Commands.{course_named, course_of, expand_of, analyze_of, apply_of, bench_of, serve_of}
use Rattle.engine.specs.Runs.{IsAnswer, IsOfCourse}
use Rattle.engine.proofs.Accepting.{fault_is}
use Rattle.engine.proofs.Verdicts.{HasFinding, OneFinding, HasTelling, HasServed, IsComplete, verdict_exists, one_verdict, plain_verdict}

-- what files and edits say is sound, and no refusal tells a want of memory
pub record Laws : Type 0 where
  pub libraries : (bytes : List ℕ) (library : List Cell) → library_of bytes ≡ Ok library → IsLibrary library
  pub no_library : (bytes : List ℕ) → library_of bytes ≢ Err library.Memory
  pub netlists : (library : List Cell) (bytes : List ℕ) (c : Circuit) → netlist_of library bytes ≡ Ok c → IsNetlist c
  pub no_netlist : (library : List Cell) (bytes : List ℕ) → netlist_of library bytes ≢ Err net.Memory
  pub statements : (library : List Cell) (bytes : List ℕ) (n : ℕ) → netlist_of library bytes ≢ Err (net.Statement n statement.Memory)
  pub no_edits : (bytes : List ℕ) → edits_of bytes ≢ Err edits.Memory
  pub no_edited : (library : List Cell) (c : Circuit) (es : List Edit) → edited library es c ≢ Err edit.Memory
  pub scripts : FirstFaultyLineTold
  pub edit_statements : (library : List Cell) (c : Circuit) (es : List Edit) (n : ℕ) → edited library es c ≢ Err (edit.At n statement.Memory)

-- what is accepted goes on, what is refused is told by a refusal
accepted_is : (S : Type 0) {A E : Type 0} (refusal : E → FaultLine) (next : A → Course) (r : Result A E) → ((e : E) → r ≡ Err e → IsRefusal (refusal e))
    → ((value : A) → r ≡ Ok value → IsComplete S (next value)) → IsComplete S (accepted refusal next r)
accepted_is S refusal next (Ok value) refused goes = goes value refl
accepted_is S refusal next (Err e) refused goes = refused e refl

if_is : (S : Type 0) (b : Bool) (x y : Course) → IsComplete S x → IsComplete S y → IsComplete S (if b then x else y)
if_is S true x y first second = first
if_is S false x y first second = second

analysed_is : (S : Type 0) (library : List Cell) (c : Circuit) (next : Analysis → Course) → IsLibrary library → IsNetlist c → ((a : Analysis) → IsComplete S (next a))
    → IsComplete S (analysed library c next)
analysed_is S library c next is sound each = (is, sound, by)
  where
    by : (finding : Finding) → IsFinding library c finding → IsComplete S (accepted (netlist_line c) next finding)
    by (Ok a) found = each a
    by (Err fault) found = fault_is library c fault found

module _ (laws : Laws) (S : Type 0) where
  library_is : (bytes : List ℕ) (next : List Cell → Course) → ((library : List Cell) → IsLibrary library → IsComplete S (next library))
      → IsComplete S (library_read bytes next)
  library_is bytes next each =
      accepted_is S line.Library next (library_of bytes) (λ e same. (tt, λ memory. laws.no_library bytes (rw memory at same)))
      (λ library same. each library (laws.libraries bytes library same))

  net_refusal : (library : List Cell) (bytes : List ℕ) (e : NetFault) → netlist_of library bytes ≡ Err e → IsRefusal (net_line e)
  net_refusal library bytes (net.Syntax n) same = (tt, tt)
  net_refusal library bytes (net.Statement n e) same = (tt, λ memory. laws.statements library bytes n (rw memory at same))
  net_refusal library bytes net.Memory same = absurd (laws.no_netlist library bytes same)

  netlist_is : (library : List Cell) (bytes : List ℕ) (next : Circuit → Course) → ((c : Circuit) → IsNetlist c → IsComplete S (next c))
      → IsComplete S (netlist_read library bytes next)
  netlist_is library bytes next each =
      accepted_is S net_line next (netlist_of library bytes) (net_refusal library bytes) (λ c same. each c (laws.netlists library bytes c same))

  edits_refusal : (bytes : List ℕ) (e : EditsFault) → edits_of bytes ≡ Err e → IsRefusal (edits_line e)
  edits_refusal bytes (edits.Syntax n) same = (tt, tt)
  edits_refusal bytes edits.Memory same = absurd (laws.no_edits bytes same)

  edits_are : (bytes : List ℕ) (next : List Edit → Course) → ((es : List Edit) → IsComplete S (next es)) → IsComplete S (edits_read bytes next)
  edits_are bytes next each = accepted_is S edits_line next (edits_of bytes) (edits_refusal bytes) (λ es same. each es)

  edit_refusal : (library : List Cell) (c : Circuit) (es : List Edit) (e : EditFault) → edited library es c ≡ Err e → IsRefusal (commands.edit_line e)
  edit_refusal library c es (edit.At n e) same = (tt, λ memory. laws.edit_statements library c es n (rw memory at same))
  edit_refusal library c es edit.Memory same = absurd (laws.no_edited library c es same)

  expand_is : (library netlist : List ℕ) → IsComplete S (commands.expand_course library netlist)
  expand_is library netlist bytes =
      library_is bytes (commands.expand_netlist netlist) (λ cells is more. netlist_is cells more (commands.rules_written cells)
      (λ c sound. if_is S (nat_le (length (rules_of cells c)) commands.most_rules) _ _ tt (tt, tt)))

  analyze_is : (library netlist : List ℕ) → IsComplete S (commands.analyze_course library netlist)
  analyze_is library netlist bytes =
      library_is bytes (commands.analyze_netlist netlist) (λ cells is more. netlist_is cells more (commands.analyze_circuit cells)
      (λ c sound. analysed_is S cells c (commands.report_written cells c) is sound (λ a. tt)))

  apply_is : (library netlist file : List ℕ) → IsComplete S (commands.apply_course library netlist file)
  apply_is library netlist file bytes =
      library_is bytes (commands.apply_netlist netlist file) (λ cells is more. netlist_is cells more (commands.apply_edits file cells)
      (λ c sound last. edits_are last (commands.edits_made cells c)
      (λ es. accepted_is S commands.edit_line _ (edited cells es c) (edit_refusal cells c es) (λ d same. tt))))

  bench_is : (stages : ℕ) → IsComplete S (commands.bench_course stages)
  bench_is stages =
      library_is ring_library (commands.bench_netlist stages) (λ cells is. netlist_is cells (muller_ring stages) (commands.bench_circuit stages cells)
      (λ c sound. analysed_is S cells c (commands.bench_written stages cells c) is sound (λ a. tt)))

  some_if : (b : Bool) (x y : Option Course) → IfSome x (IsComplete S) → IfSome y (IsComplete S) → IfSome (if b then x else y) (IsComplete S)
  some_if true x y first second = first
  some_if false x y first second = second

  expand_words : (words : List (List ℕ)) → IfSome (expand_of words) (IsComplete S)
  expand_words [] = tt
  expand_words (a ∷ []) = tt
  expand_words (a ∷ b ∷ []) = some_if (is_file_word a && is_file_word b) (Some (commands.expand_course a b)) None (expand_is a b) tt
  expand_words (a ∷ b ∷ c ∷ rest) = tt

  analyze_named_is : (library netlist : List ℕ) (workers : Option ℕ) → IfSome (commands.analyze_named library netlist workers) (IsComplete S)
  analyze_named_is library netlist workers =
      some_if (is_file_word library && is_file_word netlist && is_some workers) (Some (commands.analyze_course library netlist)) None
      (analyze_is library netlist) tt

  analyze_words : (words : List (List ℕ)) → IfSome (analyze_of words) (IsComplete S)
  analyze_words [] = tt
  analyze_words (a ∷ []) = tt
  analyze_words (a ∷ b ∷ rest) = analyze_named_is a b (workers_behind rest)

  apply_words : (words : List (List ℕ)) → IfSome (apply_of words) (IsComplete S)
  apply_words [] = tt
  apply_words (a ∷ []) = tt
  apply_words (a ∷ b ∷ []) = tt
  apply_words (a ∷ b ∷ c ∷ []) =
      some_if (is_file_word a && is_file_word b && is_file_word c) (Some (commands.apply_course a b c)) None (apply_is a b c) tt
  apply_words (a ∷ b ∷ c ∷ d ∷ rest) = tt

  bench_stages : (o : Option ℕ) → IfSome (option_map commands.bench_course o) (IsComplete S)
  bench_stages None = tt
  bench_stages (Some stages) = bench_is stages

  bench_named_is : (stages : List ℕ) (workers : Option ℕ) → IfSome (commands.bench_named stages workers) (IsComplete S)
  bench_named_is stages workers = some_if (is_some workers) (option_map commands.bench_course (stages_of stages)) None (bench_stages (stages_of stages)) tt

  bench_words : (words : List (List ℕ)) → IfSome (bench_of words) (IsComplete S)
  bench_words [] = tt
  bench_words (a ∷ rest) = bench_named_is a (workers_behind rest)

  script_refusal : (bytes : List ℕ) (number calls reports : ℕ) (e : ScriptFault) → script_of bytes calls reports ≡ Err e → IsRefusal (script_line number e)
  script_refusal bytes number calls reports (script.Syntax n) same = (tt, tt)
  script_refusal bytes number calls reports (script.TooMany limit) same = (tt, tt)
  script_refusal bytes number calls reports script.Memory same = absurd (laws.scripts bytes calls reports script.Memory same).fault

  scripts_are : (names : List (List ℕ)) (scripts : List (List Call)) (next : List (List Call) → Course) → ((scripts : List (List Call)) → IsComplete S (next scripts))
      → IsComplete S (scripts_opened names scripts next)
  scripts_are [] scripts next each = each scripts
  scripts_are (name ∷ names) scripts next each =
      λ bytes. accepted_is S (script_line (length scripts + 1)) (λ script. scripts_opened names (scripts ++ script ∷ []) next)
      (script_of bytes (calls_left scripts) (reports_left scripts)) (script_refusal bytes (length scripts + 1) (calls_left scripts) (reports_left scripts))
      (λ script same. scripts_are names (scripts ++ script ∷ []) next each)

  serve_is : S → (library netlist : List ℕ) (scripts : List (List ℕ)) → IsComplete S (commands.serve_course library netlist scripts)
  serve_is may library netlist scripts bytes =
      library_is bytes (λ cells. netlist_based netlist cells (commands.base_served scripts)) (λ cells is more.
      netlist_is cells more (λ c. base_analysed cells c (commands.base_served scripts)) (λ c sound.
      analysed_is S cells c (λ a. commands.base_served scripts (base_of cells c)) is sound (λ a.
      scripts_are scripts [] (commands.sessions_served (base_of cells c)) (λ all. (may, is, sound)))))

  serve_named_is : S → (library netlist : List ℕ) (workers : Option ℕ) (scripts : List (List ℕ)) → IfSome (commands.serve_named library netlist workers scripts) (IsComplete S)
  serve_named_is may library netlist workers scripts =
      some_if (is_file_word library && is_file_word netlist && is_some workers && are_scripts scripts) (Some (commands.serve_course library netlist scripts)) None
      (serve_is may library netlist scripts) tt

  serve_behind_is : S → (library netlist : List ℕ) (words : List (List ℕ)) → IfSome (commands.serve_behind library netlist words) (IsComplete S)
  serve_behind_is may library netlist [] = serve_named_is may library netlist (Some 1) []
  serve_behind_is may library netlist (script ∷ []) = serve_named_is may library netlist (Some 1) (script ∷ [])
  serve_behind_is may library netlist (flag ∷ count ∷ scripts) =
      some_if (bytes_eq flag (codes "--workers")) _ _ (serve_named_is may library netlist (workers_of flag count) scripts)
      (serve_named_is may library netlist (Some 1) (flag ∷ count ∷ scripts))

  serve_words : S → (words : List (List ℕ)) → IfSome (serve_of words) (IsComplete S)
  serve_words may [] = tt
  serve_words may (a ∷ []) = tt
  serve_words may (a ∷ b ∷ rest) = serve_behind_is may a b rest

  some_where : (b : Bool) (x y : Option Course) → (b ≡ true → IfSome x (IsComplete S)) → IfSome y (IsComplete S) → IfSome (if b then x else y) (IsComplete S)
  some_where true x y first second = first refl
  some_where false x y first second = second

  courses_named_are : (word : List ℕ) (words : List (List ℕ)) → IfSome (course_named word words) (IsComplete S)
  courses_named_are word words =
      some_if (bytes_eq word (codes "expand")) _ _ (expand_words words)
      (some_if (bytes_eq word (codes "analyze")) _ _ (analyze_words words)
      (some_if (bytes_eq word (codes "apply")) _ _ (apply_words words)
      (some_if (bytes_eq word (codes "bench")) _ _ (bench_words words) tt)))

-- each course is complete, and serves only where the first word is `serve`
courses_are : Laws → (words : List (List ℕ)) → IfSome (course_of words) (IsComplete (is_serve words ≡ true))
courses_are laws [] = tt
courses_are laws (word ∷ words) =
    some_where laws (is_serve (word ∷ words) ≡ true) (is_serve (word ∷ words)) _ _ (λ is. serve_words laws (is_serve (word ∷ words) ≡ true) is words)
    (courses_named_are laws (is_serve (word ∷ words) ≡ true) word words)

none_serves : (words : List (List ℕ)) → is_serve words ≡ false → is_serve words ≡ true → ⊥
none_serves words plain is = let bad : false ≡ true = sym plain ∙ is in cc

answered_of : {S : Type 0} → HasFinding → HasServed S → (files : Files) (o : Option Course) → IfSome o (IsComplete S) → (answer : Answer) × IsOfCourse files answer o
answered_of has serves files None complete = (told line.Usage, refl)
answered_of has serves files (Some course) complete = verdict_exists has serves files course complete

pub has_answer : HasFinding → Laws → (words : List (List ℕ)) (files : Files) → is_serve words ≡ false → (answer : Answer) × IsAnswer words files answer
has_answer has laws words files plain =
    answered_of has (λ may. absurd (none_serves words plain may)) files (course_of words) (courses_are laws words)

one_of : (S : Type 0) → OneFinding → HasTelling → (files : Files) (a b : Answer) (o : Option Course) → IfSome o (IsComplete S) → IsOfCourse files a o → IsOfCourse files b o
    → order_of a ≡ order_of b → a ≡ b
one_of S one has files a b None complete first second orders = first ∙ sym second
one_of S one has files a b (Some course) complete first second orders = one_verdict S one has files course complete a b first second orders

pub same_answer : OneFinding → HasTelling → Laws → (words : List (List ℕ)) (files : Files) (answer other : Answer)
    → IsAnswer words files answer → IsAnswer words files other → order_of answer ≡ order_of other → answer ≡ other
same_answer one has laws words files answer other = one_of (is_serve words ≡ true) one has files answer other (course_of words) (courses_are laws words)

plain_of : {S : Type 0} → (S → ⊥) → (files : Files) (o : Option Course) → IfSome o (IsComplete S) → (answer : Answer) → IsOfCourse files answer o → order_of answer ≡ []
plain_of none files None complete answer same = rw same refl
plain_of none files (Some course) complete answer is = plain_verdict none files course complete answer is

pub plain_answer : Laws → (words : List (List ℕ)) (files : Files) (answer : Answer) → is_serve words ≡ false → IsAnswer words files answer → order_of answer ≡ []
plain_answer laws words files answer plain = plain_of (none_serves words plain) files (course_of words) (courses_are laws words) answer

-- no line has the status of want of memory
known_source : (s : Source) → source_status s ≢ 8
known_source source.Words = λ h. absurd (omega (arith, h))
known_source source.Library = λ h. absurd (omega (arith, h))
known_source source.Netlist = λ h. absurd (omega (arith, h))
known_source source.Edits = λ h. absurd (omega (arith, h))
known_source source.Script = λ h. absurd (omega (arith, h))
known_source source.Reading = λ h. absurd (omega (arith, h))

known_line : (answer : Answer) (l : FaultLine) → answer ≡ told l → status_of answer ≢ 8
known_line answer l same eight = known_source (source_of l) (rw same at eight)

known_due : (name : List ℕ) (Rest : List ℕ → Type 0) (answer : Answer) (o : Option (List ℕ)) → ((bytes : List ℕ) → Rest bytes → status_of answer ≢ 8)
    → IsDue name Rest answer o → status_of answer ≢ 8
known_due name Rest answer None each same = known_line answer (line.ReadFault name) same
known_due name Rest answer (Some bytes) each (inl (short, rest)) = each bytes rest
known_due name Rest answer (Some bytes) each (inr (long, same)) = known_line answer (line.TooLong name) same

known_verdict : (files : Files) (answer : Answer) (course : Course) → IsVerdict files course answer → status_of answer ≢ 8
known_verdict files answer (Writes text) same = λ eight. let bad : 0 ≡ 8 = rw same at eight in absurd (omega (arith, bad))
known_verdict files answer (Refuses l) (is, same) = known_line answer l same
known_verdict files answer (Serves library c scripts) served = λ eight. let bad : 0 ≡ 8 = rw served.is at eight in absurd (omega (arith, bad))
known_verdict files answer (Opens name next) due =
    known_due name (λ bytes. IsVerdict files (next bytes) answer) answer (map.get files name) (λ bytes. known_verdict files answer (next bytes)) due
known_verdict files answer (Analyses library c next) (finding, is, rest) = known_verdict files answer (next finding) rest

known_of : (files : Files) (answer : Answer) (o : Option Course) → IsOfCourse files answer o → status_of answer ≢ 8
known_of files answer None same = known_line answer line.Usage same
known_of files answer (Some course) is = known_verdict files answer course is

pub known_answer : (words : List (List ℕ)) (files : Files) (answer : Answer) → IsAnswer words files answer → status_of answer ≢ 8
known_answer words files answer = known_of files answer (course_of words)

-- nor does a line that is told tell of it
same_told : (l m : FaultLine) → told l ≡ told m → TellsNoWant m → TellsNoWant l
same_told l m same tells = let e : l ≡ m = cc in rw e tells

told_due : (name : List ℕ) (Rest : List ℕ → Type 0) (l : FaultLine) (o : Option (List ℕ)) → ((bytes : List ℕ) → Rest bytes → TellsNoWant l)
    → IsDue name Rest (told l) o → TellsNoWant l
told_due name Rest l None each same = same_told l (line.ReadFault name) same tt
told_due name Rest l (Some bytes) each (inl (short, rest)) = each bytes rest
told_due name Rest l (Some bytes) each (inr (long, same)) = same_told l (line.TooLong name) same tt

told_verdict : (files : Files) (l : FaultLine) (course : Course) → IsVerdict files course (told l) → TellsNoWant l
told_verdict files l (Writes text) same = absurd (let bad : Err (Line l) ≡ Ok (plain text) = same in cc)
told_verdict files l (Refuses m) (is, same) = same_told l m same is.1
told_verdict files l (Serves library c scripts) served =
    absurd (let bad : Err (Line l) ≡ Ok (record { text = serve_text served.order served.replies; order = served.order }) = served.is in cc)
told_verdict files l (Opens name next) due =
    told_due name (λ bytes. IsVerdict files (next bytes) (told l)) l (map.get files name) (λ bytes. told_verdict files l (next bytes)) due
told_verdict files l (Analyses library c next) (finding, is, rest) = told_verdict files l (next finding) rest

told_of : (files : Files) (l : FaultLine) (o : Option Course) → IsOfCourse files (told l) o → TellsNoWant l
told_of files l None same = same_told l line.Usage same tt
told_of files l (Some course) is = told_verdict files l course is

pub told_answer : (words : List (List ℕ)) (files : Files) (l : FaultLine) → IsAnswer words files (told l) → TellsNoWant l
told_answer words files l = told_of files l (course_of words)
