-- What an answer that may come is over told files.
use Rattle.std.proofs.Common.{◌≡◌, ◌≤◌, ◌<◌, ℕ, List, [], length, Option, Some, None, refl, sym, ◌∙◌, inl, inr, arith}
use Rattle.std.specs.Prelude.{◌⊎◌, IfSome, IsSomeAnd}
use Rattle.std.specs.FinMap as map
use Rattle.cyc_port.specs.Counts.{Rose}
use Rattle.cyc_port.specs.Files.{Files, file_limit}
use Rattle.std.proofs.lemmas.Bool.{cases_lt}
use Rattle.std.specs.Io.KnownBytes.{Appends, Keeps}
use Rattle.cyc_port.specs.Written.{AppendsFront}
use Rattle.engine.specs.Commands.{course_of}
use Rattle.engine.specs.Answers.{Answer, told, source_status, status_of, text_of, order_of}
use Rattle.engine.specs.declared.outcome.Outcome.{Outcome}
use Rattle.engine.specs.Runs.{Run, IsAlong, MayGive, May, IsOfCourse, IsAnswer, HadNoFault, IsWritten, IsRun}
use Rattle.cyc_port.specs.Seen.{Seen}
use Rattle.report_writer.specs.Sources.{source_of}
use Rattle.report_writer.specs.declared.faults.Source.{Source}
use Rattle.report_writer.specs.declared.faults.Source.TheVariants as source
use Rattle.report_writer.specs.declared.faults.FaultLine.TheVariants as line
use Rattle.engine.specs.Courses.{Course, Writes, Refuses, Serves, Opens, Analyses, OfContent, IsDue, IsVerdict, IsFileWord, Comes}

-- a failed read of a file word
pub record IsReadFault (before now : Seen) (course : Course) (answer : Answer) : Type 0 where
  pub name : List ℕ
  pub same : answer ≡ told (line.ReadFault name)
  pub word : IsFileWord course name
  pub rose : Rose (before.faults name) (now.faults name)

due_long : (name : List ℕ) (Rest : List ℕ → Type 0) (answer : Answer) (o : Option (List ℕ)) → IsSomeAnd o (λ bytes. file_limit < length bytes)
    → answer ≡ told (line.TooLong name) → IsDue name Rest answer o
due_long name Rest answer None long same = absurd long
due_long name Rest answer (Some bytes) long same = inr (long, same)

-- over told files an answer that comes is a failed read, or the verdict
pub told_comes : (files : Files) (before now : Seen) (answer : Answer) → before.files ≡ Some files → (course : Course) → Comes before now course answer
    → IsReadFault before now course answer ⊎ IsVerdict files course answer
told_comes files before now answer are (Writes text) comes = inr comes
told_comes files before now answer are (Refuses refusal) comes = inr comes
told_comes files before now answer are (Serves library c scripts) comes = inr comes
told_comes files before now answer are (Opens name next) (inl (inl (same, rose))) =
    inl (record { name = name; same = same; word = inl refl; rose = rose })
told_comes files before now answer are (Opens name next) (inl (inr (same, rose, long))) =
    inr (due_long name (λ bytes. IsVerdict files (next bytes) answer) answer (map.get files name) (rw are at long) same)
told_comes files before now answer are (Opens name next) (inr (bytes, file, rest)) = by (told_comes files before now answer are (next bytes) rest)
  where
    by : IsReadFault before now (next bytes) answer ⊎ IsVerdict files (next bytes) answer
        → IsReadFault before now (Opens name next) answer ⊎ IsVerdict files (Opens name next) answer
    by (inl fault) = inl (record { name = fault.name; same = fault.same; word = inr (bytes, fault.word); rose = fault.rose })
    by (inr is) = let there : map.get files name ≡ Some bytes = rw are at file.same in inr (rw there (inl (file.short, is)))
told_comes files before now answer are (Analyses library c next) (finding, is, rest) = by (told_comes files before now answer are (next finding) rest)
  where
    by : IsReadFault before now (next finding) answer ⊎ IsVerdict files (next finding) answer
        → IsReadFault before now (Analyses library c next) answer ⊎ IsVerdict files (Analyses library c next) answer
    by (inl fault) = inl (record { name = fault.name; same = fault.same; word = (finding, fault.word); rose = fault.rose })
    by (inr due) = inr (finding, is, due)

-- a failed read of a file word of the command, if there is one
abbrev IsFailedWord : Seen → Seen → Answer → Option Course → Type 0
IsFailedWord before now answer None = ⊥
IsFailedWord before now answer (Some course) = IsReadFault before now course answer

along_told : (files : Files) (before now : Seen) (answer : Answer) → before.files ≡ Some files → (o : Option Course) → IsAlong before now answer o
    → IsFailedWord before now answer o ⊎ IsOfCourse files answer o
along_told files before now answer are None same = inr same
along_told files before now answer are (Some course) comes = told_comes files before now answer are course comes

no_failed_word : (before now : Seen) (answer : Answer) (o : Option Course)
    → ((name : List ℕ) → IfSome o (λ course. IsFileWord course name) → Rose (before.faults name) (now.faults name) → ⊥) → IsFailedWord before now answer o → ⊥
no_failed_word before now answer None none failed = failed
no_failed_word before now answer (Some course) none failed = none failed.name failed.word failed.rose

failed_is_6 : (before now : Seen) (answer : Answer) (o : Option Course) → IsFailedWord before now answer o → status_of answer ≡ 6
failed_is_6 before now answer None failed = absurd failed
failed_is_6 before now answer (Some course) failed = rw failed.same refl

-- a refusal of what a file says has no status 2
content_not_usage : (s : Source) → OfContent s → source_status s ≡ 2 → ⊥
content_not_usage source.Words is two = is
content_not_usage source.Library is two = let bad : 3 ≡ 2 = two in absurd (omega (arith, bad))
content_not_usage source.Netlist is two = let bad : 4 ≡ 2 = two in absurd (omega (arith, bad))
content_not_usage source.Edits is two = let bad : 4 ≡ 2 = two in absurd (omega (arith, bad))
content_not_usage source.Script is two = let bad : 5 ≡ 2 = two in absurd (omega (arith, bad))
content_not_usage source.Reading is two = is

not_usage : (before now : Seen) (answer : Answer) (course : Course) → Comes before now course answer → status_of answer ≡ 2 → ⊥
not_usage before now answer (Writes text) same two = let zero : 0 ≡ 2 = rw same at two in absurd (omega (arith, zero))
not_usage before now answer (Refuses refusal) (is, same) two = content_not_usage (source_of refusal) is.0 (rw same at two)
not_usage before now answer (Serves library c scripts) served two = let zero : 0 ≡ 2 = rw served.is at two in absurd (omega (arith, zero))
not_usage before now answer (Opens name next) (inl (inl (same, rose))) two = let six : 6 ≡ 2 = rw same at two in absurd (omega (arith, six))
not_usage before now answer (Opens name next) (inl (inr (same, rose, long))) two = let six : 6 ≡ 2 = rw same at two in absurd (omega (arith, six))
not_usage before now answer (Opens name next) (inr (bytes, file, rest)) two = not_usage before now answer (next bytes) rest two
not_usage before now answer (Analyses library c next) (finding, is, rest) two = not_usage before now answer (next finding) rest two

usage_words : (before now : Seen) (answer : Answer) (o : Option Course) → MayGive o before now answer → status_of answer ≡ 2 → o ≡ None
usage_words before now answer o (inl memory) two = let eight : 8 ≡ 2 = rw memory at two in absurd (omega (arith, eight))
usage_words before now answer None (inr same) two = refl
usage_words before now answer (Some course) (inr comes) two = absurd (not_usage before now answer course comes two)

none_is_usage : (before now : Seen) (answer : Answer) (o : Option Course) → o ≡ None → MayGive o before now answer → (status_of answer ≡ 2) ⊎ (status_of answer ≡ 8)
none_is_usage before now answer o none (inl memory) = inr (rw memory refl)
none_is_usage before now answer o none (inr along) = let same : answer ≡ told line.Usage = rw none at along in inl (rw same refl)

status_cases : (status : ℕ) → status ≤ 8 → (status < 7) ⊎ ((status ≡ 7) ⊎ (status ≡ 8))
status_cases status known = by (cases_lt status 7) (cases_lt status 8)
  where
    by : (status < 7) ⊎ (7 ≤ status) → (status < 8) ⊎ (8 ≤ status) → (status < 7) ⊎ ((status ≡ 7) ⊎ (status ≡ 8))
    by (inl low) rest = inl low
    by (inr seven) (inl below) = inr (inl (omega arith))
    by (inr seven) (inr eight) = inr (inr (omega arith))

module _ (run : Run) (answer : Answer) (outcome : Outcome) (may : May run answer) (known : outcome.status ≤ 8)
    (whole : outcome.status < 7 → (outcome.status ≡ status_of answer) × Appends run.sink_before.written run.sink_now.written (text_of answer))
    (order : outcome.status < 8 → outcome.order ≡ order_of answer) where
  written : (files : Files) → outcome.status < 7 → IsAnswer run.words files answer → IsWritten run outcome files
  written files low is = record { answer = answer; is_answer = is; has_status = sym (whole low).0; has_order = sym (order (omega (arith, low))); wrote = (whole low).1 }

  complete : HadNoFault run → (outcome.status ≡ 7 → ⊥) → (o : Option Files) → run.before.files ≡ o → IfSome o (λ files. (outcome.status ≡ 8) ⊎ IsWritten run outcome files)
  complete no_fault uncut None are = tt
  complete no_fault uncut (Some files) are = by (status_cases outcome.status known) may
    where
      from : outcome.status < 7 → IsFailedWord run.before run.now answer (course_of run.words) ⊎ IsAnswer run.words files answer → (outcome.status ≡ 8) ⊎ IsWritten run outcome files
      from low (inl failed) = absurd (no_failed_word run.before run.now answer (course_of run.words) no_fault failed)
      from low (inr is) = inr (written files low is)

      by : (outcome.status < 7) ⊎ ((outcome.status ≡ 7) ⊎ (outcome.status ≡ 8)) → May run answer → (outcome.status ≡ 8) ⊎ IsWritten run outcome files
      by (inr (inl seven)) m = absurd (uncut seven)
      by (inr (inr eight)) m = inl eight
      by (inl low) (inl memory) = let same : outcome.status ≡ 8 = rw memory at (whole low).0 in inl same
      by (inl low) (inr along) = from low (along_told files run.before run.now answer are (course_of run.words) along)

  done : outcome.status < 6 → (o : Option Files) → run.before.files ≡ o → IfSome o (IsWritten run outcome)
  done below None are = tt
  done below (Some files) are = by may
    where
      low : outcome.status < 7
      low = omega (arith, below)

      from : IsFailedWord run.before run.now answer (course_of run.words) ⊎ IsAnswer run.words files answer → IsWritten run outcome files
      from (inl failed) = let six = failed_is_6 run.before run.now answer (course_of run.words) failed in let same = (whole low).0 in absurd (omega (arith, below, six, same))
      from (inr is) = written files low is

      by : May run answer → IsWritten run outcome files
      by (inl memory) = let same : outcome.status ≡ 8 = rw memory at (whole low).0 in absurd (omega (arith, below, same))
      by (inr along) = from (along_told files run.before run.now answer are (course_of run.words) along)

  refused_words : course_of run.words ≡ None → (outcome.status ≡ 2) ⊎ ((outcome.status ≡ 7) ⊎ (outcome.status ≡ 8))
  refused_words none = by (status_cases outcome.status known) (none_is_usage run.before run.now answer (course_of run.words) none may)
    where
      by : (outcome.status < 7) ⊎ ((outcome.status ≡ 7) ⊎ (outcome.status ≡ 8)) → (status_of answer ≡ 2) ⊎ (status_of answer ≡ 8) → (outcome.status ≡ 2) ⊎ ((outcome.status ≡ 7) ⊎ (outcome.status ≡ 8))
      by (inr rest) is = inr rest
      by (inl low) (inl two) = inl ((whole low).0 ∙ two)
      by (inl low) (inr eight) = inr (inr ((whole low).0 ∙ eight))

  pub run_ends : (outcome.status ≡ 7 → (status_of answer < 7) × Rose run.sink_before.faults run.sink_now.faults × AppendsFront run.sink_before.written run.sink_now.written (text_of answer))
      → (outcome.status ≡ 8 → Keeps run.sink_before.written run.sink_now.written) → (outcome.status ≡ 8 → outcome.order ≡ []) → IsRun run outcome
  run_ends cut memory untold = record {
    whole = λ low. record { answer = answer; may = may; has_status = sym (whole low).0; has_order = sym (order (omega (arith, low))); wrote = (whole low).1 };
    cut = λ seven. record { cause = (cut seven).1; answer = answer; may = may; has_text = (cut seven).0; has_order = sym (order (let e = seven in omega (arith, e))); wrote = (cut seven).2 };
    memory = memory;
    untold = untold;
    known = known;
    complete = λ no_fault unfailed. complete no_fault (λ seven. unfailed (cut seven).1) run.before.files refl;
    done = λ below. done below run.before.files refl;
    usage = λ two. usage_words run.before run.now answer (course_of run.words) may (sym (whole (let e = two in omega (arith, e))).0 ∙ two);
    refused_words = refused_words;
  }
