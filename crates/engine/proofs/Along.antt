-- A run goes along a course.
use Rattle.std.proofs.Common.{◌≡◌, ◌≤◌, ℕ, List, Option, Result, Ok, Err, subst, refl, sym, ap, ◌∙◌, inl, inr, arith}
use Rattle.std.specs.Prelude.{IfOk, IfErr, IsErrAnd}
use Rattle.cyc_port.specs.Counts.{Rose}
use Rattle.cyc_port.specs.Files.{Files, IsFile, IsLongFile}
use Rattle.engine.specs.declared.faults.Fault.{Fault}
use Rattle.engine.specs.declared.faults.Fault.TheVariants.{Memory}
use Rattle.cyc_port.specs.Seen.{Seen, Later}
use Rattle.engine.specs.Answers.{Answer}
use Rattle.engine.specs.Courses.{Course, Writes, Refuses, Serves, Opens, Analyses, IsUnread, Comes}
use Rattle.engine.specs.Steps.{MayEnd, Reaches, Passes, Stops}

pub later_refl : (s : Seen) → Later s s
later_refl s = record { files = refl; faults = λ name. omega arith; long_reads = λ name. omega arith }

later_add : (a b c : ℕ) → a ≤ b → b ≤ c → a ≤ c
later_add a b c first second = omega (arith, first, second)

pub later_trans : (a b c : Seen) → Later a b → Later b c → Later a c
later_trans a b c first second = record {
  files = second.files ∙ first.files;
  faults = λ name. later_add _ _ _ (first.faults name) (second.faults name);
  long_reads = λ name. later_add _ _ _ (first.long_reads name) (second.long_reads name);
}

rose_later : (before mid now : ℕ) → before ≤ mid → Rose mid now → Rose before now
rose_later before mid now first then = omega (arith, first, then)

file_earlier : (a b : Option Files) (name bytes : List ℕ) → b ≡ a → IsFile b name bytes → IsFile a name bytes
file_earlier a b name bytes same is = rw same at is

long_earlier : (a b : Option Files) (name : List ℕ) → b ≡ a → IsLongFile b name → IsLongFile a name
long_earlier a b name same is = rw same at is

unread_earlier : (a b c : Seen) (name : List ℕ) (answer : Answer) → Later a b → IsUnread b c name answer → IsUnread a c name answer
unread_earlier a b c name answer later (inl (same, rose)) = inl (same, rose_later _ _ _ (later.faults name) rose)
unread_earlier a b c name answer later (inr (same, rose, long)) =
    inr (same, rose_later _ _ _ (later.long_reads name) rose, long_earlier a.files b.files name later.files long)

pub comes_earlier : (a b c : Seen) (answer : Answer) → Later a b → (course : Course) → Comes b c course answer → Comes a c course answer
comes_earlier a b c answer later (Writes text) comes = comes
comes_earlier a b c answer later (Refuses line) comes = comes
comes_earlier a b c answer later (Serves library d scripts) comes = comes
comes_earlier a b c answer later (Opens name next) (inl unread) = inl (unread_earlier a b c name answer later unread)
comes_earlier a b c answer later (Opens name next) (inr (bytes, file, rest)) =
    inr (bytes, file_earlier a.files b.files name bytes later.files file, comes_earlier a b c answer later (next bytes) rest)
comes_earlier a b c answer later (Analyses library d next) (finding, is, rest) = (finding, is, comes_earlier a b c answer later (next finding) rest)

-- a file that was read is passed
pub file_passes : {before now : Seen} {name bytes : List ℕ} → Later before now → IsFile before.files name bytes → Passes before now (Opens name) bytes
file_passes {before = before} {now = now} {bytes = bytes} later file =
    record { to = λ next. record { go = λ end then answer comes. inr (bytes, file, comes_earlier before now end answer later (next bytes) comes) } }

pub stays : {s : Seen} {course : Course} → Reaches s s course course
stays = record { go = λ end later answer comes. comes }

pub goes_on : {A : Type 0} {b m n : Seen} {course : Course} {way : (A → Course) → Course} {value : A} (cont : A → Course)
    → Reaches b m course (way cont) → Later m n → Passes m n way value → Reaches b n course (cont value)
goes_on {m = m} {n = n} cont reached later passed =
    record { go = λ end then answer comes. reached.go end (later_trans m n end later then) answer ((passed.to cont).go end then answer comes) }

pub ends_with : {b n : Seen} {course rest : Course} {answer : Answer} (e : Seen) → Reaches b n course rest → Later n e → MayEnd n e rest answer → MayEnd b e course answer
ends_with e reached later (inl memory) = inl memory
ends_with {answer = answer} e reached later (inr comes) = inr (reached.go e later answer comes)

pub gives_up : {A : Type 0} {b m n : Seen} {course : Course} {way : (A → Course) → Course} {fault : Fault} (cont : A → Course)
    → Reaches b m course (way cont) → Later m n → Stops m n way fault → MayEnd b n course (Err fault)
gives_up {n = n} cont reached later stopped = ends_with n reached later (stopped.at cont)

-- one step after another; what the second gave is seen by a function
pub seen_then : {A B C : Type 0} {b m n : Seen} {way : (A → Course) → Course} {value : A} (view : C → B) (then : A → (B → Course) → Course) (r : Result C Fault)
    → Passes b m way value → Later m n → IfOk r (λ x. Passes m n (then value) (view x)) → IfOk r (λ x. Passes b n (λ next. way (λ a. then a next)) (view x))
seen_then view then (Ok v) first later second = record { to = λ next. goes_on next (first.to (λ a. then a next)) later second }
seen_then view then (Err e) first later second = tt

pub ok_then : {A B : Type 0} {b m n : Seen} {way : (A → Course) → Course} {value : A} (then : A → (B → Course) → Course) (r : Result B Fault)
    → Passes b m way value → Later m n → IfOk r (Passes m n (then value)) → IfOk r (Passes b n (λ next. way (λ a. then a next)))
ok_then then r first later second = seen_then (λ v. v) then r first later second

pub err_then : {A B C : Type 0} {b m n : Seen} {way : (A → Course) → Course} {value : A} (then : A → (B → Course) → Course) (r : Result C Fault)
    → Passes b m way value → Later m n → IfErr r (Stops m n (then value)) → IfErr r (Stops b n (λ next. way (λ a. then a next)))
err_then then (Ok v) first later second = tt
err_then then (Err e) first later second = record { at = λ next. gives_up next (first.to (λ a. then a next)) later second }

-- an error that `?` hands on
pub err_exit : {A : Type 0} (P : Fault → Type 0) (r : Result A Fault) {e : Fault} → IsErrAnd r (λ f. f ≡ e) → P e → IfErr r P
err_exit P (Ok v) is p = tt
err_exit P (Err f) is p = subst P (sym is) p

-- `?` ends a command at a step that was not gone
pub quits : {A : Type 0} {b m n : Seen} {course : Course} {way : (A → Course) → Course} {fault : Fault} (cont : A → Course) (r : Answer)
    → Reaches b m course (way cont) → Later m n → Stops m n way fault → IsErrAnd r (λ f. f ≡ fault) → MayEnd b n course r
quits cont (Ok v) reached later stopped is = absurd is
quits cont (Err f) reached later stopped is = rw is (gives_up cont reached later stopped)

-- `?` ends a command for want of memory
pub wants_end : (b n : Seen) (course : Course) (r : Answer) → IsErrAnd r (λ f. f ≡ Memory) → MayEnd b n course r
wants_end b n course (Ok v) is = absurd is
wants_end b n course (Err f) is = inl (ap Err is)
