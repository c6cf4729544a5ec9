-- What an accepted script has, and which line refuses a script.
use Rattle.std.proofs.Common.{◌≡◌, ◌≢◌, ◌≤◌, ℕ, ◌+◌, ◌&&◌, Bool, true, false, List, [], ◌∷◌, ◌++◌, length, map, Option, Some, None, Result, Ok, Err, refl, sym, ap, subst, ◌∙◌, arith, if◌then◌else◌, nat_lt, nat_le, length-append, append_assoc}
use Rattle.std.specs.Prelude.{◌==◌, count_by, filter, MatchResult}
use Rattle.std.specs.List.{fold}
use Rattle.std.specs.Str.Lines.{lines}
use Rattle.std.proofs.lemmas.Bool.{eqb-false, leb-true, leb-false}
use Rattle.std.proofs.lemmas.Bool.Decides.{nat_tests}
use Rattle.std.proofs.lemmas.List.{map-append}
use Rattle.std.proofs.lemmas.List.Elements.{filter-append}
use Rattle.cyc_text.specs.Words.{words_of}
use Rattle.cell_arcs.specs.Steps.{◌>>=◌}
use Rattle.cyc_text.specs.declared.limits.Limit.TheVariants.{Lines, Reports}
use Rattle.session_script.specs.Calls.{is_report}
use Rattle.session_script.specs.FaultyLines.{has_word, SayCalls, IsFault, IsFaultyLine, AcceptedScriptsSayCalls, FirstFaultyLineTold}
use Rattle.session_script.specs.ScriptLines.{call_of}
use Rattle.session_script.specs.Scripts.{with_call, with_line, after_words, after_lines}
use Rattle.session_script.specs.declared.calls.Call.{Call}
use Rattle.session_script.specs.declared.calls.Call.TheVariants.{Pin, PinAt, Rebase, Publish, Make, Drop, Draft, Period, Cycle, Arrival, Slack, Report}
use Rattle.session_script.specs.declared.faults.ScriptFault.{ScriptFault}
use Rattle.session_script.specs.declared.faults.ScriptFault.TheVariants.{TooMany}

-- a fold over one more
fold_push : {A B : Type 0} (f : B → A → B) (a : B) (xs : List A) (x : A) → fold f a (xs ++ x ∷ []) ≡ f (fold f a xs) x
fold_push f a [] x = refl
fold_push f a (y ∷ ys) x = fold_push f (f a y) ys x

-- one that passes behind others is one more
pub count_by-push_yes : {A : Type 0} (p : A → Bool) (xs : List A) (x : A) → p x ≡ true → count_by p (xs ++ x ∷ []) ≡ count_by p xs + 1
count_by-push_yes p xs x is = fold_push (λ n y. n + (if p y then 1 else 0)) 0 xs x ∙ rw is refl

-- and one that does not is none
pub count_by-push_no : {A : Type 0} (p : A → Bool) (xs : List A) (x : A) → p x ≡ false → count_by p (xs ++ x ∷ []) ≡ count_by p xs
count_by-push_no p xs x is =
    let none : count_by p xs + 0 ≡ count_by p xs = omega arith in
    fold_push (λ n y. n + (if p y then 1 else 0)) 0 xs x ∙ rw is none

-- the only call for a report
report_is : (call : Call) → is_report call ≡ true → call ≡ Report
report_is Pin h = cc
report_is (PinAt number) h = cc
report_is Rebase h = cc
report_is Publish h = cc
report_is (Make edit) h = cc
report_is Drop h = cc
report_is Draft h = cc
report_is Period h = cc
report_is Cycle h = cc
report_is (Arrival event) h = cc
report_is (Slack fork) h = cc
report_is Report h = refl

-- the words that say a call, of lines and one more
worded-push : (done : List (List ℕ)) (line : List ℕ) → map call_of (filter has_word (map words_of (done ++ line ∷ [])))
    ≡ map call_of (filter has_word (map words_of done)) ++ map call_of (filter has_word (words_of line ∷ []))
worded-push done line =
    rw (map-append words_of done (line ∷ []), filter-append has_word (map words_of done) (words_of line ∷ []))
    (map-append call_of (filter has_word (map words_of done)) (filter has_word (words_of line ∷ [])))

pub blank_tests : (n : ℕ) → (n == 0) ≡ true → nat_lt 0 n ≡ false
blank_tests n h = grind (arith, nat_tests)

pub word_tests : (n : ℕ) → (n == 0) ≡ false → nat_lt 0 n ≡ true
word_tests n h = grind (arith, nat_tests)

-- a line without words says nothing
said_blank : (done : List (List ℕ)) (line : List ℕ) (calls : List Call) → (length (words_of line) == 0) ≡ true
    → map call_of (filter has_word (map words_of done)) ≡ map Some calls → map call_of (filter has_word (map words_of (done ++ line ∷ []))) ≡ map Some calls
said_blank done line calls blank said =
    let none : has_word (words_of line) ≡ false = blank_tests (length (words_of line)) blank in
    worded-push done line ∙ rw none (append-none (map call_of (filter has_word (map words_of done))) ∙ said)
  where
    append-none : {A : Type 0} (xs : List A) → xs ++ [] ≡ xs
    append-none [] = refl
    append-none (x ∷ xs) = ap (λ (ys : List _). x ∷ ys) (append-none xs)

-- a line with words says its call
said_more : (done : List (List ℕ)) (line : List ℕ) (calls : List Call) (call : Call) → (length (words_of line) == 0) ≡ false → call_of (words_of line) ≡ Some call
    → map call_of (filter has_word (map words_of done)) ≡ map Some calls → map call_of (filter has_word (map words_of (done ++ line ∷ []))) ≡ map Some (calls ++ call ∷ [])
said_more done line calls call some is said =
    let worded : has_word (words_of line) ≡ true = word_tests (length (words_of line)) some in
    worded-push done line ∙ rw (worded, is, said) (sym (map-append Some calls (call ∷ [])))

no_words : (words : List (List ℕ)) → (length words == 0) ≡ false → words ≢ []
no_words words some is = let empty : length words ≡ 0 = ap length is in absurd (eqb-false (length words) 0 some empty)

-- some value is not none
some_is_there : {A : Type 0} (o : Option A) (x : A) → o ≡ Some x → o ≢ None
some_is_there o x is none = let bad : None ≡ Some x = sym none ∙ is in cc

module _ (most reports : ℕ) where
  -- a call behind others
  call_step : (n : ℕ) (done : List (List ℕ)) (line : List ℕ) (calls : List Call) (call : Call) → SayCalls most reports done calls
      → (length (words_of line) == 0) ≡ false → call_of (words_of line) ≡ Some call
      → MatchResult (with_call most reports calls call) (SayCalls most reports (done ++ line ∷ [])) (IsFault most reports n (words_of line) calls)
  unfolding with_call
  call_step n done line calls call so_far some is = by (nat_le most (length calls)) refl (is_report call) refl (nat_le reports (count_by is_report calls)) refl
    where
      few : nat_le most (length calls) ≡ false → length (calls ++ call ∷ []) ≤ most
      few room = let h = leb-false most (length calls) room in omega (arith, length-append calls (call ∷ []))

      by : (b : Bool) → nat_le most (length calls) ≡ b → (r : Bool) → is_report call ≡ r → (k : Bool) → nat_le reports (count_by is_report calls) ≡ k
          → MatchResult (if b then Err (TooMany Lines) else if r && k then Err (TooMany Reports) else Ok (calls ++ call ∷ []))
          (SayCalls most reports (done ++ line ∷ [])) (IsFault most reports n (words_of line) calls)
      by true full r e k f = (some_is_there (call_of (words_of line)) call is, (let h = leb-true most (length calls) full in let g = so_far.few in omega arith))
      by false room true e true f = (
        is ∙ ap (λ (c : Call). Some c) (report_is call e),
        leb-false most (length calls) room,
        (let h = leb-true reports (count_by is_report calls) f in let g = so_far.few_reports in omega arith),
      )
      by false room true e false f = record {
        said = said_more done line calls call some is so_far.said;
        few = few room;
        few_reports =
            let h = leb-false reports (count_by is_report calls) f in
            omega (arith, count_by-push_yes is_report calls call e);
      }
      by false room false e k f = record {
        said = said_more done line calls call some is so_far.said;
        few = few room;
        few_reports =
            let g = so_far.few_reports in
            omega (arith, count_by-push_no is_report calls call e);
      }

  -- a line behind others
  line_step : (n : ℕ) (done : List (List ℕ)) (line : List ℕ) (calls : List Call) → SayCalls most reports done calls
      → MatchResult (after_words most reports n (words_of line) calls) (SayCalls most reports (done ++ line ∷ [])) (IsFault most reports n (words_of line) calls)
  unfolding after_words
  line_step n done line calls so_far = by (length (words_of line) == 0) refl (call_of (words_of line)) refl
    where
      by : (b : Bool) → (length (words_of line) == 0) ≡ b → (o : Option Call) → call_of (words_of line) ≡ o
          → MatchResult (if b then Ok calls else with_line most reports n o calls) (SayCalls most reports (done ++ line ∷ [])) (IsFault most reports n (words_of line) calls)
      by true blank o is = record { said = said_blank done line calls blank so_far.said; few = so_far.few; few_reports = so_far.few_reports }
      by false some None is = (refl, no_words (words_of line) some, is)
      by false some (Some call) is = call_step n done line calls call so_far some is

  -- accepted lines behind others
  accepted_from : (done rest : List (List ℕ)) (n : ℕ) (calls all : List Call) → SayCalls most reports done calls → after_lines most reports n rest calls ≡ Ok all → SayCalls most reports (done ++ rest) all
  unfolding after_lines
  accepted_from done [] n calls all so_far h = let same : calls ≡ all = cc in subst (λ (xs : List (List ℕ)). SayCalls most reports xs all) (sym (append-none done)) (subst (SayCalls most reports done) same so_far)
    where
      append-none : {A : Type 0} (xs : List A) → xs ++ [] ≡ xs
      append-none [] = refl
      append-none (x ∷ xs) = ap (λ (ys : List _). x ∷ ys) (append-none xs)
  accepted_from done (line ∷ more) n calls all so_far h =
      by (λ next. accepted_from (done ++ line ∷ []) more (n + 1) next all) (after_words most reports n (words_of line) calls) (line_step n done line calls so_far) h
    where
      by : ((next : List Call) → SayCalls most reports (done ++ line ∷ []) next → after_lines most reports (n + 1) more next ≡ Ok all → SayCalls most reports ((done ++ line ∷ []) ++ more) all)
          → (r : Result (List Call) ScriptFault) → MatchResult r (SayCalls most reports (done ++ line ∷ [])) (IsFault most reports n (words_of line) calls)
          → (r >>= after_lines most reports (n + 1) more) ≡ Ok all → SayCalls most reports (done ++ line ∷ more) all
      by further (Ok next) said left = subst (λ (xs : List (List ℕ)). SayCalls most reports xs all) (append_assoc done (line ∷ []) more) (further next said left)
      by further (Err e) fault left = cc

  -- refused lines behind others
  refused_from : (done rest : List (List ℕ)) (calls : List Call) (e : ScriptFault) → SayCalls most reports done calls
      → after_lines most reports (length done + 1) rest calls ≡ Err e → IsFaultyLine most reports (done ++ rest) e
  unfolding after_lines
  refused_from done [] calls e so_far h = absurd (cc)
  refused_from done (line ∷ more) calls e so_far h =
      by (λ next. refused_from (done ++ line ∷ []) more next e) (after_words most reports (length done + 1) (words_of line) calls) (line_step (length done + 1) done line calls so_far) h
    where
      by : ((next : List Call) → SayCalls most reports (done ++ line ∷ []) next → after_lines most reports (length (done ++ line ∷ []) + 1) more next ≡ Err e
          → IsFaultyLine most reports ((done ++ line ∷ []) ++ more) e)
          → (r : Result (List Call) ScriptFault) → MatchResult r (SayCalls most reports (done ++ line ∷ [])) (IsFault most reports (length done + 1) (words_of line) calls)
          → (r >>= after_lines most reports (length done + 1 + 1) more) ≡ Err e → IsFaultyLine most reports (done ++ line ∷ more) e
      by further (Ok next) said left =
          let same : length done + 1 + 1 ≡ length (done ++ line ∷ []) + 1 = omega (arith, length-append done (line ∷ [])) in
          subst (λ written. IsFaultyLine most reports written e) (append_assoc done (line ∷ []) more) (further next said (rw same at left))
      by further (Err f) fault left =
          let same : f ≡ e = cc in
          record { before = done; line = line; after = more; parts = refl; calls = calls; accepted = so_far; fault = subst (IsFault most reports (length done + 1) (words_of line) calls) same fault }

  -- before the first line
  none_said : SayCalls most reports [] []
  none_said = record { said = refl; few = omega arith; few_reports = omega arith }

pub accepted_scripts_say_calls : AcceptedScriptsSayCalls
accepted_scripts_say_calls bytes most reports calls h = accepted_from most reports [] (lines bytes) 1 [] calls (none_said most reports) h

pub first_faulty_line : FirstFaultyLineTold
first_faulty_line bytes most reports e h = refused_from most reports [] (lines bytes) [] e (none_said most reports) h
