-- Lines that say calls are read, and the first that does not refuses the script.
use Rattle.std.proofs.Common.{◌≡◌, ◌≢◌, ◌≤◌, ◌<◌, ℕ, suc, ◌+◌, ◌&&◌, Bool, true, false, cond, List, [], ◌∷◌, ◌++◌, length, map, Option, Some, None, Ok, Err, refl, sym, ap, subst, ◌∙◌, arith, if◌then◌else◌, nat_le, length-append, append_assoc}
use Rattle.std.specs.Prelude.{◌==◌, count_by, filter}
use Rattle.std.specs.Str.Lines.{lines}
use Rattle.std.proofs.lemmas.Bool.Decides.{nat_tests}
use Rattle.std.proofs.lemmas.List.{append-nil}
use Rattle.cyc_text.specs.Words.{words_of}
use Rattle.cell_arcs.specs.Steps.{◌>>=◌}
use Rattle.cyc_text.specs.declared.limits.Limit.TheVariants.{Cells, Inputs, Nets, Consts, Forks, Roots, Lines, Reports}
use Rattle.session_script.specs.Calls.{is_report}
use Rattle.session_script.specs.FaultyLines.{has_word, SayCalls, IsFault, SaidCallsAreRead, FaultyLineRefuses}
use Rattle.session_script.specs.ScriptLines.{call_of}
use Rattle.session_script.specs.Scripts.{with_call, with_line, after_words, after_lines}
use Rattle.session_script.specs.declared.calls.Call.{Call}
use Rattle.session_script.specs.declared.calls.Call.TheVariants.{Report}
use Rattle.session_script.specs.declared.faults.ScriptFault.{ScriptFault}
use Rattle.session_script.specs.declared.faults.ScriptFault.TheVariants.{Syntax, TooMany, Memory}
use Rattle.session_script.proofs.FaultLemmas.{count_by-push_yes, count_by-push_no, blank_tests, word_tests}

-- no fewer in a longer list
count_push : {A : Type 0} (p : A → Bool) (xs : List A) (y : A) → count_by p xs ≤ count_by p (xs ++ y ∷ [])
count_push p xs y = by (p y) refl
  where
    by : (b : Bool) → p y ≡ b → count_by p xs ≤ count_by p (xs ++ y ∷ [])
    by true is = let one = count_by-push_yes p xs y is in omega arith
    by false is = let none = count_by-push_no p xs y is in omega arith

count_front : {A : Type 0} (p : A → Bool) (xs ys : List A) → count_by p xs ≤ count_by p (xs ++ ys)
count_front p xs [] = let same : count_by p (xs ++ []) ≡ count_by p xs = ap (count_by p) (append-nil xs) in omega arith
count_front p xs (y ∷ ys) =
    let one = count_push p xs y in
    let more = count_front p (xs ++ y ∷ []) ys in
    let same : count_by p ((xs ++ y ∷ []) ++ ys) ≡ count_by p (xs ++ y ∷ ys) = ap (count_by p) (append_assoc xs (y ∷ []) ys) in
    omega arith

-- the lines that have a word say the calls
abbrev Say : List (List ℕ) → List Call → Type 0
Say written calls = map call_of (filter has_word (map words_of written)) ≡ map Some calls

module _ (most reports : ℕ) where
  -- one more call, where one is left
  taken : (calls : List Call) (call : Call) → length calls < most → (is_report call ≡ true → count_by is_report calls < reports) → with_call most reports calls call ≡ Ok (calls ++ call ∷ [])
  unfolding with_call
  taken calls call few few_reports = let room : nat_le most (length calls) ≡ false = grind (arith, nat_tests) in rw room (by (is_report call) refl)
    where
      by : (r : Bool) → is_report call ≡ r → (if r && nat_le reports (count_by is_report calls) then Err (TooMany Reports) else Ok (calls ++ call ∷ [])) ≡ Ok (calls ++ call ∷ [])
      by true e = let left = few_reports e in let room : nat_le reports (count_by is_report calls) ≡ false = grind (arith, nat_tests) in rw room refl
      by false e = refl

  blank_line : (n : ℕ) (words : List (List ℕ)) (calls : List Call) → (length words == 0) ≡ true → after_words most reports n words calls ≡ Ok calls
  unfolding after_words
  blank_line n words calls blank = rw blank refl

  worded_line : (n : ℕ) (words : List (List ℕ)) (calls : List Call) → (length words == 0) ≡ false → after_words most reports n words calls ≡ with_line most reports n (call_of words) calls
  unfolding after_words
  worded_line n words calls some = rw some refl

  -- lines that say calls are read, whatever follows them
  abbrev Ahead : List (List ℕ) → List (List ℕ) → ℕ → Type 0
  Ahead before rest n = (done calls : List Call) → Say before calls → length (done ++ calls) ≤ most → count_by is_report (done ++ calls) ≤ reports
      → after_lines most reports n (before ++ rest) done ≡ after_lines most reports (length before + n) rest (done ++ calls)

  no_line : (rest : List (List ℕ)) (n : ℕ) → Ahead [] rest n
  no_line rest n done [] said few few_reports =
      let count : n ≡ 0 + n = omega arith in
      ap (λ k. after_lines most reports k rest done) count ∙ ap (after_lines most reports (0 + n) rest) (sym (append-nil done))
  no_line rest n done (call ∷ calls) said few few_reports = absurd (cc)

  blank_ahead : (line : List ℕ) (more rest : List (List ℕ)) (n : ℕ) → (length (words_of line) == 0) ≡ true → Ahead more rest (n + 1) → Ahead (line ∷ more) rest n
  unfolding after_lines
  blank_ahead line more rest n blank ahead done calls said few few_reports =
      let none : has_word (words_of line) ≡ false = blank_tests (length (words_of line)) blank in
      let worded = filter has_word (map words_of more) in
      let left : Say more calls = ap (λ b. map call_of (cond b (words_of line ∷ worded) worded)) (sym none) ∙ said in
      let count : length more + (n + 1) ≡ suc (length more) + n = omega arith in
      ap (λ r. r >>= after_lines most reports (n + 1) (more ++ rest)) (blank_line n (words_of line) done blank)
      ∙ (ahead done calls left few few_reports ∙ ap (λ k. after_lines most reports k rest (done ++ calls)) count)

  worded_ahead : (line : List ℕ) (more rest : List (List ℕ)) (n : ℕ) → (length (words_of line) == 0) ≡ false → Ahead more rest (n + 1) → Ahead (line ∷ more) rest n
  unfolding after_lines
  worded_ahead line more rest n some ahead done calls said few few_reports =
      let word : has_word (words_of line) ≡ true = word_tests (length (words_of line)) some in
      let worded = filter has_word (map words_of more) in
      by calls (ap (λ b. map call_of (cond b (words_of line ∷ worded) worded)) (sym word) ∙ said) few few_reports
    where
      by : (calls : List Call) → call_of (words_of line) ∷ map call_of (filter has_word (map words_of more)) ≡ map Some calls
          → length (done ++ calls) ≤ most → count_by is_report (done ++ calls) ≤ reports
          → (after_words most reports n (words_of line) done >>= after_lines most reports (n + 1) (more ++ rest)) ≡ after_lines most reports (suc (length more) + n) rest (done ++ calls)
      by [] said few few_reports = absurd (cc)
      by (call ∷ calls) said few few_reports =
          let is : call_of (words_of line) ≡ Some call = cc in
          let left : Say more calls = cc in
          let join : (done ++ call ∷ []) ++ calls ≡ done ++ call ∷ calls = append_assoc done (call ∷ []) calls in
          let room : length done < most = omega (arith, length-append done (call ∷ calls)) in
          let reports_left : is_report call ≡ true → count_by is_report done < reports = λ e.
          let one = count_by-push_yes is_report done call e in
          let front = count_front is_report (done ++ call ∷ []) calls in
          let same : count_by is_report ((done ++ call ∷ []) ++ calls) ≡ count_by is_report (done ++ call ∷ calls) = ap (count_by is_report) join in
          omega arith in
          let read : after_words most reports n (words_of line) done ≡ Ok (done ++ call ∷ []) =
          worded_line n (words_of line) done some ∙ (ap (λ o. with_line most reports n o done) is ∙ taken done call room reports_left) in
          let count : length more + (n + 1) ≡ suc (length more) + n = omega arith in
          ap (λ r. r >>= after_lines most reports (n + 1) (more ++ rest)) read
          ∙ (ahead (done ++ call ∷ []) calls left (subst (λ (l : List Call). length l ≤ most) (sym join) few) (subst (λ (l : List Call). count_by is_report l ≤ reports) (sym join) few_reports)
          ∙ (ap (after_lines most reports (length more + (n + 1)) rest) join ∙ ap (λ k. after_lines most reports k rest (done ++ call ∷ calls)) count))

  line_ahead : (line : List ℕ) (more rest : List (List ℕ)) (n : ℕ) → Ahead more rest (n + 1) → Ahead (line ∷ more) rest n
  line_ahead line more rest n ahead = by (length (words_of line) == 0) refl
    where
      by : (b : Bool) → (length (words_of line) == 0) ≡ b → Ahead (line ∷ more) rest n
      by true blank = blank_ahead line more rest n blank ahead
      by false some = worded_ahead line more rest n some ahead

  all_ahead : (before rest : List (List ℕ)) (n : ℕ) → Ahead before rest n
  all_ahead [] rest n = no_line rest n
  all_ahead (line ∷ more) rest n = line_ahead line more rest n (all_ahead more rest (n + 1))

  reached : (before rest : List (List ℕ)) (calls : List Call) → SayCalls most reports before calls → after_lines most reports 1 (before ++ rest) [] ≡ after_lines most reports (length before + 1) rest calls
  reached before rest calls say = all_ahead before rest 1 [] calls say.said say.few say.few_reports

  -- a line that has words, if it is at fault
  has_words : (words : List (List ℕ)) → words ≢ [] → (length words == 0) ≡ false
  has_words [] some = absurd (some refl)
  has_words (word ∷ words) some = grind (arith, nat_tests)

  says_words : (words : List (List ℕ)) → call_of words ≢ None → words ≢ []
  unfolding call_of
  says_words words says none = says (ap call_of none)

  full : (n : ℕ) (words : List (List ℕ)) (calls : List Call) → call_of words ≢ None → length calls ≡ most → with_line most reports n (call_of words) calls ≡ Err (TooMany Lines)
  unfolding with_call
  full n words calls says count = by (call_of words) refl
    where
      by : (o : Option Call) → call_of words ≡ o → with_line most reports n o calls ≡ Err (TooMany Lines)
      by None is = absurd (says is)
      by (Some call) is = let room : nat_le most (length calls) ≡ true = grind (arith, nat_tests) in rw room refl

  reported : (n : ℕ) (calls : List Call) → length calls < most → count_by is_report calls ≡ reports → with_line most reports n (Some Report) calls ≡ Err (TooMany Reports)
  unfolding with_call
  reported n calls few count =
      let room : nat_le most (length calls) ≡ false = grind (arith, nat_tests) in
      let none : nat_le reports (count_by is_report calls) ≡ true = grind (arith, nat_tests) in
      rw (room, none) refl

  refused : (n : ℕ) (words : List (List ℕ)) (calls : List Call) (e : ScriptFault) → IsFault most reports n words calls e → after_words most reports n words calls ≡ Err e
  refused n words calls (Syntax line) fault =
      worded_line n words calls (has_words words fault.1) ∙ (ap (λ o. with_line most reports n o calls) fault.2 ∙ ap (λ (k : ℕ). Err (Syntax k)) (sym fault.0))
  refused n words calls (TooMany Lines) fault = worded_line n words calls (has_words words (says_words words fault.0)) ∙ full n words calls fault.0 fault.1
  refused n words calls (TooMany Reports) fault =
      let says : call_of words ≢ None = λ none. let bad : Some Report ≡ None = sym fault.0 ∙ none in cc in
      worded_line n words calls (has_words words (says_words words says)) ∙ (ap (λ o. with_line most reports n o calls) fault.0 ∙ reported n calls fault.1 fault.2)
  refused n words calls (TooMany Cells) fault = absurd fault
  refused n words calls (TooMany Inputs) fault = absurd fault
  refused n words calls (TooMany Nets) fault = absurd fault
  refused n words calls (TooMany Consts) fault = absurd fault
  refused n words calls (TooMany Forks) fault = absurd fault
  refused n words calls (TooMany Roots) fault = absurd fault
  refused n words calls Memory fault = absurd fault

pub said_calls_are_read : SaidCallsAreRead
unfolding after_lines
said_calls_are_read bytes most reports calls say = ap (λ (written : List (List ℕ)). after_lines most reports 1 written []) (sym (append-nil (lines bytes))) ∙ reached most reports (lines bytes) [] calls say

pub faulty_line_refuses : FaultyLineRefuses
unfolding after_lines
faulty_line_refuses bytes most reports e at =
    ap (λ (written : List (List ℕ)). after_lines most reports 1 written []) at.parts
    ∙ (reached most reports at.before (at.line ∷ at.after) at.calls at.accepted
    ∙ ap (λ r. r >>= after_lines most reports (length at.before + 1 + 1) at.after) (refused most reports (length at.before + 1) (words_of at.line) at.calls e at.fault))
