-- The words of scripts, and one more script.
use Rattle.std.proofs.Common.{◌≡◌, ◌+◌, ◌-◌, ◌<◌, ℕ, List, [], ◌∷◌, ◌++◌, map, drop, length, None, slice_index_or, refl, sym, ap, ◌∙◌, arith}
use Rattle.std.specs.Prelude.{count_by, sum_by}
use Rattle.std.proofs.lemmas.List.{at_drop_more}
use Rattle.std.proofs.lemmas.List.Sums.{sum_by-append}
use Rattle.session_script.specs.Calls.{is_report}
use Rattle.session_script.specs.declared.calls.Call.{Call}
use Rattle.engine.specs.Courses.{Course}
use Rattle.engine.specs.Commands.{serve_of}
use Rattle.engine.specs.Files.{calls_left, reports_left, script_opened, scripts_opened, most_calls, most_reports}

-- the next name's script is opened behind those that were
pub one_more : {X : Type 0} (f : X → List ℕ) (xs : List X) (i : ℕ) (x : X) (name : List ℕ) (number calls reports : ℕ) (scripts : List (List Call))
    (next : List (List Call) → Course) → i < length xs → x ≡ slice_index_or xs i x → name ≡ f x → number ≡ length scripts + 1
    → calls ≡ calls_left scripts → reports ≡ reports_left scripts
    → scripts_opened (map f (drop i xs)) scripts next
    ≡ script_opened number calls reports name (λ script. scripts_opened (map f (drop (i + 1) xs)) (scripts ++ script ∷ []) next)
one_more f xs i x name number calls reports scripts next within is named numbered has_calls has_reports =
    at_drop_more (λ ys. scripts_opened (map f ys) scripts next) xs i x within ∙ (rw (named, numbered, has_calls, has_reports, ← is) refl)

sum_more : {X : Type 0} (f : X → ℕ) (xs : List X) (x : X) → sum_by f (xs ++ x ∷ []) ≡ sum_by f xs + f x
sum_more f xs x = let e : sum_by f (xs ++ x ∷ []) ≡ sum_by f xs + (0 + f x) = sum_by-append f xs (x ∷ []) in omega (arith, e)

left_less : (most a b : ℕ) → (most - a) - b ≡ most - (a + b)
left_less most a b = omega arith

-- what one more script leaves
pub calls_less : (scripts : List (List Call)) (script : List Call) → calls_left scripts - length script ≡ calls_left (scripts ++ script ∷ [])
calls_less scripts script = left_less most_calls (sum_by length scripts) (length script) ∙ ap (λ n. most_calls - n) (sym (sum_more length scripts script))

pub reports_less : (scripts : List (List Call)) (script : List Call) → reports_left scripts - count_by is_report script ≡ reports_left (scripts ++ script ∷ [])
reports_less scripts script =
    left_less most_reports (sum_by (count_by is_report) scripts) (count_by is_report script) ∙ ap (λ n. most_reports - n) (sym (sum_more (count_by is_report) scripts script))

-- fewer than two words serve nothing
pub few_words : {X : Type 0} (f : X → List ℕ) (words : List X) → length words < 2 → serve_of (map f words) ≡ None
few_words f [] few = refl
few_words f (a ∷ []) few = refl
few_words f (a ∷ b ∷ words) few = absurd (let h : length (a ∷ b ∷ words) < 2 = few in omega (arith, h))
