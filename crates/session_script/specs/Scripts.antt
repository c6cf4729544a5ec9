-- A script: its lines in turn, each a call, with so many calls and so many reports at most.
use Rattle.std.specs.Prelude.{◌+◌, ◌==◌, ◌&&◌, ℕ, nat_le, count_by, if◌then◌else◌, List, [], ◌∷◌, ◌++◌, length, Option, Some, None, Result, Ok, Err}
use Rattle.std.specs.Str.Lines.{lines}
use Rattle.cyc_text.specs.Words.{words_of}
use Rattle.cyc_text.specs.declared.limits.Limit.TheVariants.{Lines, Reports}
use Rattle.cell_arcs.specs.Steps.{◌>>=◌}
use Rattle.session_script.specs.Calls.{is_report}
use Rattle.session_script.specs.ScriptLines.{call_of}
use Rattle.session_script.specs.declared.calls.Call.{Call}
use Rattle.session_script.specs.declared.faults.ScriptFault.{ScriptFault}
use Rattle.session_script.specs.declared.faults.ScriptFault.TheVariants.{Syntax, TooMany}

-- the calls with one more, unless it is one call, or else one report, too many
unfoldable pub with_call : ℕ → ℕ → List Call → Call → Result (List Call) ScriptFault
with_call most reports calls call =
    if nat_le most (length calls) then Err (TooMany Lines)
    else if is_report call && nat_le reports (count_by is_report calls) then Err (TooMany Reports)
    else Ok (calls ++ call ∷ [])

-- the calls with what line n says
abbrev pub with_line : ℕ → ℕ → ℕ → Option Call → List Call → Result (List Call) ScriptFault
with_line most reports n None calls = Err (Syntax n)
with_line most reports n (Some call) calls = with_call most reports calls call

-- the calls after line n of these words; a line without words is passed over
unfoldable pub after_words : ℕ → ℕ → ℕ → List (List ℕ) → List Call → Result (List Call) ScriptFault
after_words most reports n words calls = if length words == 0 then Ok calls else with_line most reports n (call_of words) calls

-- the calls after the lines, the first of which has the number n
unfoldable pub after_lines : ℕ → ℕ → ℕ → List (List ℕ) → List Call → Result (List Call) ScriptFault
after_lines most reports n [] calls = Ok calls
after_lines most reports n (line ∷ more) calls = after_words most reports n (words_of line) calls >>= after_lines most reports (n + 1) more

-- the calls of a script's bytes, or the fault of the first line at fault
abbrev pub script_of : List ℕ → ℕ → ℕ → Result (List Call) ScriptFault
script_of bytes most reports = after_lines most reports 1 (lines bytes) []
