-- What an accepted script has, and which line refuses a script.
use Rattle.std.specs.Prelude.{◌≡◌, ◌≢◌, ◌≤◌, ◌<◌, ◌+◌, ℕ, Bool, count_by, filter, map, nat_lt, List, [], ◌∷◌, ◌++◌, length, Some, None, Ok, Err}
use Rattle.std.specs.Str.Lines.{lines}
use Rattle.cyc_text.specs.Words.{words_of}
use Rattle.cyc_text.specs.declared.limits.Limit.TheVariants.{Cells, Inputs, Nets, Consts, Forks, Roots, Lines, Reports}
use Rattle.session_script.specs.Calls.{is_report}
use Rattle.session_script.specs.ScriptLines.{call_of}
use Rattle.session_script.specs.Scripts.{script_of}
use Rattle.session_script.specs.declared.calls.Call.{Call}
use Rattle.session_script.specs.declared.calls.Call.TheVariants.{Report}
use Rattle.session_script.specs.declared.faults.ScriptFault.{ScriptFault}
use Rattle.session_script.specs.declared.faults.ScriptFault.TheVariants.{Syntax, TooMany, Memory}

-- a line with a word
abbrev pub has_word : List (List ℕ) → Bool
has_word words = nat_lt 0 (length words)

-- the lines that have a word say these calls, and these are as many calls and reports as may be, or fewer
pub record SayCalls (most reports : ℕ) (written : List (List ℕ)) (calls : List Call) : Type 0 where
  pub said : map call_of (filter has_word (map words_of written)) ≡ map Some calls
  pub few : length calls ≤ most
  pub few_reports : count_by is_report calls ≤ reports

-- why line n of these words is at fault behind these calls
abbrev pub IsFault : ℕ → ℕ → ℕ → List (List ℕ) → List Call → ScriptFault → Type 0
IsFault most reports n words calls (Syntax line) = (line ≡ n) × (words ≢ []) × (call_of words ≡ None)
IsFault most reports n words calls (TooMany Lines) = (call_of words ≢ None) × (length calls ≡ most)
IsFault most reports n words calls (TooMany Reports) = (call_of words ≡ Some Report) × (length calls < most) × (count_by is_report calls ≡ reports)
IsFault most reports n words calls (TooMany Cells) = ⊥
IsFault most reports n words calls (TooMany Inputs) = ⊥
IsFault most reports n words calls (TooMany Nets) = ⊥
IsFault most reports n words calls (TooMany Consts) = ⊥
IsFault most reports n words calls (TooMany Forks) = ⊥
IsFault most reports n words calls (TooMany Roots) = ⊥
IsFault most reports n words calls Memory = ⊥

-- one of the lines is at fault, and those before it say calls
pub record IsFaultyLine (most reports : ℕ) (written : List (List ℕ)) (e : ScriptFault) : Type 0 where
  pub before : List (List ℕ)
  pub line : List ℕ
  pub after : List (List ℕ)
  pub parts : written ≡ before ++ line ∷ after
  pub calls : List Call
  pub accepted : SayCalls most reports before calls
  -- lines are numbered from 1
  pub fault : IsFault most reports (length before + 1) (words_of line) calls e

-- an accepted script's lines say its calls
abbrev pub AcceptedScriptsSayCalls : Type 0
AcceptedScriptsSayCalls = (bytes : List ℕ) (most reports : ℕ) (calls : List Call) → script_of bytes most reports ≡ Ok calls → SayCalls most reports (lines bytes) calls

-- a refused script is refused by its first line at fault
abbrev pub FirstFaultyLineTold : Type 0
FirstFaultyLineTold = (bytes : List ℕ) (most reports : ℕ) (e : ScriptFault) → script_of bytes most reports ≡ Err e → IsFaultyLine most reports (lines bytes) e

-- lines that say calls, no more than may be, are read as those calls
abbrev pub SaidCallsAreRead : Type 0
SaidCallsAreRead = (bytes : List ℕ) (most reports : ℕ) (calls : List Call) → SayCalls most reports (lines bytes) calls → script_of bytes most reports ≡ Ok calls

-- a line at fault behind lines that say calls refuses the script
abbrev pub FaultyLineRefuses : Type 0
FaultyLineRefuses = (bytes : List ℕ) (most reports : ℕ) (e : ScriptFault) → IsFaultyLine most reports (lines bytes) e → script_of bytes most reports ≡ Err e
