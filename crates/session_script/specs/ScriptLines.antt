-- What the words of a script's line say.
use Rattle.std.specs.Prelude.{ℕ, if◌then◌else◌, List, [], ◌∷◌, Option, Some, None, option_and_then, codes}
use Rattle.std.specs.Str.{bytes_eq}
use Rattle.cyc_text.specs.Number.{number_of}
use Rattle.netlist_reader.specs.EditLines.{edit_of, event_word}
use Rattle.session_script.specs.declared.calls.Call.{Call}
use Rattle.session_script.specs.declared.calls.Call.TheVariants.{Pin, PinAt, Rebase, Publish, Make, Drop, Draft, Period, Cycle, Arrival, Slack, Report}

-- a call whose line has no further word
abbrev pub alone : Call → List (List ℕ) → Option Call
alone call [] = Some call
alone call (word ∷ words) = None

-- the words after `pin`: none, or the number of a version
abbrev pub pin_words : List (List ℕ) → Option Call
pin_words [] = Some Pin
pin_words (number ∷ []) = option_and_then (λ n. Some (PinAt n)) (number_of number)
pin_words words = None

-- the word after `arrival`: EVENT
abbrev pub arrival_words : List (List ℕ) → Option Call
arrival_words (event ∷ []) = option_and_then (λ e. Some (Arrival e)) (event_word event)
arrival_words words = None

-- the word after `slack`: any
abbrev pub slack_words : List (List ℕ) → Option Call
slack_words (fork ∷ []) = Some (Slack fork)
slack_words words = None

-- the call that a line's words say, if they say one: each edit line is one
unfoldable pub call_of : List (List ℕ) → Option Call
call_of [] = None
call_of (first ∷ words) =
    if bytes_eq first (codes "pin") then pin_words words
    else if bytes_eq first (codes "rebase") then alone Rebase words
    else if bytes_eq first (codes "publish") then alone Publish words
    else if bytes_eq first (codes "drop") then alone Drop words
    else if bytes_eq first (codes "draft") then alone Draft words
    else if bytes_eq first (codes "period") then alone Period words
    else if bytes_eq first (codes "cycle") then alone Cycle words
    else if bytes_eq first (codes "arrival") then arrival_words words
    else if bytes_eq first (codes "slack") then slack_words words
    else if bytes_eq first (codes "report") then alone Report words
    else option_and_then (λ e. Some (Make e)) (edit_of (first ∷ words))
