-- The text of each reply, and of each refusal.
use Rattle.std.specs.Prelude.{ℕ, ℤ, pos, List, ◌++◌, codes, decimal, if◌then◌else◌, int_le}
use Rattle.std.specs.Io.BufRead.{strip_last}
use Rattle.session_machine.specs.declared.replies.Reply.{Reply}
use Rattle.session_machine.specs.declared.replies.Reply.TheVariants.{Pinned, Rebased, Published, Edited, Dropped, Draft, Period, Cycle, Arrival, Slack, Report, Refused}
use Rattle.session_machine.specs.declared.replies.Refusal.{Refusal}
use Rattle.session_machine.specs.declared.replies.Refusal.TheVariants as why
use Rattle.report_writer.specs.Pieces.{scaled}
use Rattle.report_writer.specs.FaultLines.{statement_text}

-- why a call is refused
abbrev pub refusal_text : Refusal → List ℕ
refusal_text why.NotPinned = codes "not pinned"
refusal_text why.DraftOpen = codes "draft open"
refusal_text (why.NoVersion head) = codes "no version " ++ decimal head
refusal_text why.EmptyDraft = codes "empty draft"
refusal_text (why.Undriven net) = codes "H1 " ++ net
refusal_text why.NoRoot = codes "H2"
refusal_text (why.IdleTick tick) = codes "H3 " ++ decimal tick
refusal_text (why.TooManyRules count) = codes "H4 " ++ decimal count
refusal_text (why.Unreached event) = codes "V1 " ++ event
refusal_text (why.NoReturn event) = codes "V2 " ++ event
refusal_text (why.Dead count event) = codes "V3 " ++ decimal count ++ codes " " ++ event
refusal_text (why.Stale head) = codes "stale " ++ decimal head
refusal_text why.Full = codes "full"
refusal_text (why.Edit edit e) = codes "edit " ++ decimal edit ++ codes " " ++ statement_text e
refusal_text (why.Statement e) = statement_text e
refusal_text why.NoEvent = codes "no event"
refusal_text why.NoFork = codes "no fork"

-- a fork is met exactly where its slack is at least 0
abbrev pub met_text : ℤ → List ℕ
met_text slack = if int_le (pos 0) slack then codes " met" else codes " missed"

-- a reply; a report stands on lines of its own, without the line feed at its end
abbrev pub reply_text : Reply → List ℕ
reply_text (Pinned version) = codes "pinned " ++ decimal version
reply_text (Rebased version) = codes "rebased " ++ decimal version
reply_text (Published version) = codes "published " ++ decimal version
reply_text (Edited count) = codes "edited " ++ decimal count
reply_text (Dropped count) = codes "dropped " ++ decimal count
reply_text (Draft count) = codes "draft " ++ decimal count
reply_text (Period period) = codes "period " ++ decimal period.top ++ codes "/" ++ decimal period.bottom
reply_text (Cycle count delay offset event) = codes "cycle " ++ decimal count ++ codes " " ++ decimal delay ++ codes " " ++ decimal offset ++ codes " " ++ event
reply_text (Arrival arrival bottom) = codes "arrival " ++ scaled bottom arrival
reply_text (Slack slack bottom) = codes "slack " ++ scaled bottom slack ++ met_text slack
reply_text (Report text) = codes "report\n" ++ strip_last 10 text
reply_text (Refused refusal) = codes "refused " ++ refusal_text refusal
