-- Kinds of calls.
use Rattle.std.specs.Prelude.{Bool, true, false}
use Rattle.session_script.specs.declared.calls.Call.{Call}
use Rattle.session_script.specs.declared.calls.Call.TheVariants.{Pin, PinAt, Rebase, Publish, Make, Drop, Draft, Period, Cycle, Arrival, Slack, Report}

-- a call that takes a place in the one order of all sessions
abbrev pub is_shared : Call → Bool
is_shared Pin = true
is_shared (PinAt number) = true
is_shared Rebase = true
is_shared Publish = true
is_shared (Make edit) = false
is_shared Drop = false
is_shared Draft = false
is_shared Period = false
is_shared Cycle = false
is_shared (Arrival event) = false
is_shared (Slack fork) = false
is_shared Report = false

-- a call for a whole report
abbrev pub is_report : Call → Bool
is_report Pin = false
is_report (PinAt number) = false
is_report Rebase = false
is_report Publish = false
is_report (Make edit) = false
is_report Drop = false
is_report Draft = false
is_report Period = false
is_report Cycle = false
is_report (Arrival event) = false
is_report (Slack fork) = false
is_report Report = true
