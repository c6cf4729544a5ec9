-- Where want of memory may be told in a turn, and behind it.
use Rattle.std.specs.Prelude.{⊤}
use Rattle.session_calls.specs.declared.session.Ready.{Ready}
use Rattle.session_calls.specs.declared.session.Ready.TheVariants as ready
use Rattle.session_calls.specs.declared.session.Taken.{Taken}
use Rattle.session_calls.specs.declared.session.Taken.TheVariants as taken

-- a further handle on a row of the hall is wanted
abbrev pub WantsHandle : Ready → Type 0
WantsHandle (ready.Pass r) = ⊥
WantsHandle ready.Latest = ⊤
WantsHandle (ready.At n) = ⊤
WantsHandle ready.Rebase = ⊤
WantsHandle (ready.Publish a b) = ⊥

-- memory was wanting, or is taken for a draft on another row
abbrev pub WantsMemory : Taken → Type 0
WantsMemory (taken.Pass r) = ⊥
WantsMemory (taken.Pinned p) = ⊥
WantsMemory (taken.NoVersion h) = ⊥
WantsMemory (taken.Rebase p) = ⊤
WantsMemory (taken.Published n row) = ⊥
WantsMemory (taken.Stale h) = ⊥
WantsMemory taken.Full = ⊥
WantsMemory taken.Memory = ⊤
