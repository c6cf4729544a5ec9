use Rattle.std.proofs.Common.{◌≡◌, drop}
use Rattle.session_run.specs.Filled.{put_all}
use Rattle.session_run.proofs.threads.filled.fill.Given as goal

abbrev pub invariant-loop-place : goal.invariant-loop-place
invariant-loop-place l = put_all l.number (drop l.place-index l.places) l.order ≡ put_all l.number l.places l.initial.order
