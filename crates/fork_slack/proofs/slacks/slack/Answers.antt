use Rattle.std.proofs.Common.{arith}
use Rattle.std.proofs.lemmas.Int.{ints}
use Rattle.fork_slack.proofs.slacks.slack.Goals as goal

pub overflow_sub-result : goal.overflow_sub-result
overflow_sub-result c =
    let a = c.later-slow.ensures.within in
    let b = c.later-fast.ensures.within in
    omega (arith, ints)

pub returns : goal.returns
returns c =
    let a = c.later-slow.ensures.within in
    let b = c.later-fast.ensures.within in
    let v = rw c.top.ensures.top at c.later-slow.ensures.value in
    let w = rw c.bottom.ensures.bottom at c.later-fast.ensures.value in
    omega (arith, ints)
