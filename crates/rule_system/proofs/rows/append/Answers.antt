use Rattle.std.proofs.Common.{arith, length, ◌≤◌}
use Rattle.rule_system.proofs.Parts.{whole_rest, shorter_rest, no_rest, all_stepped}
use Rattle.rule_system.proofs.rows.append.Goals as goal

pub links-init : goal.links-init
links-init c = λ row k. whole_rest _ _ _ _ k

pub links-preserved : goal.links-preserved
links-preserved c = λ row k.
    rw (c.next_of-at.ensures, c.in_ok-push.ensures.items)
    (shorter_rest _ _ _ _ _ _ (rw c.in-Some.is at (c.links.invariant row k)))

pub returns-after-links : goal.returns-after-links
returns-after-links c = λ row k l.
    all_stepped _ _ _ _ _ _ (let e : length c.args.nexts.now ≤ c.links.counter = c.links-test.false in omega arith) (c.links.invariant row k)

pub returns-in_default : goal.returns-in_default
returns-in_default c = λ row k l. no_rest _ _ _ _ _ (rw c.in_default.is at (c.links.invariant row k))
