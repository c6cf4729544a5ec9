use Rattle.std.proofs.Common.{◌≡◌, inl, inr}
use Rattle.analysis.proofs.Roots.{one_root_more, root_again}
use Rattle.analysis.proofs.slacks.other_roots.Goals.{then-own-root+then-not-is_among+in_ok-push, else-own-root, else-own-root-via-then-own-root+else-not-is_among, else-own-root-via-else-own-root}
use Rattle.analysis.proofs.slacks.other_roots.Goals as goal

pub forks-preserved : goal.forks-preserved
forks-preserved c =
    elim c.if-own-root.branch [
      | then-own-root+then-not-is_among+in_ok-push w ↦ rw (w.roots-is, w.in_ok-push.ensures.items) (one_root_more _ _ _ _ c.forks-test.true c.forks.invariant)
      | else-own-root w ↦
          elim w.else-own-root.branch [
            | else-own-root-via-then-own-root+else-not-is_among v ↦ rw w.roots-is (root_again _ _ _ _ (inr (rw v.deref.ensures.value at v.is_among.ensures v.if-not-is_among.false)) c.forks.invariant)
            | else-own-root-via-else-own-root v ↦ rw w.roots-is (root_again _ _ _ _ (inl v.if-own-root.false) c.forks.invariant)
          ]
    ]
