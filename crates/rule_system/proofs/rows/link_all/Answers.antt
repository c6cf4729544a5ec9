use Rattle.std.proofs.Common.{refl}
use Rattle.rule_system.proofs.Parts.{chains_back}
use Rattle.rule_system.proofs.rows.link_all.Goals as goal

pub places-preserved : goal.places-preserved
places-preserved c =
    rw (c.link.ensures.firsts, c.link.ensures.nexts)
    (chains_back _ _ _ _ _ _ _ c.places-test.true refl refl c.requires.ends c.places.invariant)
