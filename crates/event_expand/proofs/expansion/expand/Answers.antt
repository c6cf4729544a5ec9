use Rattle.std.proofs.Common.{ℕ, ◌*◌, ap, ◌∙◌}
use Rattle.rayon.proofs.ListFacts.{IfOk-then}
use Rattle.event_expand.proofs.Bounds.{expanded_is_system}
use Rattle.event_expand.proofs.PieceLemmas.{joined, same_system}
use Rattle.event_expand.proofs.expansion.expand.Goals as goal

pub build-requires : goal.build-requires
build-requires g c =
    let rules = joined c.args.library.now c.args.net.now c.in_ok-pieces.pieces.items c.deref.result.now c.in_ok-rules.rules.items c.deref.ensures.value c.in_ok-pieces.ensures c.in_ok-rules.ensures.ok in
    expanded_is_system c.args.library.now c.args.net.now _ _ c.sound.ensures c.net_count.ensures.sound c.requires.few
    (ap (λ n. 2 * n) c.net_count.ensures.count) rules

pub returns : goal.returns
returns g c =
    let rules = joined c.args.library.now c.args.net.now c.in_ok-pieces.pieces.items c.deref.result.now c.in_ok-rules.rules.items c.deref.ensures.value c.in_ok-pieces.ensures c.in_ok-rules.ensures.ok in
    let events = ap (λ (n : ℕ). 2 * n) c.net_count.ensures.count in
    IfOk-then c.build.result _ _ c.build.ensures (λ s is. is ∙ same_system _ _ _ _ events rules)
