use Rattle.std.proofs.Common.{ℕ, ◌+◌, ◌-◌, ◌/◌, length, subst}
use Rattle.arrival_words.specs.Known.{Knowledge, Relaxes, NothingSinks}
use Rattle.relax_rounds.specs.Parts.{part_begin}
use Rattle.relax_rounds.proofs.Joining.{sinks-trans, relaxes_wider, relaxes_both}
use Rattle.relax_rounds.proofs.parts.+halves.Goals as goal

pub relax_parts-returns-clause-kept : goal.relax_parts-returns-clause-kept
relax_parts-returns-clause-kept g t c =
    sinks-trans _ _ _ (subst (λ (k : Knowledge). NothingSinks k.known c.relax_halves.new.seat.known) c.split-other.ensures.seat c.relax_halves.ensures.kept) c.join.ensures.kept

pub relax_parts-returns-clause-relaxed : goal.relax_parts-returns-clause-relaxed
relax_parts-returns-clause-relaxed g t c =
    let a = c.args.words.now.about in
    let n : ℕ = length a.rules in
    let from : ℕ = part_begin n c.args.workers c.args.first in
    let cut : ℕ = part_begin n c.args.workers (c.args.first + (c.args.last - c.args.first) / 2) in
    let to : ℕ = part_begin n c.args.workers c.args.last in
    relaxes_both a from cut to _ _
    (subst (λ (k : Knowledge). Relaxes a from cut k.known c.join.new.seat.known) c.split-other.ensures.seat (relaxes_wider a from cut _ _ _ c.relax_halves.ensures.front c.join.ensures.kept))
    (subst (λ (k : Knowledge). Relaxes a cut to k.known c.join.new.seat.known) c.split-other.ensures.given (relaxes_wider a cut to _ _ _ c.relax_halves.ensures.back c.join.ensures.gained))
