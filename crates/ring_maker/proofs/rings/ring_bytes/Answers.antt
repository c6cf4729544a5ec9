use Rattle.cyc_text.proofs.WrittenLemmas.{first_section, next_section, one_written}
use Rattle.ring_maker.specs.Ring.{ring_lines}
use Rattle.ring_maker.proofs.rings.ring_bytes.Goals as goal

pub returns : goal.returns
unfolding ring_lines
returns c =
    next_section _ _ _ _
    (next_section _ _ _ _
    (next_section _ _ _ _
    (next_section _ _ _ _
    (first_section _ _ _ c.new-text.ensures.items c.in_ok-push_nets.ensures)
    c.in_ok-push_insts.ensures)
    c.in_ok-push_output_ticks.ensures)
    c.in_ok-push_complement_ticks.ensures)
    (one_written _ _ _ c.in_ok-push_root.ensures)
