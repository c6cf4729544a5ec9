use Rattle.netlist_reader.specs.Canonical.{canonical_lines, canonical_text}
use Rattle.cyc_text.proofs.WrittenLemmas.{first_section, next_section}
use Rattle.netlist_reader.proofs.writing.text_of.Goals as goal

pub returns : goal.returns
unfolding canonical_lines canonical_text
returns c =
    next_section _ _ _ _
    (next_section _ _ _ _
    (next_section _ _ _ _
    (next_section _ _ _ _
    (next_section _ _ _ _
    (next_section _ _ _ _
    (first_section _ _ _ c.new-text.ensures.items c.in_ok-push_nets.ensures)
    c.in_ok-push_consts.ensures)
    c.in_ok-push_insts.ensures)
    c.in_ok-push_delays.ensures)
    c.in_ok-push_ticks.ensures)
    c.in_ok-push_root.ensures)
    c.in_ok-push_forks.ensures
