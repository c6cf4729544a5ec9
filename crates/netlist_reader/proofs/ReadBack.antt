-- Written netlists are read back.
use Rattle.std.proofs.Common.{List, [], ◌++◌, map, None, refl}
use Rattle.std.specs.List.{flat_map}
use Rattle.cyc_text.specs.ReadBack.{WordsReadBack, LinesReadBack}
use Rattle.cell_arcs.specs.IsLibrary.{IsLibrary}
use Rattle.cell_arcs.specs.declared.cells.Cell.{Cell}
use Rattle.netlist_model.specs.Circuit.{Circuit, nothing}
use Rattle.netlist_model.specs.Sound.{Fits, IsNetlist}
use Rattle.netlist_reader.specs.Canonical.{net_line, const_line, inst_line, delay_lines, tick_line, root_lines, fork_line, canonical_lines, canonical_text}
use Rattle.netlist_reader.specs.ReadBack.{NetlistsReadBack}
use Rattle.netlist_reader.proofs.Instances.{bare, insts_lead}
use Rattle.netlist_reader.proofs.Leads.{Leads, leads_append, leads_read}
use Rattle.netlist_reader.proofs.OwnDelays.{delays_lead}
use Rattle.netlist_reader.proofs.Sections.{parts_of, nets_lead, consts_lead, ticks_lead, root_leads, forks_lead}

-- the canonical lines lead from nothing to the netlist
all_lead : (library : List Cell) (c : Circuit) → IsLibrary library → IsNetlist c → Fits library c.insts → Leads library (canonical_lines library c) nothing c
unfolding canonical_lines
all_lead library c sound s fits =
    let nets = map net_line c.nets in
    let consts = map const_line c.consts in
    let insts = map (inst_line library c) c.insts in
    let delays = flat_map (delay_lines library) c.insts in
    let ticks = map (tick_line c.nets) c.ticks in
    let root = root_lines c.nets c.root in
    let forks = map (fork_line c.nets) c.forks in
    let one = leads_append library nets consts nothing (parts_of c.nets [] [] [] [] None) (parts_of c.nets c.consts [] [] [] None)
    (nets_lead library c.nets [] c.nets refl s.net_names s.nets_differ s.few_nets)
    (consts_lead library c.nets c.consts [] c.consts refl s.const_names s.consts_differ s.few_consts s.no_net_is_const) in
    let two = leads_append library (nets ++ consts) insts nothing (parts_of c.nets c.consts [] [] [] None) (parts_of c.nets c.consts (map bare c.insts) [] [] None)
    one (insts_lead library c [] c.insts sound s fits refl) in
    let three = leads_append library (nets ++ consts ++ insts) delays nothing (parts_of c.nets c.consts (map bare c.insts) [] [] None) (parts_of c.nets c.consts c.insts [] [] None)
    two (delays_lead library c [] c.insts sound s fits refl) in
    let four = leads_append library (nets ++ consts ++ insts ++ delays) ticks nothing (parts_of c.nets c.consts c.insts [] [] None) (parts_of c.nets c.consts c.insts c.ticks [] None)
    three (ticks_lead library c.nets c.consts c.insts c.ticks [] c.ticks refl s.net_names s.nets_differ s.ticks s.pairs_differ) in
    let five = leads_append library (nets ++ consts ++ insts ++ delays ++ ticks) root nothing (parts_of c.nets c.consts c.insts c.ticks [] None) (parts_of c.nets c.consts c.insts c.ticks [] c.root)
    four (root_leads library c.nets c.consts c.insts c.ticks c.root s.net_names s.nets_differ s.root) in
    leads_append library (nets ++ consts ++ insts ++ delays ++ ticks ++ root) forks nothing (parts_of c.nets c.consts c.insts c.ticks [] c.root) c
    five (forks_lead library c.nets c.consts c.insts c.ticks c.root c.forks [] c.forks refl s.net_names s.nets_differ s.forks s.forks_differ s.few_forks s.few_roots)

pub netlists_are_read_back : WordsReadBack → LinesReadBack → NetlistsReadBack
unfolding canonical_text
netlists_are_read_back words_back lines_back library c sound s fits = leads_read words_back lines_back library (canonical_lines library c) c (all_lead library c sound s fits)
