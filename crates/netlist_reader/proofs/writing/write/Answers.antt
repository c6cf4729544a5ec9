use Rattle.std.proofs.Common.{◌≡◌, ◌∙◌, ap}
use Rattle.netlist_reader.specs.Canonical as spec
use Rattle.netlist_reader.specs.NetlistFiles.{netlist_of}
use Rattle.netlist_reader.proofs.writing.write.Goals as goal

pub returns-clause-read_back : goal.returns-clause-read_back
returns-clause-read_back c =
    let is : c.in_ok-text.text ≡ spec.canonical_text c.args.library.now c.args.net.now = c.in_ok-text.ensures ∙ c.deref.ensures.value ∙ c.in_ok-written.ensures in
    ap (netlist_of c.args.library.now) is
    ∙ c.written_netlists_are_read_back.ensures c.args.library.now c.args.net.now c.sound.ensures c.sound-2.ensures c.requires
