use Rattle.cyc_port.specs.Files.{file_limit}
use Rattle.std.specs.Prelude.{◌+◌}
use Rattle.cyc_port.proofs.Reading.{front_of}
use Rattle.cyc_port.proofs.file_shelf.read_front.Goals as goal

pub returns-clause-front : goal.returns-clause-front
returns-clause-front g c =
    front_of g.F.Read.remaining c.args.opened c.take.result.inner c.take.result.limit (file_limit + 1) c.new-bytes.result.items c.read_to_end.new.buf.items
    (rw c.take.ensures.inner c.in_ok-opened.was) c.take.ensures.limit c.new-bytes.ensures.items c.in_ok-read_to_end.ensures.bytes
