use Rattle.std.proofs.Common.{◌≡◌, Some, ap}
use Rattle.cyc_port.specs.Files.{Files}
use Rattle.cyc_port.specs.MemoryShelf.{Answers, answer_of, shelf_after}
use Rattle.cyc_port.proofs.ShelfSteps.{files_stay, faults_stay, long_stay, failed_rose, long_rose, long_file, whole_file}
use Rattle.cyc_port.proofs.memory.MemShelfShelf.read_all.Goals as goal

pub returns : goal.returns
returns c =
    let shelf = c.args.self.now in
    let name = c.args.name.now in
    let r = c.read.result in
    let answers : Answers (answer_of shelf name) r = rw c.as_bytes.ensures.value at c.read.ensures.answers in
    let after : c.read.new.self ≡ shelf_after r shelf name = rw c.as_bytes.ensures.value at c.read.ensures.after in
    record {
      answers = answers;
      after = after;
      later = rw after (record {
        files = ap (λ (m : Files). Some m) (files_stay r shelf name);
        faults = faults_stay r shelf name;
        long_reads = long_stay r shelf name;
      });
      text = whole_file r shelf name answers;
      failed = rw after (failed_rose r shelf name);
      too_long = rw after (long_rose r shelf name answers);
      is_long = long_file r shelf name answers;
    }
