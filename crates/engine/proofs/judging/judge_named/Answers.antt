use Rattle.std.proofs.Common.{rules, ◌≡◌, map, codes, true, false, refl}
use Rattle.std.specs.Str.{bytes_eq}
use Rattle.std.specs.String.{string_bytes}
use Rattle.engine.specs.Commands.{course_named, bench_of}
use Rattle.engine.proofs.judging.judge_named.Goals as goal

pub returns-then-eq-4-clause-may : goal.returns-then-eq-4-clause-may
returns-then-eq-4-clause-may g c =
    let words = map string_bytes c.args.words.now in
    let no_expand : bytes_eq c.args.name.now (codes "expand") ≡ false = search rules in
    let no_analyze : bytes_eq c.args.name.now (codes "analyze") ≡ false = search rules in
    let no_apply : bytes_eq c.args.name.now (codes "apply") ≡ false = search rules in
    let is_bench : bytes_eq c.args.name.now (codes "bench") ≡ true = search rules in
    let same : course_named c.args.name.now words ≡ bench_of words = rw (no_expand, no_analyze, no_apply, is_bench) refl in
    rw same (c.of_words-then-eq-4.ensures (g.F.Shelf.seen c.args.shelf.now))
