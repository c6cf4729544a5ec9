use Rattle.std.proofs.Common.{◌≡◌, List, map, drop, length, []}
use Rattle.std.specs.String.{string_bytes}
use Rattle.cyc_port.specs.Seen.{Later}
use Rattle.session_script.specs.declared.calls.Call.{Call}
use Rattle.engine.specs.Courses.{Course}
use Rattle.engine.specs.Files.{calls_left, reports_left, scripts_opened}
use Rattle.engine.specs.Steps.{Reaches}
use Rattle.engine.proofs.scripts.open_scripts.Given as goal

abbrev pub invariant-loop-name : goal.invariant-loop-name
invariant-loop-name g l = record {
  later : Later (g.F.Shelf.seen l.fn.shelf) (g.F.Shelf.seen l.shelf);
  count : length l.scripts.items ≡ l.name-index;
  calls : l.calls ≡ calls_left l.scripts.items;
  reports : l.reports ≡ reports_left l.scripts.items;
  reached : (next : List (List Call) → Course) → Reaches (g.F.Shelf.seen l.fn.shelf) (g.F.Shelf.seen l.shelf)
      (scripts_opened (map string_bytes l.names) [] next) (scripts_opened (map string_bytes (drop l.name-index l.names)) l.scripts.items next);
}
