-- The text of a ring's analysis.
use Rattle.std.specs.Prelude.{ℕ, ℤ, pos, List, [], ◌∷◌, ◌++◌, length, codes, decimal, fold}
use Rattle.std.specs.Int.{int_min, int_max}
use Rattle.netlist_model.specs.Circuit.{Circuit}
use Rattle.rule_system.specs.Bounds.{EventRules}
use Rattle.analysis.specs.declared.analyses.Analysis.{Analysis}
use Rattle.report_writer.specs.Pieces.{scaled}
use Rattle.report_writer.specs.Report.{period_line, cycle_line}

-- the least of some numbers, of which there is one at least
abbrev pub least_of : List ℤ → ℤ
least_of [] = pos 0
least_of (x ∷ xs) = fold int_min x xs

-- the greatest of some numbers, of which there is one at least
abbrev pub greatest_of : List ℤ → ℤ
greatest_of [] = pos 0
greatest_of (x ∷ xs) = fold int_max x xs

-- `bench STAGES`
abbrev pub stages_line : ℕ → List ℕ
stages_line stages = codes "bench " ++ decimal stages ++ codes "\n"

-- `nets N events E rules R`
abbrev pub sizes_line : Circuit → EventRules → List ℕ
sizes_line c system =
    codes "nets " ++ decimal (length c.nets) ++ codes " events " ++ decimal system.events
    ++ codes " rules " ++ decimal (length system.rules) ++ codes "\n"

-- `arrivals LEAST/k GREATEST/k`
abbrev pub span_line : ℕ → List ℤ → List ℕ
span_line bottom arrivals =
    codes "arrivals " ++ scaled bottom (least_of arrivals) ++ codes " " ++ scaled bottom (greatest_of arrivals) ++ codes "\n"

-- the whole text: the ring's stages and sizes, the period, the critical cycle, the least and the greatest arrival, and `end`
abbrev pub bench_text : ℕ → Circuit → EventRules → Analysis → List ℕ
bench_text stages c system analysis =
    stages_line stages ++ sizes_line c system ++ period_line analysis.period ++ cycle_line system.rules analysis.cycle
    ++ span_line analysis.period.bottom analysis.arrivals ++ codes "end\n"
