-- The text of a report.
use Rattle.std.specs.Prelude.{◌+◌, ℕ, ℤ, pos, List, [], ◌∷◌, ◌++◌, length, codes, decimal, if◌then◌else◌, int_le}
use Rattle.cyc_num.specs.Ratio.{Fraction}
use Rattle.netlist_model.specs.Circuit.{Circuit}
use Rattle.netlist_model.specs.EventNames.{event_name}
use Rattle.netlist_model.specs.declared.parts.Fork.{Fork}
use Rattle.rule_system.specs.Bounds.{EventRules}
use Rattle.rule_system.specs.Rules.{rule_at, delay_sum, offset_sum}
use Rattle.rule_system.specs.declared.rules.Rule.{Rule}
use Rattle.analysis.specs.declared.analyses.Analysis.{Analysis}
use Rattle.report_writer.specs.Pieces.{scaled, rule_words}

-- `period P/k`
abbrev pub period_line : Fraction → List ℕ
period_line period = codes "period " ++ decimal period.top ++ codes "/" ++ decimal period.bottom ++ codes "\n"

-- `cycle LENGTH DELAY OFFSET`: how many rules the cycle has, and the sums along it
abbrev pub cycle_line : List Rule → List ℕ → List ℕ
cycle_line rules cycle =
    codes "cycle " ++ decimal (length cycle) ++ codes " " ++ decimal (delay_sum rules cycle) ++ codes " " ++ decimal (offset_sum rules cycle) ++ codes "\n"

-- `step I SOURCE TARGET DELAY OFFSET` for each rule of the cycle
unfoldable pub step_lines : List (List ℕ) → List Rule → List ℕ → List ℕ
step_lines nets rules [] = []
step_lines nets rules (n ∷ more) = codes "step " ++ rule_words nets n (rule_at rules n) ++ step_lines nets rules more

-- `arrival EVENT V/k`
abbrev pub arrival_line : List (List ℕ) → ℕ → ℕ → ℤ → List ℕ
arrival_line nets bottom event arrival = codes "arrival " ++ event_name nets event ++ codes " " ++ scaled bottom arrival ++ codes "\n"

-- a line for each event, the first of which has the number
unfoldable pub arrival_lines : List (List ℕ) → ℕ → ℕ → List ℤ → List ℕ
arrival_lines nets bottom event [] = []
arrival_lines nets bottom event (arrival ∷ more) = arrival_line nets bottom event arrival ++ arrival_lines nets bottom (event + 1) more

-- a fork is met exactly where its slack is at least 0
abbrev pub met_word : ℤ → List ℕ
met_word slack = if int_le (pos 0) slack then codes " met\n" else codes " missed\n"

-- `fork NAME V/k met` or `fork NAME V/k missed`
abbrev pub fork_line : ℕ → List ℕ → ℤ → List ℕ
fork_line bottom name slack = codes "fork " ++ name ++ codes " " ++ scaled bottom slack ++ met_word slack

-- a line for each fork
unfoldable pub fork_lines : ℕ → List Fork → List ℤ → List ℕ
fork_lines bottom [] slacks = []
fork_lines bottom (fork ∷ forks) [] = []
fork_lines bottom (fork ∷ forks) (slack ∷ slacks) = fork_line bottom fork.name slack ++ fork_lines bottom forks slacks

-- the whole report: the period, the critical cycle and its rules, the arrivals, the forks, and `end`
abbrev pub report_text : Circuit → EventRules → Analysis → List ℕ
report_text c system analysis =
    period_line analysis.period
    ++ cycle_line system.rules analysis.cycle
    ++ step_lines c.nets system.rules analysis.cycle
    ++ arrival_lines c.nets analysis.period.bottom 0 analysis.arrivals
    ++ fork_lines analysis.period.bottom c.forks analysis.slacks
    ++ codes "end\n"
