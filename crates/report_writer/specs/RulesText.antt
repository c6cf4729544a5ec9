-- The text of the rules.
use Rattle.std.specs.Prelude.{◌+◌, ℕ, List, [], ◌∷◌, ◌++◌, length, codes, decimal}
use Rattle.netlist_model.specs.Circuit.{Circuit}
use Rattle.rule_system.specs.Bounds.{EventRules}
use Rattle.rule_system.specs.declared.rules.Rule.{Rule}
use Rattle.report_writer.specs.Pieces.{rule_words}

-- `events E rules R`
abbrev pub count_line : EventRules → List ℕ
count_line system = codes "events " ++ decimal system.events ++ codes " rules " ++ decimal (length system.rules) ++ codes "\n"

-- `rule I SOURCE TARGET DELAY OFFSET` for each rule, the first of which has the number
unfoldable pub rule_lines : List (List ℕ) → ℕ → List Rule → List ℕ
rule_lines nets number [] = []
rule_lines nets number (rule ∷ more) = codes "rule " ++ rule_words nets number rule ++ rule_lines nets (number + 1) more

-- the whole text: the counts, then the rules
abbrev pub rules_text : Circuit → EventRules → List ℕ
rules_text c system = count_line system ++ rule_lines c.nets 0 system.rules
