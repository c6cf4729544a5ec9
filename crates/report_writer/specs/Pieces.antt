-- Pieces that several lines have.
use Rattle.std.specs.Prelude.{ℕ, ℤ, List, ◌++◌, codes, decimal}
use Rattle.std.specs.Fmt.{signed_decimal}
use Rattle.netlist_model.specs.EventNames.{event_name}
use Rattle.rule_system.specs.declared.rules.Rule.{Rule}

-- `V/k`, a number that is scaled by the period's bottom k; it is not reduced
abbrev pub scaled : ℕ → ℤ → List ℕ
scaled bottom number = signed_decimal number ++ codes "/" ++ decimal bottom

-- ` SOURCE TARGET`
abbrev pub ends : List (List ℕ) → Rule → List ℕ
ends nets rule = codes " " ++ event_name nets rule.source ++ codes " " ++ event_name nets rule.target

-- `I SOURCE TARGET DELAY OFFSET`, and the line's end
abbrev pub rule_words : List (List ℕ) → ℕ → Rule → List ℕ
rule_words nets number rule =
    decimal number ++ ends nets rule ++ codes " " ++ decimal rule.delay ++ codes " " ++ decimal rule.offset ++ codes "\n"
