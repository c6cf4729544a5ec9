-- A system of one net that drives itself, whose events are A+ and A- as 0 and 1.
use Rattle.std.specs.Prelude.{ℤ, pos, negsuc, List, [], ◌∷◌}
use Rattle.rule_system.specs.declared.rules.Rule.{Rule}

-- its rules: A+ A+ 7 1, A- A+ 7 1, A+ A- 5 0, A- A- 5 1
abbrev pub one_net : List Rule
one_net =
    record { source = 0; target = 0; delay = 7; offset = 1 }
    ∷ record { source = 1; target = 0; delay = 7; offset = 1 }
    ∷ record { source = 0; target = 1; delay = 5; offset = 0 }
    ∷ record { source = 1; target = 1; delay = 5; offset = 1 } ∷ []

-- the weights at 12/1 of no rule, and of the rules 2 3
abbrev pub one_net_start : List ℤ
one_net_start = pos 0 ∷ negsuc 1 ∷ []
