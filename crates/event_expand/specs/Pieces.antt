-- Rules that are made piece by piece; no contract of the crate's public call speaks of them.
use Rattle.std.specs.Prelude.{◌≡◌, ℕ, ◌<◌, ◌++◌, List, [], map, IfOk, Result, Vec, slice_get}
use Rattle.std.specs.Option.{option_map_or}
use Rattle.std.specs.declared.alloc.AllocError.{AllocError}
use Rattle.std.specs.declared.alloc.Global.{Global}
use Rattle.cell_arcs.specs.declared.cells.Cell.{Cell}
use Rattle.netlist_model.specs.Circuit.{Circuit}
use Rattle.netlist_model.specs.Expansion.{rules_of_inst}
use Rattle.netlist_model.specs.declared.parts.NetRef.{NetRef}
use Rattle.netlist_model.specs.declared.parts.NetRef.TheVariants.{Net, Const}
use Rattle.rule_system.specs.declared.rules.Rule.{Rule}
use Rattle.event_expand.specs.Systems.{system_rule}

-- a pin on one of the first 16,384 nets, or on a constant
abbrev pub IsSmall : NetRef → Type 0
IsSmall (Net n) = n < 16384
IsSmall (Const k) = Unit {0}

-- the rules of the instance at a place
abbrev pub rules_at : List Cell → Circuit → ℕ → List Rule
rules_at library c at = map system_rule (option_map_or (rules_of_inst library c.ticks) (slice_get c.insts at) [])

-- these rules, or want of memory
abbrev pub Holds : List Rule → Result (Vec Rule Global) AllocError → Type 0
Holds rules piece = IfOk piece (λ v. v.items ≡ rules)

-- a piece becomes another by these rules at its end, or there is want of memory
abbrev pub Grows : List Rule → Result (Vec Rule Global) AllocError → Result (Vec Rule Global) AllocError → Type 0
Grows rules before after = (done : List Rule) → Holds done before → Holds (done ++ rules) after
