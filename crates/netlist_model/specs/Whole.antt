-- Whether a netlist is whole.
use Rattle.std.specs.Prelude.{◌≡◌, Result, MatchResult, ℕ, ◌+◌, not, Bool, nat_lt, if◌then◌else◌, List, [], ◌∷◌, Option, Some, None, option_map, is_none, position, length}
use Rattle.std.specs.List.{list_any}
use Rattle.cell_arcs.specs.declared.cells.Cell.{Cell}
use Rattle.cell_arcs.specs.Steps.{or_else}
use Rattle.netlist_model.specs.Circuit.{Circuit, driver_of, is_between}
use Rattle.netlist_model.specs.Expansion.{Rule, rules_of}
use Rattle.netlist_model.specs.declared.faults.WholeFault.{WholeFault}
use Rattle.netlist_model.specs.declared.faults.WholeFault.TheVariants.{Undriven, NoRoot, IdleTick, TooManyRules}
use Rattle.netlist_model.specs.declared.parts.Instance.{Instance}
use Rattle.netlist_model.specs.declared.parts.Tick.{Tick}

-- the first net that no instance drives; the first of the list has the place n
abbrev pub undriven_from : List Instance → ℕ → List (List ℕ) → Option ℕ
undriven_from insts n [] = None
undriven_from insts n (net ∷ nets) = if is_none (driver_of insts n) then Some n else undriven_from insts (n + 1) nets

-- whether there is no rule between the events of a tick
abbrev pub is_idle : List Rule → Tick → Bool
is_idle rules t = not (list_any (λ r. is_between r.source r.target t) rules)

-- the place of the first tick between whose events there is no rule
abbrev pub idle_of : List Cell → Circuit → Option ℕ
idle_of library c = position (is_idle (rules_of library c)) c.ticks

-- the fault of a net without driver; positions count from 1
abbrev pub undriven_fault : Circuit → Option WholeFault
undriven_fault c = option_map (λ n. Undriven (n + 1)) (undriven_from c.insts 0 c.nets)

-- the fault of a tick without rule
abbrev pub idle_fault : List Cell → Circuit → Option WholeFault
idle_fault library c = option_map (λ t. IdleTick (t + 1)) (idle_of library c)

-- the fault of a missing root
abbrev pub root_fault : Option ℕ → Option WholeFault
root_fault None = Some NoRoot
root_fault (Some r) = None

-- the fault of too many rules
abbrev pub count_fault : ℕ → Option WholeFault
count_fault count = if nat_lt 131072 count then Some (TooManyRules count) else None

-- the first of: a net without driver, no root, a tick without rule, too many rules
unfoldable pub whole_of : List Cell → Circuit → Option WholeFault
whole_of library c =
    or_else (undriven_fault c)
    (or_else (root_fault c.root)
    (or_else (idle_fault library c)
    (count_fault (length (rules_of library c)))))

-- the answer is the fault, where there is one
abbrev pub IsChecked : {A : Type 0} → Result A WholeFault → Option WholeFault → Type 0
IsChecked answer fault = MatchResult answer (λ _. fault ≡ None) (λ e. fault ≡ Some e)
