-- Ranks that show how events are joined.
use Rattle.std.specs.Prelude.{◌≡◌, ℕ, ◌<◌, List, length, get_or}
use Rattle.rule_system.specs.declared.rules.Rule.{Rule}
use Rattle.rule_system.specs.Rules.{source_of, target_of}

-- an event's rank
abbrev pub rank_of : List ℕ → ℕ → ℕ
rank_of ranks event = get_or ranks event 0

-- a rule leads to the event from one of lower rank
pub record ComesLower (rules : List Rule) (ranks : List ℕ) (event : ℕ) : Type 0 where
  pub number : ℕ
  pub inside : number < length rules
  pub to_it : target_of rules number ≡ event
  pub lower : rank_of ranks (source_of rules number) < rank_of ranks event

-- a rule leads from the event to one of lower rank
pub record GoesLower (rules : List Rule) (ranks : List ℕ) (event : ℕ) : Type 0 where
  pub number : ℕ
  pub inside : number < length rules
  pub from_it : source_of rules number ≡ event
  pub lower : rank_of ranks (target_of rules number) < rank_of ranks event
