-- Where rule numbers lead to.
use Rattle.std.proofs.Common.{◌≡◌, ℕ, List, [], ◌∷◌, sym, ap, ◌∙◌, subst, get_or}
use Rattle.rule_system.specs.declared.rules.Rule.{Rule}
use Rattle.rule_system.specs.Rules.{rule_at, source_of, target_of}
use Rattle.rule_system.specs.Walks.{IsCycle, IsWalk}

-- a list of rule numbers leads to one event at most
pub one_end : (rs : List Rule) (a : ℕ) (w : List ℕ) (b c : ℕ) → IsWalk rs a w b → IsWalk rs a w c → b ≡ c
one_end rs a [] b c h k = sym h ∙ k
one_end rs a (n ∷ w) b c h k = one_end rs (target_of rs n) w b c h.2 k.2

-- a cycle is a walk from its first rule's source back
pub from_first : (rs : List Rule) (w : List ℕ) (n : ℕ) (r : Rule) → n ≡ get_or w 0 n → r ≡ rule_at rs n → IsCycle rs w → IsWalk rs r.source w r.source
from_first rs [] n r at is c = absurd c
from_first rs (m ∷ w) n r at is c =
    let same : m ≡ n = sym at in
    let source : source_of rs m ≡ r.source = ap (source_of rs) same ∙ ap (λ (x : Rule). x.source) (sym is) in
    subst (λ s. IsWalk rs s (m ∷ w) s) source c
