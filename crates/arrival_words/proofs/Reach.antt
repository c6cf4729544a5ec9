-- A walk with one more rule, and its weight.
use Rattle.std.proofs.Common.{◌≡◌, ℕ, ◌<◌, ℤ, ◌+ℤ◌, [], ◌∷◌, ◌++◌, length, refl, sym, ap, ◌∙◌, subst}
use Rattle.rule_system.specs.declared.rules.Rule.{Rule}
use Rattle.rule_system.specs.Rules.{rule_at, source_of, target_of}
use Rattle.rule_system.specs.Weights.{rule_weight}
use Rattle.rule_system.proofs.Walks.{walk_join}
use Rattle.rule_system.proofs.Arrivals.{push_weight}
use Rattle.arrival_words.specs.About.{About, IsReached}

reached_next : (a : About) (n : ℕ) (time : ℤ) → n < length a.rules → IsReached a (source_of a.rules n) time → IsReached a (target_of a.rules n) (time +ℤ rule_weight a.top a.bottom (rule_at a.rules n))
reached_next a n time inside r = record {
  walk = r.walk ++ n ∷ [];
  leads = walk_join a.rules a.root r.walk (source_of a.rules n) (n ∷ []) (target_of a.rules n) r.leads (inside, refl, refl);
  weighs = push_weight a.top a.bottom a.rules r.walk n ∙ ap (λ (y : ℤ). y +ℤ rule_weight a.top a.bottom (rule_at a.rules n)) r.weighs;
}

pub reached_further : (a : About) (n : ℕ) (rule : Rule) (time : ℤ) → n < length a.rules → rule ≡ rule_at a.rules n → IsReached a rule.source time → IsReached a rule.target (time +ℤ rule_weight a.top a.bottom rule)
reached_further a n rule time inside is r = subst (λ (r : Rule). IsReached a r.target (time +ℤ rule_weight a.top a.bottom r)) (sym is)
    (reached_next a n time inside (subst (λ (r : Rule). IsReached a r.source time) is r))
