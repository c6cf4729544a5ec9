use Rattle.std.proofs.Common.{◌≡◌, ℕ, suc, ◌<◌, ℤ, pos, List, length, get_or, refl, sym, ap, ◌∙◌, subst}
use Rattle.rule_system.specs.Bounds.{EventRules}
use Rattle.arrival_words.specs.About.{IsSound, IsWeightOfWalk, about}
use Rattle.arrival_words.specs.Views.{values_of}
use Rattle.arrival_words.proofs.Moves.{opens}
use Rattle.arrival_words.proofs.word_table.WordTable.open.Goals as goal

pub of_words-requires : goal.of_words-requires
of_words-requires c = let made = c.in_ok-words.ensures in let is : c.as_slice.result.now ≡ c.in_ok-words.words.items = c.as_slice.ensures.value in
    let was : c.args.system.now ≡ c.of.result.value = sym c.of.ensures in
    let start : values_of c.as_slice.result.now ≡ c.args.start.now = ap values_of is ∙ made.values in
    opens _ c.as_slice.result.now _ refl (ap (λ v. values_of v.items) c.of-2.ensures ∙ sym (ap values_of is))
    (subst (λ (y : EventRules). IsSound (about y c.args.root c.args.period)) was
    (record { system = c.sound.ensures.system; root = c.requires.root; period = c.requires.period; no_gain = c.requires.no_gain }))
    (ap (λ (l : List ℕ). get_or l 0 0) is ∙ made.first)
    (ap length is ∙ made.length ∙ ap suc (c.requires.start.0 ∙ ap (λ (y : EventRules). y.events) was))
    (λ e h. subst (λ (y : EventRules). IsWeightOfWalk (about y c.args.root c.args.period) e (get_or (values_of c.as_slice.result.now) e (pos 0))) was
    (subst (λ (l : List ℤ). IsWeightOfWalk (about c.args.system.now c.args.root c.args.period) e (get_or l e (pos 0))) (sym start)
    (let near : e < c.args.system.now.events = subst (λ (y : EventRules). e < y.events) (sym was) h in
    let walk = c.requires.start.1 e near in
    record {
      reached = record { walk = walk.0; leads = walk.1; weighs = walk.2 };
      within = c.requires.within e (pos 0) (subst (λ (n : ℕ). e < n) (sym c.requires.start.0) near);
    })))
