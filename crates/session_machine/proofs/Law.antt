-- All sessions alone are the machine along their order.
use Rattle.std.proofs.Common.{◌≡◌, ℕ, true, false, cond, List, [], ◌∷◌, length, ◌==◌, refl, sym, ap, ◌∙◌, arith}
use Rattle.std.specs.List.{filter}
use mathlib.Core.Logic.{dite}
use native.Mathlib.Decide.{dec_le}
use Rattle.session_machine.specs.Orders.{times, script_of, shared_calls}
use Rattle.session_machine.specs.Machine.{Machine, given_by}
use Rattle.session_machine.specs.Alone.{Place, order_of, places_of, given_at, own, Agrees}
use Rattle.session_machine.specs.Laws.{IsQuiet, IsOneOrder}
use Rattle.session_machine.proofs.Runs.{one_order}
use Rattle.session_machine.proofs.Scripts.{none_before, none_outside}

-- a number that does not stand in an order has no place
no_places : {V : Type 0} (s : ℕ) (places : List (Place V)) → times s (order_of places) ≡ 0 → places_of s places ≡ []
no_places s [] h = refl
no_places s (p ∷ ps) h = elim (p.session == s) as (λ b. length (cond b (p.session ∷ filter (λ k. k == s) (order_of ps)) (filter (λ k. k == s) (order_of ps))) ≡ 0 → cond b (p ∷ places_of s ps) (places_of s ps) ≡ []) [
  | true ↦ λ k. absurd (omega arith)
  | false ↦ λ k. no_places s ps k
] h

module _ {C R S V : Type 0} (machine : Machine C R S V) (places : List (Place V)) (scripts : List (List C)) where
  -- a session that there is not publishes nothing, and has no place
  agrees_outside : (s : ℕ) → times s (order_of places) ≡ shared_calls machine.shared (script_of scripts s) → script_of scripts s ≡ [] → Agrees machine places scripts s
  agrees_outside s count none =
      let no_times : times s (order_of places) ≡ 0 = count ∙ ap (shared_calls machine.shared) none in
      ap given_at (no_places s places no_times) ∙ ap (λ l. given_by machine.shared (own machine places s l)) (sym none)

pub all_alone : {C R S V : Type 0} (machine : Machine C R S V) → IsQuiet machine → IsOneOrder machine
all_alone machine quiet scripts places order agree = one_order machine quiet scripts places order (λ s.
    dite (dec_le 1 s)
    (λ from. dite (dec_le s (length scripts)) (λ upto. agree s from upto) (λ above. agrees_outside machine places scripts s (order s) (none_outside 1 s scripts (omega arith))))
    (λ below. agrees_outside machine places scripts s (order s) (none_before 1 s scripts (omega arith))))
