-- What a call notes is what its session wants.
use Rattle.std.proofs.Common.{◌≡◌, ℕ, List, Option, Some, None, refl, sym, ap, ◌∙◌}
use Rattle.std.specs.Prelude.{option_map}
use Rattle.version_store.specs.declared.entry.HallAct.TheVariants as hall
use Rattle.netlist_model.specs.Circuit.{Circuit}
use Rattle.session_script.specs.declared.calls.Call.{Call}
use Rattle.session_machine.specs.Table.{blocked}
use Rattle.pinned_reader.specs.Rows.{RowState}
use Rattle.query_replies.specs.Readings.{Analyses, readings_in}
use Rattle.session_calls.specs.declared.session.Ready.{Ready}
use Rattle.session_calls.specs.declared.session.Ready.TheVariants as ready
use Rattle.session_calls.specs.States.{SessionState, holding_of, nets, Knows}
use Rattle.session_calls.specs.Turns.{IsReady, stopped, noted_act, base_number}
use Rattle.session_run.specs.Acts.{base_at, noted_at, noted_by}
use Rattle.session_calls.proofs.Rows.{pinned_is}

base_is : (pin : Option (ℕ × RowState)) → base_number pin ≡ base_at (option_map (λ p. p.0) pin)
base_is None = refl
base_is (Some p) = refl

noted_of : (all : Analyses) (s : SessionState) (c : Call) (wants : Ready) → IsReady all s c wants → noted_act s wants ≡ noted_at (stopped all s c) (option_map (λ p. p.0) s.pin) c
noted_of all s c (ready.Pass r) w = ap (λ f. noted_at f (option_map (λ p. p.0) s.pin) c) (sym w.1)
noted_of all s c ready.Latest w = sym (λ i. noted_at (w.1 i) (option_map (λ p. p.0) s.pin) (w.0 i))
noted_of all s c (ready.At n) w = sym (λ i. noted_at (w.1 i) (option_map (λ p. p.0) s.pin) (w.0 i))
noted_of all s c ready.Rebase w = sym (λ i. noted_at (w.1 i) (option_map (λ p. p.0) s.pin) (w.0 i))
noted_of all s c (ready.Publish a b) w = ap hall.Publish (base_is s.pin) ∙ sym (λ i. noted_at (w.1 i) (option_map (λ p. p.0) s.pin) (w.0 i))

-- over rows in which the pinned one stands
pub noted_is : (all : Analyses) (rs : List RowState) (s : SessionState) (c : Call) (wants : Ready) → Knows rs s → IsReady all s c wants → noted_act s wants ≡ noted_by all (nets rs) (holding_of s) c
noted_is all rs s c wants known w =
    noted_of all s c wants w ∙ ap (λ (p : Option Circuit). noted_at (blocked all.library (readings_in all) p s.draft c) (option_map (λ q. q.0) s.pin) c) (sym (pinned_is rs s known))
