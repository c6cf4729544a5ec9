-- The netlist that a session keeps after its draft.
use Rattle.std.proofs.Common.{◌≡◌, ◌==◌, ℕ, true, length, arith, List, [], ◌∷◌, ◌++◌, Option, Some, None, Result, Ok, Err, refl, sym, ap, ◌∙◌, subst}
use Rattle.std.specs.Prelude.{option_map, IfOk}
use Rattle.std.specs.Arc.{arc_value}
use Rattle.std.proofs.lemmas.Bool.Decides.{nat_tests}
use Rattle.cell_arcs.specs.declared.cells.Cell.{Cell}
use Rattle.netlist_model.specs.Circuit.{Circuit}
use Rattle.netlist_model.specs.Edits.{made, edited, edited_from}
use Rattle.netlist_model.specs.Sound.{Fits}
use Rattle.netlist_model.specs.declared.edits.Edit.{Edit}
use Rattle.netlist_model.specs.declared.faults.StatementFault.{StatementFault}
use Rattle.session_machine.specs.declared.replies.Refusal.{Refusal}
use Rattle.pinned_reader.specs.Rows.{RowState}
use Rattle.pinned_reader.specs.declared.queries.Pinned.{Pinned}
use Rattle.session_calls.specs.declared.session.Held.{Held}
use Rattle.session_calls.specs.Ahead.{row_of, ahead_in, ahead_of, HoldsAhead, Tried, Renewed, Moved, FitsAhead, edit_refusal, edit_left}
use Rattle.session_calls.specs.States.{SessionState}
use Rattle.session_calls.specs.Turns.{IsNext}

edited_none : (library : List Cell) (c : Circuit) → edited library [] c ≡ Ok c
unfolding edited_from
edited_none library c = refl

edited_one : (library : List Cell) (c d : Circuit) (e : Edit) → made library c e ≡ Ok d → edited library (e ∷ []) c ≡ Ok d
unfolding edited_from
edited_one library c d e is = rw is refl

abbrev pub AreJoined : Type 0
AreJoined = (library : List Cell) (c m d : Circuit) (one other : List Edit) → edited library one c ≡ Ok m → edited library other m ≡ Ok d → edited library (one ++ other) c ≡ Ok d

accepted : (r : Result Circuit StatementFault) (c : Circuit) → None ≡ edit_refusal r → r ≡ Ok (edit_left c r)
accepted (Ok d) c e = refl
accepted (Err f) c e = absurd (cc)

-- an edit more
pub ahead_more : AreJoined → (old new : Option Held) (draft longer : List Edit) (e : Edit) (r : Option Refusal) → HoldsAhead draft old → Tried e old new r → r ≡ None → longer ≡ draft ++ e ∷ [] → FitsAhead new → HoldsAhead longer new
ahead_more joined None None draft longer e r was tried none is fits = tt
ahead_more joined None (Some k) draft longer e r was tried none is fits = absurd tried
ahead_more joined (Some h) None draft longer e r was tried none is fits = absurd tried
ahead_more joined (Some h) (Some k) draft longer e r was tried none is fits =
    let m = made (row_of h).library (ahead_of h) e in
    let ok : m ≡ Ok (ahead_of k) = accepted m (ahead_of h) (sym none ∙ tried.1) ∙ ap (λ c. Ok c) (sym tried.2) in
    let all : edited (row_of h).library (draft ++ e ∷ []) (row_of h).netlist ≡ Ok (ahead_of k) =
    joined (row_of h).library (row_of h).netlist (ahead_of h) (ahead_of k) draft (e ∷ []) was.made (edited_one (row_of h).library (ahead_of h) (ahead_of k) e ok) in
    record {
      made = (λ i. edited (arc_value (tried.0 i).row).library (is i) (arc_value (tried.0 i).row).netlist) ∙ all;
      fits = fits;
    }

-- no edit
pub ahead_none : (old new : Option Held) (draft : List Edit) → Renewed old new → draft ≡ [] → HoldsAhead draft new
ahead_none None None draft renewed none = tt
ahead_none None (Some k) draft renewed none = absurd renewed
ahead_none (Some h) None draft renewed none = absurd renewed
ahead_none (Some h) (Some k) draft renewed none = record {
  made = (λ i. edited (arc_value (renewed.0 i).row).library (none i) (arc_value (renewed.0 i).row).netlist) ∙ (edited_none (row_of h).library (row_of h).netlist ∙ ap (λ c. Ok c) (sym renewed.1));
  fits = subst (λ (p : Pinned). Fits (arc_value p.row).library (ahead_of k).insts) (sym renewed.0) renewed.2;
}

pub ahead_here : (row : RowState) (draft : List Edit) → draft ≡ [] → edited row.library draft row.netlist ≡ Ok row.netlist
ahead_here row draft none = (λ i. edited row.library (none i) row.netlist) ∙ edited_none row.library row.netlist

zero_of : (n : ℕ) → (n == 0) ≡ true → n ≡ 0
zero_of n h = grind (arith, nat_tests)

pub no_edits : (row : RowState) (draft : List Edit) → (length draft == 0) ≡ true → edited row.library draft row.netlist ≡ Ok row.netlist
no_edits row [] none = edited_none row.library row.netlist
no_edits row (e ∷ es) none = absurd (let z = zero_of (length (e ∷ es)) none in omega arith)

abbrev row_in : RowState → Option (ℕ × RowState) → RowState
row_in row None = row
row_in row (Some p) = p.1

abbrev pin_in : Option Held → Option (ℕ × RowState)
pin_in held = option_map (λ h. (h.pin.number, row_of h)) held

-- what was edited is the row's netlist, and where nothing was, the row's netlist stands for it
there : (row parent : RowState) (edited : Option Circuit) → ahead_in parent edited ≡ row.netlist → ahead_in row edited ≡ row.netlist
there row parent None is = refl
there row parent (Some c) is = is

-- the draft as a version
pub ahead_next : (s : SessionState) (old new : Option Held) (pin : Pinned) (draft none : List Edit) → IsNext s (arc_value pin.row) → pin_in old ≡ s.pin → draft ≡ s.draft → HoldsAhead draft old → Moved pin old new → none ≡ []
    → Fits (arc_value pin.row).library (arc_value pin.row).netlist.insts → HoldsAhead none new
ahead_next s None None pin draft none next pinned same was moved is fits = tt
ahead_next s None (Some k) pin draft none next pinned same was moved is fits = absurd moved
ahead_next s (Some h) None pin draft none next pinned same was moved is fits = absurd moved
ahead_next s (Some h) (Some k) pin draft none next pinned same was moved is fits =
    let row : RowState = arc_value pin.row in
    let one : Some (h.pin.number, row_of h) ≡ Some (next.number, next.parent) = pinned ∙ next.pin in
    let parent : row_of h ≡ next.parent = ap (row_in (row_of h)) one in
    let edits : draft ≡ row.edits = same ∙ sym next.edits in
    let ok : Ok (ahead_of h) ≡ Ok row.netlist = sym was.made ∙ ((λ i. edited (parent i).library (edits i) (parent i).netlist) ∙ next.follows.netlist) in
    let same : ahead_of h ≡ row.netlist = cc (ok) in
    let ahead : ahead_of k ≡ row.netlist = (λ i. ahead_in (arc_value (moved.0 i).row) (moved.1 i)) ∙ there row (row_of h) h.edited same in
    record {
      made = (λ i. edited (arc_value (moved.0 i).row).library (is i) (arc_value (moved.0 i).row).netlist) ∙ (edited_none row.library row.netlist ∙ ap (λ c. Ok c) (sym ahead));
      fits = subst (λ (q : Pinned × Circuit). Fits (arc_value q.0.row).library q.1.insts) (λ i. (sym moved.0 i, sym ahead i)) fits;
    }

-- what holds of a value holds of the answer that is it
pub if_ok : {A E : Type 0} (answer : Result A E) (value : A) (P : A → Type 0) → IfOk answer (λ x. x ≡ value) → P value → IfOk answer P
if_ok (Ok x) value P is h = subst P (sym is) h
if_ok (Err e) value P is h = tt

pub renewed_some : (old : Option Held) (h k : Held) → old ≡ Some h → k.pin ≡ h.pin → ahead_of k ≡ (row_of h).netlist → Fits (row_of h).library (ahead_of k).insts → Renewed old (Some k)
renewed_some old h k is pin ahead fits = subst (λ o. Renewed o (Some k)) (sym is) (pin, ahead, fits)
