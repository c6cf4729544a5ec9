-- What is told of a draft before its turn.
use Rattle.std.proofs.Common.{◌≡◌, ◌≢◌, ℕ, ◌==◌, false, List, [], ◌∷◌, length, Option, Some, None, Result, Ok, Err, refl, sym, ap, ◌∙◌, subst}
use Rattle.std.specs.Prelude.{IfOk, option_map, MatchOption, ⊤}
use Rattle.cell_arcs.specs.declared.cells.Cell.{Cell}
use Rattle.netlist_model.specs.Circuit.{Circuit}
use Rattle.netlist_model.specs.Edits.{edited}
use Rattle.netlist_model.specs.Sound.{IsNetlist}
use Rattle.netlist_model.specs.declared.edits.Edit.{Edit}
use Rattle.netlist_analysis.specs.Findings.{Finding, IsFinding, IsNetlistFault}
use Rattle.netlist_analysis.specs.declared.faults.NetlistFault.{NetlistFault}
use Rattle.netlist_analysis.specs.declared.faults.NetlistFault.TheVariants as net
use Rattle.session_script.specs.declared.calls.Call.TheVariants as call
use Rattle.session_machine.specs.Table.{blocked}
use Rattle.session_machine.specs.Versions.{after, or_before}
use Rattle.session_machine.specs.declared.replies.Refusal.{Refusal}
use Rattle.session_machine.specs.declared.replies.Reply.TheVariants as reply
use Rattle.pinned_reader.specs.Rows.{RowState, IsAfter}
use Rattle.query_replies.specs.Readings.{Analyses, readings_in, refusal_in, net_refusal}
use Rattle.session_calls.specs.declared.session.Held.{Held}
use Rattle.session_calls.specs.Ahead.{ahead_of, row_of, IsAhead}
use Rattle.session_calls.specs.declared.session.Ready.{Ready}
use Rattle.session_calls.specs.declared.session.Ready.TheVariants as ready
use Rattle.session_calls.specs.States.{SessionState, IsOver}
use Rattle.session_calls.specs.Turns.{stopped, IsOf, IsReady}

abbrev pub IsUnique : Type 0
IsUnique = (library : List Cell) (c : Circuit) (finding other : Finding) → IsFinding library c finding → IsFinding library c other → finding ≡ other

-- a fault is told by its refusal
pub fault_is_told : {E : Type 0} → IsUnique → (all : Analyses) (library : List Cell) (c : Circuit) (fault : NetlistFault) (answer : Result Refusal E)
    → IfOk answer (λ f. (fault ≢ net.Memory) × (f ≡ net_refusal c.nets fault)) → (fault ≢ net.Memory → IsNetlistFault library c fault) → IsNetlist c → all.library ≡ library
    → IfOk answer (λ f. refusal_in c.nets (all.tell c) ≡ Some f)
fault_is_told unique all library c fault (Err e) told holds sound is = tt
fault_is_told unique all library c fault (Ok f) told holds sound is =
    let found : IsFinding library c (Err fault) = holds told.0 in
    let tell : all.tell c ≡ Err fault = unique library c (all.tell c) (Err fault) (subst (λ l. IsFinding l c (all.tell c)) is (all.right c sound)) found in
    ap (refusal_in c.nets) tell ∙ ap (λ x. Some x) (sym told.1)

-- an accepted draft is told by no refusal
pub none_is_told : (all : Analyses) (row parent : RowState) (draft : List Edit) (ahead : Circuit) → IsAfter row parent → row.edits ≡ draft → edited parent.library draft parent.netlist ≡ Ok ahead → all.library ≡ parent.library
    → (all.library ≡ row.library → all.tell row.netlist ≡ Ok row.analysis) → refusal_in ahead.nets (all.tell ahead) ≡ None
none_is_told all row parent draft ahead next edits made over told =
    let ok : Ok row.netlist ≡ Ok ahead = sym next.netlist ∙ (ap (λ d. edited parent.library d parent.netlist) edits ∙ made) in
    let same : row.netlist ≡ ahead = cc (ok) in
    let tell = told (over ∙ sym next.library) in
    ap (refusal_in ahead.nets) (ap all.tell (sym same) ∙ tell)

by_draft : (all : Analyses) (c ahead : Circuit) (draft : List Edit) → (length draft == 0) ≡ false → after all.library c draft ≡ ahead → blocked all.library (readings_in all) (Some c) draft call.Publish ≡ refusal_in ahead.nets (all.tell ahead)
by_draft all c ahead [] some is = absurd (cc (some))
by_draft all c ahead (e ∷ es) some is = ap (λ d. refusal_in d.nets (all.tell d)) is

-- a draft is stopped by what is told of the netlist ahead
pub stopped_by : (all : Analyses) (s : SessionState) (h : Held) → s.pin ≡ Some (h.pin.number, row_of h) → IsAhead s.draft h → (row_of h).library ≡ all.library → (length s.draft == 0) ≡ false
    → stopped all s call.Publish ≡ refusal_in (ahead_of h).nets (all.tell (ahead_of h))
stopped_by all s h pin ahead over some =
    let row : RowState = row_of h in
    let made : after all.library row.netlist s.draft ≡ ahead_of h = (λ i. after (sym over i) row.netlist s.draft) ∙ ap (or_before row.netlist) ahead.made in
    ap (λ (p : Option (ℕ × RowState)). blocked all.library (readings_in all) (option_map (λ q. q.1.netlist) p) s.draft call.Publish) pin
    ∙ by_draft all row.netlist (ahead_of h) s.draft some made

-- a draft that is not refused is ready with its row
pub is_ready : {E : Type 0} (all : Analyses) (s : SessionState) (h : Held) (row : RowState) (answer : Result Ready E) → s.pin ≡ Some (h.pin.number, row_of h) → IsAhead s.draft h → (length s.draft == 0) ≡ false → IsOver all s
    → row.edits ≡ s.draft → IsAfter row (row_of h) → (all.library ≡ (row_of h).library → refusal_in (ahead_of h).nets (all.tell (ahead_of h)) ≡ None) → IfOk answer (IsOf row) → IfOk answer (λ r. IsReady all s call.Publish r)
is_ready all s h row (Err e) pin ahead some over edits next told is = tt
is_ready all s h row (Ok (ready.Pass r)) pin ahead some over edits next told is = absurd is
is_ready all s h row (Ok ready.Latest) pin ahead some over edits next told is = absurd is
is_ready all s h row (Ok (ready.At n)) pin ahead some over edits next told is = absurd is
is_ready all s h row (Ok ready.Rebase) pin ahead some over edits next told is = absurd is
is_ready all s h row (Ok (ready.Publish a b)) pin ahead some over edits next told is =
    let library : (row_of h).library ≡ all.library = subst (λ (p : Option (ℕ × RowState)). MatchOption p ⊤ (λ q. q.1.library ≡ all.library)) pin over in (
      refl,
      stopped_by all s h pin ahead library some ∙ told (sym library),
      is.1 ∙ sym is.0,
      record { number = h.pin.number; parent = row_of h; pin = pin; edits = ap (λ (r : RowState). r.edits) is.0 ∙ edits; follows = subst (λ (r : RowState). IsAfter r (row_of h)) (sym is.0) next },
    )

-- and one that is refused passes with its refusal
pub is_passed : (all : Analyses) (s : SessionState) (h : Held) (f : Refusal) (r : Ready) → s.pin ≡ Some (h.pin.number, row_of h) → IsAhead s.draft h → (length s.draft == 0) ≡ false → IsOver all s
    → (all.library ≡ (row_of h).library → refusal_in (ahead_of h).nets (all.tell (ahead_of h)) ≡ Some f) → r ≡ ready.Pass (reply.Refused f) → IsReady all s call.Publish r
is_passed all s h f r pin ahead some over told is =
    let library : (row_of h).library ≡ all.library = subst (λ (p : Option (ℕ × RowState)). MatchOption p ⊤ (λ q. q.1.library ≡ all.library)) pin over in
    subst (IsReady all s call.Publish) (sym is) (f, stopped_by all s h pin ahead library some ∙ told (sym library), refl)
