-- What a turn in the hall does.
use Rattle.std.proofs.Common.{◌≡◌, ℕ, ◌+◌, ◌<◌, ◌≤◌, ◌==◌, ◌&&◌, ◌⊎◌, inl, inr, ⊎_elim, Bool, true, false, cond, List, [], ◌∷◌, length, Option, Some, None, Result, Ok, Err, refl, sym, ap, ◌∙◌, subst, arith, Global}
use Rattle.std.specs.Prelude.{slice_get, nat_lt, option_map}
use Rattle.std.specs.Arc.{arc_value}
use Rattle.std.specs.declared.sync.Arc.{Arc}
use Rattle.std.proofs.lemmas.Bool.Decides.{nat_tests}
use Rattle.netlist_model.specs.Circuit.{Circuit}
use Rattle.netlist_model.specs.Edits.{edited}
use Rattle.netlist_model.specs.declared.edits.Edit.{Edit}
use Rattle.netlist_model.specs.declared.faults.EditFault.{EditFault}
use Rattle.netlist_model.specs.declared.faults.EditFault.TheVariants as edit
use Rattle.version_store.specs.declared.entry.HallAct.{HallAct}
use Rattle.version_store.specs.declared.entry.HallAct.TheVariants as act
use Rattle.version_store.specs.declared.state.HallState.{HallState}
use Rattle.version_store.specs.declared.hall.Pin.{Pin}
use Rattle.version_store.specs.declared.faults.HallFault.{HallFault}
use Rattle.version_store.specs.declared.faults.HallFault.TheVariants as fault
use Rattle.version_store.specs.Halls.{Chain, noted, rows_of, published, row_limit}
use Rattle.version_store.specs.Halls as halls
use Rattle.version_store.specs.Answers.{IsPin, answer_of}
use Rattle.session_script.specs.Calls.{is_shared}
use Rattle.session_script.specs.declared.calls.Call.{Call}
use Rattle.session_script.specs.declared.calls.Call.TheVariants as call
use Rattle.session_machine.specs.Table.{Holding, Act, open_fault, pinned, blocked, local, in_turn, only_replies, refuses, unless_refused, pinned_at, rebased, new_version, is_at}
use Rattle.session_machine.specs.declared.replies.Reply.{Reply}
use Rattle.session_machine.specs.declared.replies.Reply.TheVariants as reply
use Rattle.session_machine.specs.declared.replies.Refusal.{Refusal}
use Rattle.session_machine.specs.declared.replies.Refusal.TheVariants as refusal
use Rattle.pinned_reader.specs.Rows.{RowState, IsAfter}
use Rattle.pinned_reader.specs.declared.rows.Row.{Row}
use Rattle.query_replies.specs.Readings.{Analyses, readings_in}
use Rattle.session_calls.specs.declared.session.Ready.{Ready}
use Rattle.session_calls.specs.declared.session.Ready.TheVariants as ready
use Rattle.session_calls.specs.declared.session.Taken.{Taken}
use Rattle.session_calls.specs.declared.session.Taken.TheVariants as taken
use Rattle.session_calls.specs.States.{SessionState, holding_of, net_of, nets, rows, Knows, act_on}
use Rattle.session_calls.specs.Turns.{stopped, IsNext, IsTaken, Entered, Turned, noted_act, base_number}
use Rattle.session_calls.proofs.Rows.{pinned_is, head_is, newest_is, rows_same, rows_more, head_row, last_row, one_library}

not_lt : (a b : ℕ) → b ≤ a → nat_lt a b ≡ false
not_lt a b h = grind (arith, nat_tests)

is_lt : (a b : ℕ) → a < b → nat_lt a b ≡ true
is_lt a b h = grind (arith, nat_tests)

empty_draft : (draft : List Edit) → open_fault draft ≡ None → draft ≡ []
empty_draft [] e = refl
empty_draft (x ∷ xs) e = absurd (cc)

module _ (all : Analyses) (rs : List RowState) (s : SessionState) (c : Call) (known : Knows rs s) (sh : is_shared c ≡ true) where
  abbrev there : Act
  there = in_turn all.library (readings_in all) (nets rs) (holding_of s) c

  -- a shared call, by its first refusal that holds whatever is newest
  turned : act_on all rs s c ≡ unless_refused (stopped all s c) (holding_of s) there
  turned =
      let l = local all.library (readings_in all) (pinned (nets rs) (holding_of s)) (holding_of s) c in
      ap (λ b. cond b (unless_refused (blocked all.library (readings_in all) (pinned (nets rs) (holding_of s)) s.draft c) (holding_of s) there) (only_replies l.0 l.1)) sh
      ∙ ap (λ (p : Option Circuit). unless_refused (blocked all.library (readings_in all) p s.draft c) (holding_of s) there) (pinned_is rs s known)

  pub goes : stopped all s c ≡ None → act_on all rs s c ≡ there
  goes none = turned ∙ ap (λ (o : Option Refusal). unless_refused o (holding_of s) there) none

  pub halts : (f : Refusal) → stopped all s c ≡ Some f → act_on all rs s c ≡ refuses (holding_of s) f
  halts f some = turned ∙ ap (λ (o : Option Refusal). unless_refused o (holding_of s) there) some

module _ (all : Analyses) (h k : HallState RowState) (s : SessionState) (c : Call) (known : Knows (rows h) s) where
  abbrev m : Act
  m = act_on all (rows h) s c

  pub pass_turned : (f : Refusal) (r : Reply) → is_shared c ≡ true → stopped all s c ≡ Some f → r ≡ reply.Refused f → k ≡ noted h s.number act.Pass None → Turned s m h k (ready.Pass r) (taken.Pass r)
  pass_turned f r sh some is note =
      let e = halts all (rows h) s c known sh f some in
      record {
        taken = record { act = e ∙ ap (only_replies (holding_of s)) (sym is); stands = tt };
        entered = record { row = None; entry = note; gives = sym (ap (λ (m : Act). m.gives) e) };
      }

  -- a pin that the hall gave stands in its rows afterwards
  stands_after : (p : Pin Row) (n : ℕ) (a : HallAct) → IsPin h n p → k ≡ noted h s.number a None → slice_get (rows k) p.number ≡ Some (arc_value p.row)
  stands_after p n a is note = (λ i. slice_get ((ap rows note ∙ rows_same h s.number a) i) (is.0 i)) ∙ is.1

  no_draft : (n : ℕ) → (c ≡ call.Pin) ⊎ (c ≡ call.PinAt n) → stopped all s c ≡ None → s.draft ≡ []
  no_draft n is none = empty_draft s.draft (⊎_elim
      (λ (e : c ≡ call.Pin). ap (λ d. blocked all.library (readings_in all) (net_of s) s.draft d) (sym e) ∙ none)
      (λ (e : c ≡ call.PinAt n). ap (λ d. blocked all.library (readings_in all) (net_of s) s.draft d) (sym e) ∙ none)
      is)

  -- with no row published
  quiet_turned : (w : Ready) (t : Taken) → IsTaken s m (rows k) t → m.gives ≡ None → k ≡ noted h s.number (noted_act s w) None → Turned s m h k w t
  quiet_turned w t is none note = record { taken = is; entered = record { row = None; entry = note; gives = sym none } }

  module _ (is : c ≡ call.Pin) (none : stopped all s c ≡ None) where
    latest_act : m ≡ only_replies (pinned_at (holding_of s) (halls.head_of h)) (reply.Pinned (halls.head_of h))
    latest_act = goes all (rows h) s c known (ap is_shared is) none ∙ (ap (in_turn all.library (readings_in all) (nets (rows h)) (holding_of s)) is
        ∙ ap (λ n. only_replies (pinned_at (holding_of s) n) (reply.Pinned n)) (head_is h))

    pub latest_turned : (p : Pin Row) → IsPin h (halls.head_of h) p → k ≡ noted h s.number act.Latest None → Turned s m h k ready.Latest (taken.Pinned p)
    latest_turned p at note = quiet_turned ready.Latest (taken.Pinned p) (record {
      act = (latest_act ∙ ap (λ n. only_replies (pinned_at (holding_of s) n) (reply.Pinned n)) (sym at.0), no_draft 0 (inl is) none);
      stands = stands_after p (halls.head_of h) act.Latest at note;
    }) (ap (λ (m : Act). m.gives) latest_act) note

    pub latest_memory : k ≡ noted h s.number act.Latest None → Turned s m h k ready.Latest taken.Memory
    latest_memory note = quiet_turned ready.Latest taken.Memory (record { act = tt; stands = tt }) (ap (λ (m : Act). m.gives) latest_act) note

  module _ (n : ℕ) (is : c ≡ call.PinAt n) (none : stopped all s c ≡ None) where
    abbrev pins_at : ℕ → Bool → Act
    pins_at head b = cond b (refuses (holding_of s) (refusal.NoVersion head)) (only_replies (pinned_at (holding_of s) n) (reply.Pinned n))

    at_act : m ≡ pins_at (halls.head_of h) (nat_lt (halls.head_of h) n)
    at_act = goes all (rows h) s c known (ap is_shared is) none ∙ (ap (in_turn all.library (readings_in all) (nets (rows h)) (holding_of s)) is
        ∙ ap (λ m. pins_at m (nat_lt m n)) (head_is h))

    at_here : n ≤ halls.head_of h → m ≡ only_replies (pinned_at (holding_of s) n) (reply.Pinned n)
    at_here le = at_act ∙ ap (pins_at (halls.head_of h)) (not_lt (halls.head_of h) n le)

    pub at_turned : (p : Pin Row) → n ≤ halls.head_of h → IsPin h n p → k ≡ noted h s.number (act.At n) None → Turned s m h k (ready.At n) (taken.Pinned p)
    at_turned p le at note = quiet_turned (ready.At n) (taken.Pinned p) (record {
      act = (at_here le ∙ ap (λ n. only_replies (pinned_at (holding_of s) n) (reply.Pinned n)) (sym at.0), no_draft n (inr is) none);
      stands = stands_after p n (act.At n) at note;
    }) (ap (λ (m : Act). m.gives) (at_here le)) note

    pub at_memory : n ≤ halls.head_of h → k ≡ noted h s.number (act.At n) None → Turned s m h k (ready.At n) taken.Memory
    at_memory le note = quiet_turned (ready.At n) taken.Memory (record { act = tt; stands = tt }) (ap (λ (m : Act). m.gives) (at_here le)) note

    pub at_missing : halls.head_of h < n → k ≡ noted h s.number (act.At n) None → Turned s m h k (ready.At n) (taken.NoVersion (halls.head_of h))
    at_missing lt note =
        let e = at_act ∙ ap (pins_at (halls.head_of h)) (is_lt (halls.head_of h) n lt) in
        quiet_turned (ready.At n) (taken.NoVersion (halls.head_of h)) (record { act = e; stands = tt }) (ap (λ (m : Act). m.gives) e) note

  rebased_quiet : (has : Holding) (n : ℕ) (r : Result Circuit EditFault) → (rebased has n r).gives ≡ None
  rebased_quiet has n (Ok c) = refl
  rebased_quiet has n (Err (edit.At j e)) = refl
  rebased_quiet has n (Err edit.Memory) = refl

  module _ (is : c ≡ call.Rebase) (none : stopped all s c ≡ None) (base : h.base.library ≡ all.library) (chain : Chain IsAfter h.base (rows_of h.items)) where
    rebase_act : (row : RowState) → slice_get (rows h) (halls.head_of h) ≡ Some row → m ≡ rebased (holding_of s) (halls.head_of h) (edited row.library s.draft row.netlist)
    rebase_act row at =
        let over : row.library ≡ all.library = one_library all.library h.base (rows_of h.items) chain base (halls.head_of h) row at in
        goes all (rows h) s c known (ap is_shared is) none ∙ (ap (in_turn all.library (readings_in all) (nets (rows h)) (holding_of s)) is
        ∙ (λ i. rebased (holding_of s) (head_is h i) (edited (sym over i) s.draft (newest_is (rows h) (halls.head_of h) row (head_is h) at i))))

    pub rebase_turned : (p : Pin Row) → IsPin h (halls.head_of h) p → k ≡ noted h s.number act.Latest None → Turned s m h k ready.Rebase (taken.Rebase p)
    rebase_turned p at note =
        let e = rebase_act (arc_value p.row) at.1 in
        quiet_turned ready.Rebase (taken.Rebase p) (record {
          act = e ∙ ap (λ n. rebased (holding_of s) n (edited (arc_value p.row).library s.draft (arc_value p.row).netlist)) (sym at.0);
          stands = stands_after p (halls.head_of h) act.Latest at note;
        }) (ap (λ (m : Act). m.gives) e ∙ rebased_quiet (holding_of s) (halls.head_of h) (edited (arc_value p.row).library s.draft (arc_value p.row).netlist)) note

    pub rebase_memory : k ≡ noted h s.number act.Latest None → Turned s m h k ready.Rebase taken.Memory
    rebase_memory note =
        let top = head_row h.base (rows_of h.items) in
        quiet_turned ready.Rebase taken.Memory (record { act = tt; stands = tt })
        (ap (λ (m : Act). m.gives) (rebase_act top.0 top.1) ∙ rebased_quiet (holding_of s) (halls.head_of h) (edited top.0.library s.draft top.0.netlist)) note

  module _ (a b : Arc Row Global) (is : c ≡ call.Publish) (none : stopped all s c ≡ None) (next : IsNext s (arc_value a)) (same : arc_value b ≡ arc_value a) where
    abbrev row : RowState
    row = arc_value a

    abbrev w : Ready
    w = ready.Publish a b

    -- by whether the base is the head, and whether there is room for a row
    abbrev acts : ℕ → Bool → Bool → Act
    acts head top few = cond top (cond few (new_version (holding_of s) (head + 1)) (refuses (holding_of s) refusal.Full)) (refuses (holding_of s) (refusal.Stale head))

    abbrev answered : Bool → Bool → Result ℕ HallFault
    answered top few = cond top (cond few (Ok (halls.head_of h + 1)) (Err fault.Full)) (Err (fault.Stale (halls.head_of h)))

    abbrev news : Bool → Bool → Option RowState
    news top few = cond (top && few) (Some row) None

    publish_act : m ≡ acts (halls.head_of h) (next.number == halls.head_of h) (nat_lt (halls.head_of h + 1) row_limit)
    publish_act = goes all (rows h) s c known (ap is_shared is) none ∙ (ap (in_turn all.library (readings_in all) (nets (rows h)) (holding_of s)) is
        ∙ (λ i. acts (head_is h i) (is_at (head_is h i) (option_map (λ (p : ℕ × RowState). p.0) (next.pin i))) (nat_lt (head_is h i + 1) row_limit)))

    noted_is : noted_act s w ≡ act.Publish next.number
    noted_is = ap (λ (p : Option (ℕ × RowState)). act.Publish (base_number p)) next.pin

    entry_by : (top few : Bool) → m ≡ acts (halls.head_of h) top few → k ≡ noted h s.number (act.Publish next.number) (news top few) → Entered s m h k w
    entry_by true true e note = record { row = Some row; entry = note ∙ ap (λ x. noted h s.number x (Some row)) (sym noted_is); gives = ap (λ x. Some x) next.edits ∙ sym (ap (λ (m : Act). m.gives) e) }
    entry_by true false e note = record { row = None; entry = note ∙ ap (λ x. noted h s.number x None) (sym noted_is); gives = sym (ap (λ (m : Act). m.gives) e) }
    entry_by false few e note = record { row = None; entry = note ∙ ap (λ x. noted h s.number x None) (sym noted_is); gives = sym (ap (λ (m : Act). m.gives) e) }

    published_by : (top few : Bool) (number : ℕ) → m ≡ acts (halls.head_of h) top few → answered top few ≡ Ok number → k ≡ noted h s.number (act.Publish next.number) (news top few) → Turned s m h k w (taken.Published number b)
    published_by true true number e answer note =
        let num : halls.head_of h + 1 ≡ number = cc in
        let here : number ≡ length (rows h) = omega arith in
        record {
          taken = record {
            act = (e ∙ ap (new_version (holding_of s)) num, subst (IsNext s) (sym same) next);
            stands = (λ i. slice_get ((ap rows note ∙ rows_more h s.number (act.Publish next.number) row) i) (here i)) ∙ (last_row (rows h) row ∙ ap (λ x. Some x) (sym same));
          };
          entered = entry_by true true e note;
        }
    published_by true false number e answer note = absurd (cc)
    published_by false few number e answer note = absurd (cc)

    pub published_turned : (number : ℕ) → answer_of (halls.head_of h) next.number ≡ Ok number → k ≡ noted h s.number (act.Publish next.number) (published h next.number row) → Turned s m h k w (taken.Published number b)
    published_turned number answer note = published_by (next.number == halls.head_of h) (nat_lt (halls.head_of h + 1) row_limit) number publish_act answer note

    stale_by : (top few : Bool) (number : ℕ) → m ≡ acts (halls.head_of h) top few → answered top few ≡ Err (fault.Stale number) → k ≡ noted h s.number (act.Publish next.number) (news top few) → Turned s m h k w (taken.Stale number)
    stale_by true true number e answer note = absurd (cc)
    stale_by true false number e answer note = absurd (cc)
    stale_by false few number e answer note =
        let num : halls.head_of h ≡ number = cc in
        record { taken = record { act = e ∙ ap (λ x. refuses (holding_of s) (refusal.Stale x)) num; stands = tt }; entered = entry_by false few e note }

    pub stale_turned : (number : ℕ) → answer_of (halls.head_of h) next.number ≡ Err (fault.Stale number) → k ≡ noted h s.number (act.Publish next.number) (published h next.number row) → Turned s m h k w (taken.Stale number)
    stale_turned number answer note = stale_by (next.number == halls.head_of h) (nat_lt (halls.head_of h + 1) row_limit) number publish_act answer note

    full_by : (top few : Bool) → m ≡ acts (halls.head_of h) top few → answered top few ≡ Err fault.Full → k ≡ noted h s.number (act.Publish next.number) (news top few) → Turned s m h k w taken.Full
    full_by true true e answer note = absurd (cc)
    full_by true false e answer note = record { taken = record { act = e; stands = tt }; entered = entry_by true false e note }
    full_by false few e answer note = absurd (cc)

    pub full_turned : answer_of (halls.head_of h) next.number ≡ Err fault.Full → k ≡ noted h s.number (act.Publish next.number) (published h next.number row) → Turned s m h k w taken.Full
    full_turned answer note = full_by (next.number == halls.head_of h) (nat_lt (halls.head_of h + 1) row_limit) publish_act answer note

-- only a shared call is stopped
local_free : (all : Analyses) (net : Option Circuit) (draft : List Edit) (c : Call) (f : Refusal) → blocked all.library (readings_in all) net draft c ≡ Some f → is_shared c ≡ false → ⊥
local_free all net draft call.Pin f e sh = cc
local_free all net draft (call.PinAt n) f e sh = cc
local_free all net draft call.Rebase f e sh = cc
local_free all net draft call.Publish f e sh = cc
local_free all net draft (call.Make x) f e sh = cc
local_free all net draft call.Drop f e sh = cc
local_free all net draft call.Draft f e sh = cc
local_free all net draft call.Period f e sh = cc
local_free all net draft call.Cycle f e sh = cc
local_free all net draft (call.Arrival x) f e sh = cc
local_free all net draft (call.Slack x) f e sh = cc
local_free all net draft call.Report f e sh = cc

shared_by : (c : Call) (b : Bool) → is_shared c ≡ b → (is_shared c ≡ false → ⊥) → is_shared c ≡ true
shared_by c true e never = e
shared_by c false e never = absurd (never e)

pub stopped_shared : (all : Analyses) (s : SessionState) (c : Call) (f : Refusal) → stopped all s c ≡ Some f → is_shared c ≡ true
stopped_shared all s c f e = shared_by c (is_shared c) refl (local_free all (net_of s) s.draft c f e)

-- a session has one pin
pub same_base : {pin : Option (ℕ × RowState)} {n m : ℕ} {r q : RowState} → pin ≡ Some (n, r) → pin ≡ Some (m, q) → n ≡ m
same_base a b = ap base_number (sym a ∙ b)
