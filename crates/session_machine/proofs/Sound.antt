-- No edit of a version is refused.
use Rattle.std.proofs.Common.{◌≡◌, ℕ, zero, suc, ◌+◌, ◌<◌, ◌≤◌, true, false, cond, List, [], ◌∷◌, ◌++◌, length, Option, Some, None, Result, Ok, Err, refl, sym, ap, ◌∙◌, subst, arith, append_assoc}
use Rattle.std.specs.Prelude.{nat_lt, slice_get, option_and_then}
use Rattle.std.specs.Option.{option_to_list}
use Rattle.std.proofs.lemmas.Bool.Decides.{nat_tests}
use Rattle.std.proofs.lemmas.List.{append-nil}
use Rattle.std.proofs.lemmas.Option.{slice_get-get_or, unwrap_or-slice_get}
use Rattle.cell_arcs.specs.Steps.{◌>>=◌}
use Rattle.cell_arcs.specs.declared.cells.Cell.{Cell}
use Rattle.netlist_model.specs.Circuit.{Circuit, nothing}
use Rattle.netlist_model.specs.Edits.{made, at_edit, edited_from, edited}
use Rattle.netlist_model.specs.declared.edits.Edit.{Edit}
use Rattle.netlist_model.specs.declared.faults.EditFault.{EditFault}
use Rattle.netlist_model.specs.declared.faults.EditFault.TheVariants as edits
use Rattle.netlist_model.specs.declared.faults.StatementFault.{StatementFault}
use Rattle.session_script.specs.declared.calls.Call.{Call}
use Rattle.session_script.specs.declared.calls.Call.TheVariants as call
use Rattle.session_machine.specs.Orders.{put}
use Rattle.session_machine.specs.Machine.{run, versions_in}
use Rattle.session_machine.specs.Versions.{Version, or_before, after, netlists, head_of, newest, AreMade}
use Rattle.session_machine.specs.Table.{Readings, Holding, Act, fresh, only_replies, refuses, unless_refused, pinned, pinned_at, open_fault, edit_added, rebased, new_version, publish, is_at, version_limit, blocked, in_turn, local, act}
use Rattle.session_machine.specs.Sessions.{Base, sessions, VersionsAreMade, MadeVersionsHaveNetlists, NetlistsStay}
use Rattle.session_machine.specs.declared.replies.Reply.TheVariants.{Pinned}
use Rattle.session_machine.specs.declared.replies.Refusal.{Refusal}
use Rattle.session_machine.specs.declared.replies.Refusal.TheVariants.{NoVersion, Stale, Full}
use Rattle.session_machine.proofs.Puts.{by_number, put_same, put_other}

-- what stands at a number of a list
get_front : {A : Type 0} (xs ys : List A) (n : ℕ) (x : A) → slice_get xs n ≡ Some x → slice_get (xs ++ ys) n ≡ Some x
get_front [] ys n x e = absurd (cc)
get_front (y ∷ xs) ys zero x e = e
get_front (y ∷ xs) ys (suc n) x e = get_front xs ys n x e

get_last : {A : Type 0} (xs : List A) (x : A) → slice_get (xs ++ x ∷ []) (length xs) ≡ Some x
get_last [] x = refl
get_last (y ∷ xs) x = get_last xs x

head_is : (c : Circuit) (nets : List Circuit) → head_of (c ∷ nets) ≡ length nets
head_is c nets = omega arith

closed : (draft : List Edit) → open_fault draft ≡ None → [] ≡ draft
closed [] h = refl
closed (e ∷ es) h = absurd (cc)

at_is : (n : ℕ) (pin : Option ℕ) → is_at n pin ≡ true → pin ≡ Some n
at_is n None h = absurd (cc)
at_is n (Some k) h = let same : k ≡ n = grind (arith, nat_tests) in ap (λ (m : ℕ). Some m) same

module _ (library : List Cell) where
  nothing_made : (c : Circuit) → edited library [] c ≡ Ok c
  unfolding edited_from
  nothing_made c = refl

  edited_push : (n : ℕ) (xs : List Edit) (e : Edit) (c m d : Circuit) → edited_from library n xs c ≡ Ok m → made library m e ≡ Ok d → edited_from library n (xs ++ e ∷ []) c ≡ Ok d
  unfolding edited_from
  edited_push n [] e c m d before is = let same : c ≡ m = cc in rw (same, is) refl
  edited_push n (x ∷ xs) e c m d before is = by (λ k. edited_push (n + 1) xs e k m d) (made library c x) before
    where
      by : ((k : Circuit) → edited_from library (n + 1) xs k ≡ Ok m → made library m e ≡ Ok d → edited_from library (n + 1) (xs ++ e ∷ []) k ≡ Ok d)
          → (r : Result Circuit StatementFault) → (at_edit n r >>= edited_from library (n + 1) xs) ≡ Ok m → (at_edit n r >>= edited_from library (n + 1) (xs ++ e ∷ [])) ≡ Ok d
      by further (Ok k) h = further k h is
      by further (Err f) h = absurd (cc)

  netlists_are : (c : Circuit) (vs : List Version) (ds : List Circuit) → AreMade library c vs ds → netlists library c vs ≡ c ∷ ds
  netlists_are c [] [] m = refl
  netlists_are c [] (d ∷ ds) m = absurd m
  netlists_are c (v ∷ vs) [] m = absurd m
  netlists_are c (v ∷ vs) (d ∷ ds) m =
      let next : after library c v ≡ d = ap (or_before c) m.0 in
      ap (λ (l : List Circuit). c ∷ l) (ap (λ (k : Circuit). netlists library k vs) next ∙ netlists_are d vs ds m.1)

  made_push : (c : Circuit) (vs : List Version) (ds : List Circuit) (v : Version) (last d : Circuit) → AreMade library c vs ds → slice_get (c ∷ ds) (length ds) ≡ Some last → edited library v last ≡ Ok d
      → AreMade library c (vs ++ v ∷ []) (ds ++ d ∷ [])
  made_push c [] [] v last d m at is = let same : last ≡ c = cc in (subst (λ (k : Circuit). edited library v k ≡ Ok d) same is, tt)
  made_push c [] (d1 ∷ ds) v last d m at is = absurd m
  made_push c (v1 ∷ vs) [] v last d m at is = absurd m
  made_push c (v1 ∷ vs) (d1 ∷ ds) v last d m at is = (m.0, made_push d1 vs ds v last d m.1 at is)

  -- the draft is made of the netlist of the pinned version, no edit refused
  record IsOpen (nets : List Circuit) (draft : List Edit) (n : ℕ) : Type 0 where
    pub here : Circuit
    pub there : Circuit
    pub stands : slice_get nets n ≡ Some here
    pub is_made : edited library draft here ≡ Ok there

  abbrev SoundPin : List Circuit → List Edit → Option ℕ → Type 0
  SoundPin nets draft None = draft ≡ []
  SoundPin nets draft (Some n) = IsOpen nets draft n

  abbrev Sound : List Circuit → Holding → Type 0
  Sound nets has = SoundPin nets has.draft has.pin

  later_pin : (nets new : List Circuit) (draft : List Edit) (pin : Option ℕ) → SoundPin nets draft pin → SoundPin (nets ++ new) draft pin
  later_pin nets new draft None s = s
  later_pin nets new draft (Some n) s = record { here = s.here; there = s.there; stands = get_front nets new n s.here s.stands; is_made = s.is_made }

  dropped_pin : (nets : List Circuit) (draft : List Edit) (pin : Option ℕ) → SoundPin nets draft pin → SoundPin nets [] pin
  dropped_pin nets draft None s = refl
  dropped_pin nets draft (Some n) s = record { here = s.here; there = s.here; stands = s.stands; is_made = nothing_made s.here }

  added_pin : (nets : List Circuit) (draft : List Edit) (pin : Option ℕ) (e : Edit) (c d : Circuit) → SoundPin nets draft pin → option_and_then (slice_get nets) pin ≡ Some c
      → made library (after library c draft) e ≡ Ok d → SoundPin nets (draft ++ e ∷ []) pin
  added_pin nets draft None e c d s at is = absurd (cc)
  added_pin nets draft (Some n) e c d s at is =
      let same : c ≡ s.here = let both : Some c ≡ Some s.here = sym at ∙ s.stands in cc in
      let reached : after library c draft ≡ s.there = ap (λ (k : Circuit). after library k draft) same ∙ ap (or_before s.here) s.is_made in
      record {
        here = s.here;
        there = d;
        stands = s.stands;
        is_made = edited_push 1 draft e s.here s.there d s.is_made (ap (λ (k : Circuit). made library k e) (sym reached) ∙ is);
      }

  -- a pin with an empty draft
  fresh_pin : (nets : List Circuit) (n : ℕ) → n < length nets → IsOpen nets [] n
  fresh_pin nets n within = let at = slice_get-get_or nets n nothing within in record { here = _; there = _; stands = at; is_made = nothing_made _ }

  module _ (readings : Readings) (c : Circuit) (vs : List Version) (ds : List Circuit) (are : AreMade library c vs ds) where
    -- what a call leaves: further netlists, each made, and a draft that is
    record Goes (m : Act) : Type 0 where
      pub new : List Circuit
      pub all : AreMade library c (vs ++ option_to_list m.gives) (ds ++ new)
      pub sound : Sound (c ∷ (ds ++ new)) m.has

    stays : (has : Holding) (m : Act) → m.gives ≡ None → Sound (c ∷ ds) m.has → Goes m
    stays has m none s = record {
      new = [];
      all = subst (λ (g : Option Version). AreMade library c (vs ++ option_to_list g) (ds ++ [])) (sym none)
          (subst (λ (p : List Version × List Circuit). AreMade library c p.0 p.1) (λ i. (sym (append-nil vs) i, sym (append-nil ds) i)) are);
      sound = subst (λ (l : List Circuit). Sound (c ∷ l) m.has) (sym (append-nil ds)) s;
    }

    module _ (has : Holding) (s : Sound (c ∷ ds) has) where
      unless_goes : (fault : Option Refusal) (m : Act) → (fault ≡ None → Goes m) → Goes (unless_refused fault has m)
      unless_goes None m free = free refl
      unless_goes (Some r) m free = stays has (refuses has r) refl s

      -- a pin of a version that there is, with no draft
      pinned_goes : (n : ℕ) → open_fault has.draft ≡ None → n < length (c ∷ ds) → Goes (only_replies (pinned_at has n) (Pinned n))
      pinned_goes n free within = stays has (only_replies (pinned_at has n) (Pinned n)) refl (subst (λ (draft : List Edit). IsOpen (c ∷ ds) draft n) (closed has.draft free) (fresh_pin (c ∷ ds) n within))

      number_goes : (n : ℕ) → open_fault has.draft ≡ None → Goes (cond (nat_lt (head_of (c ∷ ds)) n) (refuses has (NoVersion (head_of (c ∷ ds)))) (only_replies (pinned_at has n) (Pinned n)))
      number_goes n free = elim (nat_lt (head_of (c ∷ ds)) n) as (λ b. nat_lt (head_of (c ∷ ds)) n ≡ b → Goes (cond b (refuses has (NoVersion (head_of (c ∷ ds)))) (only_replies (pinned_at has n) (Pinned n)))) [
        | true ↦ λ is. stays has (refuses has (NoVersion (head_of (c ∷ ds)))) refl s
        | false ↦ λ is. let low : n ≤ head_of (c ∷ ds) = grind (arith, nat_tests) in let h = head_is c ds in pinned_goes n free (omega arith)
      ] refl

      rebase_goes : (r : Result Circuit EditFault) → edited library has.draft (newest (c ∷ ds)) ≡ r → Goes (rebased has (head_of (c ∷ ds)) r)
      rebase_goes (Ok d) is =
          let h = head_is c ds in
          let at = slice_get-get_or (c ∷ ds) (head_of (c ∷ ds)) nothing (omega arith) in
          stays has (rebased has (head_of (c ∷ ds)) (Ok d)) refl (record {
            here = newest (c ∷ ds);
            there = d;
            stands = at ∙ ap (λ (k : Circuit). Some k) (sym (unwrap_or-slice_get (c ∷ ds) (head_of (c ∷ ds)) nothing));
            is_made = is;
          })
      rebase_goes (Err (edits.At n fault)) is = stays has (rebased has (head_of (c ∷ ds)) (Err (edits.At n fault))) refl s
      rebase_goes (Err edits.Memory) is = stays has (rebased has (head_of (c ∷ ds)) (Err edits.Memory)) refl s

      published_goes : (head : ℕ) → head ≡ length ds → is_at head has.pin ≡ true → Goes (new_version has (head + 1))
      published_goes head h at =
          let o : IsOpen (c ∷ ds) has.draft head = subst (SoundPin (c ∷ ds) has.draft) (at_is head has.pin at) s in
          let n : length (c ∷ ds) ≡ head + 1 = omega arith in
          record {
            new = o.there ∷ [];
            all = made_push c vs ds has.draft o.here o.there are (ap (slice_get (c ∷ ds)) (sym h) ∙ o.stands) o.is_made;
            sound = record {
              here = o.there;
              there = o.there;
              stands = ap (slice_get ((c ∷ ds) ++ o.there ∷ [])) (sym n) ∙ get_last (c ∷ ds) o.there;
              is_made = nothing_made o.there;
            };
          }

      publish_goes : (head : ℕ) → head ≡ length ds → Goes (publish head has)
      publish_goes head h = elim (is_at head has.pin) as (λ b. is_at head has.pin ≡ b → Goes (cond b (cond (nat_lt (head + 1) version_limit) (new_version has (head + 1)) (refuses has Full)) (refuses has (Stale head)))) [
        | true ↦ λ at. elim (nat_lt (head + 1) version_limit) as (λ b. Goes (cond b (new_version has (head + 1)) (refuses has Full))) [
          | true ↦ published_goes head h at
          | false ↦ stays has (refuses has Full) refl s
        ]
        | false ↦ λ at. stays has (refuses has (Stale head)) refl s
      ] refl

      added_goes : (e : Edit) (k : Circuit) → pinned (c ∷ ds) has ≡ Some k → (r : Result Circuit StatementFault) → made library (after library k has.draft) e ≡ r
          → Goes (only_replies (edit_added has e r).0 (edit_added has e r).1)
      added_goes e k at (Ok d) is = stays has (only_replies (edit_added has e (Ok d)).0 (edit_added has e (Ok d)).1) refl (added_pin (c ∷ ds) has.draft has.pin e k d s at is)
      added_goes e k at (Err f) is = stays has (only_replies (edit_added has e (Err f)).0 (edit_added has e (Err f)).1) refl s

      make_goes : (e : Edit) (net : Option Circuit) → pinned (c ∷ ds) has ≡ net → let done = local library readings net has (call.Make e) in Goes (only_replies done.0 done.1)
      make_goes e None at = let done = local library readings None has (call.Make e) in stays has (only_replies done.0 done.1) refl s
      make_goes e (Some k) at = added_goes e k at (made library (after library k has.draft) e) refl

      goes : (x : Call) → Goes (act library readings (c ∷ ds) has x)
      goes call.Pin = unless_goes (open_fault has.draft) (in_turn library readings (c ∷ ds) has call.Pin) (λ free. let h = head_is c ds in pinned_goes (head_of (c ∷ ds)) free (omega arith))
      goes (call.PinAt n) = unless_goes (open_fault has.draft) (in_turn library readings (c ∷ ds) has (call.PinAt n)) (number_goes n)
      goes call.Rebase = unless_goes (blocked library readings (pinned (c ∷ ds) has) has.draft call.Rebase) (in_turn library readings (c ∷ ds) has call.Rebase) (λ free. rebase_goes (edited library has.draft (newest (c ∷ ds))) refl)
      goes call.Publish = unless_goes (blocked library readings (pinned (c ∷ ds) has) has.draft call.Publish) (in_turn library readings (c ∷ ds) has call.Publish) (λ free. publish_goes (head_of (c ∷ ds)) (head_is c ds))
      goes (call.Make e) = make_goes e (pinned (c ∷ ds) has) refl
      goes call.Drop = stays has (act library readings (c ∷ ds) has call.Drop) refl (dropped_pin (c ∷ ds) has.draft has.pin s)
      goes call.Draft = stays has (act library readings (c ∷ ds) has call.Draft) refl s
      goes call.Period = stays has (act library readings (c ∷ ds) has call.Period) refl s
      goes call.Cycle = stays has (act library readings (c ∷ ds) has call.Cycle) refl s
      goes (call.Arrival e) = stays has (act library readings (c ∷ ds) has (call.Arrival e)) refl s
      goes (call.Slack f) = stays has (act library readings (c ∷ ds) has (call.Slack f)) refl s
      goes call.Report = stays has (act library readings (c ∷ ds) has call.Report) refl s

module _ (readings : Readings) (base : Base) where
  abbrev cells : List Cell
  cells = base.library

  abbrev first : Circuit
  first = base.netlist

  all_made : (calls : List (ℕ × Call)) (vs : List Version) (ds : List Circuit) (holdings : ℕ → Holding) → AreMade cells first vs ds → ((s : ℕ) → Sound cells (first ∷ ds) (holdings s))
      → (nets : List Circuit) × AreMade cells first (vs ++ versions_in (run (sessions readings base) (record { versions = vs; sessions = holdings }) calls)) nets
  all_made [] vs ds holdings are sound = (ds, subst (λ (l : List Version). AreMade cells first l ds) (sym (append-nil vs)) are)
  all_made (x ∷ calls) vs ds holdings are sound =
      let m = act cells readings (netlists cells first vs) (holdings x.0) x.1 in
      let g : Goes cells readings first vs ds are m = subst (λ (l : List Circuit). Goes cells readings first vs ds are (act cells readings l (holdings x.0) x.1)) (sym (netlists_are cells first vs ds are))
      (goes cells readings first vs ds are (holdings x.0) (sound x.0) x.1) in
      let next : ℕ → Holding = put x.0 m.has holdings in
      let sound2 : (s : ℕ) → Sound cells (first ∷ (ds ++ g.new)) (next s) = by_number x.0 (λ s. Sound cells (first ∷ (ds ++ g.new)) (next s))
      (subst (Sound cells (first ∷ (ds ++ g.new))) (sym (put_same x.0 m.has holdings)) g.sound)
      (λ s h. subst (Sound cells (first ∷ (ds ++ g.new))) (sym (put_other x.0 s m.has holdings h)) (later_pin cells (first ∷ ds) g.new (holdings s).draft (holdings s).pin (sound s))) in
      let rest = all_made calls (vs ++ option_to_list m.gives) (ds ++ g.new) next g.all sound2 in
      let told = versions_in (run (sessions readings base) (record { versions = vs ++ option_to_list m.gives; sessions = next }) calls) in
      (rest.0, subst (λ (l : List Version). AreMade cells first l rest.0) (append_assoc vs (option_to_list m.gives) told) rest.1)

pub versions_are_made : VersionsAreMade
versions_are_made readings base calls =
    let last = all_made readings base calls [] [] (λ (s : ℕ). fresh) tt (λ s. refl) in
    (last.0, last.1, netlists_are base.library base.netlist _ last.0 last.1)

pub made_versions_have_netlists : MadeVersionsHaveNetlists
made_versions_have_netlists library c versions nets made = netlists_are library c versions nets made

-- the first netlist, whatever versions come
first_stays : (library : List Cell) (c : Circuit) (versions : List Version) → slice_get (netlists library c versions) 0 ≡ Some c
first_stays library c [] = refl
first_stays library c (v ∷ versions) = refl

pub netlists_stay : NetlistsStay
netlists_stay library c d [] others zero is = first_stays library c others ∙ is
netlists_stay library c d [] others (suc n) is = absurd (cc)
netlists_stay library c d (v ∷ versions) others zero is = is
netlists_stay library c d (v ∷ versions) others (suc n) is = netlists_stay library (after library c v) d versions others n is
