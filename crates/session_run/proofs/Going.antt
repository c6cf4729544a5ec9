-- A session goes on by a call.
use Rattle.std.proofs.Common.{◌≡◌, ℕ, zero, suc, ◌==◌, true, false, cond, List, [], ◌∷◌, ◌++◌, map, Option, Some, None, refl, sym, ap, ◌∙◌, subst, append_assoc}
use Rattle.std.specs.List.{filter, cons_option}
use Rattle.std.specs.Prelude.{MatchOption, slice_get, option_map, ⊤}
use Rattle.std.proofs.lemmas.List.{append-nil, map-append}
use Rattle.std.proofs.lemmas.List.Elements.{filter-append, filter_map-append}
use Rattle.netlist_model.specs.Circuit.{Circuit}
use Rattle.turn_book.specs.Views.{StartsWith, own}
use Rattle.version_store.specs.Halls.{Chain, rows_of}
use Rattle.session_script.specs.Calls.{is_shared}
use Rattle.session_script.specs.declared.calls.Call.{Call}
use Rattle.session_machine.specs.Machine.{Event, more, given_by, event}
use Rattle.session_machine.specs.Alone.{Place, places_of, given_at, views, own_from}
use Rattle.session_machine.specs.Table.{Holding, Act, fresh, pinned, local, only_replies, unless_refused, blocked, in_turn, act}
use Rattle.session_machine.specs.Versions.{Version, netlists, after, or_before}
use Rattle.session_machine.specs.declared.replies.Reply.{Reply}
use Rattle.pinned_reader.specs.Rows.{RowState, IsAfter}
use Rattle.query_replies.specs.Readings.{Analyses, readings_in}
use Rattle.session_calls.specs.States.{SessionState, holding_of, nets, Knows, act_on, local_by}
use Rattle.session_calls.specs.Turns.{Finishes}
use Rattle.session_run.proofs.Numbers.{same_number}
use Rattle.session_calls.proofs.Rows.{pinned_is}
use Rattle.session_run.specs.Items.{Item, session_of, place_of, places_in, acts_in}
use Rattle.session_run.specs.Going.{Told, machine_at, nets_at, rows_at, IsGoing}
use Rattle.session_run.specs.Acts.{noted_by, step_over, acts_from}
use Rattle.session_run.specs.Serving.{IsActing}

get_front : {A : Type 0} (xs ys : List A) (n : ℕ) (x : A) → slice_get xs n ≡ Some x → slice_get (xs ++ ys) n ≡ Some x
get_front [] ys n x e = absurd (cc)
get_front (y ∷ xs) ys zero x e = e
get_front (y ∷ xs) ys (suc n) x e = get_front xs ys n x e

pin_more : (rs more : List RowState) (pin : Option (ℕ × RowState)) → MatchOption pin ⊤ (λ p. slice_get rs p.0 ≡ Some p.1) → MatchOption pin ⊤ (λ p. slice_get (rs ++ more) p.0 ≡ Some p.1)
pin_more rs more None k = tt
pin_more rs more (Some p) k = get_front rs more p.0 p.1 k

pub knows_more : (rs more : List RowState) (s : SessionState) → Knows rs s → Knows (rs ++ more) s
knows_more rs more s k = pin_more rs more s.pin k

pub rows_append : (base : RowState) (xs ys : List Item) → rows_at base (xs ++ ys) ≡ rows_at base xs ++ rows_of ys
rows_append base xs ys = ap (λ l. base ∷ l) (filter_map-append (λ (i : Item). i.row) xs ys)

-- a row that is known is known later
pub knows_later : (base : RowState) (xs ys : List Item) (s : SessionState) → StartsWith ys xs → Knows (rows_at base xs) s → Knows (rows_at base ys) s
knows_later base xs ys s more k = subst (λ rs. Knows rs s) (sym (ap (rows_at base) more.1 ∙ rows_append base xs more.0)) (knows_more (rows_at base xs) (rows_of more.0) s k)

-- the netlists of rows that follow each other are those of their edits
pub nets_chain : (all : Analyses) (base : RowState) (rs : List RowState) → base.library ≡ all.library → Chain IsAfter base rs
    → netlists all.library base.netlist (map (λ r. r.edits) rs) ≡ nets (base ∷ rs)
nets_chain all base [] over ch = refl
nets_chain all base (r ∷ rs) over ch =
    let next : after all.library base.netlist r.edits ≡ r.netlist =
    (λ i. after (sym over i) base.netlist r.edits) ∙ ap (or_before base.netlist) ch.0.netlist in
    ap (λ l. base.netlist ∷ l) (ap (λ c. netlists all.library c (map (λ (r : RowState). r.edits) rs)) next ∙ nets_chain all r rs (ch.0.library ∙ over) ch.1)

-- all versions after these places
abbrev pub all_versions : List Version → List (Place Version) → List Version
all_versions vs [] = vs
all_versions vs (p ∷ ps) = all_versions (more vs p.gives) ps

pub views_append : (s : ℕ) (vs : List Version) (ps qs : List (Place Version)) → views s vs (ps ++ qs) ≡ views s vs ps ++ views s (all_versions vs ps) qs
views_append s vs [] qs = refl
views_append s vs (p ∷ ps) qs = elim (p.session == s) as (λ b. cond b (vs ∷ views s (more vs p.gives) (ps ++ qs)) (views s (more vs p.gives) (ps ++ qs)) ≡ cond b (vs ∷ views s (more vs p.gives) ps) (views s (more vs p.gives) ps) ++ views s (all_versions (more vs p.gives) ps) qs) [
  | true ↦ ap (λ l. vs ∷ l) (views_append s (more vs p.gives) ps qs)
  | false ↦ views_append s (more vs p.gives) ps qs
]

pub views_none : (s : ℕ) (vs : List Version) (ps : List (Place Version)) → places_of s ps ≡ [] → views s vs ps ≡ []
views_none s vs [] e = refl
views_none s vs (p ∷ ps) e = elim (p.session == s) as (λ b. cond b (p ∷ places_of s ps) (places_of s ps) ≡ [] → cond b (vs ∷ views s (more vs p.gives) ps) (views s (more vs p.gives) ps) ≡ []) [
  | true ↦ λ k. absurd (cc)
  | false ↦ λ k. views_none s (more vs p.gives) ps k
] e

pub places_own : (s : ℕ) (items : List Item) → places_of s (places_in items) ≡ places_in (own session_of s items)
places_own s [] = refl
places_own s (i ∷ is) = elim (i.entry.session == s) as (λ b. cond b (place_of i ∷ places_of s (places_in is)) (places_of s (places_in is)) ≡ places_in (cond b (i ∷ own session_of s is) (own session_of s is))) [
  | true ↦ ap (λ l. place_of i ∷ l) (places_own s is)
  | false ↦ places_own s is
]

-- what comes after and has nothing of a session changes nothing for it
pub seen_views : (n : ℕ) (xs ys : List Item) → own session_of n ys ≡ [] → views n [] (places_in (xs ++ ys)) ≡ views n [] (places_in xs)
seen_views n xs ys none =
    ap (views n []) (map-append place_of xs ys)
    ∙ (views_append n [] (places_in xs) (places_in ys)
    ∙ (ap (λ l. views n [] (places_in xs) ++ l) (views_none n (all_versions [] (places_in xs)) (places_in ys) (places_own n ys ∙ ap places_in none)) ∙ append-nil (views n [] (places_in xs))))

pub seen_places : (n : ℕ) (xs ys : List Item) → own session_of n ys ≡ [] → places_of n (places_in (xs ++ ys)) ≡ places_of n (places_in xs)
seen_places n xs ys none =
    ap (places_of n) (map-append place_of xs ys)
    ∙ (filter-append (λ (p : Place Version). p.session == n) (places_in xs) (places_in ys)
    ∙ (ap (λ l. places_of n (places_in xs) ++ l) (places_own n ys ∙ ap places_in none) ∙ append-nil (places_of n (places_in xs))))

-- the versions are the edits of the rows
versions_are : (vs : List Version) (items : List Item) → all_versions vs (places_in items) ≡ vs ++ map (λ r. r.edits) (rows_of items)
versions_are vs [] = sym (append-nil vs)
versions_are vs (i ∷ is) = elim i.row as (λ (x : Option RowState). (all_versions (more vs (option_map (λ (r : RowState). r.edits) x)) (places_in is) ≡ vs ++ map (λ (r : RowState). r.edits) (cons_option x (rows_of is)))) [
  | Some r ↦ versions_are (vs ++ r.edits ∷ []) is ∙ append_assoc vs (r.edits ∷ []) (map (λ r. r.edits) (rows_of is))
  | None ↦ versions_are (vs ++ []) is ∙ append_assoc vs [] (map (λ r. r.edits) (rows_of is))
]

all_append : (vs : List Version) (ps qs : List (Place Version)) → all_versions vs (ps ++ qs) ≡ all_versions (all_versions vs ps) qs
all_append vs [] qs = refl
all_append vs (p ∷ ps) qs = all_append (more vs p.gives) ps qs

chain_front : (base : RowState) (xs ys : List RowState) → Chain IsAfter base (xs ++ ys) → Chain IsAfter base xs
chain_front base [] ys c = tt
chain_front base (x ∷ xs) ys c = (c.0, chain_front x xs ys c.1)

given_more : (told : Told) (e : Event Call Reply Version) → given_by is_shared (told ++ e ∷ []) ≡ given_by is_shared told ++ cond (is_shared e.call) (e.gives ∷ []) []
given_more told e =
    ap (map (λ (e : Event Call Reply Version). e.gives)) (filter-append (λ (e : Event Call Reply Version). is_shared e.call) told (e ∷ []))
    ∙ (map-append (λ (e : Event Call Reply Version). e.gives) (filter (λ (e : Event Call Reply Version). is_shared e.call) told) (filter (λ (e : Event Call Reply Version). is_shared e.call) (e ∷ []))
    ∙ ap (λ l. given_by is_shared told ++ l) (elim (is_shared e.call) as (λ b. map (λ (e : Event Call Reply Version). e.gives) (cond b (e ∷ []) []) ≡ cond b (e.gives ∷ []) []) [ true ↦ refl | false ↦ refl ]))

module _ (all : Analyses) (base : RowState) where
  abbrev step_at : List Version → Holding → Call → Act
  step_at versions has c = step_over all base versions has c

  own_local : (n : ℕ) (now : List Version) (has : Holding) (later : List (List Version)) (c : Call) (rest : List Call) → is_shared c ≡ false
      → own_from (machine_at all base) n now has later (c ∷ rest) ≡ event n c (step_at now has c) ∷ own_from (machine_at all base) n now (step_at now has c).has later rest
  own_local n now has [] c rest sh = rw sh refl
  own_local n now has (v ∷ vs) c rest sh = rw sh refl

  own_shared : (n : ℕ) (now v : List Version) (has : Holding) (later : List (List Version)) (c : Call) (rest : List Call) → is_shared c ≡ true
      → own_from (machine_at all base) n now has (v ∷ later) (c ∷ rest) ≡ event n c (step_at v has c) ∷ own_from (machine_at all base) n (more v (step_at v has c).gives) (step_at v has c).has later rest
  own_shared n now v has later c rest sh = rw sh refl

  acts_local : (now : List Version) (has : Holding) (later : List (List Version)) (c : Call) (rest : List Call) → is_shared c ≡ false
      → acts_from all base now has later (c ∷ rest) ≡ acts_from all base now (step_at now has c).has later rest
  acts_local now has [] c rest sh = rw sh refl
  acts_local now has (v ∷ vs) c rest sh = rw sh refl

  acts_shared : (now v : List Version) (has : Holding) (later : List (List Version)) (c : Call) (rest : List Call) → is_shared c ≡ true
      → acts_from all base now has (v ∷ later) (c ∷ rest) ≡ noted_by all (nets_at all base v) has c ∷ acts_from all base (more v (step_at v has c).gives) (step_at v has c).has later rest
  acts_shared now v has later c rest sh = rw sh refl

  module _ (n : ℕ) (script : List Call) (seen : List Item) (s t : SessionState) (told : Told) (c : Call) (rest : List Call) (r : Reply) (g : IsGoing all base n script seen s told (c ∷ rest)) where
    -- by a local call
    module _ (sh : is_shared c ≡ false) (has : holding_of t ≡ (local_by all s c).0) (says : r ≡ (local_by all s c).1) (pin : t.pin ≡ s.pin) where
      local_act : step_at g.now (holding_of s) c ≡ only_replies (holding_of t) r
      local_act =
          let ns = nets_at all base g.now in
          ap (λ b. cond b (unless_refused (blocked all.library (readings_in all) (pinned ns (holding_of s)) s.draft c) (holding_of s) (in_turn all.library (readings_in all) ns (holding_of s) c))
          (let l = local all.library (readings_in all) (pinned ns (holding_of s)) (holding_of s) c in only_replies l.0 l.1)) sh
          ∙ (ap (λ (p : Option Circuit). let l = local all.library (readings_in all) p (holding_of s) c in only_replies l.0 l.1) g.holds
          ∙ (λ i. only_replies (sym has i) (sym says i)))

      abbrev local_event : Event Call Reply Version
      local_event = event n c (only_replies (holding_of t) r)

      abbrev local_going : IsGoing all base n script seen t (told ++ local_event ∷ []) rest
      local_going = record {
        now = g.now;
        goes = λ later. g.goes later ∙ (ap (λ es. told ++ es) (own_local n g.now (holding_of s) later c rest sh
            ∙ ap (λ (m : Act). event n c m ∷ own_from (machine_at all base) n g.now m.has later rest) local_act)
            ∙ sym (append_assoc told (local_event ∷ []) (own_from (machine_at all base) n g.now (holding_of t) later rest)));
        holds = ap (λ (p : Option (ℕ × RowState)). pinned (nets_at all base g.now) (record { pin = option_map (λ q. q.0) p; draft = [] })) pin
            ∙ (g.holds ∙ ap (λ (p : Option (ℕ × RowState)). option_map (λ q. q.1.netlist) p) (sym pin));
        knows = subst (λ (p : Option (ℕ × RowState)). MatchOption p ⊤ (λ q. slice_get (rows_at base seen) q.0 ≡ Some q.1)) (sym pin) g.knows;
        given = g.given ∙ sym (given_more told local_event ∙ (ap (λ b. given_by is_shared told ++ cond b (None ∷ []) []) sh ∙ append-nil (given_by is_shared told)));
      }

      pub going_local : IsGoing all base n script seen t (told ++ local_event ∷ []) rest
      going_local = local_going

      -- and it notes nothing
      pub acting_local : (made : List Item) → IsActing all base n script seen made g.now (holding_of s) (c ∷ rest)
          → (w : IsGoing all base n script seen t (told ++ local_event ∷ []) rest) × IsActing all base n script seen made w.now (holding_of t) rest
      acting_local made a = (local_going, λ later. a later ∙ ap (λ l. acts_in made ++ l) (acts_local g.now (holding_of s) later c rest sh ∙ ap (λ (m : Act). acts_from all base g.now m.has later rest) local_act))

    -- by a turn
    module _ (over : base.library ≡ all.library) (sh : is_shared c ≡ true) (list : List Item) (e : Item) (m : Act) (begins : StartsWith list seen) (others : own session_of n begins.0 ≡ []) (mine : e.entry.session ≡ n)
        (act_is : m ≡ act_on all (rows_at base list) s c) (gives : option_map (λ r. r.edits) e.row ≡ m.gives)
        (ends : Finishes s t m (rows_at base (list ++ e ∷ [])) r) (chain : Chain IsAfter base (rows_of (list ++ e ∷ [])))
        (longer : Knows (rows_at base seen) s → Knows (rows_at base (list ++ e ∷ [])) s) where
      abbrev versions : List Version
      versions = all_versions [] (places_in list)

      places_more : places_in (list ++ e ∷ []) ≡ places_in list ++ place_of e ∷ []
      places_more = map-append place_of list (e ∷ [])

      rows_before : Chain IsAfter base (rows_of list)
      rows_before = chain_front base (rows_of list) (rows_of (e ∷ [])) (subst (λ rs. Chain IsAfter base rs) (filter_map-append (λ (i : Item). i.row) list (e ∷ [])) chain)

      nets_are : (items : List Item) → Chain IsAfter base (rows_of items) → nets_at all base (all_versions [] (places_in items)) ≡ nets (rows_at base items)
      nets_are items ch = ap (nets_at all base) (versions_are [] items) ∙ nets_chain all base (rows_of items) over ch

      turn_act : step_at versions (holding_of s) c ≡ m
      turn_act = ap (λ ns. act all.library (readings_in all) ns (holding_of s) c) (nets_are list rows_before) ∙ sym act_is

      seen_same : views n [] (places_in list) ≡ views n [] (places_in seen)
      seen_same = ap (λ l. views n [] (places_in l)) begins.1 ∙ seen_views n seen begins.0 others

      given_same : given_at (places_of n (places_in list)) ≡ given_at (places_of n (places_in seen))
      given_same = ap (λ l. given_at (places_of n (places_in l))) begins.1 ∙ ap given_at (seen_places n seen begins.0 others)

      is_mine : (e.entry.session == n) ≡ true
      is_mine = ap (λ k. k == n) mine ∙ same_number n

      views_more : views n [] (places_in (list ++ e ∷ [])) ≡ views n [] (places_in seen) ++ versions ∷ []
      views_more = ap (views n []) places_more ∙ (views_append n [] (places_in list) (place_of e ∷ []) ∙ (λ i. seen_same i ++ cond (is_mine i) (versions ∷ []) []))

      now_is : more versions m.gives ≡ all_versions [] (places_in (list ++ e ∷ []))
      now_is = ap (more versions) (sym gives) ∙ sym (ap (all_versions []) places_more ∙ all_append [] (places_in list) (place_of e ∷ []))

      abbrev turn_event : Event Call Reply Version
      turn_event = record { session = n; call = c; reply = r; gives = m.gives }

      abbrev turn_now : List Version
      turn_now = all_versions [] (places_in (list ++ e ∷ []))

      abbrev turn_going : IsGoing all base n script (list ++ e ∷ []) t (told ++ turn_event ∷ []) rest
      turn_going =
          record {
            now = turn_now;
            goes = λ later.
                ap (λ x. own_from (machine_at all base) n [] fresh (x ++ later) script) views_more
                ∙ (ap (λ x. own_from (machine_at all base) n [] fresh x script) (append_assoc (views n [] (places_in seen)) (versions ∷ []) later)
                ∙ (g.goes (versions ∷ later)
                ∙ (ap (λ es. told ++ es) (own_shared n g.now versions (holding_of s) later c rest sh
                ∙ (ap (λ (m : Act). event n c m ∷ own_from (machine_at all base) n (more versions m.gives) m.has later rest) turn_act
                ∙ (λ i. record { session = n; call = c; reply = sym ends.reply i; gives = m.gives } ∷ own_from (machine_at all base) n (now_is i) (sym ends.has i) later rest)))
                ∙ sym (append_assoc told (turn_event ∷ []) (own_from (machine_at all base) n turn_now (holding_of t) later rest)))));
            holds = ap (λ ns. pinned ns (holding_of t)) (nets_are (list ++ e ∷ []) chain) ∙ pinned_is (rows_at base (list ++ e ∷ [])) t (ends.knows (longer g.knows));
            knows = ends.knows (longer g.knows);
            given =
                ap (λ l. given_at (places_of n l)) places_more
                ∙ (ap given_at (filter-append (λ (p : Place Version). p.session == n) (places_in list) (place_of e ∷ []))
                ∙ (map-append (λ (p : Place Version). p.gives) (places_of n (places_in list)) (places_of n (place_of e ∷ []))
                ∙ ((λ i. given_same i ++ map (λ (p : Place Version). p.gives) (cond (is_mine i) (place_of e ∷ []) []))
                ∙ ((λ i. g.given i ++ gives i ∷ []) ∙ sym (given_more told turn_event ∙ ap (λ b. given_by is_shared told ++ cond b (m.gives ∷ []) []) sh)))));
          }

      pub going_turn : IsGoing all base n script (list ++ e ∷ []) t (told ++ turn_event ∷ []) rest
      going_turn = turn_going

      -- and what it notes is what it would note alone
      pub acting_turn : (made : List Item) → IsActing all base n script seen made g.now (holding_of s) (c ∷ rest) → e.entry.act ≡ noted_by all (nets (rows_at base list)) (holding_of s) c
          → (w : IsGoing all base n script (list ++ e ∷ []) t (told ++ turn_event ∷ []) rest) × IsActing all base n script (list ++ e ∷ []) (made ++ e ∷ []) w.now (holding_of t) rest
      acting_turn made a act_by =
          let noted : noted_by all (nets_at all base versions) (holding_of s) c ≡ e.entry.act = ap (λ ns. noted_by all ns (holding_of s) c) (nets_are list rows_before) ∙ sym act_by in (
            turn_going,
            λ later.
                ap (λ x. acts_from all base [] fresh (x ++ later) script) views_more
                ∙ (ap (λ x. acts_from all base [] fresh x script) (append_assoc (views n [] (places_in seen)) (versions ∷ []) later)
                ∙ (a (versions ∷ later)
                ∙ (ap (λ l. acts_in made ++ l) (acts_shared g.now versions (holding_of s) later c rest sh
                ∙ (ap (λ (m : Act). noted_by all (nets_at all base versions) (holding_of s) c ∷ acts_from all base (more versions m.gives) m.has later rest) turn_act
                ∙ (λ i. noted i ∷ acts_from all base (now_is i) (sym ends.has i) later rest)))
                ∙ (sym (append_assoc (acts_in made) (e.entry.act ∷ []) (acts_from all base turn_now (holding_of t) later rest))
                ∙ ap (λ l. l ++ acts_from all base turn_now (holding_of t) later rest) (sym (map-append (λ (i : Item). i.entry.act) made (e ∷ []))))))),
          )
