-- The nets, constants, ticks, root and forks of a netlist are read back.
use Rattle.std.proofs.Common.{◌≡◌, ℕ, ◌<◌, ◌≤◌, ◌*◌, ◌/◌, ◌%◌, List, [], ◌∷◌, ◌++◌, ◌&&◌, length, map, Bool, true, false, not, nat_le, Option, Some, None, Ok, refl, sym, ap, subst, ◌∙◌, arith, All, IfSome, slice_get, if◌then◌else◌}
use Rattle.std.specs.Prelude.{◌==◌}
use Rattle.std.specs.Cmp.{nat_eq_equiv}
use Rattle.std.specs.List.{IsDistinct, list_any}
use Rattle.std.specs.Str.{bytes_eq}
use Rattle.std.proofs.lemmas.Cmp.{nat_list_eq_equiv}
use Rattle.std.proofs.lemmas.Bool.{lt-leb, le-ltb, or_from, or_parts, eqb-false, ne_eqb}
use Rattle.std.proofs.lemmas.Bool.Decides.{nat_tests}
use Rattle.std.proofs.lemmas.List.{append-nil, length-append, length_push, map-append}
use Rattle.std.proofs.lemmas.List.Elements.{All-head, All-tail}
use Rattle.std.proofs.lemmas.Option.{slice_get-get_or, unwrap_or-slice_get}
use Rattle.cyc_text.specs.Name.{is_name}
use Rattle.cell_arcs.specs.declared.cells.Cell.{Cell}
use Rattle.netlist_model.specs.EventNames.{name_at, edge_byte, event_name}
use Rattle.netlist_model.specs.Circuit.{Circuit, event_at, event_of, place_of, fork_of, is_between, tick_of, roots_of, kinds_after}
use Rattle.netlist_model.specs.Sound.{AreNames, IsTick, IsFork}
use Rattle.netlist_model.specs.Statements.{add_net, add_const, set_tick, start_tick, set_root, add_fork, add_fork_of}
use Rattle.netlist_model.specs.declared.edits.Edit.TheVariants.{Net, Const, Tick, Root, Fork}
use Rattle.netlist_model.specs.declared.parts.Fork.{Fork as ForkPart}
use Rattle.netlist_model.specs.declared.parts.Instance.{Instance}
use Rattle.netlist_model.specs.declared.parts.Tick.{Tick as TickPart}
use Rattle.netlist_reader.specs.Canonical.{net_line, const_line, tick_line, root_lines, fork_line}
use Rattle.netlist_reader.specs.NetlistFiles.{stated}
use Rattle.netlist_reader.proofs.Bytes.{IsSolid, EachSolid, high-append, name_solid, number_solid}
use Rattle.netlist_reader.proofs.Leads.{Leads}
use Rattle.netlist_reader.proofs.Lists.{position_none, find_none, apart_before, all_middle, place_is, one_more, list_any-map}
use Rattle.netlist_reader.proofs.Said.{is_rise, named_event, net_said, const_said, tick_said, root_said, fork_said}

-- the netlist of these parts
abbrev pub parts_of : List (List ℕ) → List (List ℕ) → List Instance → List TickPart → List ForkPart → Option ℕ → Circuit
parts_of nets consts insts ticks forks root = record { nets = nets; consts = consts; insts = insts; ticks = ticks; forks = forks; root = root }

-- what holds of each holds of the one that is next
pub all_at : {A : Type 0} (P : A → Type 0) (done : List A) (x : A) (more whole : List A) → done ++ x ∷ more ≡ whole → All P whole → P x
all_at P done x more whole e h = all_middle P done x more (subst (All P) (sym e) h)

-- fewer are done than there are
pub fewer : {A : Type 0} (done : List A) (x : A) (more whole : List A) → done ++ x ∷ more ≡ whole → length done < length whole
fewer done x more whole e = omega (arith, ap length e, length-append done (x ∷ more))

-- a name differs from those before it
pub new_name : (done : List (List ℕ)) (x : List ℕ) (more whole : List (List ℕ)) → done ++ x ∷ more ≡ whole → IsDistinct bytes_eq whole → place_of x done ≡ None
new_name done x more whole e differ = position_none (bytes_eq x) done (apart_before bytes_eq nat_list_eq_equiv.symm done x more (subst (IsDistinct bytes_eq) (sym e) differ))

-- nets
net_added : (library : List Cell) (done : List (List ℕ)) (name : List ℕ) → is_name name ≡ true → place_of name done ≡ None → length done < 16384
    → stated library (parts_of done [] [] [] [] None) (Net name) ≡ Ok (parts_of (done ++ name ∷ []) [] [] [] [] None)
unfolding add_net
net_added library done name named fresh few = rw (named, fresh, lt-leb 16384 (length done) few) refl

net_solid : (x : List ℕ) → is_name x ≡ true → EachSolid (net_line x)
unfolding net_line
net_solid x name = (record { some = omega arith; high = (omega arith, (omega arith, (omega arith, tt))) }, (name_solid x name, tt))

pub nets_lead : (library : List Cell) (whole done more : List (List ℕ)) → done ++ more ≡ whole → AreNames whole → IsDistinct bytes_eq whole → length whole ≤ 16384
    → Leads library (map net_line more) (parts_of done [] [] [] [] None) (parts_of whole [] [] [] [] None)
nets_lead library whole done [] e named differ few = ap (λ (ns : List (List ℕ)). parts_of ns [] [] [] [] None) (sym (append-nil done) ∙ e)
nets_lead library whole done (x ∷ more) e named differ few =
    let name = all_at (λ (n : List ℕ). is_name n ≡ true) done x more whole e named in (
      parts_of (done ++ x ∷ []) [] [] [] [] None,
      record {
        edit = Net x;
        says = net_said x;
        allowed = refl;
        does = net_added library done x name (new_name done x more whole e differ) (omega (arith, fewer done x more whole e));
        solid = net_solid x name;
      },
      nets_lead library whole (done ++ x ∷ []) more (one_more done x more whole e) named differ few,
    )

-- constants
any_middle : {A : Type 0} (p : A → Bool) (done : List A) (x : A) (more : List A) → list_any p (done ++ x ∷ more) ≡ false → p x ≡ false
any_middle p [] x more h = (or_parts (p x) (list_any p more) h).0
any_middle p (y ∷ ys) x more h = any_middle p ys x more (or_parts (p y) (list_any p (ys ++ x ∷ more)) h).1

-- a constant has no name of a net
pub foreign : (nets done : List (List ℕ)) (x : List ℕ) (more : List (List ℕ)) → All (λ n. list_any (bytes_eq n) (done ++ x ∷ more) ≡ false) nets → list_any (bytes_eq x) nets ≡ false
foreign [] done x more h = refl
foreign (n ∷ ns) done x more h =
    or_from (bytes_eq x n) (list_any (bytes_eq x) ns)
    (nat_list_eq_equiv.symm x n ∙ any_middle (bytes_eq n) done x more (All-head (λ (m : List ℕ). list_any (bytes_eq m) (done ++ x ∷ more) ≡ false) n ns h))
    (foreign ns done x more (All-tail (λ (m : List ℕ). list_any (bytes_eq m) (done ++ x ∷ more) ≡ false) n ns h))

const_added : (library : List Cell) (nets done : List (List ℕ)) (name : List ℕ) → is_name name ≡ true → place_of name nets ≡ None → place_of name done ≡ None → length done < 1024
    → stated library (parts_of nets done [] [] [] None) (Const name) ≡ Ok (parts_of nets (done ++ name ∷ []) [] [] [] None)
unfolding add_const
const_added library nets done name named other fresh few = rw (named, other, fresh, lt-leb 1024 (length done) few) refl

const_solid : (x : List ℕ) → is_name x ≡ true → EachSolid (const_line x)
unfolding const_line
const_solid x name = (record { some = omega arith; high = (omega arith, (omega arith, (omega arith, (omega arith, (omega arith, tt))))) }, (name_solid x name, tt))

pub consts_lead : (library : List Cell) (nets whole done more : List (List ℕ)) → done ++ more ≡ whole → AreNames whole → IsDistinct bytes_eq whole → length whole ≤ 1024
    → All (λ n. list_any (bytes_eq n) whole ≡ false) nets → Leads library (map const_line more) (parts_of nets done [] [] [] None) (parts_of nets whole [] [] [] None)
consts_lead library nets whole done [] e named differ few apart = ap (λ (ns : List (List ℕ)). parts_of nets ns [] [] [] None) (sym (append-nil done) ∙ e)
consts_lead library nets whole done (x ∷ more) e named differ few apart =
    let name = all_at (λ (n : List ℕ). is_name n ≡ true) done x more whole e named in
    let other = position_none (bytes_eq x) nets (foreign nets done x more (subst (λ (ns : List (List ℕ)). All (λ n. list_any (bytes_eq n) ns ≡ false) nets) (sym e) apart)) in (
      parts_of nets (done ++ x ∷ []) [] [] [] None,
      record {
        edit = Const x;
        says = const_said x;
        allowed = refl;
        does = const_added library nets done x name other (new_name done x more whole e differ) (omega (arith, fewer done x more whole e));
        solid = const_solid x name;
      },
      consts_lead library nets whole (done ++ x ∷ []) more (one_more done x more whole e) named differ few apart,
    )

-- events
pub name_stands : (names : List (List ℕ)) (at : ℕ) → at < length names → slice_get names at ≡ Some (name_at names at)
name_stands names at h = slice_get-get_or names at [] h ∙ ap Some (sym (unwrap_or-slice_get names at []))

pub name_named : (names : List (List ℕ)) (at : ℕ) → AreNames names → at < length names → is_name (name_at names at) ≡ true
name_named names at named h = rw (unwrap_or-slice_get names at []) (named at [] h)

event_again : (event : ℕ) → event_at (is_rise event) (event / 2) ≡ event
event_again event = by (is_rise event) refl
  where
    by : (b : Bool) → is_rise event ≡ b → event_at b (event / 2) ≡ event
    by true e = let z : event % 2 ≡ 0 = grind (arith, nat_tests) in omega arith
    by false e = let z : event % 2 ≡ 0 → ⊥ = eqb-false (event % 2) 0 e in omega arith

-- an event is known by its name
pub event_known : (nets : List (List ℕ)) (event : ℕ) → IsDistinct bytes_eq nets → event < 2 * length nets → event_of nets (named_event nets event) ≡ Some event
event_known nets event differ low =
    rw (place_is nets (event / 2) (name_at nets (event / 2)) differ (name_stands nets (event / 2) (omega arith))) (ap Some (event_again event))

pub event_solid : (nets : List (List ℕ)) (event : ℕ) → AreNames nets → event < 2 * length nets → IsSolid (event_name nets event)
unfolding event_name
event_solid nets event named low =
    let name = name_solid (name_at nets (event / 2)) (name_named nets (event / 2) named (omega arith)) in
    record {
      some = omega (arith, length-append (name_at nets (event / 2)) (edge_byte event ∷ []), name.some);
      high = high-append (name_at nets (event / 2)) (edge_byte event ∷ []) name.high (edge_high (is_rise event), tt);
    }
  where
    edge_high : (b : Bool) → 35 < (if b then 43 else 45)
    edge_high true = omega arith
    edge_high false = omega arith

-- ticks
same_pair : (a b : TickPart) → is_between a.source a.target b ≡ is_between b.source b.target a
same_pair a b = rw (nat_eq_equiv.symm a.source b.source, nat_eq_equiv.symm a.target b.target) refl

tick_added : (library : List Cell) (nets consts : List (List ℕ)) (insts : List Instance) (done : List TickPart) (t : TickPart) → IsDistinct bytes_eq nets → IsTick (length nets) t → tick_of done t.source t.target ≡ None
    → stated library (parts_of nets consts insts done [] None) (Tick (record { source = named_event nets t.source; target = named_event nets t.target; count = t.count })) ≡ Ok (parts_of nets consts insts (done ++ t ∷ []) [] None)
unfolding set_tick start_tick
tick_added library nets consts insts done t differ is fresh =
    let some : (t.count == 0) ≡ false = ne_eqb t.count 0 (λ e. let p = is.some in omega arith) in
    rw (event_known nets t.source differ is.source, event_known nets t.target differ is.target, le-ltb 15 t.count is.few, some, fresh) refl

tick_solid : (nets : List (List ℕ)) (t : TickPart) → AreNames nets → IsTick (length nets) t → EachSolid (tick_line nets t)
unfolding tick_line
tick_solid nets t named is =
    (record { some = omega arith; high = (omega arith, (omega arith, (omega arith, (omega arith, tt)))) }, (event_solid nets t.source named is.source, (event_solid nets t.target named is.target, (number_solid t.count (omega (arith, is.few)), tt))))

pub ticks_lead : (library : List Cell) (nets consts : List (List ℕ)) (insts : List Instance) (whole done more : List TickPart) → done ++ more ≡ whole → AreNames nets → IsDistinct bytes_eq nets
    → All (IsTick (length nets)) whole → IsDistinct (λ a b. is_between a.source a.target b) whole
    → Leads library (map (tick_line nets) more) (parts_of nets consts insts done [] None) (parts_of nets consts insts whole [] None)
ticks_lead library nets consts insts whole done [] e named differ each pairs = ap (λ (ts : List TickPart). parts_of nets consts insts ts [] None) (sym (append-nil done) ∙ e)
ticks_lead library nets consts insts whole done (t ∷ more) e named differ each pairs =
    let is = all_at (IsTick (length nets)) done t more whole e each in
    let apart = apart_before (λ (a b : TickPart). is_between a.source a.target b) same_pair done t more (subst (IsDistinct (λ (a b : TickPart). is_between a.source a.target b)) (sym e) pairs) in (
      parts_of nets consts insts (done ++ t ∷ []) [] None,
      record {
        edit = Tick (record { source = named_event nets t.source; target = named_event nets t.target; count = t.count });
        says = tick_said nets t is.few;
        allowed = refl;
        does = tick_added library nets consts insts done t differ is (find_none (is_between t.source t.target) done apart);
        solid = tick_solid nets t named is;
      },
      ticks_lead library nets consts insts whole (done ++ t ∷ []) more (one_more done t more whole e) named differ each pairs,
    )

-- the root
root_set : (library : List Cell) (nets consts : List (List ℕ)) (insts : List Instance) (ticks : List TickPart) (r : ℕ) → IsDistinct bytes_eq nets → r < 2 * length nets
    → stated library (parts_of nets consts insts ticks [] None) (Root (named_event nets r)) ≡ Ok (parts_of nets consts insts ticks [] (Some r))
unfolding set_root
root_set library nets consts insts ticks r differ low = rw (event_known nets r differ low) refl

pub root_leads : (library : List Cell) (nets consts : List (List ℕ)) (insts : List Instance) (ticks : List TickPart) (root : Option ℕ) → AreNames nets → IsDistinct bytes_eq nets
    → IfSome root (λ r. r < 2 * length nets) → Leads library (root_lines nets root) (parts_of nets consts insts ticks [] None) (parts_of nets consts insts ticks [] root)
unfolding root_lines
root_leads library nets consts insts ticks None named differ low = refl
root_leads library nets consts insts ticks (Some r) named differ low = (
  parts_of nets consts insts ticks [] (Some r),
  record {
    edit = Root (named_event nets r);
    says = root_said nets r;
    allowed = refl;
    does = root_set library nets consts insts ticks r differ low;
    solid = (record { some = omega arith; high = (omega arith, (omega arith, (omega arith, (omega arith, tt)))) }, (event_solid nets r named low, tt));
  },
  refl,
)

-- forks
pub new_named : {A : Type 0} (f : A → List ℕ) (done : List A) (x : A) (more whole : List A) → done ++ x ∷ more ≡ whole → IsDistinct bytes_eq (map f whole) → list_any (λ y. bytes_eq (f x) (f y)) done ≡ false
new_named f done x more whole e differ =
    sym (list_any-map f (bytes_eq (f x)) done)
    ∙ apart_before bytes_eq nat_list_eq_equiv.symm (map f done) (f x) (map f more) (subst (IsDistinct bytes_eq) (ap (map f) (sym e) ∙ map-append f done (x ∷ more)) differ)

kinds_after-append : (before xs ys : List ℕ) → kinds_after before (xs ++ ys) ≡ kinds_after (kinds_after before xs) ys
unfolding kinds_after
kinds_after-append before [] ys = refl
kinds_after-append before (x ∷ xs) ys = kinds_after-append (if list_any (λ y. x == y) before then before else before ++ x ∷ []) xs ys

kinds_grow : (before xs : List ℕ) → length before ≤ length (kinds_after before xs)
unfolding kinds_after
kinds_grow before [] = omega arith
kinds_grow before (x ∷ xs) = by (list_any (λ y. x == y) before) (kinds_grow (if list_any (λ y. x == y) before then before else before ++ x ∷ []) xs)
  where
    by : (b : Bool) → length (if b then before else before ++ x ∷ []) ≤ length (kinds_after (if b then before else before ++ x ∷ []) xs) → length before ≤ length (kinds_after (if b then before else before ++ x ∷ []) xs)
    by true h = h
    by false h = omega (arith, length_push before x)

room : (kinds : List ℕ) (x : ℕ) (xs : List ℕ) → length (kinds_after kinds (x ∷ xs)) ≤ 64 → (not (list_any (λ y. x == y) kinds) && nat_le 64 (length kinds)) ≡ false
unfolding kinds_after
room kinds x xs few = by (list_any (λ y. x == y) kinds) few
  where
    by : (b : Bool) → length (kinds_after (if b then kinds else kinds ++ x ∷ []) xs) ≤ 64 → (not b && nat_le 64 (length kinds)) ≡ false
    by true h = refl
    by false h = lt-leb 64 (length kinds) (omega (arith, kinds_grow (kinds ++ x ∷ []) xs, length_push kinds x))

-- there is room for the root of the next fork
room_for_root : (done : List ForkPart) (f : ForkPart) (more whole : List ForkPart) → done ++ f ∷ more ≡ whole → length (roots_of whole) ≤ 64
    → (not (list_any (λ r. f.root == r) (roots_of done)) && nat_le 64 (length (roots_of done))) ≡ false
room_for_root done f more whole e few =
    let split : roots_of whole ≡ kinds_after (roots_of done) (f.root ∷ map (λ g. g.root) more) =
    ap roots_of (sym e) ∙ ap (kinds_after []) (map-append (λ (g : ForkPart). g.root) done (f ∷ more)) ∙ kinds_after-append [] (map (λ g. g.root) done) (f.root ∷ map (λ g. g.root) more) in
    room (roots_of done) f.root (map (λ g. g.root) more) (omega (arith, ap length split))

fork_added : (library : List Cell) (nets consts : List (List ℕ)) (insts : List Instance) (ticks : List TickPart) (done : List ForkPart) (root : Option ℕ) (f : ForkPart) → IsDistinct bytes_eq nets → IsFork (length nets) f
    → fork_of done f.name ≡ None → length done < 256 → (not (list_any (λ r. f.root == r) (roots_of done)) && nat_le 64 (length (roots_of done))) ≡ false
    → stated library (parts_of nets consts insts ticks done root) (Fork (record { name = f.name; root = named_event nets f.root; fast = named_event nets f.fast; slow = named_event nets f.slow; margin = f.margin; offset = f.offset }))
    ≡ Ok (parts_of nets consts insts ticks (done ++ f ∷ []) root)
unfolding add_fork add_fork_of
fork_added library nets consts insts ticks done root f differ is fresh few roots =
    rw (
      is.named,
      fresh,
      event_known nets f.root differ is.root,
      event_known nets f.fast differ is.fast,
      event_known nets f.slow differ is.slow,
      le-ltb 1000000 f.margin is.margin,
      le-ltb 15 f.offset is.offset,
      lt-leb 256 (length done) few,
      roots,
    ) refl

fork_solid : (nets : List (List ℕ)) (f : ForkPart) → AreNames nets → IsFork (length nets) f → EachSolid (fork_line nets f)
unfolding fork_line
fork_solid nets f named is = (
  record { some = omega arith; high = (omega arith, (omega arith, (omega arith, (omega arith, tt)))) },
  (
    name_solid f.name is.named,
    (
      event_solid nets f.root named is.root,
      (
        event_solid nets f.fast named is.fast,
        (
          event_solid nets f.slow named is.slow,
          (number_solid f.margin is.margin, (number_solid f.offset (omega (arith, is.offset)), tt)),
        ),
      ),
    ),
  ),
)

pub forks_lead : (library : List Cell) (nets consts : List (List ℕ)) (insts : List Instance) (ticks : List TickPart) (root : Option ℕ) (whole done more : List ForkPart) → done ++ more ≡ whole
    → AreNames nets → IsDistinct bytes_eq nets → All (IsFork (length nets)) whole → IsDistinct bytes_eq (map (λ f. f.name) whole) → length whole ≤ 256 → length (roots_of whole) ≤ 64
    → Leads library (map (fork_line nets) more) (parts_of nets consts insts ticks done root) (parts_of nets consts insts ticks whole root)
forks_lead library nets consts insts ticks root whole done [] e named differ each names few roots = ap (λ (fs : List ForkPart). parts_of nets consts insts ticks fs root) (sym (append-nil done) ∙ e)
forks_lead library nets consts insts ticks root whole done (f ∷ more) e named differ each names few roots =
    let is = all_at (IsFork (length nets)) done f more whole e each in
    let fresh = position_none (λ (x : ForkPart). bytes_eq f.name x.name) done (new_named (λ (x : ForkPart). x.name) done f more whole e names) in (
      parts_of nets consts insts ticks (done ++ f ∷ []) root,
      record {
        edit = Fork (record { name = f.name; root = named_event nets f.root; fast = named_event nets f.fast; slow = named_event nets f.slow; margin = f.margin; offset = f.offset });
        says = fork_said nets f is.margin is.offset;
        allowed = refl;
        does = fork_added library nets consts insts ticks done root f differ is fresh (omega (arith, fewer done f more whole e)) (room_for_root done f more whole e roots);
        solid = fork_solid nets f named is;
      },
      forks_lead library nets consts insts ticks root whole (done ++ f ∷ []) more (one_more done f more whole e) named differ each names few roots,
    )
