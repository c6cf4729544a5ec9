-- The text of a netlist once a net or a constant is away: all lines but its own are as they were.
use Rattle.std.proofs.Common.{◌≡◌, ◌≢◌, ◌⊎◌, inl, inr, ℕ, ◌+◌, ◌-◌, ◌*◌, ◌/◌, ◌%◌, ◌<◌, ◌||◌, ◌==◌, List, [], ◌∷◌, ◌++◌, length, map, get_or, take, drop, suc, zero, nat_eq, nat_lt, Bool, true, false, Option, Some, None, option_map, slice_get, position, refl, sym, ap, subst, ◌∙◌, arith, append_assoc, if◌then◌else◌}
use Rattle.std.specs.Prelude.{Result, Ok, Err, codes}
use Rattle.std.specs.List.{flat_map, list_any, remove}
use Rattle.std.specs.Option.{option_map_or}
use Rattle.std.specs.Str.{bytes_eq}
use Rattle.std.proofs.lemmas.Bool.Decides.{nat_tests}
use Rattle.std.proofs.lemmas.List.{map-append}
use Rattle.std.proofs.lemmas.List.Quantifiers.{position-Some}
use Rattle.std.proofs.lemmas.Option.{slice_get-get_or}
use Rattle.std.specs.Cmp.Lexicographic.{bytes_decides}
use Rattle.cell_arcs.specs.Steps.{◌>>=◌, or_fault, or_else}
use Rattle.cell_arcs.specs.declared.cells.Cell.{Cell}
use Rattle.netlist_model.specs.Circuit.{Circuit, place_of, ref_of}
use Rattle.netlist_model.specs.Deletions.{is_same, is_pinned, is_event_of, is_ticked, is_forked, is_used, moved_up, ref_after, event_after, inst_after, tick_after, fork_after, after_ref, del_net}
use Rattle.netlist_model.specs.EventNames.{name_at, edge_byte, event_name}
use Rattle.netlist_model.specs.Statements.{unless}
use Rattle.netlist_model.specs.declared.faults.StatementFault.{StatementFault}
use Rattle.netlist_model.specs.declared.faults.StatementFault.TheVariants.{UnknownNet, StillUsed}
use Rattle.netlist_model.specs.declared.parts.Fork.{Fork}
use Rattle.netlist_model.specs.declared.parts.Instance.{Instance}
use Rattle.netlist_model.specs.declared.parts.NetRef.{NetRef}
use Rattle.netlist_model.specs.declared.parts.NetRef.TheVariants.{Net, Const}
use Rattle.netlist_model.specs.declared.parts.Tick.{Tick}
use Rattle.netlist_reader.specs.Canonical.{ref_name, pin_name, pin_names, net_line, const_line, inst_line_of, inst_line, delay_lines, tick_line, root_lines, fork_line, canonical_lines}
use Rattle.netlist_reader.specs.DeletedLines.{IsWithoutLine}

-- ---- tests and lists

neither : (a b : Bool) → (a || b) ≡ false → (a ≡ false) × (b ≡ false)
neither true b h = cc
neither false b h = (refl, h)

-- what is written of each entry, where a change of those that a test fails of leaves that
written_same : {A B : Type 0} (old new : A → B) (g : A → A) (bad : A → Bool) → ((x : A) → bad x ≡ false → new (g x) ≡ old x) → (xs : List A) → list_any bad xs ≡ false → map new (map g xs) ≡ map old xs
written_same old new g bad same [] none = refl
written_same old new g bad same (x ∷ xs) none =
    let parts = neither (bad x) (list_any bad xs) none in
    rw (same x parts.0, written_same old new g bad same xs parts.1) refl

spread_same : {A B : Type 0} (f : A → List B) (g : A → A) → ((x : A) → f (g x) ≡ f x) → (xs : List A) → flat_map f (map g xs) ≡ flat_map f xs
spread_same f g same [] = refl
spread_same f g same (x ∷ xs) = rw (same x, spread_same f g same xs) refl

-- ---- names

moved_suc : (gone at : ℕ) → moved_up (suc gone) (suc at) ≡ suc (moved_up gone at)
moved_suc gone at = by (nat_lt gone at) refl
  where
    by : (b : Bool) → nat_lt gone at ≡ b → moved_up (suc gone) (suc at) ≡ suc (moved_up gone at)
    by true e =
        let low : gone < at = grind (arith, nat_tests) in
        let f : nat_lt (suc gone) (suc at) ≡ true = grind (arith, nat_tests) in
        rw (e, f) (let g : suc at - 1 ≡ suc (at - 1) = omega (arith, low) in g)
    by false e = let f : nat_lt (suc gone) (suc at) ≡ false = grind (arith, nat_tests) in rw (e, f) refl

-- what stood at a place stands where it moved to
stands_still : {A : Type 0} (xs : List A) (gone at : ℕ) → nat_eq gone at ≡ false → slice_get (remove xs gone) (moved_up gone at) ≡ slice_get xs at
stands_still [] zero at other = refl
stands_still [] (suc gone) at other = refl
stands_still (x ∷ xs) zero zero other = cc
stands_still (x ∷ xs) zero (suc at) other = let f : nat_lt 0 (suc at) ≡ true = grind (arith, nat_tests) in let e : suc at - 1 ≡ at = omega arith in rw (f, e) refl
stands_still (x ∷ xs) (suc gone) zero other = let f : nat_lt (suc gone) 0 ≡ false = grind (arith, nat_tests) in rw f refl
stands_still (x ∷ xs) (suc gone) (suc at) other =
    let o : nat_eq gone at ≡ false = grind (arith, nat_tests) in
    rw (moved_suc gone at) (stands_still xs gone at o)

name_still : (names : List (List ℕ)) (gone at : ℕ) → nat_eq gone at ≡ false → name_at (remove names gone) (moved_up gone at) ≡ name_at names at
name_still names gone at other = rw (stands_still names gone at other) refl

event_still : (nets : List (List ℕ)) (gone event : ℕ) → is_event_of gone event ≡ false → event_name (remove nets gone) (event_after gone event) ≡ event_name nets event
unfolding event_name
event_still nets gone event other =
    let half : event_after gone event / 2 ≡ moved_up gone (event / 2) = omega arith in
    let edge : event_after gone event % 2 ≡ event % 2 = omega arith in
    rw (half, edge, name_still nets gone (event / 2) other) refl

-- the lists of names after a net or a constant is away
nets_after : NetRef → List (List ℕ) → List (List ℕ)
nets_after (Net g) nets = remove nets g
nets_after (Const g) nets = nets

consts_after : NetRef → List (List ℕ) → List (List ℕ)
consts_after (Net g) consts = consts
consts_after (Const g) consts = remove consts g

ref_still : (gone : NetRef) (nets consts : List (List ℕ)) (r : NetRef) → is_same gone r ≡ false → ref_name (nets_after gone nets) (consts_after gone consts) (ref_after gone r) ≡ ref_name nets consts r
unfolding nets_after consts_after
ref_still (Net g) nets consts (Net a) other = name_still nets g a other
ref_still (Net g) nets consts (Const a) other = refl
ref_still (Const g) nets consts (Net a) other = refl
ref_still (Const g) nets consts (Const a) other = name_still consts g a other

pins_still : (gone : NetRef) (nets consts pins : List (List ℕ)) (refs : List NetRef) → list_any (is_same gone) refs ≡ false
    → pin_names (nets_after gone nets) (consts_after gone consts) pins (map (ref_after gone) refs) ≡ pin_names nets consts pins refs
pins_still gone nets consts [] refs none = refl
pins_still gone nets consts (p ∷ ps) [] none = refl
pins_still gone nets consts (p ∷ ps) (r ∷ rs) none =
    let parts = neither (is_same gone r) (list_any (is_same gone) rs) none in
    rw (ref_still gone nets consts r parts.0, pins_still gone nets consts ps rs parts.1) refl

-- ---- lines

inst_still : (library : List Cell) (gone : NetRef) (c d : Circuit) → d.nets ≡ nets_after gone c.nets → d.consts ≡ consts_after gone c.consts → (i : Instance) → is_pinned gone i ≡ false
    → inst_line library d (inst_after gone i) ≡ inst_line library c i
unfolding inst_line_of
inst_still library gone c d nets consts i free = by (slice_get library i.cell)
  where
    by : (o : Option Cell) → option_map_or (inst_line_of d (inst_after gone i)) o [] ≡ option_map_or (inst_line_of c i) o []
    by None = refl
    by (Some k) = rw (nets, consts) (ap (λ pins. codes "inst" ∷ i.name ∷ k.name ∷ pins) (pins_still gone c.nets c.consts _ i.pins free))

tick_still : (nets : List (List ℕ)) (gone : ℕ) (t : Tick) → is_ticked gone t ≡ false → tick_line (remove nets gone) (tick_after gone t) ≡ tick_line nets t
unfolding tick_line
tick_still nets gone t free =
    let parts = neither (is_event_of gone t.source) (is_event_of gone t.target) free in
    rw (event_still nets gone t.source parts.0, event_still nets gone t.target parts.1) refl

root_still : (nets : List (List ℕ)) (gone : ℕ) (r : Option ℕ) → option_map_or (is_event_of gone) r false ≡ false → root_lines (remove nets gone) (option_map (event_after gone) r) ≡ root_lines nets r
unfolding root_lines
root_still nets gone None free = refl
root_still nets gone (Some r) free = rw (event_still nets gone r free) refl

fork_still : (nets : List (List ℕ)) (gone : ℕ) (f : Fork) → is_forked gone f ≡ false → fork_line (remove nets gone) (fork_after gone f) ≡ fork_line nets f
unfolding fork_line
fork_still nets gone f free =
    let parts = three (is_event_of gone f.root) (is_event_of gone f.fast) (is_event_of gone f.slow) free in
    rw (event_still nets gone f.root parts.0, event_still nets gone f.fast parts.1, event_still nets gone f.slow parts.2) refl
  where
    three : (a b c : Bool) → (a || b || c) ≡ false → (a ≡ false) × (b ≡ false) × (c ≡ false)
    three true b c h = cc
    three false true c h = cc
    three false false true h = cc
    three false false false h = (refl, refl, refl)

-- ---- the one line

-- the lines of a list of names with one away
one_line : (line : List ℕ → List (List ℕ)) (names : List (List ℕ)) (at : ℕ) (name : List ℕ) → slice_get names at ≡ Some name
    → map line names ≡ map line (take at names) ++ line name ∷ map line (drop (suc at) names)
one_line line [] at name h = cc
one_line line (x ∷ xs) zero name h = let e : x ≡ name = cc in rw e refl
one_line line (x ∷ xs) (suc at) name h = ap (λ ls. line x ∷ ls) (one_line line xs at name h)

-- lines behind, or before, change nothing of it
with_more : (name : List ℕ) (old new more : List (List (List ℕ))) → IsWithoutLine name old new → IsWithoutLine name (old ++ more) (new ++ more)
with_more name old new more h = record {
  before = h.before;
  line = h.line;
  after = h.after ++ more;
  parts = ap (λ ls. ls ++ more) h.parts ∙ append_assoc h.before (h.line ∷ h.after) more;
  named = h.named;
  rest = ap (λ ls. ls ++ more) h.rest ∙ append_assoc h.before h.after more;
}

behind : (name : List ℕ) (first old new : List (List (List ℕ))) → IsWithoutLine name old new → IsWithoutLine name (first ++ old) (first ++ new)
behind name first old new h = record {
  before = first ++ h.before;
  line = h.line;
  after = h.after;
  parts = ap (λ ls. first ++ ls) h.parts ∙ sym (append_assoc first h.before (h.line ∷ h.after));
  named = h.named;
  rest = ap (λ ls. first ++ ls) h.rest ∙ sym (append_assoc first h.before h.after);
}

-- the name that is found stands at its place
found : (name : List ℕ) (names : List (List ℕ)) (at : ℕ) → place_of name names ≡ Some at → slice_get names at ≡ Some name
found name names at h =
    let (low, passes, _) = position-Some (bytes_eq name) names at [] h in
    slice_get-get_or names at [] low ∙ ap Some (sym ((bytes_decides name (get_or names at [])).0 passes))

net_away : (library : List Cell) (c : Circuit) (name : List ℕ) (gone : ℕ) → place_of name c.nets ≡ Some gone → is_used c (Net gone) ≡ false
    → IsWithoutLine name (canonical_lines library c) (canonical_lines library (after_ref c (Net gone)))
unfolding canonical_lines nets_after consts_after
net_away library c name gone at used =
    let d : Circuit = after_ref c (Net gone) in
    let free = four (list_any (is_pinned (Net gone)) c.insts) (list_any (is_ticked gone) c.ticks) (option_map_or (is_event_of gone) c.root false) (list_any (is_forked gone) c.forks) used in
    let insts : map (inst_line library d) d.insts ≡ map (inst_line library c) c.insts =
    written_same (inst_line library c) (inst_line library d) (inst_after (Net gone)) (is_pinned (Net gone)) (inst_still library (Net gone) c d refl refl) c.insts free.0 in
    let delays : flat_map (delay_lines library) d.insts ≡ flat_map (delay_lines library) c.insts = spread_same (delay_lines library) (inst_after (Net gone)) (λ i. refl) c.insts in
    let ticks : map (tick_line d.nets) d.ticks ≡ map (tick_line c.nets) c.ticks = written_same (tick_line c.nets) (tick_line d.nets) (tick_after gone) (is_ticked gone) (tick_still c.nets gone) c.ticks free.1 in
    let root : root_lines d.nets d.root ≡ root_lines c.nets c.root = root_still c.nets gone c.root free.2 in
    let forks : map (fork_line d.nets) d.forks ≡ map (fork_line c.nets) c.forks = written_same (fork_line c.nets) (fork_line d.nets) (fork_after gone) (is_forked gone) (fork_still c.nets gone) c.forks free.3 in
    let nets : List (List (List ℕ)) = map net_line c.nets in
    let left : List (List (List ℕ)) = map net_line (remove c.nets gone) in
    let first : IsWithoutLine name nets left = record {
      before = map net_line (take gone c.nets);
      line = net_line name;
      after = map net_line (drop (suc gone) c.nets);
      parts = one_line net_line c.nets gone name (found name c.nets gone at);
      named = inl refl;
      rest = map-append net_line (take gone c.nets) (drop (suc gone) c.nets);
    } in
    subst (IsWithoutLine name (canonical_lines library c))
    (λ i. left ++ map const_line c.consts ++ sym insts i ++ sym delays i ++ sym ticks i ++ sym root i ++ sym forks i)
    (rest_of name c library nets left first)
  where
    four : (a b c d : Bool) → (a || b || c || d) ≡ false → (a ≡ false) × (b ≡ false) × (c ≡ false) × (d ≡ false)
    four true b c d h = cc
    four false true c d h = cc
    four false false true d h = cc
    four false false false true h = cc
    four false false false false h = (refl, refl, refl, refl)

    rest_of : (name : List ℕ) (c : Circuit) (library : List Cell) (nets left : List (List (List ℕ))) → IsWithoutLine name nets left
        → IsWithoutLine name
        (nets ++ map const_line c.consts ++ map (inst_line library c) c.insts ++ flat_map (delay_lines library) c.insts ++ map (tick_line c.nets) c.ticks ++ root_lines c.nets c.root ++ map (fork_line c.nets) c.forks)
        (left ++ map const_line c.consts ++ map (inst_line library c) c.insts ++ flat_map (delay_lines library) c.insts ++ map (tick_line c.nets) c.ticks ++ root_lines c.nets c.root ++ map (fork_line c.nets) c.forks)
    rest_of name c library nets left h =
        with_more name _ _ (map (fork_line c.nets) c.forks)
        (with_more name _ _ (root_lines c.nets c.root)
        (with_more name _ _ (map (tick_line c.nets) c.ticks)
        (with_more name _ _ (flat_map (delay_lines library) c.insts)
        (with_more name _ _ (map (inst_line library c) c.insts)
        (with_more name nets left (map const_line c.consts) h)))))

const_away : (library : List Cell) (c : Circuit) (name : List ℕ) (gone : ℕ) → place_of name c.consts ≡ Some gone → is_used c (Const gone) ≡ false
    → IsWithoutLine name (canonical_lines library c) (canonical_lines library (after_ref c (Const gone)))
unfolding canonical_lines nets_after consts_after
const_away library c name gone at free =
    let d : Circuit = after_ref c (Const gone) in
    let insts : map (inst_line library d) d.insts ≡ map (inst_line library c) c.insts =
    written_same (inst_line library c) (inst_line library d) (inst_after (Const gone)) (is_pinned (Const gone)) (inst_still library (Const gone) c d refl refl) c.insts free in
    let delays : flat_map (delay_lines library) d.insts ≡ flat_map (delay_lines library) c.insts = spread_same (delay_lines library) (inst_after (Const gone)) (λ i. refl) c.insts in
    let left : List (List (List ℕ)) = map const_line (remove c.consts gone) in
    let first : IsWithoutLine name (map const_line c.consts) left = record {
      before = map const_line (take gone c.consts);
      line = const_line name;
      after = map const_line (drop (suc gone) c.consts);
      parts = one_line const_line c.consts gone name (found name c.consts gone at);
      named = inr refl;
      rest = map-append const_line (take gone c.consts) (drop (suc gone) c.consts);
    } in
    subst (IsWithoutLine name (canonical_lines library c))
    (λ i. map net_line c.nets ++ left ++ sym insts i ++ sym delays i ++ map (tick_line c.nets) c.ticks ++ root_lines c.nets c.root ++ map (fork_line c.nets) c.forks)
    (with_more name _ _ (map (fork_line c.nets) c.forks)
    (with_more name _ _ (root_lines c.nets c.root)
    (with_more name _ _ (map (tick_line c.nets) c.ticks)
    (with_more name _ _ (flat_map (delay_lines library) c.insts)
    (with_more name _ _ (map (inst_line library c) c.insts)
    (behind name (map net_line c.nets) (map const_line c.consts) left first))))))

pub net_left_out : (library : List Cell) (c d : Circuit) (name : List ℕ) → del_net c name ≡ Ok d → IsWithoutLine name (canonical_lines library c) (canonical_lines library d)
unfolding del_net
net_left_out library c d name h = by (place_of name c.nets) refl (place_of name c.consts) refl h
  where
    done : (r : NetRef) (b : Bool) → is_used c r ≡ b → unless b StillUsed (Ok (after_ref c r)) ≡ Ok d → (is_used c r ≡ false → IsWithoutLine name (canonical_lines library c) (canonical_lines library (after_ref c r)))
        → IsWithoutLine name (canonical_lines library c) (canonical_lines library d)
    done r true e f next = cc
    done r false e f next = let same : after_ref c r ≡ d = cc in subst (λ (x : Circuit). IsWithoutLine name (canonical_lines library c) (canonical_lines library x)) same (next e)

    by : (a : Option ℕ) → place_of name c.nets ≡ a → (b : Option ℕ) → place_of name c.consts ≡ b
        → (or_fault UnknownNet (ref_of c.nets c.consts name) >>= (λ r. unless (is_used c r) StillUsed (Ok (after_ref c r)))) ≡ Ok d
        → IsWithoutLine name (canonical_lines library c) (canonical_lines library d)
    by (Some k) e b f g = done (Net k) (is_used c (Net k)) refl (rw e at g) (net_away library c name k e)
    by None e (Some k) f g = done (Const k) (is_used c (Const k)) refl (rw (e, f) at g) (const_away library c name k f)
    by None e None f g = let bad : Err UnknownNet ≡ Ok d = rw (e, f) at g in cc
