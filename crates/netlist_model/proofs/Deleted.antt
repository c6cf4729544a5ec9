-- What holds of every netlist holds once an instance, a fork, a net or a constant is away.
use Rattle.std.proofs.Common.{◌≡◌, ℕ, ◌+◌, ◌-◌, ◌*◌, ◌/◌, ◌<◌, ◌≤◌, ◌||◌, List, [], ◌∷◌, length, map, nat_eq, nat_lt, Bool, true, false, Option, Some, None, option_map, slice_get, refl, sym, ap, subst, ◌∙◌, arith, All, IfSome, if◌then◌else◌}
use Rattle.std.specs.List.{IsDistinct, list_any, remove}
use Rattle.std.specs.Option.{option_map_or}
use Rattle.std.specs.Str.{bytes_eq}
use Rattle.std.proofs.lemmas.Bool.Decides.{nat_tests}
use Rattle.std.proofs.lemmas.List.{length-map}
use Rattle.std.proofs.lemmas.List.Edits.{length-remove}
use Rattle.std.proofs.lemmas.List.Elements.{All-map, All-weaker}
use Rattle.indexmap.proofs.SetLemmas.{map-remove}
use Rattle.cyc_text.specs.Name.{is_name}
use Rattle.cell_arcs.specs.declared.cells.Cell.{Cell}
use Rattle.netlist_model.specs.Circuit.{Circuit, drives, driver_of, is_net, last_of, is_between}
use Rattle.netlist_model.specs.Deletions.{is_same, is_pinned, is_event_of, is_ticked, is_forked, is_used, moved_up, ref_after, event_after, inst_after, tick_after, fork_after, after_ref}
use Rattle.netlist_model.specs.Sound.{IsPin, IsInstance, IsTick, IsFork, IsNetlist, HasOutput, IsOfLibrary, Fits}
use Rattle.netlist_model.specs.declared.parts.Fork.{Fork}
use Rattle.netlist_model.specs.declared.parts.Instance.{Instance}
use Rattle.netlist_model.specs.declared.parts.NetRef.{NetRef}
use Rattle.netlist_model.specs.declared.parts.NetRef.TheVariants.{Net, Const}
use Rattle.netlist_model.specs.declared.parts.Tick.{Tick}
use Rattle.netlist_model.proofs.Entries.{neither, all_unless, All-remove, any_remove, IsDistinct-remove, one_remove, one_map, IsDistinct-map, map_same, last_map}
use Rattle.netlist_model.proofs.RootCounts.{roots_remove, roots_map}
use Rattle.netlist_model.proofs.Soundness.{insts_set}

-- ---- an instance or a fork away

pub inst_removed : (c : Circuit) (at : ℕ) → IsNetlist c → IsNetlist (record c { insts = remove c.insts at })
inst_removed c at s = insts_set c (remove c.insts at) s
    (All-remove (IsInstance (length c.nets) (length c.consts)) c.insts at s.insts)
    (subst (IsDistinct bytes_eq) (sym (map-remove (λ (i : Instance). i.name) c.insts at)) (IsDistinct-remove bytes_eq (map (λ i. i.name) c.insts) at s.insts_differ))
    (λ k n i is d. one_remove (drives n) c.insts at (λ k i is d. s.one_driver k n i is d) k i is d)

pub fits_remove : (library : List Cell) (insts : List Instance) (at : ℕ) → Fits library insts → Fits library (remove insts at)
fits_remove library insts at fits = All-remove (IsOfLibrary library) insts at fits

remove_few : {A : Type 0} (xs : List A) (at most : ℕ) → at < length xs → length xs ≤ most → length (remove xs at) ≤ most
remove_few xs at most low few = omega (arith, length-remove xs at low, few)

pub fork_removed : (c : Circuit) (at : ℕ) → at < length c.forks → IsNetlist c → IsNetlist (record c { forks = remove c.forks at })
fork_removed c at low s = record {
  net_names = s.net_names;
  const_names = s.const_names;
  nets_differ = s.nets_differ;
  consts_differ = s.consts_differ;
  no_net_is_const = s.no_net_is_const;
  few_nets = s.few_nets;
  few_consts = s.few_consts;
  insts = s.insts;
  insts_differ = s.insts_differ;
  one_driver = s.one_driver;
  ticks = s.ticks;
  pairs_differ = s.pairs_differ;
  forks = All-remove (IsFork (length c.nets)) c.forks at s.forks;
  forks_differ = subst (IsDistinct bytes_eq) (sym (map-remove (λ (f : Fork). f.name) c.forks at)) (IsDistinct-remove bytes_eq (map (λ f. f.name) c.forks) at s.forks_differ);
  few_forks = remove_few c.forks at 256 low s.few_forks;
  few_roots = omega (arith, roots_remove c.forks at, s.few_roots);
  root = s.root;
}

-- ---- places once an entry is away

moved_within : (gone at count left : ℕ) → at < count → gone < count → left + 1 ≡ count → nat_eq gone at ≡ false → moved_up gone at < left
moved_within gone at count left low out less other = by (nat_lt gone at) refl
  where
    by : (b : Bool) → nat_lt gone at ≡ b → (if b then at - 1 else at) < left
    by true e = let h : gone < at = grind (arith, nat_tests) in omega arith
    by false e = let h : at ≤ gone = grind (arith, nat_tests) in let d : gone ≡ at → ⊥ = grind (arith, nat_tests) in omega (arith, d)

-- the place before the entry went
was_at : ℕ → ℕ → ℕ
was_at gone at = if nat_lt at gone then at else at + 1

moved_same : (gone n at : ℕ) → nat_eq gone at ≡ false → nat_eq n (moved_up gone at) ≡ nat_eq (was_at gone n) at
unfolding was_at
moved_same gone n at other = by (nat_lt gone at) (nat_lt n gone) refl refl
  where
    by : (b d : Bool) → nat_lt gone at ≡ b → nat_lt n gone ≡ d → nat_eq n (if b then at - 1 else at) ≡ nat_eq (if d then n else n + 1) at
    by true true e f = grind (arith, nat_tests)
    by true false e f = grind (arith, nat_tests)
    by false true e f = grind (arith, nat_tests)
    by false false e f = grind (arith, nat_tests)

moved_apart : (gone a b : ℕ) → nat_eq gone a ≡ false → nat_eq gone b ≡ false → nat_eq (moved_up gone a) (moved_up gone b) ≡ nat_eq a b
moved_apart gone a b p q = by (nat_lt gone a) (nat_lt gone b) refl refl
  where
    by : (x y : Bool) → nat_lt gone a ≡ x → nat_lt gone b ≡ y → nat_eq (if x then a - 1 else a) (if y then b - 1 else b) ≡ nat_eq a b
    by true true e f = grind (arith, nat_tests)
    by true false e f = grind (arith, nat_tests)
    by false true e f = grind (arith, nat_tests)
    by false false e f = grind (arith, nat_tests)

event_within : (gone e count left : ℕ) → e < 2 * count → gone < count → left + 1 ≡ count → is_event_of gone e ≡ false → event_after gone e < 2 * left
event_within gone e count left low out less other =
    let net : e / 2 < count = omega arith in
    let h = moved_within gone (e / 2) count left net out less other in
    omega (arith, h)

event_apart : (gone a b : ℕ) → is_event_of gone a ≡ false → is_event_of gone b ≡ false → nat_eq (event_after gone a) (event_after gone b) ≡ nat_eq a b
event_apart gone a b p q = by (nat_eq a b) (nat_eq (a / 2) (b / 2)) refl refl
  where
    nets : nat_eq (moved_up gone (a / 2)) (moved_up gone (b / 2)) ≡ nat_eq (a / 2) (b / 2)
    nets = moved_apart gone (a / 2) (b / 2) p q

    by : (x y : Bool) → nat_eq a b ≡ x → nat_eq (a / 2) (b / 2) ≡ y → nat_eq (event_after gone a) (event_after gone b) ≡ x
    by true y e f = let same : a ≡ b = grind (arith, nat_tests) in let g : event_after gone a ≡ event_after gone b = ap (event_after gone) same in grind (arith, nat_tests)
    by false true e f =
        let d : a ≡ b → ⊥ = grind (arith, nat_tests) in
        let same : a / 2 ≡ b / 2 = grind (arith, nat_tests) in
        let m : moved_up gone (a / 2) ≡ moved_up gone (b / 2) = ap (moved_up gone) same in
        let g : event_after gone a ≡ event_after gone b → ⊥ = λ h. d (omega (arith, h, m, same)) in
        grind (arith, nat_tests)
    by false false e f =
        let n : nat_eq (moved_up gone (a / 2)) (moved_up gone (b / 2)) ≡ false = nets ∙ f in
        let d : moved_up gone (a / 2) ≡ moved_up gone (b / 2) → ⊥ = grind (arith, nat_tests) in
        let g : event_after gone a ≡ event_after gone b → ⊥ = λ h. d (omega (arith, h)) in
        grind (arith, nat_tests)

-- ---- instances once a net or constant is away

-- how many nets and constants are left
abbrev one_less : NetRef → ℕ → ℕ → ℕ → ℕ → Type 0
one_less (Net n) nets consts nets_left consts_left = (nets_left + 1 ≡ nets) × (consts_left ≡ consts)
one_less (Const k) nets consts nets_left consts_left = (nets_left ≡ nets) × (consts_left + 1 ≡ consts)

pin_after : (gone : NetRef) (n k m l : ℕ) → IsPin n k gone → one_less gone n k m l → (r : NetRef) → is_same gone r ≡ false → IsPin n k r → IsPin m l (ref_after gone r)
pin_after (Net g) n k m l there less (Net a) other h = moved_within g a n m h there less.0 other
pin_after (Net g) n k m l there less (Const a) other h = omega (arith, less.1, h)
pin_after (Const g) n k m l there less (Net a) other h = omega (arith, less.0, h)
pin_after (Const g) n k m l there less (Const a) other h = moved_within g a k l h there less.1 other

output_after : (gone : NetRef) (o : Option NetRef) → HasOutput o → HasOutput (option_map (ref_after gone) o)
output_after gone None h = h
output_after (Net g) (Some (Net a)) h = tt
output_after (Const g) (Some (Net a)) h = tt
output_after gone (Some (Const a)) h = absurd h

inst_sound : (gone : NetRef) (n k m l : ℕ) → IsPin n k gone → one_less gone n k m l → (i : Instance) → is_pinned gone i ≡ false → IsInstance n k i → IsInstance m l (inst_after gone i)
inst_sound gone n k m l there less i free h = record {
  named = h.named;
  pins = All-map (IsPin m l) (ref_after gone) i.pins (all_unless (IsPin n k) (λ r. IsPin m l (ref_after gone r)) (is_same gone) (pin_after gone n k m l there less) i.pins free h.pins);
  output = subst HasOutput (sym (last_map (ref_after gone) i.pins)) (output_after gone (last_of i.pins) h.output);
  delays = h.delays;
}

-- the net that was driven
driven_before : NetRef → ℕ → ℕ
driven_before (Net g) n = was_at g n
driven_before (Const g) n = n

net_before : (gone : NetRef) (n : ℕ) (o : Option NetRef) → ((r : NetRef) → o ≡ Some r → is_same gone r ≡ false) → is_net n (option_map (ref_after gone) o) ≡ is_net (driven_before gone n) o
unfolding driven_before
net_before (Net g) n None h = refl
net_before (Const g) n None h = refl
net_before (Net g) n (Some (Net a)) h = moved_same g n a (h (Net a) refl)
net_before (Net g) n (Some (Const a)) h = refl
net_before (Const g) n (Some (Net a)) h = refl
net_before (Const g) n (Some (Const a)) h = refl

last_fails : {A : Type 0} (p : A → Bool) (xs : List A) (x : A) → list_any p xs ≡ false → last_of xs ≡ Some x → p x ≡ false
last_fails p [] x none h = cc
last_fails p (y ∷ ys) x none h = by (last_of ys) refl h (λ z e. last_fails p ys z (neither (p y) (list_any p ys) none).1 e)
  where
    by : (o : Option _) → last_of ys ≡ o → last_of (y ∷ ys) ≡ Some x → ((z : _) → last_of ys ≡ Some z → p z ≡ false) → p x ≡ false
    by None e f rest = let g : Some y ≡ Some x = rw e at f in let same : y ≡ x = cc in ap p (sym same) ∙ (neither (p y) (list_any p ys) none).0
    by (Some z) e f rest = let g : Some z ≡ Some x = rw e at f in let same : z ≡ x = cc in ap p (sym same) ∙ rest z e

drives_before : (gone : NetRef) (n : ℕ) (i : Instance) → is_pinned gone i ≡ false → drives n (inst_after gone i) ≡ drives (driven_before gone n) i
drives_before gone n i free =
    ap (is_net n) (last_map (ref_after gone) i.pins) ∙ net_before gone n (last_of i.pins) (λ r e. last_fails (is_same gone) i.pins r free e)

insts_sound : (gone : NetRef) (n k m l : ℕ) (insts : List Instance) → IsPin n k gone → one_less gone n k m l → list_any (is_pinned gone) insts ≡ false
    → All (IsInstance n k) insts → All (IsInstance m l) (map (inst_after gone) insts)
insts_sound gone n k m l insts there less free h =
    All-map (IsInstance m l) (inst_after gone) insts
    (all_unless (IsInstance n k) (λ i. IsInstance m l (inst_after gone i)) (is_pinned gone) (inst_sound gone n k m l there less) insts free h)

insts_named : (gone : NetRef) (insts : List Instance) → IsDistinct bytes_eq (map (λ i. i.name) insts) → IsDistinct bytes_eq (map (λ i. i.name) (map (inst_after gone) insts))
insts_named gone insts h = subst (IsDistinct bytes_eq) (sym (map_same (λ (i : Instance). i.name) (inst_after gone) insts (λ i. refl))) h

insts_driven : (gone : NetRef) (insts : List Instance) → list_any (is_pinned gone) insts ≡ false
    → ((k n : ℕ) (i : Instance) → slice_get insts k ≡ Some i → drives n i ≡ true → driver_of insts n ≡ Some k)
    → (k n : ℕ) (i : Instance) → slice_get (map (inst_after gone) insts) k ≡ Some i → drives n i ≡ true → driver_of (map (inst_after gone) insts) n ≡ Some k
insts_driven gone insts free one k n i is d =
    one_map (inst_after gone) (drives n) (drives (driven_before gone n)) (is_pinned gone) (λ j f. drives_before gone n j f) insts free
    (λ k i is d. one k (driven_before gone n) i is d) k i is d

-- ---- a constant away

pub const_removed : (c : Circuit) (gone : ℕ) → gone < length c.consts → is_used c (Const gone) ≡ false → IsNetlist c → IsNetlist (after_ref c (Const gone))
const_removed c gone low free s =
    let less = length-remove c.consts gone low in
    let n = length c.nets in
    let k = length c.consts in
    let l = length (remove c.consts gone) in
    record {
      net_names = s.net_names;
      const_names = All-remove (λ x. is_name x ≡ true) c.consts gone s.const_names;
      nets_differ = s.nets_differ;
      consts_differ = IsDistinct-remove bytes_eq c.consts gone s.consts_differ;
      no_net_is_const = All-weaker (λ x. list_any (bytes_eq x) c.consts ≡ false) (λ x. list_any (bytes_eq x) (remove c.consts gone) ≡ false) (λ x h. still (bytes_eq x) h) c.nets s.no_net_is_const;
      few_nets = s.few_nets;
      few_consts = remove_few c.consts gone 1024 low s.few_consts;
      insts = insts_sound (Const gone) n k n l c.insts low (refl, less) free s.insts;
      insts_differ = insts_named (Const gone) c.insts s.insts_differ;
      one_driver = insts_driven (Const gone) c.insts free s.one_driver;
      ticks = s.ticks;
      pairs_differ = s.pairs_differ;
      forks = s.forks;
      forks_differ = s.forks_differ;
      few_forks = s.few_forks;
      few_roots = s.few_roots;
      root = s.root;
    }
  where
    still : (p : List ℕ → Bool) → list_any p c.consts ≡ false → list_any p (remove c.consts gone) ≡ false
    still p h = by (list_any p (remove c.consts gone)) refl
      where
        by : (b : Bool) → list_any p (remove c.consts gone) ≡ b → list_any p (remove c.consts gone) ≡ false
        by false e = e
        by true e = let f = any_remove p c.consts gone e in cc

-- ---- a net away

tick_sound : (gone n m : ℕ) → gone < n → m + 1 ≡ n → (t : Tick) → is_ticked gone t ≡ false → IsTick n t → IsTick m (tick_after gone t)
tick_sound gone n m low less t free h =
    let parts = neither (is_event_of gone t.source) (is_event_of gone t.target) free in
    record {
      source = event_within gone t.source n m h.source low less parts.0;
      target = event_within gone t.target n m h.target low less parts.1;
      some = h.some;
      few = h.few;
    }

same_pair_after : (gone : ℕ) (a b : Tick) → is_ticked gone a ≡ false → is_ticked gone b ≡ false
    → is_between (tick_after gone a).source (tick_after gone a).target (tick_after gone b) ≡ is_between a.source a.target b
same_pair_after gone a b p q =
    let f = neither (is_event_of gone a.source) (is_event_of gone a.target) p in
    let g = neither (is_event_of gone b.source) (is_event_of gone b.target) q in
    rw (event_apart gone a.source b.source f.0 g.0, event_apart gone a.target b.target f.1 g.1) refl

-- the forks' events are not of the net
fork_parts : (gone : ℕ) (f : Fork) → is_forked gone f ≡ false → (is_event_of gone f.root ≡ false) × (is_event_of gone f.fast ≡ false) × (is_event_of gone f.slow ≡ false)
fork_parts gone f free = by (is_event_of gone f.root) (is_event_of gone f.fast) (is_event_of gone f.slow) free
  where
    by : (a b c : Bool) → (a || b || c) ≡ false → (a ≡ false) × (b ≡ false) × (c ≡ false)
    by true b c h = cc
    by false true c h = cc
    by false false true h = cc
    by false false false h = (refl, refl, refl)

fork_sound : (gone n m : ℕ) → gone < n → m + 1 ≡ n → (f : Fork) → is_forked gone f ≡ false → IsFork n f → IsFork m (fork_after gone f)
fork_sound gone n m low less f free h =
    let parts = fork_parts gone f free in
    record {
      named = h.named;
      root = event_within gone f.root n m h.root low less parts.0;
      fast = event_within gone f.fast n m h.fast low less parts.1;
      slow = event_within gone f.slow n m h.slow low less parts.2;
      margin = h.margin;
      offset = h.offset;
    }

root_sound : (gone n m : ℕ) → gone < n → m + 1 ≡ n → (r : Option ℕ) → option_map_or (is_event_of gone) r false ≡ false → IfSome r (λ e. e < 2 * n) → IfSome (option_map (event_after gone) r) (λ e. e < 2 * m)
root_sound gone n m low less None free h = h
root_sound gone n m low less (Some r) free h = event_within gone r n m h low less free

-- what uses a net
uses_parts : (a b c d : Bool) → (a || b || c || d) ≡ false → (a ≡ false) × (b ≡ false) × (c ≡ false) × (d ≡ false)
uses_parts true b c d h = cc
uses_parts false true c d h = cc
uses_parts false false true d h = cc
uses_parts false false false true h = cc
uses_parts false false false false h = (refl, refl, refl, refl)

pub net_removed : (c : Circuit) (gone : ℕ) → gone < length c.nets → is_used c (Net gone) ≡ false → IsNetlist c → IsNetlist (after_ref c (Net gone))
net_removed c gone low used s =
    let less = length-remove c.nets gone low in
    let n = length c.nets in
    let m = length (remove c.nets gone) in
    let k = length c.consts in
    let free = uses_parts (list_any (is_pinned (Net gone)) c.insts) (list_any (is_ticked gone) c.ticks) (option_map_or (is_event_of gone) c.root false) (list_any (is_forked gone) c.forks) used in
    record {
      net_names = All-remove (λ x. is_name x ≡ true) c.nets gone s.net_names;
      const_names = s.const_names;
      nets_differ = IsDistinct-remove bytes_eq c.nets gone s.nets_differ;
      consts_differ = s.consts_differ;
      no_net_is_const = All-remove (λ x. list_any (bytes_eq x) c.consts ≡ false) c.nets gone s.no_net_is_const;
      few_nets = remove_few c.nets gone 16384 low s.few_nets;
      few_consts = s.few_consts;
      insts = insts_sound (Net gone) n k m k c.insts low (less, refl) free.0 s.insts;
      insts_differ = insts_named (Net gone) c.insts s.insts_differ;
      one_driver = insts_driven (Net gone) c.insts free.0 s.one_driver;
      ticks = All-map (IsTick m) (tick_after gone) c.ticks (all_unless (IsTick n) (λ t. IsTick m (tick_after gone t)) (is_ticked gone) (tick_sound gone n m low less) c.ticks free.1 s.ticks);
      pairs_differ = IsDistinct-map (λ a b. is_between a.source a.target b) (tick_after gone) (is_ticked gone) (same_pair_after gone) c.ticks free.1 s.pairs_differ;
      forks = All-map (IsFork m) (fork_after gone) c.forks (all_unless (IsFork n) (λ f. IsFork m (fork_after gone f)) (is_forked gone) (fork_sound gone n m low less) c.forks free.3 s.forks);
      forks_differ = subst (IsDistinct bytes_eq) (sym (map_same (λ (f : Fork). f.name) (fork_after gone) c.forks (λ f. refl))) s.forks_differ;
      few_forks = omega (arith, length-map c.forks (fork_after gone), s.few_forks);
      few_roots = omega (arith, roots_map (event_after gone) (fork_after gone) c.forks (λ f. refl), s.few_roots);
      root = root_sound gone n m low less c.root free.2 s.root;
    }

-- a fit does not hang on what the pins are on
pub fits_after : (library : List Cell) (gone : NetRef) (insts : List Instance) → Fits library insts → Fits library (map (inst_after gone) insts)
fits_after library gone insts fits =
    All-map (IsOfLibrary library) (inst_after gone) insts (All-weaker (IsOfLibrary library) (λ i. IsOfLibrary library (inst_after gone i)) (λ i h. one i h) insts fits)
  where
    one : (i : Instance) → IsOfLibrary library i → IsOfLibrary library (inst_after gone i)
    one i h = (h.0, h.1, record { pins = length-map i.pins (ref_after gone) ∙ h.2.pins; delays = h.2.delays })
