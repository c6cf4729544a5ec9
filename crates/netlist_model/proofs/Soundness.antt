-- What holds of every netlist is kept by each statement.
use Rattle.std.proofs.Common.{◌≡◌, ℕ, ◌*◌, ◌<◌, ◌≤◌, ◌==◌, ◌&&◌, not, List, [], ◌∷◌, ◌++◌, length, map, filter, find, get_or, suc, zero, ◌⊎◌, inl, inr, Bool, true, false, nat_eq, nat_le, Option, Some, None, is_some, option_map, position, refl, sym, ap, subst, ◌∙◌, arith, All, IfSome, slice_get, if◌then◌else◌}
use Rattle.std.specs.List.{IsDistinct, list_any, AllByRecursion}
use Rattle.std.proofs.lemmas.Bool.Decides.{nat_tests}
use Rattle.std.specs.Str.{bytes_eq}
use Rattle.std.specs.Cmp.{IsEquivalence, nat_eq_equiv}
use Rattle.std.proofs.lemmas.Cmp.{nat_list_eq_equiv}
use Rattle.std.proofs.lemmas.List.{map-append, length_push}
use Rattle.std.proofs.lemmas.List.Elements.{All-push, All-weaker, All-filter}
use Rattle.std.proofs.lemmas.List.Folds.{list_any-append, list_any_at}
use Rattle.std.proofs.lemmas.Map.Keys.{IsDistinct-push}
use Rattle.cyc_text.specs.Name.{is_name}
use Rattle.cell_arcs.specs.Steps.{or_else}
use Rattle.netlist_model.specs.Circuit.{Circuit, nothing, place_of, ref_of, is_between, drives, driver_of, last_of, roots_of, kinds_after, tick_of}
use Rattle.netlist_model.specs.Sound.{IsPin, IsInstance, IsTick, IsFork, IsNetlist}
use Rattle.netlist_model.specs.Statements.{is_ref}
use Rattle.netlist_model.specs.declared.parts.Fork.{Fork}
use Rattle.netlist_model.specs.declared.parts.Instance.{Instance}
use Rattle.netlist_model.specs.declared.parts.NetRef.{NetRef}
use Rattle.netlist_model.specs.declared.parts.NetRef.TheVariants.{Net, Const}
use Rattle.netlist_model.specs.declared.parts.Tick.{Tick}
use Rattle.indexmap.specs.IndexSet.{insert_key}
use Rattle.netlist_model.proofs.Tables.{roots_push}
use Rattle.netlist_model.proofs.Places.{none_passes, list_any-map, position_push}

-- the netlist with nothing in it
pub nothing_is_netlist : IsNetlist nothing
unfolding IsDistinct kinds_after
nothing_is_netlist = record {
  net_names = λ k d h. absurd (omega arith);
  const_names = λ k d h. absurd (omega arith);
  nets_differ = tt;
  consts_differ = tt;
  no_net_is_const = λ k d h. absurd (omega arith);
  few_nets = omega arith;
  few_consts = omega arith;
  insts = λ k d h. absurd (omega arith);
  insts_differ = tt;
  one_driver = λ k n i at d. cc;
  ticks = λ k d h. absurd (omega arith);
  pairs_differ = tt;
  forks = λ k d h. absurd (omega arith);
  forks_differ = tt;
  few_forks = omega arith;
  few_roots = omega arith;
  root = tt;
}

-- a name that no net and no constant has
pub ref_none : (nets consts : List (List ℕ)) (name : List ℕ) → is_some (ref_of nets consts name) ≡ false → (place_of name nets ≡ None) × (place_of name consts ≡ None)
ref_none nets consts name h = by (place_of name nets) (place_of name consts) refl refl h
  where
    by : (a b : Option ℕ) → place_of name nets ≡ a → place_of name consts ≡ b → is_some (or_else (option_map Net a) (option_map Const b)) ≡ false → (place_of name nets ≡ None) × (place_of name consts ≡ None)
    by None None p q e = (p, q)
    by None (Some k) p q e = cc
    by (Some k) b p q e = cc

-- no item passes
each_fails : {A : Type 0} (p : A → Bool) (xs : List A) (k : ℕ) (d : A) → list_any p xs ≡ false → k < length xs → p (get_or xs k d) ≡ false
each_fails p xs k d none h = by (p (get_or xs k d)) refl
  where
    by : (b : Bool) → p (get_or xs k d) ≡ b → p (get_or xs k d) ≡ false
    by false e = e
    by true e = let some = list_any_at p xs k d h e in cc

pin_more : (n m k l : ℕ) (p : NetRef) → n ≤ m → k ≤ l → IsPin n k p → IsPin m l p
pin_more n m k l (Net x) a b h = omega arith
pin_more n m k l (Const x) a b h = omega arith

instance_more : (n m k l : ℕ) (i : Instance) → n ≤ m → k ≤ l → IsInstance n k i → IsInstance m l i
instance_more n m k l i a b h = record {
  named = h.named;
  pins = All-weaker (IsPin n k) (IsPin m l) (λ p q. pin_more n m k l p a b q) i.pins h.pins;
  output = h.output;
  delays = h.delays;
}

tick_more : (n m : ℕ) (t : Tick) → n ≤ m → IsTick n t → IsTick m t
tick_more n m t a h = record { source = omega arith; target = omega arith; some = h.some; few = h.few }

fork_more : (n m : ℕ) (f : Fork) → n ≤ m → IsFork n f → IsFork m f
fork_more n m f a h = record { named = h.named; root = omega arith; fast = omega arith; slow = omega arith; margin = h.margin; offset = h.offset }

root_more : (n m : ℕ) (r : Option ℕ) → n ≤ m → IfSome r (λ e. e < 2 * n) → IfSome r (λ e. e < 2 * m)
root_more n m None a h = tt
root_more n m (Some r) a h = omega arith

pub net_added : (c : Circuit) (name : List ℕ) → IsNetlist c → is_name name ≡ true → is_ref c name ≡ false → length c.nets < 16384 → IsNetlist (record c { nets = c.nets ++ name ∷ [] })
net_added c name s named fresh few =
    let absent = ref_none c.nets c.consts name fresh in
    let more : length c.nets ≤ length (c.nets ++ name ∷ []) = omega (arith, length_push c.nets name) in
    let n = length c.nets in
    let m = length (c.nets ++ name ∷ []) in
    let k = length c.consts in
    record {
      net_names = All-push (λ x. is_name x ≡ true) c.nets name s.net_names named;
      const_names = s.const_names;
      nets_differ = IsDistinct-push nat_list_eq_equiv c.nets name s.nets_differ (none_passes (bytes_eq name) c.nets absent.0);
      consts_differ = s.consts_differ;
      no_net_is_const = All-push (λ x. list_any (bytes_eq x) c.consts ≡ false) c.nets name s.no_net_is_const (none_passes (bytes_eq name) c.consts absent.1);
      few_nets = omega (arith, length_push c.nets name);
      few_consts = s.few_consts;
      insts = All-weaker (IsInstance n k) (IsInstance m k) (λ i h. instance_more n m k k i more (omega arith) h) c.insts s.insts;
      insts_differ = s.insts_differ;
      one_driver = s.one_driver;
      ticks = All-weaker (IsTick n) (IsTick m) (λ t h. tick_more n m t more h) c.ticks s.ticks;
      pairs_differ = s.pairs_differ;
      forks = All-weaker (IsFork n) (IsFork m) (λ f h. fork_more n m f more h) c.forks s.forks;
      forks_differ = s.forks_differ;
      few_forks = s.few_forks;
      few_roots = s.few_roots;
      root = root_more n m c.root more s.root;
    }

pub const_added : (c : Circuit) (name : List ℕ) → IsNetlist c → is_name name ≡ true → is_ref c name ≡ false → length c.consts < 1024 → IsNetlist (record c { consts = c.consts ++ name ∷ [] })
const_added c name s named fresh few =
    let absent = ref_none c.nets c.consts name fresh in
    let more : length c.consts ≤ length (c.consts ++ name ∷ []) = omega (arith, length_push c.consts name) in
    let n = length c.nets in
    let k = length c.consts in
    let l = length (c.consts ++ name ∷ []) in
    record {
      net_names = s.net_names;
      const_names = All-push (λ x. is_name x ≡ true) c.consts name s.const_names named;
      nets_differ = s.nets_differ;
      consts_differ = IsDistinct-push nat_list_eq_equiv c.consts name s.consts_differ (none_passes (bytes_eq name) c.consts absent.1);
      no_net_is_const = λ j d h. list_any-append (bytes_eq (get_or c.nets j d)) c.consts (name ∷ [])
          ∙ rw (s.no_net_is_const j d h, nat_list_eq_equiv.symm (get_or c.nets j d) name, each_fails (bytes_eq name) c.nets j d (none_passes (bytes_eq name) c.nets absent.0) h) refl;
      few_nets = s.few_nets;
      few_consts = omega (arith, length_push c.consts name);
      insts = All-weaker (IsInstance n k) (IsInstance n l) (λ i h. instance_more n n k l i (omega arith) more h) c.insts s.insts;
      insts_differ = s.insts_differ;
      one_driver = s.one_driver;
      ticks = s.ticks;
      pairs_differ = s.pairs_differ;
      forks = s.forks;
      forks_differ = s.forks_differ;
      few_forks = s.few_forks;
      few_roots = s.few_roots;
      root = s.root;
    }

-- the ticks are other ones
pub ticks_set : (c : Circuit) (ticks : List Tick) → IsNetlist c → All (IsTick (length c.nets)) ticks → IsDistinct (λ a b. is_between a.source a.target b) ticks → IsNetlist (record c { ticks = ticks })
ticks_set c ticks s each differ = record {
  net_names = s.net_names;
  const_names = s.const_names;
  nets_differ = s.nets_differ;
  consts_differ = s.consts_differ;
  no_net_is_const = s.no_net_is_const;
  few_nets = s.few_nets;
  few_consts = s.few_consts;
  insts = s.insts;
  insts_differ = s.insts_differ;
  one_driver = s.one_driver;
  ticks = each;
  pairs_differ = differ;
  forks = s.forks;
  forks_differ = s.forks_differ;
  few_forks = s.few_forks;
  few_roots = s.few_roots;
  root = s.root;
}

both_true : (a b : Bool) → (a && b) ≡ true → (a ≡ true) × (b ≡ true)
both_true true true h = (refl, refl)
both_true true false h = cc
both_true false b h = cc

same_pair : IsEquivalence (λ (a b : Tick). is_between a.source a.target b)
same_pair = record {
  refl = λ x. rw (nat_eq_equiv.refl x.source, nat_eq_equiv.refl x.target) refl;
  symm = λ x y. rw (nat_eq_equiv.symm x.source y.source, nat_eq_equiv.symm x.target y.target) refl;
  congr = λ x y z h.
      let same = both_true (nat_eq x.source y.source) (nat_eq x.target y.target) h in
      rw (nat_eq_equiv.congr x.source y.source z.source same.0, nat_eq_equiv.congr x.target y.target z.target same.1) refl;
}

-- whether a tick is found is whether one passes
pub find_any : {A : Type 0} (p : A → Bool) (xs : List A) → is_some (find p xs) ≡ list_any p xs
find_any p [] = refl
find_any p (x ∷ xs) = by (p x) refl (find_any p xs)
  where
    by : (b : Bool) → p x ≡ b → is_some (find p xs) ≡ list_any p xs → is_some (find p (x ∷ xs)) ≡ list_any p (x ∷ xs)
    by true e h = rw e refl
    by false e h = rw e h

pub tick_added : (c : Circuit) (t : Tick) → IsNetlist c → IsTick (length c.nets) t → is_some (tick_of c.ticks t.source t.target) ≡ false → IsNetlist (record c { ticks = c.ticks ++ t ∷ [] })
tick_added c t s good fresh = ticks_set c (c.ticks ++ t ∷ []) s (All-push (IsTick (length c.nets)) c.ticks t s.ticks good)
    (IsDistinct-push same_pair c.ticks t s.pairs_differ (sym (find_any (is_between t.source t.target) c.ticks) ∙ fresh))

filter_apart : {A : Type 0} (e : A → A → Bool) (p : A → Bool) (x : A) (xs : List A) → AllByRecursion (λ y. e x y ≡ false) xs → AllByRecursion (λ y. e x y ≡ false) (filter p xs)
filter_apart e p x [] h = h
filter_apart e p x (y ∷ ys) h = by (p y) refl (filter_apart e p x ys h.1)
  where
    by : (b : Bool) → p y ≡ b → AllByRecursion (λ z. e x z ≡ false) (filter p ys) → AllByRecursion (λ z. e x z ≡ false) (filter p (y ∷ ys))
    by true g k = rw g (h.0, k)
    by false g k = rw g k

-- a part of items that differ
filter_distinct : {A : Type 0} (e : A → A → Bool) (p : A → Bool) (xs : List A) → IsDistinct e xs → IsDistinct e (filter p xs)
unfolding IsDistinct
filter_distinct e p [] h = h
filter_distinct e p (x ∷ xs) h = by (p x) refl (filter_distinct e p xs h.1)
  where
    by : (b : Bool) → p x ≡ b → IsDistinct e (filter p xs) → IsDistinct e (filter p (x ∷ xs))
    by true g k = rw g (filter_apart e p x xs h.0, k)
    by false g k = rw g k

pub tick_ended : (c : Circuit) (p : Tick → Bool) → IsNetlist c → IsNetlist (record c { ticks = filter p c.ticks })
tick_ended c p s = ticks_set c (filter p c.ticks) s (All-filter p (IsTick (length c.nets)) c.ticks s.ticks) (filter_distinct _ p c.ticks s.pairs_differ)

pub root_set : (c : Circuit) (r : ℕ) → IsNetlist c → r < 2 * length c.nets → IsNetlist (record c { root = Some r })
root_set c r s within = record {
  net_names = s.net_names;
  const_names = s.const_names;
  nets_differ = s.nets_differ;
  consts_differ = s.consts_differ;
  no_net_is_const = s.no_net_is_const;
  few_nets = s.few_nets;
  few_consts = s.few_consts;
  insts = s.insts;
  insts_differ = s.insts_differ;
  one_driver = s.one_driver;
  ticks = s.ticks;
  pairs_differ = s.pairs_differ;
  forks = s.forks;
  forks_differ = s.forks_differ;
  few_forks = s.few_forks;
  few_roots = s.few_roots;
  root = within;
}

pub fork_added : (c : Circuit) (f : Fork) → IsNetlist c → IsFork (length c.nets) f → position (λ x. bytes_eq f.name x.name) c.forks ≡ None → length c.forks < 256
    → length (roots_of (c.forks ++ f ∷ [])) ≤ 64 → IsNetlist (record c { forks = c.forks ++ f ∷ [] })
fork_added c f s good fresh few roots = record {
  net_names = s.net_names;
  const_names = s.const_names;
  nets_differ = s.nets_differ;
  consts_differ = s.consts_differ;
  no_net_is_const = s.no_net_is_const;
  few_nets = s.few_nets;
  few_consts = s.few_consts;
  insts = s.insts;
  insts_differ = s.insts_differ;
  one_driver = s.one_driver;
  ticks = s.ticks;
  pairs_differ = s.pairs_differ;
  forks = All-push (IsFork (length c.nets)) c.forks f s.forks good;
  forks_differ = rw (map-append (λ (x : Fork). x.name) c.forks (f ∷ [])) (IsDistinct-push nat_list_eq_equiv (map (λ x. x.name) c.forks) f.name s.forks_differ
      (list_any-map (λ (x : Fork). x.name) (bytes_eq f.name) c.forks ∙ none_passes (λ x. bytes_eq f.name x.name) c.forks fresh));
  few_forks = omega (arith, length_push c.forks f);
  few_roots = roots;
  root = s.root;
}

-- the instances are other ones
pub insts_set : (c : Circuit) (insts : List Instance) → IsNetlist c → All (IsInstance (length c.nets) (length c.consts)) insts → IsDistinct bytes_eq (map (λ i. i.name) insts)
    → ((k n : ℕ) (i : Instance) → slice_get insts k ≡ Some i → drives n i ≡ true → driver_of insts n ≡ Some k) → IsNetlist (record c { insts = insts })
insts_set c insts s each differ driver = record {
  net_names = s.net_names;
  const_names = s.const_names;
  nets_differ = s.nets_differ;
  consts_differ = s.consts_differ;
  no_net_is_const = s.no_net_is_const;
  few_nets = s.few_nets;
  few_consts = s.few_consts;
  insts = each;
  insts_differ = differ;
  one_driver = driver;
  ticks = s.ticks;
  pairs_differ = s.pairs_differ;
  forks = s.forks;
  forks_differ = s.forks_differ;
  few_forks = s.few_forks;
  few_roots = s.few_roots;
  root = s.root;
}

-- each instance of a list with one more is of the list, or is that one
pub push_cases : {A : Type 0} (xs : List A) (x : A) (k : ℕ) (y : A) → slice_get (xs ++ x ∷ []) k ≡ Some y → (slice_get xs k ≡ Some y) ⊎ ((k ≡ length xs) × (x ≡ y))
push_cases [] x zero y h = inr (refl, cc)
push_cases [] x (suc k) y h = cc
push_cases (z ∷ zs) x zero y h = inl h
push_cases (z ∷ zs) x (suc k) y h = elim (push_cases zs x k y h) [ inl e ↦ inl e | inr e ↦ inr (ap suc e.0, e.1) ]

-- one more driver, of a net that none drives
one_driver_push : (insts : List Instance) (x : Instance) (z : ℕ) → ((k n : ℕ) (i : Instance) → slice_get insts k ≡ Some i → drives n i ≡ true → driver_of insts n ≡ Some k)
    → last_of x.pins ≡ Some (Net z) → driver_of insts z ≡ None → (k n : ℕ) (i : Instance) → slice_get (insts ++ x ∷ []) k ≡ Some i → drives n i ≡ true → driver_of (insts ++ x ∷ []) n ≡ Some k
one_driver_push insts x z old output free k n i at d =
    elim (push_cases insts x k i at) [
      | inl e ↦ position_push (drives n) insts x ∙ rw (old k n i e d) refl
      | inr e ↦
          let dx : drives n x ≡ true = ap (drives n) e.1 ∙ d in
          let same : n ≡ z = let t : nat_eq n z ≡ true = rw output at dx in grind (arith, nat_tests) in
          let none : driver_of insts n ≡ None = ap (driver_of insts) same ∙ free in
          position_push (drives n) insts x ∙ rw (none, dx) (ap Some (sym e.0))
    ]

pub inst_added : (c : Circuit) (i : Instance) (z : ℕ) → IsNetlist c → IsInstance (length c.nets) (length c.consts) i → position (λ x. bytes_eq i.name x.name) c.insts ≡ None
    → last_of i.pins ≡ Some (Net z) → driver_of c.insts z ≡ None → IsNetlist (record c { insts = c.insts ++ i ∷ [] })
inst_added c i z s good fresh output free = insts_set c (c.insts ++ i ∷ []) s (All-push (IsInstance (length c.nets) (length c.consts)) c.insts i s.insts good)
    (rw (map-append (λ (x : Instance). x.name) c.insts (i ∷ [])) (IsDistinct-push nat_list_eq_equiv (map (λ x. x.name) c.insts) i.name s.insts_differ
    (list_any-map (λ (x : Instance). x.name) (bytes_eq i.name) c.insts ∙ none_passes (λ x. bytes_eq i.name x.name) c.insts fresh)))
    (one_driver_push c.insts i z s.one_driver output free)

-- the different roots with one more are few enough
pub roots_fit : (forks : List Fork) (f : Fork) → length (roots_of forks) ≤ 64 → (not (list_any (λ r. f.root == r) (roots_of forks)) && nat_le 64 (length (roots_of forks))) ≡ false → length (roots_of (forks ++ f ∷ [])) ≤ 64
roots_fit forks f few room =
    let e : insert_key nat_eq (roots_of forks) f.root ≡ roots_of (forks ++ f ∷ []) = roots_push forks f (roots_of forks) (insert_key nat_eq (roots_of forks) f.root) refl refl in
    subst (λ (rs : List ℕ). length rs ≤ 64) e (by (list_any (nat_eq f.root) (roots_of forks)) refl)
  where
    by : (b : Bool) → list_any (nat_eq f.root) (roots_of forks) ≡ b → length (if b then roots_of forks else roots_of forks ++ f.root ∷ []) ≤ 64
    by true h = few
    by false h = let full : nat_le 64 (length (roots_of forks)) ≡ false = rw h at room in let small : length (roots_of forks) < 64 = grind (arith, nat_tests) in omega (arith, length_push (roots_of forks) f.root)
