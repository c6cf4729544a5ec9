-- Whether lists are a netlist is decided.
use Rattle.std.proofs.Common.{◌≡◌, ℕ, ◌+◌, ◌*◌, ◌<◌, suc, zero, true, false, List, [], ◌∷◌, length, map, Option, Some, None, refl, ap, ◌∙◌, arith, slice_get, eqb-true, eq-eqb}
use Rattle.std.specs.List.{list_any}
use Rattle.std.specs.Str.{bytes_eq}
use Rattle.netlist_model.specs.Circuit.{Circuit, last_of, is_net, drives, driver_of, roots_of, is_between}
use Rattle.netlist_model.specs.Sound.{AreNames, IsPin, IsOwnDelay, HasOutput, IsInstance, IsTick, IsFork, IsNetlist}
use Rattle.netlist_model.specs.declared.parts.Delay.{Delay}
use Rattle.netlist_model.specs.declared.parts.Fork.{Fork}
use Rattle.netlist_model.specs.declared.parts.Instance.{Instance}
use Rattle.netlist_model.specs.declared.parts.NetRef.{NetRef}
use Rattle.netlist_model.specs.declared.parts.NetRef.TheVariants.{Net, Const}
use Rattle.netlist_model.specs.declared.parts.Tick.{Tick}
use Rattle.netlist_analysis.proofs.Deciding.{needing, decide_both, decide_bool, decide_place, decide_some, decide_all, decide_distinct}
use native.Mathlib.Decide.{dec_le, dec_lt}

decide_names : (names : List (List ℕ)) → Dec (AreNames names)
decide_names [] = yes (λ k d low. absurd (omega arith))
decide_names (n ∷ names) =
    needing (decide_bool _ true) (λ all. all 0 n (omega arith)) λ named.
    needing (decide_names names) (λ all k d low. all (suc k) d (omega arith)) λ rest.
    yes (elim [ zero ↦ λ d low. named | suc k ↦ λ d low. rest k d (omega arith) ])

-- ---- the parts

decide_pin : (nets consts : ℕ) (pin : NetRef) → Dec (IsPin nets consts pin)
decide_pin nets consts (Net n) = dec_lt n nets
decide_pin nets consts (Const k) = dec_lt k consts

decide_delay : (d : Option Delay) → Dec (IsOwnDelay d)
decide_delay None = yes tt
decide_delay (Some d) = decide_both (dec_le d.rise 1000000) (dec_le d.fall 1000000)

decide_output : (o : Option NetRef) → Dec (HasOutput o)
decide_output None = no (λ h. h)
decide_output (Some (Net n)) = yes tt
decide_output (Some (Const k)) = no (λ h. h)

decide_instance : (nets consts : ℕ) (i : Instance) → Dec (IsInstance nets consts i)
decide_instance nets consts i =
    needing (decide_bool _ true) (λ is. is.named) λ named.
    needing (decide_all (IsPin nets consts) (decide_pin nets consts) i.pins) (λ is. is.pins) λ pins.
    needing (decide_output (last_of i.pins)) (λ is. is.output) λ output.
    needing (decide_all IsOwnDelay decide_delay i.delays) (λ is. is.delays) λ delays.
    yes (record { named = named; pins = pins; output = output; delays = delays })

decide_tick : (nets : ℕ) (t : Tick) → Dec (IsTick nets t)
decide_tick nets t =
    needing (dec_lt t.source (2 * nets)) (λ is. is.source) λ source.
    needing (dec_lt t.target (2 * nets)) (λ is. is.target) λ target.
    needing (dec_le 1 t.count) (λ is. is.some) λ some.
    needing (dec_le t.count 15) (λ is. is.few) λ few.
    yes (record { source = source; target = target; some = some; few = few })

decide_fork : (nets : ℕ) (f : Fork) → Dec (IsFork nets f)
decide_fork nets f =
    needing (decide_bool _ true) (λ is. is.named) λ named.
    needing (dec_lt f.root (2 * nets)) (λ is. is.root) λ root.
    needing (dec_lt f.fast (2 * nets)) (λ is. is.fast) λ fast.
    needing (dec_lt f.slow (2 * nets)) (λ is. is.slow) λ slow.
    needing (dec_le f.margin 1000000) (λ is. is.margin) λ margin.
    needing (dec_le f.offset 15) (λ is. is.offset) λ offset.
    yes (record { named = named; root = root; fast = fast; slow = slow; margin = margin; offset = offset })

-- ---- drivers

-- each of these instances, the first of which has the place `at`, is the one driver of the net that its output is on
abbrev AreOneDrivers : List Instance → ℕ → List Instance → Type 0
AreOneDrivers insts at some = (k n : ℕ) (i : Instance) → slice_get some k ≡ Some i → drives n i ≡ true → driver_of insts n ≡ Some (at + k)

-- what is on this output has its driver at this place
decide_driver : (insts : List Instance) (at : ℕ) (output : Option NetRef) → Dec ((n : ℕ) → is_net n output ≡ true → driver_of insts n ≡ Some at)
decide_driver insts at None = yes (λ n h. cc)
decide_driver insts at (Some (Const k)) = yes (λ n h. cc)
decide_driver insts at (Some (Net m)) =
    needing (decide_place (driver_of insts m) at) (λ all. all m (eq-eqb m m refl)) (λ is. yes (λ n h. ap (driver_of insts) (eqb-true n m h) ∙ is))

decide_drivers : (insts : List Instance) (at : ℕ) (some : List Instance) → Dec (AreOneDrivers insts at some)
decide_drivers insts at [] = yes (λ k n i is drives. cc)
decide_drivers insts at (x ∷ xs) =
    needing (decide_driver insts at (last_of x.pins)) (λ all n own. all 0 n x refl own ∙ ap Some (omega arith)) λ first.
    needing (decide_drivers insts (at + 1) xs) (λ all k n i is own. all (suc k) n i is own ∙ ap Some (omega arith)) λ rest.
    yes (from first rest)
  where
    from : ((n : ℕ) → drives n x ≡ true → driver_of insts n ≡ Some at) → AreOneDrivers insts (at + 1) xs → AreOneDrivers insts at (x ∷ xs)
    from first rest zero n i is own = let e : x ≡ i = cc in first n (ap (drives n) e ∙ own) ∙ ap Some (omega arith)
    from first rest (suc k) n i is own = rest k n i is own ∙ ap Some (omega arith)

-- ---- the netlist

pub decide_netlist : (c : Circuit) → Dec (IsNetlist c)
decide_netlist c =
    needing (decide_names c.nets) (λ is. is.net_names) λ net_names.
    needing (decide_names c.consts) (λ is. is.const_names) λ const_names.
    needing (decide_distinct bytes_eq c.nets) (λ is. is.nets_differ) λ nets_differ.
    needing (decide_distinct bytes_eq c.consts) (λ is. is.consts_differ) λ consts_differ.
    needing (decide_all (λ n. list_any (bytes_eq n) c.consts ≡ false) (λ n. decide_bool (list_any (bytes_eq n) c.consts) false) c.nets) (λ is. is.no_net_is_const) λ no_net_is_const.
    needing (dec_le (length c.nets) 16384) (λ is. is.few_nets) λ few_nets.
    needing (dec_le (length c.consts) 1024) (λ is. is.few_consts) λ few_consts.
    needing (decide_all (IsInstance (length c.nets) (length c.consts)) (decide_instance (length c.nets) (length c.consts)) c.insts) (λ is. is.insts) λ insts.
    needing (decide_distinct bytes_eq (map (λ i. i.name) c.insts)) (λ is. is.insts_differ) λ insts_differ.
    needing (decide_drivers c.insts 0 c.insts) (λ is k n i at own. is.one_driver k n i at own ∙ ap Some (omega arith)) λ drivers.
    needing (decide_all (IsTick (length c.nets)) (decide_tick (length c.nets)) c.ticks) (λ is. is.ticks) λ ticks.
    needing (decide_distinct (λ a b. is_between a.source a.target b) c.ticks) (λ is. is.pairs_differ) λ pairs_differ.
    needing (decide_all (IsFork (length c.nets)) (decide_fork (length c.nets)) c.forks) (λ is. is.forks) λ forks.
    needing (decide_distinct bytes_eq (map (λ f. f.name) c.forks)) (λ is. is.forks_differ) λ forks_differ.
    needing (dec_le (length c.forks) 256) (λ is. is.few_forks) λ few_forks.
    needing (dec_le (length (roots_of c.forks)) 64) (λ is. is.few_roots) λ few_roots.
    needing (decide_some (λ r. r < 2 * length c.nets) (λ r. dec_lt r (2 * length c.nets)) c.root) (λ is. is.root) λ root.
    yes (record {
      net_names = net_names;
      const_names = const_names;
      nets_differ = nets_differ;
      consts_differ = consts_differ;
      no_net_is_const = no_net_is_const;
      few_nets = few_nets;
      few_consts = few_consts;
      insts = insts;
      insts_differ = insts_differ;
      one_driver = λ k n i at own. drivers k n i at own ∙ ap Some (omega arith);
      ticks = ticks;
      pairs_differ = pairs_differ;
      forks = forks;
      forks_differ = forks_differ;
      few_forks = few_forks;
      few_roots = few_roots;
      root = root;
    })
