-- A netlist has one finding.
use Rattle.std.proofs.Common.{◌≡◌, ◌≢◌, ◌*◌, ◌<◌, ◌≤◌, ℕ, List, Option, Some, None, Ok, Err, All, length, map, refl, sym, ap, ◌∙◌, inl, inr, arith, slice_index_or, subst, IfSome}
use Rattle.std.specs.Prelude.{◌⊎◌}
use Rattle.cell_arcs.specs.IsLibrary.{IsLibrary}
use Rattle.cell_arcs.specs.declared.cells.Cell.{Cell}
use Rattle.fork_slack.specs.declared.slacks.ForkOf.{ForkOf}
use Rattle.netlist_model.specs.Circuit.{Circuit}
use Rattle.netlist_model.specs.Sound.{IsNetlist}
use Rattle.netlist_model.specs.Whole.{whole_of, undriven_fault}
use Rattle.netlist_model.specs.declared.faults.WholeFault.{WholeFault}
use Rattle.netlist_model.specs.declared.faults.WholeFault.TheVariants.{NoRoot}
use Rattle.rule_system.specs.Bounds.{EventRules, IsRule}
use Rattle.rule_system.specs.Rules.{no_rule, source_of}
use Rattle.rule_system.specs.Walks.{EndsBelow, IsConnected, IsLive}
use Rattle.rule_system.specs.declared.rules.Rule.{Rule}
use Rattle.liveness_check.specs.Liveness.{IsFault}
use Rattle.liveness_check.specs.declared.faults.LiveFault.{LiveFault}
use Rattle.liveness_check.specs.declared.faults.LiveFault.TheVariants as live
use Rattle.event_expand.specs.Systems.{system_of, system_rules, system_forks}
use Rattle.analysis.specs.Analysis.{IsAnalysis}
use Rattle.analysis.specs.Forks.{IsFork}
use Rattle.analysis.specs.declared.analyses.Analysis.{Analysis}
use Rattle.netlist_analysis.specs.declared.faults.NetlistFault.{NetlistFault}
use Rattle.netlist_analysis.specs.declared.faults.NetlistFault.TheVariants.{Whole, Unreached, NoReturn, Dead, Memory}
use Rattle.netlist_analysis.specs.Findings.{Finding, IsFinding, IsNetlistAnalysis, IsNetlistFault, IsSystemFault, IsRooted, AreDeadEvents}
use Rattle.netlist_analysis.proofs.ForkLemmas.{forks_within}

-- the laws that one finding rests on
abbrev pub OneAnalysis : Type 0
OneAnalysis = (system : EventRules) (root : ℕ) (forks : List ForkOf) (analysis other : Analysis) →
    IsAnalysis system root forks analysis → IsAnalysis system root forks other → analysis ≡ other

abbrev pub OneFault : Type 0
OneFault = (events : ℕ) (rules : List Rule) (root : ℕ) (fault other : LiveFault) →
    IsFault events rules root fault → IsFault events rules root other → fault ≢ live.Memory → other ≢ live.Memory → fault ≡ other

abbrev pub NoFault : Type 0
NoFault = (events : ℕ) (rules : List Rule) (root : ℕ) (fault : LiveFault) →
    IsConnected events rules root → IsLive rules → IsFault events rules root fault → fault ≡ live.Memory

-- a netlist that is whole has one root
same_root : (library : List Cell) (c : Circuit) (root other : ℕ) → IsRooted library c root → IsRooted library c other → root ≡ other
same_root library c root other h k = let some : Some root ≡ Some other = sym h.is_root ∙ k.is_root in cc

-- a netlist that is whole has no fault of the whole check
not_whole : (library : List Cell) (c : Circuit) (root : ℕ) (fault : WholeFault) → IsRooted library c root → whole_of library c ≡ Some fault → ⊥
not_whole library c root fault h k = let none : None ≡ Some fault = sym h.whole ∙ k in cc

module _ (one_analysis : OneAnalysis) (one_fault : OneFault) (no_fault : NoFault) where
  same_analysis : (library : List Cell) (c : Circuit) (a b : Analysis) → IsNetlistAnalysis library c a → IsNetlistAnalysis library c b → a ≡ b
  same_analysis library c a b h k =
      let root : h.root ≡ k.root = same_root library c h.root k.root h.rooted k.rooted in
      one_analysis (system_of library c) k.root (system_forks c) a b (subst (λ r. IsAnalysis (system_of library c) r (system_forks c) a) root h.right) k.right

  not_both : (library : List Cell) (c : Circuit) (a : Analysis) (fault : LiveFault) → fault ≢ live.Memory → IsNetlistAnalysis library c a → IsSystemFault library c fault → ⊥
  not_both library c a fault other h k =
      let root : k.root ≡ h.root = same_root library c k.root h.root k.rooted h.rooted in
      other (no_fault (system_of library c).events (system_of library c).rules h.root fault h.right.connected h.right.live
      (subst (λ r. IsFault (system_of library c).events (system_of library c).rules r fault) root k.holds))

  same_fault : (library : List Cell) (c : Circuit) (a b : LiveFault) → a ≢ live.Memory → b ≢ live.Memory → IsSystemFault library c a → IsSystemFault library c b → a ≡ b
  same_fault library c a b one other h k =
      let root : h.root ≡ k.root = same_root library c h.root k.root h.rooted k.rooted in
      one_fault (system_of library c).events (system_of library c).rules k.root a b
      (subst (λ r. IsFault (system_of library c).events (system_of library c).rules r a) root h.holds) k.holds one other

  -- a fault of the whole check excludes each of the system
  excluded : (library : List Cell) (c : Circuit) (fault : WholeFault) (other : LiveFault) → whole_of library c ≡ Some fault → IsSystemFault library c other → ⊥
  excluded library c fault other h k = not_whole library c k.root fault k.rooted h

  same_dead : (library : List Cell) (c : Circuit) (a b : List ℕ) → AreDeadEvents library c a → AreDeadEvents library c b → a ≡ b
  same_dead library c a b h k =
      let fault : live.Dead h.cycle ≡ live.Dead k.cycle = same_fault library c (live.Dead h.cycle) (live.Dead k.cycle) (λ e. cc) (λ e. cc) h.holds k.holds in
      let cycle : h.cycle ≡ k.cycle = cc in
      sym h.sources ∙ ap (map (source_of (system_rules library c))) cycle ∙ k.sources

  same_refusal : (library : List Cell) (c : Circuit) (a b : NetlistFault) → IsNetlistFault library c a → IsNetlistFault library c b → a ≡ b
  same_refusal library c (Whole a) (Whole b) h k = let some : Some a ≡ Some b = sym h ∙ k in cc
  same_refusal library c (Whole a) (Unreached e) h k = absurd (excluded library c a (live.Unreached e) h k)
  same_refusal library c (Whole a) (NoReturn e) h k = absurd (excluded library c a (live.NoReturn e) h k)
  same_refusal library c (Whole a) (Dead es) h k = absurd (excluded library c a (live.Dead k.cycle) h k.holds)
  same_refusal library c (Unreached e) (Whole b) h k = absurd (excluded library c b (live.Unreached e) k h)
  same_refusal library c (Unreached e) (Unreached f) h k = let same : live.Unreached e ≡ live.Unreached f = same_fault library c _ _ (λ q. cc) (λ q. cc) h k in cc
  same_refusal library c (Unreached e) (NoReturn f) h k = let same : live.Unreached e ≡ live.NoReturn f = same_fault library c _ _ (λ q. cc) (λ q. cc) h k in cc
  same_refusal library c (Unreached e) (Dead fs) h k = let same : live.Unreached e ≡ live.Dead k.cycle = same_fault library c _ _ (λ q. cc) (λ q. cc) h k.holds in cc
  same_refusal library c (NoReturn e) (Whole b) h k = absurd (excluded library c b (live.NoReturn e) k h)
  same_refusal library c (NoReturn e) (Unreached f) h k = let same : live.NoReturn e ≡ live.Unreached f = same_fault library c _ _ (λ q. cc) (λ q. cc) h k in cc
  same_refusal library c (NoReturn e) (NoReturn f) h k = let same : live.NoReturn e ≡ live.NoReturn f = same_fault library c _ _ (λ q. cc) (λ q. cc) h k in cc
  same_refusal library c (NoReturn e) (Dead fs) h k = let same : live.NoReturn e ≡ live.Dead k.cycle = same_fault library c _ _ (λ q. cc) (λ q. cc) h k.holds in cc
  same_refusal library c (Dead es) (Whole b) h k = absurd (excluded library c b (live.Dead h.cycle) k h.holds)
  same_refusal library c (Dead es) (Unreached f) h k = let same : live.Dead h.cycle ≡ live.Unreached f = same_fault library c _ _ (λ q. cc) (λ q. cc) h.holds k in cc
  same_refusal library c (Dead es) (NoReturn f) h k = let same : live.Dead h.cycle ≡ live.NoReturn f = same_fault library c _ _ (λ q. cc) (λ q. cc) h.holds k in cc
  same_refusal library c (Dead es) (Dead fs) h k = ap Dead (same_dead library c es fs h k)
  same_refusal library c Memory b h k = absurd h
  same_refusal library c (Whole a) Memory h k = absurd k
  same_refusal library c (Unreached e) Memory h k = absurd k
  same_refusal library c (NoReturn e) Memory h k = absurd k
  same_refusal library c (Dead es) Memory h k = absurd k

  refused : (library : List Cell) (c : Circuit) (a : Analysis) (fault : NetlistFault) → IsNetlistAnalysis library c a → IsNetlistFault library c fault → ⊥
  refused library c a (Whole fault) h k = not_whole library c h.root fault h.rooted k
  refused library c a (Unreached e) h k = not_both library c a (live.Unreached e) (λ q. cc) h k
  refused library c a (NoReturn e) h k = not_both library c a (live.NoReturn e) (λ q. cc) h k
  refused library c a (Dead es) h k = not_both library c a (live.Dead k.cycle) (λ q. cc) h k.holds
  refused library c a Memory h k = k

  pub same_finding : (library : List Cell) (c : Circuit) (finding other : Finding) → IsFinding library c finding → IsFinding library c other → finding ≡ other
  same_finding library c (Ok a) (Ok b) h k = ap Ok (same_analysis library c a b h k)
  same_finding library c (Ok a) (Err fault) h k = absurd (refused library c a fault h k)
  same_finding library c (Err fault) (Ok a) h k = absurd (refused library c a fault k h)
  same_finding library c (Err fault) (Err other) h k = ap Err (same_refusal library c fault other h k)

-- a netlist that is whole has a root
rootless : (library : List Cell) (c : Circuit) → whole_of library c ≡ None → c.root ≡ None → ⊥
unfolding whole_of
rootless library c whole none = by (undriven_fault c) refl
  where
    by : (o : Option WholeFault) → undriven_fault c ≡ o → ⊥
    by (Some fault) h = let bad : Some fault ≡ None = rw h at whole in cc
    by None h = let bad : Some NoRoot ≡ None = rw (h, none) at whole in cc

-- a system is connected and live, or has a fault
abbrev pub SoundOrAtFault : Type 0
SoundOrAtFault = (events : ℕ) (rules : List Rule) (root : ℕ) → EndsBelow events rules → root < events →
    (IsConnected events rules root × IsLive rules) ⊎ ((fault : LiveFault) × IsFault events rules root fault × (fault ≢ live.Memory))

abbrev pub AnalysisExists : Type 0
AnalysisExists = (system : EventRules) (root : ℕ) (forks : List ForkOf) → EndsBelow system.events system.rules → 2 ≤ system.events → root < system.events →
    All (IsFork system.events) forks → IsConnected system.events system.rules root → IsLive system.rules →
    (analysis : Analysis) × IsAnalysis system root forks analysis

abbrev pub RulesWithin : Type 0
RulesWithin = (library : List Cell) (c : Circuit) → IsLibrary library → IsNetlist c → All (IsRule (2 * length c.nets)) (system_rules library c)

-- each fault of the system but want of memory is found
found : (library : List Cell) (c : Circuit) (fault : LiveFault) → IsSystemFault library c fault → fault ≢ live.Memory → (finding : Finding) × IsFinding library c finding
found library c (live.Unreached event) is other = (Err (Unreached event), is)
found library c (live.NoReturn event) is other = (Err (NoReturn event), is)
found library c (live.Dead cycle) is other = (Err (Dead (map (source_of (system_rules library c)) cycle)), record { cycle = cycle; holds = is; sources = refl })
found library c live.Memory is other = absurd (other refl)

module _ (sound_or_at_fault : SoundOrAtFault) (exists : AnalysisExists) (within : RulesWithin) where
  ends : (library : List Cell) (c : Circuit) → IsLibrary library → IsNetlist c → EndsBelow (system_of library c).events (system_of library c).rules
  ends library c is sound n inside = let r : IsRule (2 * length c.nets) (slice_index_or (system_rules library c) n no_rule) = within library c is sound n no_rule inside in (r.0, r.1)

  rooted_finding : (library : List Cell) (c : Circuit) (root : ℕ) → IsLibrary library → IsNetlist c → IsRooted library c root → root < 2 * length c.nets
      → (finding : Finding) × IsFinding library c finding
  rooted_finding library c root is sound rooted below =
      by (sound_or_at_fault (system_of library c).events (system_of library c).rules root (ends library c is sound) below)
    where
      by : (IsConnected (system_of library c).events (system_of library c).rules root × IsLive (system_of library c).rules)
          ⊎ ((fault : LiveFault) × IsFault (system_of library c).events (system_of library c).rules root fault × (fault ≢ live.Memory))
          → (finding : Finding) × IsFinding library c finding
      by (inl (connected, live)) =
          let a : (analysis : Analysis) × IsAnalysis (system_of library c) root (system_forks c) analysis =
          exists (system_of library c) root (system_forks c) (ends library c is sound) (omega (arith, below)) below (forks_within c sound) connected live in
          (Ok a.0, record { root = root; rooted = rooted; right = a.1 })
      by (inr (fault, holds, other)) = found library c fault (record { root = root; rooted = rooted; holds = holds }) other

  pub has_finding : (library : List Cell) (c : Circuit) → IsLibrary library → IsNetlist c → (finding : Finding) × IsFinding library c finding
  has_finding library c is sound = by (whole_of library c) refl
    where
      by_root : (o : Option ℕ) → whole_of library c ≡ None → c.root ≡ o → IfSome o (λ r. r < 2 * length c.nets) → (finding : Finding) × IsFinding library c finding
      by_root (Some root) whole same below = rooted_finding library c root is sound (record { whole = whole; is_root = same }) below
      by_root None whole same below = absurd (rootless library c whole same)

      by : (o : Option WholeFault) → whole_of library c ≡ o → (finding : Finding) × IsFinding library c finding
      by (Some fault) h = (Err (Whole fault), h)
      by None h = by_root c.root h refl sound.root
