-- A pass that lowers levels, rule by rule.
use Rattle.std.proofs.Common.{◌≡◌, ◌≢◌, ℕ, ◌+◌, ◌<◌, ◌≤◌, Bool, true, false, nat_lt, List, [], ◌∷◌, length, get_or, set, sum, ◌⊎◌, inl, inr, refl, sym, ap, subst, ◌∙◌, arith}
use Rattle.std.proofs.lemmas.Bool.{cases_eq, cases_lt}
use Rattle.std.proofs.lemmas.Bool.Decides.{nat_tests}
use Rattle.std.proofs.lemmas.List.{get_or-set_same, get_or-set_other, length-set}
use Rattle.std.proofs.lemmas.List.Sums.{sum_by-set}
use Rattle.rule_system.specs.declared.rules.Rule.{Rule}
use Rattle.rule_system.specs.Rules.{rule_at, source_of, target_of}
use Rattle.rule_system.specs.Walks.{EndsBelow, KeptPath}
use Rattle.rule_system.proofs.Erase.{kept_path}
use Rattle.rule_system.proofs.Paths.{path_short}
use Rattle.rule_system.specs.FirstCycle.{kept_by}
use Rattle.first_cycle.specs.Levels.{IsKeptWalk, level_of, AreReached, AreSettled, AreFound, AreLevels, lowered}

-- what stands after the first rules of a pass
pub record IsPass (rs : List Rule) (keep : List Bool) (end count : ℕ) (before now : List ℕ) (changed : Bool) : Type 0 where
  pub same_count : length now ≡ length before
  pub reached : AreReached rs keep end now
  pub sank : (event : ℕ) → level_of now event ≤ level_of before event
  pub fell : changed ≡ true → sum now < sum before
  pub same : changed ≡ false → now ≡ before
  pub settled : changed ≡ false → AreSettled rs keep now count

sum-set : (xs : List ℕ) (i v : ℕ) → i < length xs → sum (set xs i v) + get_or xs i 0 ≡ sum xs + v
sum-set xs i v h = sum_by-set (λ (n : ℕ). n) xs i v 0 h

pub pass_none : (rs : List Rule) (keep : List Bool) (end : ℕ) (levels : List ℕ) → AreReached rs keep end levels → IsPass rs keep end 0 levels levels false
pass_none rs keep end levels h = record { same_count = refl; reached = h; sank = λ event. omega arith; fell = λ e. cc; same = λ e. refl; settled = λ e n k. absurd (omega arith) }

settled_more : (rs : List Rule) (keep : List Bool) (levels : List ℕ) (count : ℕ) → AreSettled rs keep levels count → (kept_by keep count ≡ true → level_of levels (source_of rs count) ≤ level_of levels (target_of rs count) + 1) → AreSettled rs keep levels (count + 1)
settled_more rs keep levels count h here n k e = go (cases_lt n count)
  where
    go : (n < count) ⊎ (count ≤ n) → level_of levels (source_of rs n) ≤ level_of levels (target_of rs n) + 1
    go (inl l) = h n l e
    go (inr g) =
        let s : n ≡ count = omega arith in
        subst (λ (m : ℕ). level_of levels (source_of rs m) ≤ level_of levels (target_of rs m) + 1) (sym s) (here (subst (λ (m : ℕ). kept_by keep m ≡ true) s e))

pub pass_skip : (rs : List Rule) (keep : List Bool) (end count : ℕ) (before now : List ℕ) (changed : Bool) → kept_by keep count ≡ false → IsPass rs keep end count before now changed → IsPass rs keep end (count + 1) before now changed
pass_skip rs keep end count before now changed k h = record { same_count = h.same_count; reached = h.reached; sank = h.sank; fell = h.fell; same = h.same; settled = λ e. settled_more rs keep now count (h.settled e) (λ t. absurd (clash t)) }
  where
    clash : kept_by keep count ≡ true → ⊥
    clash t = let f : kept_by keep count ≡ false = k in cc

-- a kept walk of some length to the end
abbrev Reached : List Rule → List Bool → ℕ → ℕ → ℕ → Type 0
Reached rs keep end event level = (walk : List ℕ) × IsKeptWalk rs keep event walk end × (length walk ≡ level)

stays_reached : (rs : List Rule) (keep : List Bool) (end n : ℕ) (levels : List ℕ) → n < length rs → kept_by keep n ≡ true → target_of rs n < length levels → source_of rs n < length levels → AreReached rs keep end levels → AreReached rs keep end (set levels (source_of rs n) (level_of levels (target_of rs n) + 1))
stays_reached rs keep end n levels inside kept t s h event k l = go (cases_eq event (source_of rs n))
  where
    next : ℕ
    next = level_of levels (target_of rs n) + 1

    same_length : length (set levels (source_of rs n) (level_of levels (target_of rs n) + 1)) ≡ length levels
    same_length = length-set levels (source_of rs n) (level_of levels (target_of rs n) + 1)

    there : level_of (set levels (source_of rs n) (level_of levels (target_of rs n) + 1)) (source_of rs n) ≡ level_of levels (target_of rs n) + 1
    there = get_or-set_same levels (source_of rs n) (level_of levels (target_of rs n) + 1) 0 s

    longer : Reached rs keep end (target_of rs n) (level_of levels (target_of rs n)) → Reached rs keep end (source_of rs n) (level_of levels (target_of rs n) + 1)
    longer w = (n ∷ w.0, ((inside, refl, w.1.0), (kept, w.1.1)), let e : length w.0 ≡ level_of levels (target_of rs n) = w.2 in omega arith)

    go : (event ≡ source_of rs n) ⊎ (event ≢ source_of rs n) → Reached rs keep end event (level_of (set levels (source_of rs n) (level_of levels (target_of rs n) + 1)) event)
    go (inl e) =
        let small : level_of (set levels (source_of rs n) (level_of levels (target_of rs n) + 1)) (source_of rs n) < length levels = subst (λ (v : ℕ). level_of (set levels (source_of rs n) (level_of levels (target_of rs n) + 1)) v < length levels) e (subst (λ (v : ℕ). level_of (set levels (source_of rs n) (level_of levels (target_of rs n) + 1)) event < v) same_length l) in
        subst (λ (v : ℕ). Reached rs keep end v (level_of (set levels (source_of rs n) (level_of levels (target_of rs n) + 1)) v)) (sym e)
        (subst (λ (v : ℕ). Reached rs keep end (source_of rs n) v) (sym there) (longer (h (target_of rs n) t (let q : level_of (set levels (source_of rs n) (level_of levels (target_of rs n) + 1)) (source_of rs n) ≡ level_of levels (target_of rs n) + 1 = there in omega arith))))
    go (inr d) =
        let same : level_of (set levels (source_of rs n) (level_of levels (target_of rs n) + 1)) event ≡ level_of levels event = get_or-set_other levels (source_of rs n) event (level_of levels (target_of rs n) + 1) 0 d in
        subst (λ (v : ℕ). Reached rs keep end event v) (sym same) (h event (let q : event < length levels = subst (λ (v : ℕ). event < v) same_length k in q) (let q : level_of (set levels (source_of rs n) (level_of levels (target_of rs n) + 1)) event < length levels = subst (λ (v : ℕ). level_of (set levels (source_of rs n) (level_of levels (target_of rs n) + 1)) event < v) same_length l in omega arith))

pub pass_lower : (events : ℕ) (rs : List Rule) (keep : List Bool) (end count : ℕ) (before now : List ℕ) (changed : Bool) → EndsBelow events rs → length before ≡ events → count < length rs → kept_by keep count ≡ true → nat_lt (level_of now (target_of rs count) + 1) (level_of now (source_of rs count)) ≡ true → IsPass rs keep end count before now changed → IsPass rs keep end (count + 1) before (lowered (rule_at rs count) now) true
pass_lower events rs keep end count before now changed ends total inside kept low h = rw low (record {
  same_count = length-set now (source_of rs count) (level_of now (target_of rs count) + 1) ∙ h.same_count;
  reached = stays_reached rs keep end count now inside kept t s h.reached;
  sank = λ event. sink event (cases_eq event (source_of rs count)) (h.sank event);
  fell = λ e. drop changed refl;
  same = λ e. cc;
  settled = λ e. absurd (clash e);
})
  where
    clash : true ≡ false → ⊥
    clash e = cc

    t : target_of rs count < length now
    t = let e : length now ≡ length before = h.same_count in let b : target_of rs count < events = (ends count inside).1 in omega arith

    s : source_of rs count < length now
    s = let e : length now ≡ length before = h.same_count in let b : source_of rs count < events = (ends count inside).0 in omega arith

    below : level_of now (target_of rs count) + 1 < level_of now (source_of rs count)
    below = grind (arith, nat_tests)

    sink : (event : ℕ) → (event ≡ source_of rs count) ⊎ (event ≢ source_of rs count) → level_of now event ≤ level_of before event → level_of (set now (source_of rs count) (level_of now (target_of rs count) + 1)) event ≤ level_of before event
    sink event (inl e) k =
        let there : level_of (set now (source_of rs count) (level_of now (target_of rs count) + 1)) (source_of rs count) ≡ level_of now (target_of rs count) + 1 = get_or-set_same now (source_of rs count) (level_of now (target_of rs count) + 1) 0 s in
        let b : level_of now (target_of rs count) + 1 < level_of now (source_of rs count) = below in
        let old : level_of now (source_of rs count) ≤ level_of before (source_of rs count) = h.sank (source_of rs count) in
        rw e (omega arith)
    sink event (inr d) k =
        let there : level_of (set now (source_of rs count) (level_of now (target_of rs count) + 1)) event ≡ level_of now event = get_or-set_other now (source_of rs count) event (level_of now (target_of rs count) + 1) 0 d in
        omega arith

    lower_sum : sum (set now (source_of rs count) (level_of now (target_of rs count) + 1)) < sum now
    lower_sum =
        let b : level_of now (target_of rs count) + 1 < level_of now (source_of rs count) = below in
        let e : sum (set now (source_of rs count) (level_of now (target_of rs count) + 1)) + level_of now (source_of rs count) ≡ sum now + (level_of now (target_of rs count) + 1) = sum-set now (source_of rs count) (level_of now (target_of rs count) + 1) s in
        omega arith

    drop : (b : Bool) → changed ≡ b → sum (set now (source_of rs count) (level_of now (target_of rs count) + 1)) < sum before
    drop true e =
        let f : sum now < sum before = h.fell e in
        let g : sum (set now (source_of rs count) (level_of now (target_of rs count) + 1)) < sum now = lower_sum in
        omega arith
    drop false e =
        let f : sum now ≡ sum before = ap sum (h.same e) in
        let g : sum (set now (source_of rs count) (level_of now (target_of rs count) + 1)) < sum now = lower_sum in
        omega arith

pub pass_still : (rs : List Rule) (keep : List Bool) (end count : ℕ) (before now : List ℕ) (changed : Bool) → nat_lt (level_of now (target_of rs count) + 1) (level_of now (source_of rs count)) ≡ false → IsPass rs keep end count before now changed → IsPass rs keep end (count + 1) before (lowered (rule_at rs count) now) changed
pass_still rs keep end count before now changed low h = rw low (record { same_count = h.same_count; reached = h.reached; sank = h.sank; fell = h.fell; same = h.same; settled = λ e. settled_more rs keep now count (h.settled e) (λ t. above) })
  where
    above : level_of now (source_of rs count) ≤ level_of now (target_of rs count) + 1
    above = grind (arith, nat_tests)

-- ---- settled levels are the least

settled_bound : (rs : List Rule) (keep : List Bool) (end : ℕ) (levels : List ℕ) → AreSettled rs keep levels (length rs) → level_of levels end ≡ 0 → (event : ℕ) (walk : List ℕ) → IsKeptWalk rs keep event walk end → level_of levels event ≤ length walk
settled_bound rs keep end levels h z event [] w = let e : level_of levels event ≡ level_of levels end = ap (level_of levels) w.0 in omega arith
settled_bound rs keep end levels h z event (n ∷ walk) w =
    let rest : level_of levels (target_of rs n) ≤ length walk = settled_bound rs keep end levels h z (target_of rs n) walk (w.0.2, w.1.1) in
    let here : level_of levels (source_of rs n) ≤ level_of levels (target_of rs n) + 1 = h n w.0.0 w.1.0 in
    let e : level_of levels (source_of rs n) ≡ level_of levels event = ap (level_of levels) w.0.1 in
    omega arith

-- a kept walk to the end shows that a level is below the number of events
kept_bound : (events : ℕ) (rs : List Rule) (keep : List Bool) (end : ℕ) (levels : List ℕ) → EndsBelow events rs → AreSettled rs keep levels (length rs) → level_of levels end ≡ 0 → (a : ℕ) (walk : List ℕ) → a < events → IsKeptWalk rs keep a walk end → level_of levels a < events
kept_bound events rs keep end levels ends h z a walk k w =
    let p : KeptPath rs (kept_by keep) a walk end = kept_path rs (kept_by keep) a walk end w.0 w.1 in
    let short : length p.path < events = path_short rs events ends a p.path end k p.is_path in
    let low : level_of levels a ≤ length p.path = settled_bound rs keep end levels h z a p.path (p.is_path.0, p.is_kept) in
    omega arith

pub least_levels : (events : ℕ) (rs : List Rule) (keep : List Bool) (end : ℕ) (levels : List ℕ) → EndsBelow events rs → length levels ≡ events → level_of levels end ≡ 0 → AreReached rs keep end levels → AreSettled rs keep levels (length rs) → AreLevels events rs keep end levels
least_levels events rs keep end levels ends c z r h = record {
  count = c;
  reached = r;
  settled = h;
  least = settled_bound rs keep end levels h z;
  below = kept_bound events rs keep end levels ends h z;
}

-- a search may lower the source of a kept rule
pub found_lowered : (events : ℕ) (rs : List Rule) (keep : List Bool) (end n : ℕ) (levels : List ℕ) → EndsBelow events rs → n < length rs → kept_by keep n ≡ true → AreFound events rs keep end levels → AreFound events rs keep end (lowered (rule_at rs n) levels)
found_lowered events rs keep end n levels ends inside kept h = go (nat_lt (level_of levels (target_of rs n) + 1) (level_of levels (source_of rs n))) refl
  where
    t : target_of rs n < length levels
    t = let e : length levels ≡ events = h.count in let b : target_of rs n < events = (ends n inside).1 in omega arith

    s : source_of rs n < length levels
    s = let e : length levels ≡ events = h.count in let b : source_of rs n < events = (ends n inside).0 in omega arith

    zero : nat_lt (level_of levels (target_of rs n) + 1) (level_of levels (source_of rs n)) ≡ true → (end ≡ source_of rs n) ⊎ (end ≢ source_of rs n) → level_of (set levels (source_of rs n) (level_of levels (target_of rs n) + 1)) end ≡ 0
    zero b (inl e) =
        let z : level_of levels (source_of rs n) ≡ 0 = ap (level_of levels) (sym e) ∙ h.zero in
        let l : level_of levels (target_of rs n) + 1 < level_of levels (source_of rs n) = grind (arith, nat_tests) in
        absurd (omega arith)
    zero b (inr d) = get_or-set_other levels (source_of rs n) end (level_of levels (target_of rs n) + 1) 0 d ∙ h.zero

    go : (b : Bool) → nat_lt (level_of levels (target_of rs n) + 1) (level_of levels (source_of rs n)) ≡ b → AreFound events rs keep end (lowered (rule_at rs n) levels)
    go true b = rw b (record {
      count = length-set levels (source_of rs n) (level_of levels (target_of rs n) + 1) ∙ h.count;
      zero = zero b (cases_eq end (source_of rs n));
      reached = stays_reached rs keep end n levels inside kept t s h.reached;
    })
    go false b = rw b h
