-- The order of cycles leaves one first.
use Rattle.std.proofs.Common.{◌≡◌, ℕ, ◌<◌, ◌≤◌, Bool, List, [], ◌∷◌, length, ◌⊎◌, inl, inr, refl, sym, ◌∙◌, arith}
use Rattle.std.proofs.lemmas.Bool.{cases_lt}
use Rattle.rule_system.specs.declared.rules.Rule.{Rule}
use Rattle.rule_system.specs.FirstCycle.{start_of, IsListBefore, IsCycleBefore, IsFirstCycle}

same_list : (v w : List ℕ) → IsListBefore v w → IsListBefore w v → v ≡ w
same_list [] [] h k = refl
same_list [] (m ∷ w) h k = absurd k
same_list (n ∷ v) [] h k = absurd h
same_list (n ∷ v) (m ∷ w) (inl p) (inl q) = absurd (omega arith)
same_list (n ∷ v) (m ∷ w) (inl p) (inr q) = let e : m ≡ n = q.0 in absurd (omega arith)
same_list (n ∷ v) (m ∷ w) (inr p) (inl q) = let e : n ≡ m = p.0 in absurd (omega arith)
same_list (n ∷ v) (m ∷ w) (inr p) (inr q) = let e : v ≡ w = same_list v w p.1 q.1 in let f : n ≡ m = p.0 in cc

same_cycle : (rs : List Rule) (c d : List ℕ) → IsCycleBefore rs c d → IsCycleBefore rs d c → c ≡ d
same_cycle rs c d (inl p) (inl q) = absurd (omega arith)
same_cycle rs c d (inl p) (inr q) = let e : start_of rs d ≡ start_of rs c = q.0 in absurd (omega arith)
same_cycle rs c d (inr p) (inl q) = let e : start_of rs c ≡ start_of rs d = p.0 in absurd (omega arith)
same_cycle rs c d (inr p) (inr q) = lengths p.1 q.1
  where
    lengths : (length c < length d) ⊎ ((length c ≡ length d) × IsListBefore c d) → (length d < length c) ⊎ ((length d ≡ length c) × IsListBefore d c) → c ≡ d
    lengths (inl p) (inl q) = absurd (omega arith)
    lengths (inl p) (inr q) = let e : length d ≡ length c = q.0 in absurd (omega arith)
    lengths (inr p) (inl q) = let e : length c ≡ length d = p.0 in absurd (omega arith)
    lengths (inr p) (inr q) = same_list c d p.1 q.1

pub same_first : (rs : List Rule) (kept : ℕ → Bool) (c d : List ℕ) → IsFirstCycle rs kept c → IsFirstCycle rs kept d → c ≡ d
same_first rs kept c d h k = same_cycle rs c d (h.first d k.is_cycle k.is_kept) (k.first c h.is_cycle h.is_kept)

-- ---- of any two cycles one is not after the other

list_either : (v w : List ℕ) → IsListBefore v w ⊎ IsListBefore w v
list_either [] w = inl tt
list_either (n ∷ v) [] = inr tt
list_either (n ∷ v) (m ∷ w) = go (cases_lt n m) (cases_lt m n) (list_either v w)
  where
    go : (n < m) ⊎ (m ≤ n) → (m < n) ⊎ (n ≤ m) → IsListBefore v w ⊎ IsListBefore w v → IsListBefore (n ∷ v) (m ∷ w) ⊎ IsListBefore (m ∷ w) (n ∷ v)
    go (inl h) k r = inl (inl h)
    go (inr h) (inl k) r = inr (inl k)
    go (inr h) (inr k) (inl r) = inl (inr (omega arith, r))
    go (inr h) (inr k) (inr r) = inr (inr (omega arith, r))

pub cycle_either : (rs : List Rule) (c d : List ℕ) → IsCycleBefore rs c d ⊎ IsCycleBefore rs d c
cycle_either rs c d = starts (cases_lt (start_of rs c) (start_of rs d)) (cases_lt (start_of rs d) (start_of rs c))
  where
    lengths : start_of rs c ≡ start_of rs d → (length c < length d) ⊎ (length d ≤ length c) → (length d < length c) ⊎ (length c ≤ length d) → IsListBefore c d ⊎ IsListBefore d c → IsCycleBefore rs c d ⊎ IsCycleBefore rs d c
    lengths e (inl h) k r = inl (inr (e, inl h))
    lengths e (inr h) (inl k) r = inr (inr (sym e, inl k))
    lengths e (inr h) (inr k) (inl r) = inl (inr (e, inr (omega arith, r)))
    lengths e (inr h) (inr k) (inr r) = inr (inr (sym e, inr (omega arith, r)))

    starts : (start_of rs c < start_of rs d) ⊎ (start_of rs d ≤ start_of rs c) → (start_of rs d < start_of rs c) ⊎ (start_of rs c ≤ start_of rs d) → IsCycleBefore rs c d ⊎ IsCycleBefore rs d c
    starts (inl h) k = inl (inl h)
    starts (inr h) (inl k) = inr (inl k)
    starts (inr h) (inr k) = lengths (omega arith) (cases_lt (length c) (length d)) (cases_lt (length d) (length c)) (list_either c d)

-- ---- the order joins

list_through : (u v w : List ℕ) → IsListBefore u v → IsListBefore v w → IsListBefore u w
list_through [] v w h k = tt
list_through (l ∷ u) [] w h k = absurd h
list_through (l ∷ u) (n ∷ v) [] h k = absurd k
list_through (l ∷ u) (n ∷ v) (m ∷ w) (inl p) (inl q) = inl (omega arith)
list_through (l ∷ u) (n ∷ v) (m ∷ w) (inl p) (inr q) = inl (let e : n ≡ m = q.0 in omega arith)
list_through (l ∷ u) (n ∷ v) (m ∷ w) (inr p) (inl q) = inl (let e : l ≡ n = p.0 in omega arith)
list_through (l ∷ u) (n ∷ v) (m ∷ w) (inr p) (inr q) = inr (p.0 ∙ q.0, list_through u v w p.1 q.1)

pub cycle_through : (rs : List Rule) (b c d : List ℕ) → IsCycleBefore rs b c → IsCycleBefore rs c d → IsCycleBefore rs b d
cycle_through rs b c d (inl p) (inl q) = inl (omega arith)
cycle_through rs b c d (inl p) (inr q) = inl (let e : start_of rs c ≡ start_of rs d = q.0 in omega arith)
cycle_through rs b c d (inr p) (inl q) = inl (let e : start_of rs b ≡ start_of rs c = p.0 in omega arith)
cycle_through rs b c d (inr p) (inr q) = inr (p.0 ∙ q.0, lengths p.1 q.1)
  where
    lengths : (length b < length c) ⊎ ((length b ≡ length c) × IsListBefore b c) → (length c < length d) ⊎ ((length c ≡ length d) × IsListBefore c d) → (length b < length d) ⊎ ((length b ≡ length d) × IsListBefore b d)
    lengths (inl p) (inl q) = inl (omega arith)
    lengths (inl p) (inr q) = inl (let e : length c ≡ length d = q.0 in omega arith)
    lengths (inr p) (inl q) = inl (let e : length b ≡ length c = p.0 in omega arith)
    lengths (inr p) (inr q) = inr (p.0 ∙ q.0, list_through b c d p.1 q.1)
