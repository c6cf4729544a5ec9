-- Among the short lists of small numbers that pass a test one is the best, or none passes.
use Rattle.std.proofs.Common.{◌≡◌, ℕ, zero, suc, ◌<◌, ◌≤◌, List, [], ◌∷◌, length, ◌⊎◌, inl, inr, refl, arith}
use Rattle.std.specs.List.{AllByRecursion}
use Rattle.std.proofs.lemmas.Bool.{cases_lt, cases_eq}

-- a test that can be made
abbrev pub Tested : (List ℕ → Type 0) → Type 0
Tested P = (w : List ℕ) → P w ⊎ (P w → ⊥)

-- any two lists that pass are in order one way or the other, and orders join
pub record IsOrder (R : List ℕ → List ℕ → Type 0) (P : List ℕ → Type 0) : Type 0 where
  pub either : (v w : List ℕ) → P v → P w → R v w ⊎ R w v
  pub through : (u v w : List ℕ) → P u → P v → P w → R u v → R v w → R u w

-- a list that passes and that all that pass are in order before
pub record Best (R : List ℕ → List ℕ → Type 0) (P : List ℕ → Type 0) : Type 0 where
  pub list : List ℕ
  pub passes : P list
  pub best : (other : List ℕ) → P other → R other list

abbrev pub BestOrNone : (List ℕ → List ℕ → Type 0) → (List ℕ → Type 0) → Type 0
BestOrNone R P = Best R P ⊎ ((w : List ℕ) → P w → ⊥)

-- at most n numbers, each below m
abbrev pub IsAmong : ℕ → ℕ → List ℕ → Type 0
IsAmong m n w = (length w ≤ n) × AllByRecursion (λ k. k < m) w

-- the first number is below k, at most n numbers below m come after it, and the list passes
abbrev Starts : ℕ → ℕ → ℕ → (List ℕ → Type 0) → List ℕ → Type 0
Starts m n k P [] = ⊥
Starts m n k P (x ∷ v) = (x < k) × IsAmong m n v × P (x ∷ v)

-- two choices make one
joined : (R : List ℕ → List ℕ → Type 0) (P A B C : List ℕ → Type 0) → IsOrder R P → ((w : List ℕ) → C w → P w) → ((w : List ℕ) → A w → C w) → ((w : List ℕ) → B w → C w) → ((w : List ℕ) → C w → A w ⊎ B w) → BestOrNone R A → BestOrNone R B → BestOrNone R C
joined R P A B C o p a b parts (inl s) (inl t) = pick (o.either s.list t.list (p s.list (a s.list s.passes)) (p t.list (b t.list t.passes)))
  where
    before_second : R s.list t.list → (w : List ℕ) → C w → A w ⊎ B w → R w t.list
    before_second h w c (inl x) = o.through w s.list t.list (p w c) (p s.list (a s.list s.passes)) (p t.list (b t.list t.passes)) (s.best w x) h
    before_second h w c (inr y) = t.best w y

    before_first : R t.list s.list → (w : List ℕ) → C w → A w ⊎ B w → R w s.list
    before_first h w c (inl x) = s.best w x
    before_first h w c (inr y) = o.through w t.list s.list (p w c) (p t.list (b t.list t.passes)) (p s.list (a s.list s.passes)) (t.best w y) h

    pick : R s.list t.list ⊎ R t.list s.list → BestOrNone R C
    pick (inl h) = inl (record { list = t.list; passes = b t.list t.passes; best = λ w c. before_second h w c (parts w c) })
    pick (inr h) = inl (record { list = s.list; passes = a s.list s.passes; best = λ w c. before_first h w c (parts w c) })
joined R P A B C o p a b parts (inl s) (inr none) = inl (record { list = s.list; passes = a s.list s.passes; best = λ w c. go w (parts w c) })
  where
    go : (w : List ℕ) → A w ⊎ B w → R w s.list
    go w (inl x) = s.best w x
    go w (inr y) = absurd (none w y)
joined R P A B C o p a b parts (inr none) (inl t) = inl (record { list = t.list; passes = b t.list t.passes; best = λ w c. go w (parts w c) })
  where
    go : (w : List ℕ) → A w ⊎ B w → R w t.list
    go w (inl x) = absurd (none w x)
    go w (inr y) = t.best w y
joined R P A B C o p a b parts (inr none) (inr never) = inr (λ w c. go w (parts w c))
  where
    go : (w : List ℕ) → A w ⊎ B w → ⊥
    go w (inl x) = none w x
    go w (inr y) = never w y

-- the empty list alone
abbrev IsEmptyOne : (List ℕ → Type 0) → List ℕ → Type 0
IsEmptyOne P [] = P []
IsEmptyOne P (x ∷ v) = ⊥

empty_one : (R : List ℕ → List ℕ → Type 0) (P : List ℕ → Type 0) → IsOrder R P → Tested P → BestOrNone R (IsEmptyOne P)
empty_one R P o test = go (test [])
  where
    itself : (p : P []) → R [] [] ⊎ R [] [] → R [] []
    itself p (inl h) = h
    itself p (inr h) = h

    only : P [] → (w : List ℕ) → IsEmptyOne P w → R w []
    only p [] q = itself p (o.either [] [] p p)
    only p (x ∷ v) q = absurd q

    none : (P [] → ⊥) → (w : List ℕ) → IsEmptyOne P w → ⊥
    none n [] q = n q
    none n (x ∷ v) q = q

    go : P [] ⊎ (P [] → ⊥) → BestOrNone R (IsEmptyOne P)
    go (inl p) = inl (record { list = []; passes = p; best = only p })
    go (inr n) = inr (none n)

-- the lists that start with k
abbrev StartsAt : ℕ → ℕ → ℕ → (List ℕ → Type 0) → List ℕ → Type 0
StartsAt m n k P [] = ⊥
StartsAt m n k P (x ∷ v) = (x ≡ k) × IsAmong m n v × P (x ∷ v)

abbrev Rest : ℕ → ℕ → ℕ → (List ℕ → Type 0) → List ℕ → Type 0
Rest m n k P v = IsAmong m n v × P (k ∷ v)

put_before : (m n k : ℕ) (R : List ℕ → List ℕ → Type 0) (P : List ℕ → Type 0) → BestOrNone (λ v w. R (k ∷ v) (k ∷ w)) (Rest m n k P) → BestOrNone R (StartsAt m n k P)
put_before m n k R P (inl s) = inl (record { list = k ∷ s.list; passes = (refl, s.passes.0, s.passes.1); best = all })
  where
    same : (x : ℕ) → x ≡ k → (v : List ℕ) → IsAmong m n v → P (x ∷ v) → R (x ∷ v) (k ∷ s.list)
    same x e v i p = rw e (s.best v (i, rw (← e) p))

    all : (w : List ℕ) → StartsAt m n k P w → R w (k ∷ s.list)
    all [] q = absurd q
    all (x ∷ v) q = same x q.0 v q.1 q.2
put_before m n k R P (inr none) = inr all
  where
    all : (w : List ℕ) → StartsAt m n k P w → ⊥
    all [] q = q
    all (x ∷ v) q = none v (q.1, let e : x ≡ k = q.0 in rw (← e) q.2)

-- by the first number, from the best rests
starts : (m n k : ℕ) (R : List ℕ → List ℕ → Type 0) (P : List ℕ → Type 0) → IsOrder R P → ((h : ℕ) → BestOrNone (λ v w. R (h ∷ v) (h ∷ w)) (Rest m n h P)) → BestOrNone R (Starts m n k P)
starts m n zero R P o rests = inr none
  where
    none : (w : List ℕ) → Starts m n zero P w → ⊥
    none [] q = q
    none (x ∷ v) q = let h : x < 0 = q.0 in absurd (omega arith)
starts m n (suc k) R P o rests = joined R P (Starts m n k P) (StartsAt m n k P) (Starts m n (suc k) P) o passes low last parts (starts m n k R P o rests) (put_before m n k R P (rests k))
  where
    passes : (w : List ℕ) → Starts m n (suc k) P w → P w
    passes [] q = absurd q
    passes (x ∷ v) q = q.2

    low : (w : List ℕ) → Starts m n k P w → Starts m n (suc k) P w
    low [] q = q
    low (x ∷ v) q = (let h : x < k = q.0 in omega arith, q.1, q.2)

    last : (w : List ℕ) → StartsAt m n k P w → Starts m n (suc k) P w
    last [] q = q
    last (x ∷ v) q = (let h : x ≡ k = q.0 in omega arith, q.1, q.2)

    parts : (w : List ℕ) → Starts m n (suc k) P w → Starts m n k P w ⊎ StartsAt m n k P w
    parts [] q = absurd q
    parts (x ∷ v) q = go (cases_lt x k)
      where
        go : (x < k) ⊎ (k ≤ x) → Starts m n k P (x ∷ v) ⊎ StartsAt m n k P (x ∷ v)
        go (inl h) = inl (h, q.1, q.2)
        go (inr h) = inr (let b : x < suc k = q.0 in omega arith, q.1, q.2)

-- of the lists of at most n numbers below m that pass, one is the best, or there is none
pub search_best : (m n : ℕ) (R : List ℕ → List ℕ → Type 0) (P : List ℕ → Type 0) → IsOrder R P → Tested P → BestOrNone R (λ w. IsAmong m n w × P w)
search_best m zero R P o test = joined R P (IsEmptyOne P) (IsEmptyOne P) (λ w. IsAmong m zero w × P w) o (λ w c. c.1) into into parts (empty_one R P o test) (empty_one R P o test)
  where
    into : (w : List ℕ) → IsEmptyOne P w → IsAmong m zero w × P w
    into [] q = ((omega arith, tt), q)
    into (x ∷ v) q = absurd q

    parts : (w : List ℕ) → IsAmong m zero w × P w → IsEmptyOne P w ⊎ IsEmptyOne P w
    parts [] q = inl q.1
    parts (x ∷ v) q = let h : length (x ∷ v) ≤ 0 = q.0.0 in absurd (omega arith)
search_best m (suc n) R P o test = joined R P (IsEmptyOne P) (Starts m n m P) (λ w. IsAmong m (suc n) w × P w) o (λ w c. c.1) nothing some parts (empty_one R P o test) (starts m n m R P o (λ h. search_best m n (λ v w. R (h ∷ v) (h ∷ w)) (λ v. P (h ∷ v)) (record { either = λ v w. o.either (h ∷ v) (h ∷ w); through = λ u v w. o.through (h ∷ u) (h ∷ v) (h ∷ w) }) (λ v. test (h ∷ v))))
  where
    nothing : (w : List ℕ) → IsEmptyOne P w → IsAmong m (suc n) w × P w
    nothing [] q = ((omega arith, tt), q)
    nothing (x ∷ v) q = absurd q

    some : (w : List ℕ) → Starts m n m P w → IsAmong m (suc n) w × P w
    some [] q = absurd q
    some (x ∷ v) q = ((let l : length v ≤ n = q.1.0 in omega arith, (q.0, q.1.1)), q.2)

    parts : (w : List ℕ) → IsAmong m (suc n) w × P w → IsEmptyOne P w ⊎ Starts m n m P w
    parts [] q = inl q.1
    parts (x ∷ v) q = inr (q.0.1.0, (let l : length (x ∷ v) ≤ suc n = q.0.0 in omega arith, q.0.1.1), q.1)

-- ---- tests that can be made

pub both_tested : {A B : Type 0} → A ⊎ (A → ⊥) → B ⊎ (B → ⊥) → (A × B) ⊎ (A × B → ⊥)
both_tested (inl a) (inl b) = inl (a, b)
both_tested (inl a) (inr n) = inr (λ p. n p.1)
both_tested (inr n) b = inr (λ p. n p.0)

pub all_three_tested : {A B C : Type 0} → A ⊎ (A → ⊥) → B ⊎ (B → ⊥) → C ⊎ (C → ⊥) → (A × B × C) ⊎ (A × B × C → ⊥)
all_three_tested (inl a) (inl b) (inl c) = inl (a, b, c)
all_three_tested (inl a) (inl b) (inr n) = inr (λ p. n p.2)
all_three_tested (inl a) (inr n) c = inr (λ p. n p.1)
all_three_tested (inr n) b c = inr (λ p. n p.0)

pub lt_tested : (a b : ℕ) → (a < b) ⊎ (a < b → ⊥)
lt_tested a b = go (cases_lt a b)
  where
    go : (a < b) ⊎ (b ≤ a) → (a < b) ⊎ (a < b → ⊥)
    go (inl h) = inl h
    go (inr h) = inr (λ k. absurd (omega arith))

pub eq_tested : (a b : ℕ) → (a ≡ b) ⊎ (a ≡ b → ⊥)
eq_tested a b = cases_eq a b
