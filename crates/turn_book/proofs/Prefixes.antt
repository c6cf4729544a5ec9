-- Beginnings of a list, and the entries of one session.
use Rattle.std.proofs.Common.{◌≡◌, ◌≢◌, ◌⊎◌, ℕ, ◌<◌, ◌≤◌, List, [], ◌∷◌, ◌++◌, length, ◌==◌, refl, sym, ap, ◌∙◌, subst, inl, inr, ⊎_elim, arith, append_assoc, lt_of_not-le}
use Rattle.std.proofs.lemmas.Bool.Decides.{nat_tests}
use Rattle.std.proofs.lemmas.List.{append-nil}
use Rattle.std.proofs.lemmas.List.Elements.{filter-append}
use mathlib.Core.Logic.{dite}
use native.Mathlib.Decide.{dec_le}
use Rattle.std.specs.List.{AllByRecursion}
use Rattle.turn_book.specs.Views.{StartsWith, longer, own}

module _ {A : Type 0} where
  pub starts_self : (xs : List A) → StartsWith xs xs
  starts_self xs = ([], sym (append-nil xs))

  pub starts_more : (xs ys zs : List A) → StartsWith xs ys → StartsWith (xs ++ zs) ys
  starts_more xs ys zs s = (s.0 ++ zs, ap (λ l. l ++ zs) s.1 ∙ append_assoc ys s.0 zs)

  -- of two beginnings of one list the shorter begins the longer
  pub starts_between : (log a b : List A) → StartsWith log a → StartsWith log b → length b ≤ length a → StartsWith a b
  starts_between log a [] s t h = (a, refl)
  starts_between log [] (y ∷ b) s t h = absurd (omega arith)
  starts_between [] (x ∷ a) (y ∷ b) s t h = absurd (let e = ap length s.1 in omega arith)
  starts_between (z ∷ log) (x ∷ a) (y ∷ b) s t h =
      let more = starts_between log a b (s.0, cc (s.1)) (t.0, cc (t.1)) (omega arith) in
      let same : x ≡ y = cc (s.1, t.1) in
      let tail : a ≡ b ++ more.0 = more.1 in
      (more.0, (λ i. same i ∷ tail i))

  pub longer_cases : (a b : List A) → ((length a < length b) × (longer a b ≡ b)) ⊎ ((length b ≤ length a) × (longer a b ≡ a))
  longer_cases a b = dite (dec_le (length b) (length a)) (λ le. inr (le, grind (arith, nat_tests))) (λ no. let lt : length a < length b = lt_of_not-le no in inl (lt, grind (arith, nat_tests)))

  pub longer_starts : (log a b : List A) → StartsWith log a → StartsWith log b → StartsWith log (longer a b) × StartsWith (longer a b) a × StartsWith (longer a b) b
  longer_starts log a b s t = ⊎_elim
      (λ (c : (length a < length b) × (longer a b ≡ b)). subst (λ (l : List A). StartsWith log l × StartsWith l a × StartsWith l b) (sym c.1)
      (t, starts_between log b a t s (let lt = c.0 in omega arith), starts_self b))
      (λ (c : (length b ≤ length a) × (longer a b ≡ a)). subst (λ (l : List A). StartsWith log l × StartsWith l a × StartsWith l b) (sym c.1)
      (s, starts_self a, starts_between log a b s t c.0))
      (longer_cases a b)

  pub every_append : (P : A → Type 0) (xs ys : List A) → AllByRecursion P xs → AllByRecursion P ys → AllByRecursion P (xs ++ ys)
  every_append P [] ys p q = q
  every_append P (x ∷ xs) ys p q = (p.0, every_append P xs ys p.1 q)

  pub every_front : (P : A → Type 0) (xs ys : List A) → AllByRecursion P (xs ++ ys) → AllByRecursion P xs
  every_front P [] ys p = tt
  every_front P (x ∷ xs) ys p = (p.0, every_front P xs ys p.1)

  pub every_back : (P : A → Type 0) (xs ys : List A) → AllByRecursion P (xs ++ ys) → AllByRecursion P ys
  every_back P [] ys p = p
  every_back P (x ∷ xs) ys p = every_back P xs ys p.1

  pub every_map : (P Q : A → Type 0) (xs : List A) → ((x : A) → P x → Q x) → AllByRecursion P xs → AllByRecursion Q xs
  every_map P Q [] f p = tt
  every_map P Q (x ∷ xs) f p = (f x p.0, every_map P Q xs f p.1)

  nil_of : (xs ys : List A) → xs ++ ys ≡ xs → ys ≡ []
  nil_of [] ys e = e
  nil_of (x ∷ xs) ys e = nil_of xs ys (cc)

  pub both_nil : (xs ys : List A) → xs ++ ys ≡ [] → (xs ≡ []) × (ys ≡ [])
  both_nil [] ys e = (refl, e)
  both_nil (x ∷ xs) ys e = absurd (cc)

module _ {E : Type 0} (session : E → ℕ) where
  pub own_append : (k : ℕ) (xs ys : List E) → own session k (xs ++ ys) ≡ own session k xs ++ own session k ys
  own_append k xs ys = filter-append (λ e. session e == k) xs ys

  pub own_same : (k : ℕ) (e : E) → session e ≡ k → own session k (e ∷ []) ≡ e ∷ []
  own_same k e h = grind (arith, nat_tests)

  pub own_other : (k : ℕ) (e : E) → session e ≢ k → own session k (e ∷ []) ≡ []
  own_other k e h = grind (arith, nat_tests)

  pub own_snoc_same : (k : ℕ) (xs made : List E) (e : E) → session e ≡ k → own session k xs ≡ made → own session k (xs ++ e ∷ []) ≡ made ++ e ∷ []
  own_snoc_same k xs made e h m = own_append k xs (e ∷ []) ∙ (λ i. m i ++ own_same k e h i)

  pub own_snoc_other : (k : ℕ) (xs made : List E) (e : E) → session e ≢ k → own session k xs ≡ made → own session k (xs ++ e ∷ []) ≡ made
  own_snoc_other k xs made e h m = own_append k xs (e ∷ []) ∙ ((λ i. m i ++ own_other k e h i) ∙ append-nil made)

  -- a list between two that have the same of a number has them too
  pub own_between : (k : ℕ) (log m s es : List E) → StartsWith log m → StartsWith m s → own session k log ≡ es → own session k s ≡ es → own session k m ≡ es
  own_between k log m s es a b p q =
      let one : own session k m ≡ es ++ own session k b.0 = ap (own session k) b.1 ∙ (own_append k s b.0 ∙ ap (λ l. l ++ own session k b.0) q) in
      let two : own session k log ≡ own session k m ++ own session k a.0 = ap (own session k) a.1 ∙ own_append k m a.0 in
      let all : es ++ (own session k b.0 ++ own session k a.0) ≡ es = sym (append_assoc es (own session k b.0) (own session k a.0)) ∙ (ap (λ l. l ++ own session k a.0) (sym one) ∙ (sym two ∙ p)) in
      let none = both_nil (own session k b.0) (own session k a.0) (nil_of es (own session k b.0 ++ own session k a.0) all) in
      one ∙ (ap (λ l. es ++ l) none.0 ∙ append-nil es)

  -- what comes after has none of a number
  pub own_after : (k : ℕ) (s rest es : List E) → own session k (s ++ rest) ≡ es → own session k s ≡ es → own session k rest ≡ []
  own_after k s rest es p q = nil_of es (own session k rest) (ap (λ l. l ++ own session k rest) (sym q) ∙ (sym (own_append k s rest) ∙ p))

  pub own_above : (n k : ℕ) (log : List E) → n < k → AllByRecursion (λ e. (1 ≤ session e) × (session e ≤ n)) log → own session k log ≡ []
  own_above n k [] h p = refl
  own_above n k (e ∷ log) h p = let more : own session k log ≡ [] = own_above n k log h p.1 in let le : session e ≤ n = p.0.1 in let ne : session e ≢ k = λ s. omega arith in
      own_append k (e ∷ []) log ∙ (λ i. own_other k e ne i ++ more i)

  pub own_nil_head : (e : E) (rest : List E) → own session (session e) (e ∷ rest) ≡ [] → ⊥
  own_nil_head e rest h = let s : own session (session e) (e ∷ rest) ≡ (e ∷ []) ++ own session (session e) rest = own_append (session e) (e ∷ []) rest ∙ ap (λ l. l ++ own session (session e) rest) (own_same (session e) e refl) in
      absurd (cc)
