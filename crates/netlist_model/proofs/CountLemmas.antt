-- The counts that the index tells.
use Rattle.std.proofs.Common.{◌≡◌, ℕ, List, [], ◌∷◌, ◌++◌, filter, find, not, Bool, true, false, cond, Option, Some, None, is_some, option_map, refl, sym, ap, subst, ◌∙◌, if◌then◌else◌, arith}
use Rattle.std.proofs.lemmas.Bool.Decides.{nat_tests}
use Rattle.netlist_model.specs.Blocks.{pair_eq, TellsCounts}
use Rattle.cell_arcs.specs.Steps.{or_else}
use Rattle.netlist_model.specs.Circuit.{is_between, tick_of}
use Rattle.netlist_model.specs.declared.parts.Tick.{Tick}
use Rattle.netlist_model.proofs.BlockLemmas.{same_test, between_other, pairs_apart, filtered_out}
use Rattle.netlist_model.proofs.Soundness.{find_any}
use Rattle.netlist_model.proofs.Tables.{or_none}

-- a part of what is looked up after a change
pub looked_up : {A B : Type 0} (f : A → B) (b : Bool) (w o n : Option A) → n ≡ cond b w o → option_map f n ≡ cond b (option_map f w) (option_map f o)
looked_up f true w o n e = ap (option_map f) e
looked_up f false w o n e = ap (option_map f) e

-- one is there exactly where the other is
pub both_there : {A B C : Type 0} (f : A → C) (g : B → C) (o : Option A) (p : Option B) → option_map f o ≡ option_map g p → is_some o ≡ is_some p
both_there f g None None e = refl
both_there f g None (Some y) e = cc
both_there f g (Some x) None e = cc
both_there f g (Some x) (Some y) e = refl

pub not_there : {A : Type 0} (o : Option A) → is_some o ≡ false → o ≡ None
not_there None h = refl
not_there (Some x) h = cc

-- the first that passes, with one more at the end
find_push : (p : Tick → Bool) (xs : List Tick) (x : Tick) → find p (xs ++ x ∷ []) ≡ or_else (find p xs) (if p x then Some x else None)
find_push p [] x = by (p x) refl
  where
    by : (b : Bool) → p x ≡ b → find p (x ∷ []) ≡ (if b then Some x else None)
    by true e = rw e refl
    by false e = rw e refl
find_push p (y ∷ ys) x = by (p y) refl (find_push p ys x)
  where
    by : (b : Bool) → p y ≡ b → find p (ys ++ x ∷ []) ≡ or_else (find p ys) (if p x then Some x else None) → find p ((y ∷ ys) ++ x ∷ []) ≡ or_else (find p (y ∷ ys)) (if p x then Some x else None)
    by true e h = rw e refl
    by false e h = rw e h

-- the first that passes is still there where what was taken out does not pass
find_apart : (q p : Tick → Bool) (xs : List Tick) → ((x : Tick) → q x ≡ true → p x ≡ false) → find p (filter (λ x. not (q x)) xs) ≡ find p xs
find_apart q p [] h = refl
find_apart q p (x ∷ xs) h = by (q x) refl (p x) refl (find_apart q p xs h)
  where
    by : (b : Bool) → q x ≡ b → (c : Bool) → p x ≡ c → find p (filter (λ y. not (q y)) xs) ≡ find p xs → find p (filter (λ y. not (q y)) (x ∷ xs)) ≡ find p (x ∷ xs)
    by true e c d rest = rw (e, h x e) rest
    by false e true d rest = rw (e, d) refl
    by false e false d rest = rw (e, d) rest

-- one more tick, of a pair that had none
pub told_push : (ticks : List Tick) (x : Tick) (old new : ℕ → ℕ → Option ℕ) → TellsCounts ticks old → is_some (tick_of ticks x.source x.target) ≡ false
    → ((u v : ℕ) → new u v ≡ cond (pair_eq (x.source, x.target) (u, v)) (Some x.count) (old u v)) → TellsCounts (ticks ++ x ∷ []) new
told_push ticks x old new told fresh after = record { told = λ u v. after u v ∙ by u v (pair_eq (x.source, x.target) (u, v)) refl }
  where
    by : (u v : ℕ) (b : Bool) → pair_eq (x.source, x.target) (u, v) ≡ b → cond b (Some x.count) (old u v) ≡ option_map (λ t. t.count) (tick_of (ticks ++ x ∷ []) u v)
    by u v true e =
        let (a, d) = same_test x.source x.target u v e in
        let none : tick_of ticks u v ≡ None = subst (λ m. tick_of ticks m v ≡ None) a (subst (λ m. tick_of ticks x.source m ≡ None) d (not_there _ fresh)) in
        let own : is_between u v x ≡ true = grind (arith, nat_tests) in
        rw (find_push (is_between u v) ticks x, none, own) refl
    by u v false e = rw (find_push (is_between u v) ticks x, between_other x.source x.target u v e, or_none (tick_of ticks u v)) (told.told u v)

-- the tick of a pair was taken away
pub told_remove : (ticks : List Tick) (s t : ℕ) (old new : ℕ → ℕ → Option ℕ) → TellsCounts ticks old
    → ((u v : ℕ) → new u v ≡ cond (pair_eq (s, t) (u, v)) None (old u v)) → TellsCounts (filter (λ x. not (is_between s t x)) ticks) new
told_remove ticks s t old new told after = record { told = λ u v. after u v ∙ by u v (pair_eq (s, t) (u, v)) refl }
  where
    by : (u v : ℕ) (b : Bool) → pair_eq (s, t) (u, v) ≡ b → cond b None (old u v) ≡ option_map (λ x. x.count) (tick_of (filter (λ x. not (is_between s t x)) ticks) u v)
    by u v true e =
        let (a, d) = same_test s t u v e in
        let gone : tick_of (filter (λ x. not (is_between s t x)) ticks) s t ≡ None = not_there _ (find_any (is_between s t) (filter (λ x. not (is_between s t x)) ticks) ∙ filtered_out (is_between s t) ticks) in
        rw (← a, ← d, gone) refl
    by u v false e = rw (find_apart (is_between s t) (is_between u v) ticks (pairs_apart s t u v e)) (told.told u v)

-- an index that tells the same counts of the same ticks
pub told_same : (ticks now : List Tick) (old new : ℕ → ℕ → Option ℕ) → TellsCounts ticks old → now ≡ ticks → ((u v : ℕ) → new u v ≡ old u v) → TellsCounts now new
told_same ticks now old new told is same = record { told = λ u v. same u v ∙ told.told u v ∙ ap (λ ts. option_map (λ x. x.count) (tick_of ts u v)) (sym is) }
