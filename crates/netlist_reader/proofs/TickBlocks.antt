-- The ticks of a netlist in blocks.
use Rattle.std.proofs.Common.{◌≡◌, ◌<◌, ℕ, List, [], ◌∷◌, ◌++◌, length, map, get_or, suc, zero, Vec, All, refl, sym, subst, arith, length-append}
use Rattle.std.specs.List.{flat_map}
use Rattle.std.specs.Global.{Global}
use Rattle.std.proofs.lemmas.List.{map-append, get_or_append_left}
use Rattle.std.proofs.lemmas.List.Elements.{All-tail}
use Rattle.netlist_model.specs.declared.parts.Tick.{Tick}

abbrev pub Block : Type 0
Block = Vec Tick Global

abbrev pub ticks_in : List Block → List Tick
ticks_in blocks = flat_map (λ b. b) (map (λ b. b.items) blocks)

-- a line for each tick, block by block
pub flat_lines : {A : Type 0} (f : Tick → A) (blocks : List Block) → flat_map (λ b. map f b.items) blocks ≡ map f (ticks_in blocks)
flat_lines f [] = refl
flat_lines f (b ∷ blocks) = rw (flat_lines f blocks) (sym (map-append f b.items (ticks_in blocks)))

front : {A : Type 0} (P : A → Type 0) (xs ys : List A) → All P (xs ++ ys) → All P xs
front P xs ys h k d lt = subst P (get_or_append_left xs ys d k lt) (h k d (omega (arith, length-append xs ys)))

back : {A : Type 0} (P : A → Type 0) (xs ys : List A) → All P (xs ++ ys) → All P ys
back P [] ys h = h
back P (x ∷ xs) ys h = back P xs ys (All-tail P x (xs ++ ys) h)

-- what holds of all ticks holds of those of a block
pub in_block : (P : Tick → Type 0) (blocks : List Block) (at : ℕ) (b : Block) → at < length blocks → b ≡ get_or blocks at b → All P (ticks_in blocks) → All P b.items
in_block P [] at b low is h = absurd (omega arith)
in_block P (x ∷ blocks) zero b low is h = subst (λ (v : Block). All P v.items) (sym is) (front P x.items (ticks_in blocks) h)
in_block P (x ∷ blocks) (suc at) b low is h = in_block P blocks at b (omega arith) is (back P x.items (ticks_in blocks) h)
