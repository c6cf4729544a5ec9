-- Walks to the first net that none drives, and to the first tick of the blocks that passes a test.
use Rattle.std.proofs.Common.{◌≡◌, ℕ, ◌+◌, ◌<◌, ◌≤◌, List, [], ◌∷◌, ◌++◌, length, get_or, drop, suc, Bool, true, false, Option, Some, None, option_map, is_none, position, refl, sym, ap, ◌∙◌, arith, if◌then◌else◌, drop-cons, length-append}
use Rattle.std.proofs.lemmas.List.{get_or-map, length-map}
use Rattle.std.proofs.Math.ListN.{drop_of_length-le}
use Rattle.cell_arcs.specs.Steps.{or_else}
use Rattle.netlist_model.specs.Circuit.{driver_of}
use Rattle.netlist_model.specs.Whole.{undriven_from}
use Rattle.netlist_model.specs.declared.parts.Instance.{Instance}
use Rattle.netlist_model.specs.declared.parts.Tick.{Tick}
use Rattle.netlist_model.proofs.BlockLemmas.{flat, flat_drop, lists, Block}
use Rattle.netlist_model.proofs.Places.{position-cons}

-- the walk over the nets, by the net at a place
pub undriven_step : (insts : List Instance) (nets : List (List ℕ)) (n : ℕ) → n < length nets → undriven_from insts n (drop n nets) ≡ (if is_none (driver_of insts n) then Some n else undriven_from insts (n + 1) (drop (n + 1) nets))
undriven_step insts nets n h =
    let next : suc n ≡ n + 1 = omega arith in
    ap (undriven_from insts n) (drop-cons nets n [] h) ∙ ap (λ m. if is_none (driver_of insts n) then Some n else undriven_from insts (n + 1) (drop m nets)) next

-- the first place of two lists in turn
pub position-append : {A : Type 0} (p : A → Bool) (xs ys : List A) → position p (xs ++ ys) ≡ or_else (position p xs) (option_map (λ k. length xs + k) (position p ys))
position-append p [] ys = by (position p ys)
  where
    by : (o : Option ℕ) → o ≡ option_map (λ k. 0 + k) o
    by None = refl
    by (Some k) = let e : k ≡ 0 + k = omega arith in ap Some e
position-append p (x ∷ xs) ys =
    position-cons p x (xs ++ ys) ∙ rw (position-append p xs ys, position-cons p x xs) (by (p x) (position p xs) (position p ys))
  where
    by : (b : Bool) (o q : Option ℕ) → (if b then Some 0 else option_map (λ k. 1 + k) (or_else o (option_map (λ k. length xs + k) q)))
        ≡ or_else (if b then Some 0 else option_map (λ k. 1 + k) o) (option_map (λ k. length (x ∷ xs) + k) q)
    by true o q = refl
    by false (Some k) q = refl
    by false None None = refl
    by false None (Some k) = let e : 1 + (length xs + k) ≡ length (x ∷ xs) + k = omega arith in ap Some e

-- the walk over the blocks: what is left to look at, and how many ticks lie before it
pub record IsWalk (p : Tick → Bool) (blocks : List Block) (i before : ℕ) : Type 0 where
  pub same : position p (flat (lists blocks)) ≡ option_map (λ k. before + k) (position p (flat (drop i (lists blocks))))
  pub counted : before + length (flat (drop i (lists blocks))) ≡ length (flat (lists blocks))

map_zero : (o : Option ℕ) → o ≡ option_map (λ k. 0 + k) o
map_zero None = refl
map_zero (Some k) = let e : k ≡ 0 + k = omega arith in ap Some e

pub walk_starts : (p : Tick → Bool) (blocks : List Block) → IsWalk p blocks 0 0
walk_starts p blocks = record { same = map_zero (position p (flat (lists blocks))); counted = omega arith }

-- the ticks from a block on
parts : (blocks : List Block) (i : ℕ) (v : Block) → i < length blocks → v ≡ get_or blocks i v → flat (drop i (lists blocks)) ≡ v.items ++ flat (drop (i + 1) (lists blocks))
parts blocks i v h is =
    let more : i < length (lists blocks) = omega (arith, length-map blocks (λ (b : Block). b.items)) in
    let block : v.items ≡ get_or (lists blocks) i v.items = sym (get_or-map (λ (b : Block). b.items) blocks i v v.items h ∙ ap (λ (b : Block). b.items) (sym is)) in
    flat_drop (lists blocks) i v.items more block

-- how many ticks lie before the end of a block
pub block_within : (p : Tick → Bool) (blocks : List Block) (i before : ℕ) (v : Block) → IsWalk p blocks i before → i < length blocks → v ≡ get_or blocks i v → before + length v.items ≤ length (flat (lists blocks))
block_within p blocks i before v walk h is =
    omega (arith, walk.counted, ap length (parts blocks i v h is) ∙ length-append v.items (flat (drop (i + 1) (lists blocks))))

-- the tick is in the block
pub walk_ends : (p : Tick → Bool) (blocks : List Block) (i before at : ℕ) (v : Block) → IsWalk p blocks i before → i < length blocks → v ≡ get_or blocks i v → position p v.items ≡ Some at → Some (before + at) ≡ position p (flat (lists blocks))
walk_ends p blocks i before at v walk h is found =
    sym (walk.same ∙ rw (parts blocks i v h is, position-append p v.items (flat (drop (i + 1) (lists blocks))), found) refl)

shifted : (b n : ℕ) (o : Option ℕ) → option_map (λ k. b + k) (option_map (λ k. n + k) o) ≡ option_map (λ k. (b + n) + k) o
shifted b n None = refl
shifted b n (Some k) = let e : b + (n + k) ≡ (b + n) + k = omega arith in ap Some e

-- the walk goes on past a block
pub walk_goes_on : (p : Tick → Bool) (blocks : List Block) (i before : ℕ) (v : Block) → IsWalk p blocks i before → i < length blocks → v ≡ get_or blocks i v → position p v.items ≡ None → IsWalk p blocks (i + 1) (before + length v.items)
walk_goes_on p blocks i before v walk h is none = record {
  same = walk.same ∙ rw (parts blocks i v h is, position-append p v.items (flat (drop (i + 1) (lists blocks))), none) (shifted before (length v.items) (position p (flat (drop (i + 1) (lists blocks)))));
  counted = omega (arith, walk.counted, ap length (parts blocks i v h is) ∙ length-append v.items (flat (drop (i + 1) (lists blocks))));
}

-- the walk over all blocks finds none
pub walk_over : (p : Tick → Bool) (blocks : List Block) (i before : ℕ) → IsWalk p blocks i before → length blocks ≤ i → None ≡ position p (flat (lists blocks))
walk_over p blocks i before walk h =
    let end : drop i (lists blocks) ≡ [] = drop_of_length-le (lists blocks) (omega (arith, length-map blocks (λ (b : Block). b.items))) in
    sym (walk.same ∙ rw end refl)
