-- The rule of a book, which holds between any two atomic steps.
-- Word 0 is 0; word 1 is the next ticket, word 2 the ticket that is served, and word 3 the length of the list.
-- The one slot holds the value, unless a seat has it.
use Rattle.std.specs.Prelude.{◌≡◌, ℕ, ◌+◌, ◌^◌, ◌<◌, ◌≤◌, ◌⊎◌, List, [], ◌∷◌, length, Option, Some}
use Rattle.std.specs.List.{AllByRecursion}
use mathlib.Core.Option.{some, none}
use mathlib.Core.Option as maybe
use lib.ListN.{get_elem?}
use Rattle.atomic_table.specs.Table.{State}
use Rattle.turn_book.specs.declared.view.View.{View}
use Rattle.turn_book.specs.declared.view.Stage.{Stage}
use Rattle.turn_book.specs.declared.view.Stage.TheVariants.{Idle, Waits, Out, Placed}
use Rattle.turn_book.specs.declared.view.Role.TheVariants.{Opening, Session, Spent}
use Rattle.turn_book.specs.Views.{StartsWith, IsGiven, total_of, one_if, waits_at, waits, is_out, own, times_ended}

-- the count is 1 for a number from `first` up to, but not including, `end`, and 0 for each other
abbrev pub Counts : ℕ → ℕ → ℕ → ℕ → Type 0
Counts first end number count = (first ≤ number → number < end → count ≡ 1) × (number < first → count ≡ 0) × (end ≤ number → count ≡ 0)

-- 1 where the seat has this number, and else 0
abbrev pub has : {O E : Type 0} → ℕ → View O E → ℕ
has number view = one_if view.number number

-- the list, and what a seat has seen of it, both have just these entries of the number
abbrev pub HasJust : {E : Type 0} → (E → ℕ) → List E → List E → ℕ → List E → Type 0
HasJust session log seen number entries = (own session number log ≡ entries) × (own session number seen ≡ entries)

module _ {V O E : Type 0} (origin : V → O) (entries : V → List E) (session : E → ℕ) (o : O) (total : ℕ) where
  -- a seat with a ticket has a turn left and waits between the ticket that is served and the next one;
  -- one with a turn's list has the ticket that is served, its list is the book's, and word 3 has counted its entry or not
  abbrev pub AtStage : ℕ → ℕ → ℕ → List E → View O E → Stage E → Type 0
  AtStage drawn serving count log v Idle = Unit {0}
  AtStage drawn serving count log v (Waits ticket) = (1 ≤ v.left) × (serving ≤ ticket) × (ticket < drawn)
  AtStage drawn serving count log v (Out ticket list) =
      (1 ≤ v.left) × (ticket ≡ serving) × (serving < drawn) × (list ≡ log) × (count ≡ serving)
  AtStage drawn serving count log v (Placed ticket list) =
      (1 ≤ v.left) × (ticket ≡ serving) × (serving < drawn) × (list ≡ log) × (count ≡ serving + 1)

  -- a session's seat, or what is left of a joined one: it has the origin and the total, its seen list is a beginning of
  -- the book's, and the entries with its number are just those that it made, all of them seen
  pub record FitsSession (drawn serving count : ℕ) (log : List E) (v : View O E) : Type 0 where
    pub same : v.role ≡ Session → (v.origin ≡ Some o) × (v.total ≡ total)
    pub other : v.role ≡ Opening → ⊥
    pub rests : v.role ≡ Spent → v.stage ≡ Idle
    pub named : v.role ≡ Session → 1 ≤ v.number
    pub begins : StartsWith log v.seen
    pub mine : v.role ≡ Session → HasJust session log v.seen v.number v.made
    pub at : AtStage drawn serving count log v v.stage

  -- the opening seat: the same, and the entries with an ended number are just those of its pair, all of them seen
  pub record FitsOpening (log : List E) (v : View O E) : Type 0 where
    pub is : v.role ≡ Opening
    pub idle : v.stage ≡ Idle
    pub same : (v.origin ≡ Some o) × (v.total ≡ total)
    pub begins : StartsWith log v.seen
    pub begun : StartsWith v.seen v.begun
    pub told : StartsWith v.seen v.told
    pub ended : AllByRecursion (λ pair. HasJust session log v.seen pair.number pair.entries) v.ended

  -- the value is at home, with the origin and the book's list, or it is out with one seat
  abbrev pub Home : ℕ → ℕ → List E → maybe.Option (Option V) → List (View O E) → Type 0
  Home serving count log home others =
      ((total_of (λ v. is_out v.stage) others ≡ 0) × (count ≡ serving)
      × ((value : V) × (home ≡ some (Some value)) × (origin value ≡ o) × (entries value ≡ log)))
      ⊎ ((total_of (λ v. is_out v.stage) others ≡ 1) × (home ≡ none))

  -- the rule, over the words, what is at home, the book's list, the opening seat and the others
  pub record IsRight (drawn serving count : ℕ) (home : maybe.Option (Option V)) (log : List E)
      (top : View O E) (others : List (View O E)) : Type 0 where
    pub small : total < 2 ^ 64
    -- word 3 is the length of the list
    pub long : length log ≡ count
    -- each ticket from the one that is served up to the next one is one seat's, and no other ticket is a seat's
    pub tickets : (ticket : ℕ) → Counts serving drawn ticket (total_of (λ v. waits_at ticket v.stage) others)
    pub waiting : serving + total_of (λ v. waits v.stage) others ≡ drawn
    -- the turns taken and the turns left are the total
    pub spare : serving + top.left + total_of (λ v. v.left) others ≡ total
    -- each number that was given is one session's or one ended pair's, and no other number is
    pub numbers : (number : ℕ) → 1 ≤ number
        → Counts 1 (top.given + 1) number (times_ended number top.ended + total_of (has number) others)
    -- each entry has a number that was given
    pub known : AllByRecursion (IsGiven session top.given) log
    pub tops : FitsOpening log top
    pub each : (place : ℕ) (v : View O E) → get_elem? others place ≡ some v → FitsSession drawn serving count log v
    pub at_home : Home serving count log home others

  abbrev pub state_of : ℕ → ℕ → ℕ → maybe.Option (Option V) → View O E → List (View O E) → State (Option V) (View O E)
  state_of drawn serving count home top others =
      record { words = 0 ∷ drawn ∷ serving ∷ count ∷ []; homes = home ∷ []; views = top ∷ others }

  -- the rule, over a state of the table
  pub record Holds (s : State (Option V) (View O E)) : Type 0 where
    pub drawn : ℕ
    pub serving : ℕ
    pub count : ℕ
    pub home : maybe.Option (Option V)
    pub log : List E
    pub top : View O E
    pub others : List (View O E)
    pub words_are : s.words ≡ 0 ∷ drawn ∷ serving ∷ count ∷ []
    pub homes_are : s.homes ≡ home ∷ []
    pub views_are : s.views ≡ top ∷ others
    pub ruled : IsRight drawn serving count home log top others
