-- What a seat knows, and how each call changes it.
use Rattle.std.specs.Prelude.{◌≡◌, ℕ, ◌+◌, ◌-◌, ◌≤◌, List, [], ◌∷◌, ◌++◌, length, filter, ◌==◌, nat_lt, Option, Some, None, if◌then◌else◌}
use Rattle.std.specs.List.{AllByRecursion}
use Rattle.turn_book.specs.declared.view.View.{View}
use Rattle.turn_book.specs.declared.view.Ended.{Ended}
use Rattle.turn_book.specs.declared.view.Stage.{Stage}
use Rattle.turn_book.specs.declared.view.Stage.TheVariants.{Idle, Waits, Out, Placed}
use Rattle.turn_book.specs.declared.view.Role.TheVariants.{Opening, Session, Spent}

-- the list begins with the front
abbrev pub StartsWith : {A : Type 0} → List A → List A → Type 0
StartsWith {A} list front = (rest : List A) × (list ≡ front ++ rest)

-- the longer of two lists
abbrev pub longer : {A : Type 0} → List A → List A → List A
longer xs ys = if nat_lt (length xs) (length ys) then ys else xs

-- a number of each item, added up
abbrev pub total_of : {A : Type 0} → (A → ℕ) → List A → ℕ
total_of count [] = 0
total_of count (x ∷ xs) = count x + total_of count xs

-- 1 where both numbers are one, and else 0
abbrev pub one_if : ℕ → ℕ → ℕ
one_if number other = if number == other then 1 else 0

-- the entries of the session with this number, in order
abbrev pub own : {E : Type 0} → (E → ℕ) → ℕ → List E → List E
own session number list = filter (λ entry. session entry == number) list

-- the entry has a number from 1 to the last one given
abbrev pub IsGiven : {E : Type 0} → (E → ℕ) → ℕ → E → Type 0
IsGiven session given entry = (1 ≤ session entry) × (session entry ≤ given)

module _ {E : Type 0} where
  -- 1 where the seat has this ticket, and else 0
  abbrev pub waits_at : ℕ → Stage E → ℕ
  waits_at ticket Idle = 0
  waits_at ticket (Waits mine) = one_if mine ticket
  waits_at ticket (Out mine list) = one_if mine ticket
  waits_at ticket (Placed mine list) = one_if mine ticket

  -- 1 where the seat has a ticket, and else 0
  abbrev pub waits : Stage E → ℕ
  waits Idle = 0
  waits (Waits ticket) = 1
  waits (Out ticket list) = 1
  waits (Placed ticket list) = 1

  -- 1 where the seat has a turn's list, and else 0
  abbrev pub is_out : Stage E → ℕ
  is_out Idle = 0
  is_out (Waits ticket) = 0
  is_out (Out ticket list) = 1
  is_out (Placed ticket list) = 1

  -- the list of a turn whose entry has no place yet
  abbrev pub turn_in : Stage E → Option (List E)
  turn_in Idle = None
  turn_in (Waits ticket) = None
  turn_in (Out ticket list) = Some list
  turn_in (Placed ticket list) = None

  -- how often a number is among the ended pairs
  abbrev pub times_ended : ℕ → List (Ended E) → ℕ
  times_ended number pairs = total_of (λ pair. one_if pair.number number) pairs

  -- of each ended number the list has just the entries of its pair, in order
  abbrev pub HasPairs : (E → ℕ) → List E → List (Ended E) → Type 0
  HasPairs session list pairs = AllByRecursion (λ pair. own session pair.number list ≡ pair.entries) pairs

module _ {O E : Type 0} where
  -- the opening seat of a new book: it has all turns, has seen nothing and given no number
  abbrev pub opening : O → ℕ → View O E
  opening origin total = record {
    role = Opening;
    origin = Some origin;
    total = total;
    number = 0;
    seen = [];
    left = total;
    given = 0;
    ended = [];
    begun = [];
    told = [];
    made = [];
    stage = Idle;
  }

  -- a seat that was joined
  abbrev pub spent : View O E
  spent = record {
    role = Spent;
    origin = None;
    total = 0;
    number = 0;
    seen = [];
    left = 0;
    given = 0;
    ended = [];
    begun = [];
    told = [];
    made = [];
    stage = Idle;
  }

  -- the seat at another stage
  abbrev pub staged : View O E → Stage E → View O E
  staged view stage = record view { stage = stage }

  -- the seat holds the turn with this list, and nothing else of it has changed
  abbrev pub Takes : View O E → View O E → List E → Type 0
  Takes before after list = (ticket : ℕ) × (after ≡ staged before (Out ticket list))

  -- the seat once its entry has its place at the end of the list
  abbrev pub placing : View O E → ℕ → List E → E → View O E
  placing view ticket list entry = record view {
    seen = list ++ entry ∷ [];
    made = view.made ++ entry ∷ [];
    stage = Placed ticket (list ++ entry ∷ []);
  }

  -- the seat once its turn is over
  abbrev pub served : View O E → View O E
  served view = record view { left = view.left - 1; stage = Idle }

  -- a whole turn: the seat has seen the list with its entry, has made the entry and has one turn less
  abbrev pub after_turn : View O E → List E → E → View O E
  after_turn view list entry = record view {
    seen = list ++ entry ∷ [];
    made = view.made ++ entry ∷ [];
    left = view.left - 1;
    stage = Idle;
  }

  -- the opening seat once it has given a number and handed over turns
  abbrev pub handing : ℕ → View O E → View O E
  handing turns view = record view { left = view.left - turns; given = view.given + 1 }

  -- the seat with the next number and those turns: it has seen the same and made nothing
  abbrev pub newcomer : ℕ → View O E → View O E
  newcomer turns view = record {
    role = Session;
    origin = view.origin;
    total = view.total;
    number = view.given + 1;
    seen = view.seen;
    left = turns;
    given = 0;
    ended = [];
    begun = [];
    told = [];
    made = [];
    stage = Idle;
  }

  -- the opening seat once it has joined another: the longer list, the turns of both, and one more ended pair
  abbrev pub ending : View O E → View O E → View O E
  ending view other = record view {
    seen = longer view.seen other.seen;
    left = view.left + other.left;
    ended = view.ended ++ record { number = other.number; entries = other.made } ∷ [];
    begun = view.seen;
    told = other.seen;
  }

  -- each number that the opening seat has given is in its ended pairs
  abbrev pub HasEndedAll : View O E → Type 0
  HasEndedAll view = (number : ℕ) → 1 ≤ number → number ≤ view.given → 1 ≤ times_ended number view.ended

  -- what the rule says of the opening seat
  pub record Knows (session : E → ℕ) (view : View O E) : Type 0 where
    pub given : AllByRecursion (IsGiven session view.given) view.seen
    pub each : HasPairs session view.seen view.ended
    pub begun : StartsWith view.seen view.begun
    pub told : StartsWith view.seen view.told
