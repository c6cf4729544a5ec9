-- A session on its way to a thread, and when it is back.
use Rattle.std.specs.Prelude.{◌≡◌, ◌⊎◌, ℕ, ◌+◌, ◌≤◌, List, [], ◌∷◌, Option, Some, ⊤}
use Rattle.std.specs.List.{AllByRecursion as Every}
use Rattle.turn_book.specs.declared.book.Book.{Book}
use Rattle.turn_book.specs.declared.view.Role.TheVariants.{Opening}
use Rattle.turn_book.specs.Views.{own, StartsWith}
use Rattle.turn_book.specs.Seats.{view, IsSeatOf}
use Rattle.version_store.specs.declared.hall.Hall.{Hall}
use Rattle.version_store.specs.declared.state.HallItem.{HallItem}
use Rattle.version_store.specs.declared.state.HallOrigin.{HallOrigin}
use Rattle.session_script.specs.Calls.{is_shared}
use Rattle.session_script.specs.declared.calls.Call.{Call}
use Rattle.session_machine.specs.Alone.{order_of, given_at}
use Rattle.session_machine.specs.Machine as machine
use Rattle.session_machine.specs.Orders.{shared_calls, IsOrder}
use Rattle.session_machine.specs.declared.replies.Reply.{Reply}
use Rattle.pinned_reader.specs.declared.rows.Row.{Row}
use Rattle.query_replies.specs.Readings.{Analyses}
use Rattle.session_run.specs.declared.threads.jobs.Job.{Job}
use Rattle.session_run.specs.declared.threads.jobs.Done.{Done}
use Rattle.session_run.specs.declared.threads.ran.Ran.{Ran}
use Rattle.session_run.specs.Going.{machine_at}
use Rattle.session_run.specs.Items.{session_of, places_in}
use Rattle.session_run.specs.Seats.{Origin, SeatView, IsAtRest, IsKnown, StartsFrom}
use Rattle.session_run.specs.Serving.{HasServed}

-- the element stands in the list
abbrev pub IsIn : {A : Type 0} → A → List A → Type 0
IsIn x [] = ⊥
IsIn x (y ∷ ys) = (x ≡ y) ⊎ IsIn x ys

-- a book over a hall of rows
abbrev pub Halls : Type 0
Halls = Book (Hall Row) (HallOrigin Row) (HallItem Row)

-- what a seat of a book knows
pub record IsFresh (v : SeatView) (number : ℕ) (script : List Call) : Type 0 where
  pub rest : IsAtRest v number
  pub known : IsKnown v
  pub made : v.made ≡ []
  pub none : own session_of number v.seen ≡ []
  pub turns : v.left ≡ shared_calls is_shared script

-- the seat belongs to the book, has made nothing and has a turn for each shared call
pub record IsReadyJob (b : Halls) (j : Job) : Type 0 where
  pub book : IsSeatOf b j.seat
  pub fresh : IsFresh (view j.seat) j.number j.script.now

pub record IsEnded (b : Halls) (j : Job) (d : Done) : Type 0 where
  pub book : IsSeatOf b d.seat
  pub rest : IsAtRest (view d.seat) j.number
  pub served : (all : Analyses) (o : Origin) → StartsFrom all (view j.seat) o → HasServed all o.base j.number j.script.now (view d.seat) d.ran.replies.items d.ran.places.items

-- a session's job, by its number, the origin of the book and its script
pub record IsJob (b : Halls) (origin : Option Origin) (n : ℕ) (script : List Call) (j : Job) : Type 0 where
  pub ready : IsReadyJob b j
  pub number : j.number ≡ n
  pub origin_is : (view j.seat).origin ≡ origin
  pub script_is : j.script.now ≡ script

-- what every session has done in the end, over any analyses of the origin's library
abbrev pub Served : Option Origin → ℕ → List Call → SeatView → Ran → Type 0
Served origin n script v r = (all : Analyses) (o : Origin) → origin ≡ Some o → o.base.library ≡ all.library → HasServed all o.base n script v r.replies.items r.places.items

pub record IsDone (b : Halls) (origin : Option Origin) (n : ℕ) (script : List Call) (d : Done) : Type 0 where
  pub book : IsSeatOf b d.seat
  pub rest : IsAtRest (view d.seat) n
  pub served : Served origin n script (view d.seat) d.ran

-- a session whose seat was joined: the opening seat has seen all that it had seen, and has its pair
pub record IsJoined (origin : Option Origin) (v : SeatView) (n : ℕ) (script : List Call) (r : Ran) : Type 0 where
  pub seat : SeatView
  pub served : Served origin n script seat r
  pub begins : StartsWith v.seen seat.seen
  pub ended : IsIn (record { number = n; entries = seat.made }) v.ended

-- for the sessions from n on, in order
abbrev pub Each : {A : Type 0} → (ℕ → List Call → A → Type 0) → ℕ → List (List Call) → List A → Type 0
Each P n [] [] = ⊤
Each P n [] (y ∷ ys) = ⊥
Each P n (x ∷ xs) [] = ⊥
Each P n (x ∷ xs) (y ∷ ys) = P n x y × Each P (n + 1) xs ys

-- some sessions are joined, and the others are back
abbrev pub Joining : Halls → Option Origin → SeatView → ℕ → List (List Call) → List Ran → List Done → Type 0
Joining b origin v n xs [] ds = Each (IsDone b origin) n xs ds
Joining b origin v n [] (r ∷ rs) ds = ⊥
Joining b origin v n (x ∷ xs) (r ∷ rs) ds = IsJoined origin v n x r × Joining b origin v (n + 1) xs rs ds

-- the opening seat has given so many numbers, and knows whose entries it has seen
pub record IsTop (v : SeatView) (given : ℕ) : Type 0 where
  pub role : v.role ≡ Opening
  pub given_is : v.given ≡ given
  pub all : Every (λ e. (1 ≤ session_of e) × (session_of e ≤ v.given)) v.seen
  pub each : Every (λ p. own session_of p.number v.seen ≡ p.entries) v.ended

-- the opening seat before any other: it has seen nothing and given no number
pub record IsUnused (v : SeatView) : Type 0 where
  pub role : v.role ≡ Opening
  pub given : v.given ≡ 0
  pub seen : v.seen ≡ []
  pub ended : v.ended ≡ []

-- what the seat has seen is one order of all sessions' shared calls: the replies are the machine's along it, and an item has a row just
-- where the machine publishes, with the edits of the machine's version
pub record AreAlong (all : Analyses) (o : Origin) (scripts : List (List Call)) (v : SeatView) (order : List ℕ) (replies : List (List Reply)) : Type 0 where
  pub order_is : order ≡ order_of (places_in v.seen)
  pub is_order : IsOrder is_shared scripts order
  pub replies_are : replies ≡ machine.replies (machine_at all o.base) scripts order
  pub published : machine.published (machine_at all o.base) scripts order ≡ given_at (places_in v.seen)
