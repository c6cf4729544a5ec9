-- An order that is filled in at the places of each session.
use Rattle.std.specs.Prelude.{◌≡◌, ℕ, ◌+◌, ◌≤◌, List, [], ◌∷◌, length, slice_set, ⊤}
use Rattle.std.specs.List.{AllByRecursion as Every}
use Rattle.session_run.specs.declared.threads.ran.Ran.{Ran}
use Rattle.session_run.specs.Items.{Item, session_of, positions}

-- the list with a number at these places
abbrev pub put_all : ℕ → List ℕ → List ℕ → List ℕ
put_all n [] order = order
put_all n (p ∷ ps) order = put_all n ps (slice_set order p n)

-- the sessions' places among the items, from session n on
abbrev pub PlacesFrom : ℕ → List Ran → List Item → Type 0
PlacesFrom n [] seen = ⊤
PlacesFrom n (r ∷ rs) seen = (r.places.items ≡ positions n 0 seen) × PlacesFrom (n + 1) rs seen

-- each item is of one of the sessions, which know the places of theirs
pub record IsPlaced (rs : List Ran) (seen : List Item) : Type 0 where
  pub places : PlacesFrom 1 rs seen
  pub within : Every (λ e. (1 ≤ session_of e) × (session_of e ≤ length rs)) seen

-- how many places they have
abbrev pub total : List Ran → ℕ
total [] = 0
total (r ∷ rs) = length r.places.items + total rs
