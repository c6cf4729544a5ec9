-- A netlist as lists, and look-ups by name in it.
use Rattle.std.specs.Prelude.{ℕ, ◌+◌, ◌*◌, ◌++◌, ◌==◌, ◌&&◌, Bool, false, if◌then◌else◌, List, [], ◌∷◌, Option, Some, None, option_map, position, find, map}
use Rattle.std.specs.List.{list_any}
use Rattle.std.specs.Str.{bytes_eq}
use Rattle.cell_arcs.specs.Steps.{or_else}
use Rattle.netlist_model.specs.declared.parts.EventName.{EventName}
use Rattle.netlist_model.specs.declared.parts.Fork.{Fork}
use Rattle.netlist_model.specs.declared.parts.Instance.{Instance}
use Rattle.netlist_model.specs.declared.parts.NetRef.{NetRef}
use Rattle.netlist_model.specs.declared.parts.NetRef.TheVariants.{Net, Const}
use Rattle.netlist_model.specs.declared.parts.Tick.{Tick}

-- a netlist: the names of its nets with events and of its constants, its instances, ticks and forks, and its root
pub record Circuit : Type 0 where
  pub nets : List (List ℕ)
  pub consts : List (List ℕ)
  pub insts : List Instance
  pub ticks : List Tick
  pub forks : List Fork
  pub root : Option ℕ

-- a netlist with nothing in it
abbrev pub nothing : Circuit
nothing = record { nets = []; consts = []; insts = []; ticks = []; forks = []; root = None }

-- the place of a name in a list of names
abbrev pub place_of : List ℕ → List (List ℕ) → Option ℕ
place_of name names = position (bytes_eq name) names

-- the net with events or the constant of a name
abbrev pub ref_of : List (List ℕ) → List (List ℕ) → List ℕ → Option NetRef
ref_of nets consts name = or_else (option_map Net (place_of name nets)) (option_map Const (place_of name consts))

-- net i has the event 2i, where it rises, and 2i + 1, where it falls
abbrev pub event_at : Bool → ℕ → ℕ
event_at rising net = if rising then 2 * net else 2 * net + 1

-- the event of a name
abbrev pub event_of : List (List ℕ) → EventName → Option ℕ
event_of nets e = option_map (event_at e.rising) (place_of e.net nets)

-- the place of the instance of a name
abbrev pub inst_of : List Instance → List ℕ → Option ℕ
inst_of insts name = position (λ i. bytes_eq name i.name) insts

-- the place of the fork of a name
abbrev pub fork_of : List Fork → List ℕ → Option ℕ
fork_of forks name = position (λ f. bytes_eq name f.name) forks

-- the last of a list
abbrev pub last_of : {A : Type 0} → List A → Option A
last_of [] = None
last_of (x ∷ xs) = or_else (last_of xs) (Some x)

-- whether this is the net
abbrev pub is_net : ℕ → Option NetRef → Bool
is_net n (Some (Net m)) = n == m
is_net n (Some (Const k)) = false
is_net n None = false

-- an instance drives the net that its last pin, the output, is on
abbrev pub drives : ℕ → Instance → Bool
drives n i = is_net n (last_of i.pins)

-- the place of the instance that drives a net
abbrev pub driver_of : List Instance → ℕ → Option ℕ
driver_of insts n = position (drives n) insts

-- whether the tick is the one from this event to that
abbrev pub is_between : ℕ → ℕ → Tick → Bool
is_between source target t = (source == t.source) && (target == t.target)

-- the tick of a pair of events
abbrev pub tick_of : List Tick → ℕ → ℕ → Option Tick
tick_of ticks source target = find (is_between source target) ticks

-- the numbers without repetition, each where it first stands, after those before
unfoldable pub kinds_after : List ℕ → List ℕ → List ℕ
kinds_after before [] = before
kinds_after before (x ∷ xs) = kinds_after (if list_any (λ y. x == y) before then before else before ++ x ∷ []) xs

-- the different roots of forks
abbrev pub roots_of : List Fork → List ℕ
roots_of forks = kinds_after [] (map (λ f. f.root) forks)
