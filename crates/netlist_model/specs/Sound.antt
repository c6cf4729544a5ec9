-- What holds of every netlist, and what it is to fit a library.
use Rattle.std.specs.Prelude.{◌≡◌, ℕ, ◌+◌, ◌*◌, ◌<◌, ◌≤◌, true, false, List, length, map, All, Option, Some, None, IfSome, slice_get}
use Rattle.std.specs.List.{IsDistinct, list_any}
use Rattle.std.specs.Str.{bytes_eq}
use Rattle.cyc_text.specs.Name.{is_name}
use Rattle.cell_arcs.specs.declared.cells.Cell.{Cell}
use Rattle.netlist_model.specs.Circuit.{Circuit, last_of, drives, driver_of, roots_of, is_between}
use Rattle.netlist_model.specs.declared.parts.Delay.{Delay}
use Rattle.netlist_model.specs.declared.parts.Fork.{Fork}
use Rattle.netlist_model.specs.declared.parts.Instance.{Instance}
use Rattle.netlist_model.specs.declared.parts.NetRef.{NetRef}
use Rattle.netlist_model.specs.declared.parts.NetRef.TheVariants.{Net, Const}
use Rattle.netlist_model.specs.declared.parts.Tick.{Tick}

-- each is a name
abbrev pub AreNames : List (List ℕ) → Type 0
AreNames names = All (λ n. is_name n ≡ true) names

-- a pin is on a net or constant that there is
abbrev pub IsPin : ℕ → ℕ → NetRef → Type 0
IsPin nets consts (Net n) = n < nets
IsPin nets consts (Const k) = k < consts

-- own delays are within the limit
abbrev pub IsOwnDelay : Option Delay → Type 0
IsOwnDelay None = Unit {0}
IsOwnDelay (Some d) = (d.rise ≤ 1000000) × (d.fall ≤ 1000000)

-- the output of an instance is on a net with events
abbrev pub HasOutput : Option NetRef → Type 0
HasOutput None = ⊥
HasOutput (Some (Net n)) = Unit {0}
HasOutput (Some (Const k)) = ⊥

-- an instance among so many nets and constants
pub record IsInstance (nets consts : ℕ) (i : Instance) : Type 0 where
  pub named : is_name i.name ≡ true
  pub pins : All (IsPin nets consts) i.pins
  pub output : HasOutput (last_of i.pins)
  pub delays : All IsOwnDelay i.delays

-- a tick among so many nets
pub record IsTick (nets : ℕ) (t : Tick) : Type 0 where
  pub source : t.source < 2 * nets
  pub target : t.target < 2 * nets
  pub some : 1 ≤ t.count
  pub few : t.count ≤ 15

-- a fork among so many nets
pub record IsFork (nets : ℕ) (f : Fork) : Type 0 where
  pub named : is_name f.name ≡ true
  pub root : f.root < 2 * nets
  pub fast : f.fast < 2 * nets
  pub slow : f.slow < 2 * nets
  pub margin : f.margin ≤ 1000000
  pub offset : f.offset ≤ 15

-- what holds of every netlist
pub record IsNetlist (c : Circuit) : Type 0 where
  pub net_names : AreNames c.nets
  pub const_names : AreNames c.consts
  pub nets_differ : IsDistinct bytes_eq c.nets
  pub consts_differ : IsDistinct bytes_eq c.consts
  pub no_net_is_const : All (λ n. list_any (bytes_eq n) c.consts ≡ false) c.nets
  pub few_nets : length c.nets ≤ 16384
  pub few_consts : length c.consts ≤ 1024
  pub insts : All (IsInstance (length c.nets) (length c.consts)) c.insts
  pub insts_differ : IsDistinct bytes_eq (map (λ i. i.name) c.insts)
  -- each instance is the one driver of the net that its output is on
  pub one_driver : (k n : ℕ) (i : Instance) → slice_get c.insts k ≡ Some i → drives n i ≡ true → driver_of c.insts n ≡ Some k
  pub ticks : All (IsTick (length c.nets)) c.ticks
  pub pairs_differ : IsDistinct (λ a b. is_between a.source a.target b) c.ticks
  pub forks : All (IsFork (length c.nets)) c.forks
  pub forks_differ : IsDistinct bytes_eq (map (λ f. f.name) c.forks)
  pub few_forks : length c.forks ≤ 256
  pub few_roots : length (roots_of c.forks) ≤ 64
  pub root : IfSome c.root (λ r. r < 2 * length c.nets)

-- an instance fits a cell: one pin per pin of the cell, and one place for delays per arc
pub record FitsCell (k : Cell) (i : Instance) : Type 0 where
  pub pins : length i.pins ≡ length k.inputs + 1
  pub delays : length i.delays ≡ length k.arcs

-- an instance is of a cell of the library, and fits it
abbrev pub IsOfLibrary : List Cell → Instance → Type 0
IsOfLibrary library i = (k : Cell) × (slice_get library i.cell ≡ Some k) × FitsCell k i

-- a netlist fits a library
abbrev pub Fits : List Cell → List Instance → Type 0
Fits library insts = All (IsOfLibrary library) insts
