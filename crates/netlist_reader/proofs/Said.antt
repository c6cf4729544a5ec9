-- What the lines of a netlist's text say.
use Rattle.std.proofs.Common.{◌≡◌, ℕ, ◌-◌, ◌≤◌, ◌/◌, ◌%◌, List, [], ◌∷◌, ◌++◌, length, Bool, true, false, Some, refl, arith, if◌then◌else◌}
use Rattle.std.specs.Prelude.{◌==◌, codes}
use Rattle.std.proofs.lemmas.List.{length_push, take_at}
use Rattle.netlist_model.specs.EventNames.{name_at, edge_byte, event_name}
use Rattle.netlist_model.specs.declared.edits.Edit.TheVariants.{Net, Const, Delay, Tick, Root, Fork}
use Rattle.netlist_model.specs.declared.parts.Delay.{Delay as OwnDelay}
use Rattle.netlist_model.specs.declared.parts.EventName.{EventName}
use Rattle.netlist_model.specs.declared.parts.Fork.{Fork as ForkPart}
use Rattle.netlist_model.specs.declared.parts.Tick.{Tick as TickPart}
use Rattle.netlist_reader.specs.Canonical.{net_line, const_line, delay_line, tick_line, fork_line}
use Rattle.netlist_reader.specs.EditLines.{edge_of, event_word, edit_of}
use Rattle.cyc_text.proofs.DecimalLemmas.{number_read}
use Rattle.netlist_reader.proofs.Lists.{get_middle}

pub net_said : (name : List ℕ) → edit_of (net_line name) ≡ Some (Net name)
unfolding edit_of net_line
net_said name = refl

pub const_said : (name : List ℕ) → edit_of (const_line name) ≡ Some (Const name)
unfolding edit_of const_line
const_said name = refl

-- whether an event is a rise
abbrev pub is_rise : ℕ → Bool
is_rise event = event % 2 == 0

-- the event by words
abbrev pub named_event : List (List ℕ) → ℕ → EventName
named_event nets event = record { net = name_at nets (event / 2); rising = is_rise event }

edge_read : (event : ℕ) → edge_of (edge_byte event) ≡ Some (is_rise event)
edge_read event = by (event % 2 == 0)
  where
    by : (b : Bool) → edge_of (if b then 43 else 45) ≡ Some b
    by true = refl
    by false = refl

last_is : (xs : List ℕ) (b : ℕ) → length (xs ++ b ∷ []) - 1 ≡ length xs
last_is xs b = omega (arith, length_push xs b)

pub event_read : (nets : List (List ℕ)) (event : ℕ) → event_word (event_name nets event) ≡ Some (named_event nets event)
unfolding event_word event_name
event_read nets event =
    let name = name_at nets (event / 2) in
    let b = edge_byte event in
    rw (last_is name b, get_middle name b [], edge_read event, take_at name (b ∷ []) (length name) refl) refl

pub tick_said : (nets : List (List ℕ)) (t : TickPart) → t.count ≤ 15
    → edit_of (tick_line nets t) ≡ Some (Tick (record { source = named_event nets t.source; target = named_event nets t.target; count = t.count }))
unfolding edit_of tick_line
tick_said nets t few = rw (event_read nets t.source, event_read nets t.target, number_read t.count (omega arith)) refl

pub root_said : (nets : List (List ℕ)) (r : ℕ) → edit_of (codes "root" ∷ event_name nets r ∷ []) ≡ Some (Root (named_event nets r))
unfolding edit_of
root_said nets r = rw (event_read nets r) refl

pub fork_said : (nets : List (List ℕ)) (f : ForkPart) → f.margin ≤ 1000000 → f.offset ≤ 15
    → edit_of (fork_line nets f) ≡ Some (Fork (record { name = f.name; root = named_event nets f.root; fast = named_event nets f.fast; slow = named_event nets f.slow; margin = f.margin; offset = f.offset }))
unfolding edit_of fork_line
fork_said nets f low few =
    rw (event_read nets f.root, event_read nets f.fast, event_read nets f.slow, number_read f.margin (omega arith), number_read f.offset (omega arith)) refl

pub delay_said : (inst pin : List ℕ) (d : OwnDelay) → d.rise ≤ 1000000 → d.fall ≤ 1000000
    → edit_of (delay_line inst pin d) ≡ Some (Delay (record { inst = inst; pin = pin; rise = d.rise; fall = d.fall }))
unfolding edit_of delay_line
delay_said inst pin d low high = rw (number_read d.rise (omega arith), number_read d.fall (omega arith)) refl
