-- What the words of a line say.
use Rattle.std.specs.Prelude.{◌+◌, ◌-◌, ◌==◌, ℕ, Bool, true, false, if◌then◌else◌, List, [], ◌∷◌, ◌++◌, length, take, drop, position, slice_get, Option, Some, None, option_map, option_and_then, codes}
use Rattle.std.specs.Str.{bytes_eq}
use Rattle.cyc_text.specs.Number.{number_of}
use Rattle.netlist_model.specs.declared.edits.Edit.{Edit}
use Rattle.netlist_model.specs.declared.edits.Edit.TheVariants.{Net, Const, Inst, DelInst, DelNet, Move, Swap, Delay, Tick, Root, Fork, DelFork}
use Rattle.netlist_model.specs.declared.parts.EventName.{EventName}
use Rattle.netlist_model.specs.declared.parts.PinNet.{PinNet}

-- an '='
abbrev pub is_equals : ℕ → Bool
is_equals b = b == 61

-- `PIN=NET`: the first '=' parts the pin's name from the net's
unfoldable pub pin_word : List ℕ → Option PinNet
pin_word word = option_map (λ at. record { pin = take at word; net = drop (at + 1) word }) (position is_equals word)

-- each word as a pin word, after those read before
unfoldable pub pin_words : List PinNet → List (List ℕ) → Option (List PinNet)
pin_words before [] = Some before
pin_words before (word ∷ more) = option_and_then (λ p. pin_words (before ++ p ∷ []) more) (pin_word word)

-- '+' says that a net rises, '-' that it falls
abbrev pub edge_of : ℕ → Option Bool
edge_of b = if b == 43 then Some true else if b == 45 then Some false else None

-- `NET+` or `NET-`: the last byte is the edge, those before are the net's name
unfoldable pub event_word : List ℕ → Option EventName
event_word word =
    option_map (λ rising. record { net = take (length word - 1) word; rising = rising }) (option_and_then edge_of (slice_get word (length word - 1)))

-- the words after `net`: NAME
abbrev pub net_words : List (List ℕ) → Option Edit
net_words (name ∷ []) = Some (Net name)
net_words words = None

-- the words after `const`: NAME
abbrev pub const_words : List (List ℕ) → Option Edit
const_words (name ∷ []) = Some (Const name)
const_words words = None

-- the words after `inst`: NAME CELL PIN=NET ..
abbrev pub inst_words : List (List ℕ) → Option Edit
inst_words (name ∷ cell ∷ words) =
    option_and_then (λ pins. Some (Inst (record { name = name; cell = cell; pins = pins }))) (pin_words [] words)
inst_words words = None

-- the words after `delinst`: NAME
abbrev pub del_inst_words : List (List ℕ) → Option Edit
del_inst_words (name ∷ []) = Some (DelInst name)
del_inst_words words = None

-- the words after `delnet`: NAME
abbrev pub del_net_words : List (List ℕ) → Option Edit
del_net_words (name ∷ []) = Some (DelNet name)
del_net_words words = None

-- the words after `move`: INST PIN NET
abbrev pub move_words : List (List ℕ) → Option Edit
move_words (inst ∷ pin ∷ net ∷ []) = Some (Move (record { inst = inst; pin = pin; net = net }))
move_words words = None

-- the words after `swap`: INST CELL
abbrev pub swap_words : List (List ℕ) → Option Edit
swap_words (inst ∷ cell ∷ []) = Some (Swap (record { inst = inst; cell = cell }))
swap_words words = None

-- the words after `delay`: INST PIN RISE FALL
abbrev pub delay_words : List (List ℕ) → Option Edit
delay_words (inst ∷ pin ∷ rise ∷ fall ∷ []) =
    option_and_then (λ r. option_and_then (λ f. Some (Delay (record { inst = inst; pin = pin; rise = r; fall = f }))) (number_of fall)) (number_of rise)
delay_words words = None

-- the words after `tick`: EVENT EVENT COUNT
abbrev pub tick_words : List (List ℕ) → Option Edit
tick_words (source ∷ target ∷ count ∷ []) =
    option_and_then (λ s. option_and_then (λ t. option_and_then (λ n.
    Some (Tick (record { source = s; target = t; count = n }))) (number_of count)) (event_word target)) (event_word source)
tick_words words = None

-- the words after `root`: EVENT
abbrev pub root_words : List (List ℕ) → Option Edit
root_words (event ∷ []) = option_and_then (λ e. Some (Root e)) (event_word event)
root_words words = None

-- the events and numbers of a fork
abbrev pub fork_parts : List ℕ → Option EventName → Option EventName → Option EventName → Option ℕ → Option ℕ → Option Edit
fork_parts name root fast slow margin offset =
    option_and_then (λ r. option_and_then (λ a. option_and_then (λ b. option_and_then (λ m. option_and_then (λ t.
    Some (Fork (record { name = name; root = r; fast = a; slow = b; margin = m; offset = t }))) offset) margin) slow) fast) root

-- the words after `fork`: NAME ROOT FAST SLOW MARGIN OFFSET
abbrev pub fork_words : List (List ℕ) → Option Edit
fork_words (name ∷ root ∷ fast ∷ slow ∷ margin ∷ offset ∷ []) =
    fork_parts name (event_word root) (event_word fast) (event_word slow) (number_of margin) (number_of offset)
fork_words words = None

-- the words after `delfork`: NAME
abbrev pub del_fork_words : List (List ℕ) → Option Edit
del_fork_words (name ∷ []) = Some (DelFork name)
del_fork_words words = None

-- the edit that a line's words say, if they say one
unfoldable pub edit_of : List (List ℕ) → Option Edit
edit_of [] = None
edit_of (first ∷ words) =
    if bytes_eq first (codes "net") then net_words words
    else if bytes_eq first (codes "const") then const_words words
    else if bytes_eq first (codes "inst") then inst_words words
    else if bytes_eq first (codes "delinst") then del_inst_words words
    else if bytes_eq first (codes "delnet") then del_net_words words
    else if bytes_eq first (codes "move") then move_words words
    else if bytes_eq first (codes "swap") then swap_words words
    else if bytes_eq first (codes "delay") then delay_words words
    else if bytes_eq first (codes "tick") then tick_words words
    else if bytes_eq first (codes "root") then root_words words
    else if bytes_eq first (codes "fork") then fork_words words
    else if bytes_eq first (codes "delfork") then del_fork_words words
    else None
