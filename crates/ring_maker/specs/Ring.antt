-- The Muller ring: a ring of C-elements, each with an inverter, as a netlist in canonical text, and its library.
use Rattle.std.specs.Prelude.{ℕ, ◌+◌, ◌-◌, ◌%◌, List, [], ◌∷◌, ◌++◌, map, codes, decimal}
use Rattle.std.specs.List.{flat_map, range_with_len}
use Rattle.cyc_text.specs.Written.{lines_text}

-- the output of stage i, which its C-element drives
abbrev pub output : ℕ → List ℕ
output i = codes "z" ++ decimal i

-- the complement of that output, which the stage's inverter drives
abbrev pub complement : ℕ → List ℕ
complement i = codes "n" ++ decimal i

-- the stage before stage i, round a ring of so many
abbrev pub stage_before : ℕ → ℕ → ℕ
stage_before count i = (i + count - 1) % count

-- the stage behind stage i, round a ring of so many
abbrev pub stage_behind : ℕ → ℕ → ℕ
stage_behind count i = (i + 1) % count

-- the nets of stage i
abbrev pub net_lines : ℕ → List (List (List ℕ))
net_lines i = (codes "net" ∷ output i ∷ []) ∷ (codes "net" ∷ complement i ∷ []) ∷ []

-- the C-element of stage i joins the output of the stage before and the complement of the stage behind
abbrev pub element_pins : ℕ → ℕ → List (List ℕ)
element_pins count i = (codes "A=" ++ output (stage_before count i)) ∷ (codes "B=" ++ complement (stage_behind count i)) ∷ (codes "Z=" ++ output i) ∷ []

abbrev pub element_line : ℕ → ℕ → List (List ℕ)
element_line count i = codes "inst" ∷ (codes "c" ++ decimal i) ∷ codes "C2" ∷ element_pins count i

-- the inverter of stage i
abbrev pub inverter_pins : ℕ → List (List ℕ)
inverter_pins i = (codes "A=" ++ output i) ∷ (codes "Z=" ++ complement i) ∷ []

abbrev pub inverter_line : ℕ → List (List ℕ)
inverter_line i = codes "inst" ∷ (codes "v" ++ decimal i) ∷ codes "INV" ∷ inverter_pins i

-- the instances of stage i
abbrev pub inst_lines : ℕ → ℕ → List (List (List ℕ))
inst_lines count i = element_line count i ∷ inverter_line i ∷ []

-- a net rises
abbrev pub rise : List ℕ → List ℕ
rise net = net ++ codes "+"

-- a net falls
abbrev pub fall : List ℕ → List ℕ
fall net = net ++ codes "-"

-- a tick of one between two events
abbrev pub tick_line : List ℕ → List ℕ → List (List ℕ)
tick_line source target = codes "tick" ∷ source ∷ target ∷ codes "1" ∷ []

-- at the start the output of stage 0 has risen, and that of the last stage has fallen
abbrev pub output_ticks : ℕ → List (List (List ℕ))
output_ticks count = tick_line (rise (output 0)) (rise (output 1)) ∷ tick_line (fall (output (count - 1))) (fall (output 0)) ∷ []

-- at the start the complement of stage i has risen
abbrev pub complement_tick : ℕ → List (List ℕ)
complement_tick i = tick_line (rise (complement i)) (rise (output (i - 1)))

-- the root is the rise of the output of stage 0
abbrev pub root_line : List (List ℕ)
root_line = codes "root" ∷ rise (output 0) ∷ []

-- the lines of a ring of so many stages: nets and instances stage by stage, ticks, root
unfoldable pub ring_lines : ℕ → List (List (List ℕ))
ring_lines count =
    flat_map net_lines (range_with_len 0 count) ++ flat_map (inst_lines count) (range_with_len 0 count)
    ++ output_ticks count ++ map complement_tick (range_with_len 2 (count - 2)) ++ root_line ∷ []

-- the text of a ring of so many stages
unfoldable pub muller_ring : ℕ → List ℕ
muller_ring count = lines_text (ring_lines count)

-- the library of its two cells
unfoldable pub ring_library : List ℕ
ring_library = codes "[cell.C2]\ninputs = [\"A\", \"B\"]\noutput = \"Z\"\narcs = [{ from = \"A\", sense = \"pos\", rise = 20, fall = 18 }, { from = \"B\", sense = \"pos\", rise = 20, fall = 18 }]\n\n[cell.INV]\ninputs = [\"A\"]\noutput = \"Z\"\narcs = [{ from = \"A\", sense = \"neg\", rise = 12, fall = 10 }]\n"
