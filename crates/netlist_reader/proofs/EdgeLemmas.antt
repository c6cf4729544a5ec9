-- The last byte of an event word.
use Rattle.std.proofs.Common.{◌≡◌, ℕ, Bool, ◌-◌, List, [], ◌∷◌, ◌++◌, length, refl, ◌∙◌, arith, length-append}
use Rattle.std.proofs.Math.Seq.{take-append_seam}
use Rattle.std.specs.List.{slice_get}
use Rattle.std.specs.Prelude.{Some, option_map}
use Rattle.netlist_reader.specs.EditLines.{edge_of, event_word}

-- the last of a list
slice_get-last : (rest : List ℕ) (last : ℕ) → slice_get (rest ++ last ∷ []) (length rest) ≡ Some last
slice_get-last [] last = refl
slice_get-last (x ∷ rest) last = slice_get-last rest last

-- a word with its last byte known
pub event_word_of : (word rest : List ℕ) (edge : ℕ) → word ≡ rest ++ (edge ∷ []) → event_word word ≡ option_map (λ rising. record { net = rest; rising = rising }) (edge_of edge)
unfolding event_word
event_word_of word rest edge is =
    let at : length (rest ++ edge ∷ []) - 1 ≡ length rest = omega (arith, length-append rest (edge ∷ [])) in
    rw is (rw at (rw (slice_get-last rest edge, take-append_seam rest (edge ∷ [])) refl))

-- a word whose last byte is an edge names an event
pub event_named : (word rest net : List ℕ) (edge : ℕ) (rising : Bool) → word ≡ rest ++ (edge ∷ []) → edge_of edge ≡ Some rising → net ≡ rest → event_word word ≡ Some (record { net = net; rising = rising })
event_named word rest net edge rising is edge_is same = rw same (event_word_of word rest edge is ∙ rw edge_is refl)
