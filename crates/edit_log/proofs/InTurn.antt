-- Edits in turn: joins of lists, the first refused one, and what is kept.
use Rattle.std.proofs.Common.{◌≡◌, ◌≢◌, ℕ, ◌+◌, List, [], ◌∷◌, ◌++◌, length, refl, sym, ap, subst, ◌∙◌, arith, length-append, append_assoc}
use Rattle.std.specs.Prelude.{Result, Ok, Err}
use Rattle.cell_arcs.specs.Steps.{◌>>=◌}
use Rattle.cell_arcs.specs.declared.cells.Cell.{Cell}
use Rattle.netlist_model.specs.Circuit.{Circuit}
use Rattle.netlist_model.specs.Edits.{made, at_edit, edited_from, edited}
use Rattle.netlist_model.specs.declared.edits.Edit.{Edit}
use Rattle.netlist_model.specs.declared.faults.EditFault.{EditFault}
use Rattle.netlist_model.specs.declared.faults.EditFault.TheVariants.{At, Memory}
use Rattle.netlist_model.specs.declared.faults.StatementFault.{StatementFault}
use Rattle.netlist_model.specs.declared.faults.StatementFault.TheVariants as statement
use Rattle.edit_log.specs.FirstRefused.{IsFirstRefused}

-- one list behind another
from_join : (library : List Cell) (n : ℕ) (one other : List Edit) (c : Circuit)
    → edited_from library n (one ++ other) c ≡ (edited_from library n one c >>= edited_from library (n + length one) other)
unfolding edited_from
from_join library n [] other c = let same : n + length {A = Edit} [] ≡ n = omega arith in rw same refl
from_join library n (e ∷ es) other c = by (from_join library (n + 1) es other) (made library c e)
  where
    by : ((d : Circuit) → edited_from library (n + 1) (es ++ other) d ≡ (edited_from library (n + 1) es d >>= edited_from library (n + 1 + length es) other))
        → (r : Result Circuit StatementFault)
        → (at_edit n r >>= edited_from library (n + 1) (es ++ other)) ≡ ((at_edit n r >>= edited_from library (n + 1) es) >>= edited_from library (n + length (e ∷ es)) other)
    by more (Ok d) = let same : n + 1 + length es ≡ n + length (e ∷ es) = omega arith in rw (← same) (more d)
    by more (Err f) = refl

-- a position that is counted from further on
counted_on : ℕ → Result Circuit EditFault → Result Circuit EditFault
counted_on k (Ok c) = Ok c
counted_on k (Err (At n e)) = Err (At (k + n) e)
counted_on k (Err Memory) = Err Memory

from_later : (library : List Cell) (k n : ℕ) (edits : List Edit) (c : Circuit) → edited_from library (k + n) edits c ≡ counted_on k (edited_from library n edits c)
unfolding edited_from counted_on
from_later library k n [] c = refl
from_later library k n (e ∷ es) c = by (from_later library k (n + 1) es) (made library c e)
  where
    by : ((d : Circuit) → edited_from library (k + (n + 1)) es d ≡ counted_on k (edited_from library (n + 1) es d))
        → (r : Result Circuit StatementFault) → (at_edit (k + n) r >>= edited_from library (k + n + 1) es) ≡ counted_on k (at_edit n r >>= edited_from library (n + 1) es)
    by more (Ok d) = let same : k + n + 1 ≡ k + (n + 1) = omega arith in rw same (more d)
    by more (Err f) = refl

pub joined : (library : List Cell) (c m d : Circuit) (one other : List Edit) → edited library one c ≡ Ok m → edited library other m ≡ Ok d → edited library (one ++ other) c ≡ Ok d
unfolding counted_on
joined library c m d one other first second =
    let same : 1 + length one ≡ length one + 1 = omega arith in
    from_join library 1 one other c ∙ rw (first, same, from_later library (length one) 1 other m, second) refl

pub refused_first : (library : List Cell) (c : Circuit) (one other : List Edit) (n : ℕ) (e : StatementFault) → edited library one c ≡ Err (At n e) → edited library (one ++ other) c ≡ Err (At n e)
refused_first library c one other n e first = from_join library 1 one other c ∙ rw first refl

pub refused_second : (library : List Cell) (c m : Circuit) (one other : List Edit) (n : ℕ) (e : StatementFault)
    → edited library one c ≡ Ok m → edited library other m ≡ Err (At n e) → edited library (one ++ other) c ≡ Err (At (length one + n) e)
unfolding counted_on
refused_second library c m one other n e first second =
    let same : 1 + length one ≡ length one + 1 = omega arith in
    from_join library 1 one other c ∙ rw (first, same, from_later library (length one) 1 other m, second) refl

-- ---- the first refused edit

one_more : (library : List Cell) (before : List Edit) (e : Edit) (c m d : Circuit) → edited library before c ≡ Ok m → made library m e ≡ Ok d → edited library (before ++ e ∷ []) c ≡ Ok d
unfolding edited_from
one_more library before e c m d accepted makes = joined library c m d before (e ∷ []) accepted (rw makes refl)

refused_from : (library : List Cell) (c m : Circuit) (before rest : List Edit) (n : ℕ) (e : StatementFault)
    → edited library before c ≡ Ok m → edited_from library (length before + 1) rest m ≡ Err (At n e) → IsFirstRefused library (before ++ rest) c n e
unfolding edited_from
refused_from library c m before [] n e accepted h = absurd (cc)
refused_from library c m before (x ∷ more) n e accepted h = by (λ d. refused_from library c d (before ++ x ∷ []) more n e) (made library m x) refl h
  where
    by : ((d : Circuit) → edited library (before ++ x ∷ []) c ≡ Ok d → edited_from library (length (before ++ x ∷ []) + 1) more d ≡ Err (At n e) → IsFirstRefused library ((before ++ x ∷ []) ++ more) c n e)
        → (r : Result Circuit StatementFault) → made library m x ≡ r → (at_edit (length before + 1) r >>= edited_from library (length before + 1 + 1) more) ≡ Err (At n e)
        → IsFirstRefused library (before ++ x ∷ more) c n e
    by further (Ok d) is left =
        let same : length before + 1 + 1 ≡ length (before ++ x ∷ []) + 1 = omega (arith, length-append before (x ∷ [])) in
        subst (λ (edits : List Edit). IsFirstRefused library edits c n e) (append_assoc before (x ∷ []) more) (further d (one_more library before x c m d accepted is) (rw same at left))
    by further (Err f) is left =
        let number : length before + 1 ≡ n = cc in
        let fault : f ≡ e = cc in
        record { before = before; edit = x; after = more; parts = refl; position = sym number; reached = m; accepted = accepted; refused = is ∙ ap (λ (g : StatementFault). Err g) fault }

pub first_refused : (library : List Cell) (c : Circuit) (edits : List Edit) (n : ℕ) (e : StatementFault) → edited library edits c ≡ Err (At n e) → IsFirstRefused library edits c n e
unfolding edited_from
first_refused library c edits n e h = refused_from library c c [] edits n e refl h

-- ---- what each edit keeps, edits in turn keep

module _ (P : Circuit → Type 0) (library : List Cell) (kept : (c d : Circuit) (e : Edit) → P c → made library c e ≡ Ok d → P d) where
  pub all_keep : (n : ℕ) (edits : List Edit) (c d : Circuit) → P c → edited_from library n edits c ≡ Ok d → P d
  unfolding edited_from
  all_keep n [] c d p h = let same : c ≡ d = cc in subst P same p
  all_keep n (e ∷ more) c d p h = by (made library c e) refl h (λ m. all_keep (n + 1) more m d)
    where
      by : (r : Result Circuit StatementFault) → made library c e ≡ r → (at_edit n r >>= edited_from library (n + 1) more) ≡ Ok d → ((m : Circuit) → P m → edited_from library (n + 1) more m ≡ Ok d → P d) → P d
      by (Ok m) is left rest = rest m (kept c m e p is) left
      by (Err f) is left rest = cc

-- ---- no refusal is want of memory

-- want of memory is neither the fault nor a statement's
abbrev NoWant : Result Circuit EditFault → Type 0
NoWant (Ok c) = Unit {0}
NoWant (Err (At n e)) = e ≢ statement.Memory
NoWant (Err Memory) = ⊥

module _ (library : List Cell) (no_want : (c : Circuit) (e : Edit) → made library c e ≢ Err statement.Memory) where
  from_no_want : (n : ℕ) (edits : List Edit) (c : Circuit) → NoWant (edited_from library n edits c)
  unfolding edited_from
  from_no_want n [] c = tt
  from_no_want n (e ∷ more) c = by (made library c e) refl (from_no_want (n + 1) more)
    where
      by : (r : Result Circuit StatementFault) → made library c e ≡ r → ((m : Circuit) → NoWant (edited_from library (n + 1) more m)) → NoWant (at_edit n r >>= edited_from library (n + 1) more)
      by (Ok m) is rest = rest m
      by (Err f) is rest = λ same. no_want c e (is ∙ ap (λ (g : StatementFault). Err g) same)

  pub never_memory : (c : Circuit) (edits : List Edit) → edited library edits c ≢ Err Memory
  never_memory c edits h = subst NoWant h (from_no_want 1 edits c)

  pub never_statement : (c : Circuit) (edits : List Edit) (n : ℕ) → edited library edits c ≢ Err (At n statement.Memory)
  never_statement c edits n h = subst NoWant h (from_no_want 1 edits c) refl
