-- What an accepted file gives, and that no file is refused for want of memory.
use Rattle.std.proofs.Common.{◌≡◌, ◌≢◌, ℕ, ◌+◌, ◌==◌, Bool, true, false, List, [], ◌∷◌, length, Option, Some, None, is_some, refl, ap, subst, if◌then◌else◌}
use Rattle.std.specs.Prelude.{Result, Ok, Err}
use Rattle.std.specs.Str.Lines.{lines}
use Rattle.cyc_text.specs.Words.{words_of}
use Rattle.cell_arcs.specs.declared.cells.Cell.{Cell}
use Rattle.netlist_model.specs.Circuit.{Circuit, event_of, nothing}
use Rattle.netlist_model.specs.Edits.{made}
use Rattle.netlist_model.specs.Statements.{set_root}
use Rattle.netlist_model.specs.declared.edits.Edit.{Edit}
use Rattle.netlist_model.specs.declared.edits.Edit.TheVariants as edit
use Rattle.netlist_model.specs.declared.faults.StatementFault.{StatementFault}
use Rattle.netlist_model.specs.declared.faults.StatementFault.TheVariants.{UnknownEvent, RootTaken}
use Rattle.netlist_model.specs.declared.faults.StatementFault.TheVariants as statement
use Rattle.netlist_model.specs.declared.parts.EventName.{EventName}
use Rattle.netlist_reader.specs.EditLines.{edit_of}
use Rattle.cell_arcs.specs.Steps.{◌>>=◌}
use Rattle.netlist_reader.specs.NetlistFiles.{is_in_file, stated, at_line, after_edit, after_words, after_lines, netlist_of}
use Rattle.netlist_reader.specs.declared.faults.NetFault.{NetFault}
use Rattle.netlist_reader.specs.declared.faults.NetFault.TheVariants.{Syntax, Statement, Memory}

pub bind_ok : (r : Result Circuit NetFault) (f : Circuit → Result Circuit NetFault) (d : Circuit) → r >>= f ≡ Ok d → (c : Circuit) × (r ≡ Ok c) × (f c ≡ Ok d)
bind_ok (Ok c) f d h = (c, refl, h)
bind_ok (Err e) f d h = cc

-- a root that is set where none stands is set where one may stand
pub root_again : (c d : Circuit) (event : EventName) → set_root c event false ≡ Ok d → set_root c event true ≡ Ok d
unfolding set_root
root_again c d event h = by (event_of c.nets event) refl (is_some c.root) refl h
  where
    by : (o : Option ℕ) → event_of c.nets event ≡ o → (b : Bool) → is_some c.root ≡ b → set_root c event false ≡ Ok d → set_root c event true ≡ Ok d
    by None e b f g = let refused : Err UnknownEvent ≡ Ok d = rw e at g in cc
    by (Some r) e true f g = let refused : Err RootTaken ≡ Ok d = rw (e, f) at g in cc
    by (Some r) e false f g = let same : Ok (record c { root = Some r }) ≡ Ok d = rw (e, f) at g in rw e same

-- what each edit keeps, each file keeps
module _ (P : Circuit → Type 0) (library : List Cell) (kept : (c d : Circuit) (e : Edit) → P c → made library c e ≡ Ok d → P d) where
  stated_keeps : (c d : Circuit) (e : Edit) → P c → stated library c e ≡ Ok d → P d
  stated_keeps c d (edit.Root event) p h = kept c d (edit.Root event) p (root_again c d event h)
  stated_keeps c d e p h = kept c d e p h

  at_line_keeps : (n : ℕ) (r : Result Circuit StatementFault) (d : Circuit) → ((x : Circuit) → r ≡ Ok x → P x) → at_line n r ≡ Ok d → P d
  at_line_keeps n (Ok c) d p h = let same : c ≡ d = cc in subst P same (p c refl)
  at_line_keeps n (Err e) d p h = cc

  after_edit_keeps : (n : ℕ) (o : Option Edit) (c d : Circuit) → P c → after_edit library n o c ≡ Ok d → P d
  after_edit_keeps n None c d p h = cc
  after_edit_keeps n (Some e) c d p h = by (is_in_file e) h
    where
      by : (b : Bool) → (if b then at_line n (stated library c e) else Err (Syntax n)) ≡ Ok d → P d
      by true f = at_line_keeps n (stated library c e) d (λ x is. stated_keeps c x e p is) f
      by false f = cc

  after_words_keeps : (n : ℕ) (words : List (List ℕ)) (c d : Circuit) → P c → after_words library n words c ≡ Ok d → P d
  unfolding after_words
  after_words_keeps n words c d p h = by (length words == 0) h
    where
      by : (b : Bool) → (if b then Ok c else after_edit library n (edit_of words) c) ≡ Ok d → P d
      by true f = let same : c ≡ d = cc in subst P same p
      by false f = after_edit_keeps n (edit_of words) c d p f

  pub after_lines_keeps : (n : ℕ) (written : List (List ℕ)) (c d : Circuit) → P c → after_lines library n written c ≡ Ok d → P d
  unfolding after_lines
  after_lines_keeps n [] c d p h = let same : c ≡ d = cc in subst P same p
  after_lines_keeps n (line ∷ more) c d p h =
      let (next, is, left) = bind_ok (after_words library n (words_of line) c) (after_lines library (n + 1) more) d h in
      after_lines_keeps (n + 1) more next d (after_words_keeps n (words_of line) c next p is) left

-- ---- no refusal is want of memory

-- want of memory is neither the fault nor a statement's
abbrev IsNoWant : NetFault → Type 0
IsNoWant (Syntax n) = Unit {0}
IsNoWant (Statement n e) = e ≢ statement.Memory
IsNoWant Memory = ⊥

abbrev NoWant : Result Circuit NetFault → Type 0
NoWant (Ok c) = Unit {0}
NoWant (Err e) = IsNoWant e

bind_no_want : (r : Result Circuit NetFault) (f : Circuit → Result Circuit NetFault) → NoWant r → ((c : Circuit) → NoWant (f c)) → NoWant (r >>= f)
bind_no_want (Ok c) f h k = k c
bind_no_want (Err e) f h k = h

root_no_want : (c : Circuit) (event : EventName) → set_root c event false ≢ Err statement.Memory
unfolding set_root
root_no_want c event h = by (event_of c.nets event) refl (is_some c.root) refl h
  where
    by : (o : Option ℕ) → event_of c.nets event ≡ o → (b : Bool) → is_some c.root ≡ b → set_root c event false ≡ Err statement.Memory → ⊥
    by None e b f g = let refused : Err UnknownEvent ≡ Err statement.Memory = rw e at g in cc
    by (Some r) e true f g = let refused : Err RootTaken ≡ Err statement.Memory = rw (e, f) at g in cc
    by (Some r) e false f g = let refused : Ok (record c { root = Some r }) ≡ Err statement.Memory = rw (e, f) at g in cc

at_line_no_want : (n : ℕ) (r : Result Circuit StatementFault) → r ≢ Err statement.Memory → NoWant (at_line n r)
at_line_no_want n (Ok c) h = tt
at_line_no_want n (Err e) h = λ same. h (ap (λ (f : StatementFault). Err f) same)

module _ (library : List Cell) (no_want : (c : Circuit) (e : Edit) → made library c e ≢ Err statement.Memory) where
  stated_no_want : (c : Circuit) (e : Edit) → stated library c e ≢ Err statement.Memory
  stated_no_want c (edit.Root event) = root_no_want c event
  stated_no_want c e = no_want c e

  after_edit_no_want : (n : ℕ) (o : Option Edit) (c : Circuit) → NoWant (after_edit library n o c)
  after_edit_no_want n None c = tt
  after_edit_no_want n (Some e) c = by (is_in_file e)
    where
      by : (b : Bool) → NoWant (if b then at_line n (stated library c e) else Err (Syntax n))
      by true = at_line_no_want n (stated library c e) (stated_no_want c e)
      by false = tt

  after_words_no_want : (n : ℕ) (words : List (List ℕ)) (c : Circuit) → NoWant (after_words library n words c)
  unfolding after_words
  after_words_no_want n words c = by (length words == 0)
    where
      by : (b : Bool) → NoWant (if b then Ok c else after_edit library n (edit_of words) c)
      by true = tt
      by false = after_edit_no_want n (edit_of words) c

  after_lines_no_want : (n : ℕ) (written : List (List ℕ)) (c : Circuit) → NoWant (after_lines library n written c)
  unfolding after_lines
  after_lines_no_want n [] c = tt
  after_lines_no_want n (line ∷ more) c = bind_no_want _ _ (after_words_no_want n (words_of line) c) (after_lines_no_want (n + 1) more)

  pub never_memory : (bytes : List ℕ) → netlist_of library bytes ≢ Err Memory
  never_memory bytes h = subst NoWant h (after_lines_no_want 1 (lines bytes) nothing)

  pub never_statement : (bytes : List ℕ) (line : ℕ) → netlist_of library bytes ≢ Err (Statement line statement.Memory)
  never_statement bytes line h = subst NoWant h (after_lines_no_want 1 (lines bytes) nothing) refl
