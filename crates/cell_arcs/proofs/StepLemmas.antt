-- Rows of steps, whatever their faults.
use Rattle.std.proofs.Common.{◌≡◌, Bool, true, false, Option, Some, None, Result, Ok, Err, refl, if◌then◌else◌}
use Rattle.std.specs.Prelude.{IfErr}
use Rattle.cell_arcs.specs.Steps.{◌>>=◌, or_fault, unless_fault}

-- an accepted step was handed an accepted value
pub bind_ok : {A B E : Type 0} (r : Result A E) (f : A → Result B E) (y : B) → r >>= f ≡ Ok y → (x : A) × (r ≡ Ok x) × (f x ≡ Ok y)
bind_ok (Ok x) f y h = (x, refl, h)
bind_ok (Err e) f y h = cc

pub or_fault_ok : {A E : Type 0} (e : E) (o : Option A) (x : A) → or_fault e o ≡ Ok x → o ≡ Some x
or_fault_ok e None x h = cc
or_fault_ok e (Some y) x h = cc

-- a refused branch was not taken
pub if_ok : {A E : Type 0} (b : Bool) (e : E) (r : Result A E) (x : A) → (if b then Err e else r) ≡ Ok x → (b ≡ false) × (r ≡ Ok x)
if_ok true e r x h = cc
if_ok false e r x h = (refl, h)

pub else_ok : {A E : Type 0} (b : Bool) (e : E) (r : Result A E) (x : A) → (if b then r else Err e) ≡ Ok x → (b ≡ true) × (r ≡ Ok x)
else_ok true e r x h = (refl, h)
else_ok false e r x h = cc

pub unless_ok : {A E : Type 0} (o : Option E) (r : Result A E) (x : A) → unless_fault o r ≡ Ok x → (o ≡ None) × (r ≡ Ok x)
unless_ok None r x h = (refl, h)
unless_ok (Some e) r x h = cc

-- what holds of the fault of each step holds of the row's
pub bind_refused : {A B E : Type 0} (P : E → Type 0) (r : Result A E) (f : A → Result B E) → IfErr r P → ((x : A) → IfErr (f x) P) → IfErr (r >>= f) P
bind_refused P (Ok x) f h k = k x
bind_refused P (Err e) f h k = h

pub or_fault_refused : {A E : Type 0} (P : E → Type 0) (e : E) (o : Option A) → P e → IfErr (or_fault e o) P
or_fault_refused P e None h = h
or_fault_refused P e (Some x) h = tt

pub if_refused : {A E : Type 0} (P : E → Type 0) (b : Bool) (e : E) (r : Result A E) → P e → IfErr r P → IfErr (if b then Err e else r) P
if_refused P true e r h k = h
if_refused P false e r h k = k

pub else_refused : {A E : Type 0} (P : E → Type 0) (b : Bool) (e : E) (r : Result A E) → P e → IfErr r P → IfErr (if b then r else Err e) P
else_refused P true e r h k = k
else_refused P false e r h k = h
