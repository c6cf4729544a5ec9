-- What follows where a call answers, of what it found or did not find.
use Rattle.std.proofs.Common.{Option, Some, None, Result, Ok, Err, IfOk, IfSome, IfNone}

pub ok_some : {A E : Type 0} (r : Result (Option A) E) (P Q : A → Type 0) → ((x : A) → P x → Q x) → IfOk r (λ f. IfSome f P) → IfOk r (λ f. IfSome f Q)
ok_some (Ok (Some x)) P Q h k = h x k
ok_some (Ok None) P Q h k = k
ok_some (Err e) P Q h k = k

pub ok_none : {A E : Type 0} (r : Result (Option A) E) (P Q : Type 0) → (P → Q) → IfOk r (λ f. IfNone f P) → IfOk r (λ f. IfNone f Q)
ok_none (Ok (Some x)) P Q h k = k
ok_none (Ok None) P Q h k = h k
ok_none (Err e) P Q h k = k
