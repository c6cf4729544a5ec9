-- Sessions that are split from a book, and joined again.
use Rattle.std.proofs.Common.{◌≡◌, inl, inr, ⊎_elim, ℕ, suc, ◌+◌, ◌<◌, ◌≤◌, ◌==◌, cond, List, [], ◌∷◌, ◌++◌, length, drop, Option, refl, sym, ap, ◌∙◌, subst, arith, append_assoc, drop-cons, get_or, add-one}
use Rattle.std.specs.List.{AllZip, AllByRecursion as Every}
use Rattle.turn_book.specs.declared.view.Ended.{Ended}
use Rattle.turn_book.specs.Views.{own, StartsWith, newcomer, one_if, times_ended}
use Rattle.turn_book.specs.Seats.{view, IsSeatOf}
use Rattle.version_store.specs.Turns.{HasCalls}
use Rattle.session_script.specs.Calls.{is_shared}
use Rattle.session_script.specs.declared.calls.Call.{Call}
use Rattle.session_machine.specs.Orders.{shared_calls}
use Rattle.session_run.specs.declared.threads.jobs.Job.{Job}
use Rattle.session_run.specs.declared.threads.jobs.Done.{Done}
use Rattle.session_run.specs.declared.threads.ran.Ran.{Ran}
use Rattle.session_run.specs.Items.{Item, session_of}
use Rattle.session_run.specs.InTurn.{calls_of}
use Rattle.session_run.specs.Seats.{Origin, SeatView, IsAtRest, IsKnown}
use Rattle.session_run.specs.Serving.{HasServed}
use Rattle.session_run.proofs.Numbers.{same_number}
use Rattle.session_run.specs.Jobs.{Halls, IsFresh, IsReadyJob, IsEnded, IsJob, IsDone, IsJoined, IsIn, Each, Joining}

pub each_more : {A : Type 0} (P : ℕ → List Call → A → Type 0) (n : ℕ) (xs : List (List Call)) (ys : List A) (x : List Call) (y : A) → Each P n xs ys → P (n + length xs) x y → Each P n (xs ++ x ∷ []) (ys ++ y ∷ [])
each_more P n [] [] x y r p = (let e : n + 0 ≡ n = omega arith in subst (λ k. P k x y) e p, tt)
each_more P n [] (b ∷ ys) x y r p = absurd r
each_more P n (a ∷ xs) [] x y r p = absurd r
each_more P n (a ∷ xs) (b ∷ ys) x y r p = (r.0, each_more P (n + 1) xs ys x y r.1 (let e : n + suc (length xs) ≡ n + 1 + length xs = omega arith in subst (λ k. P k x y) e p))

pub calls_more : (scripts : List (List Call)) (i : ℕ) (d : List Call) → i < length scripts → calls_of (drop i scripts) ≡ shared_calls is_shared (get_or scripts i d) + calls_of (drop (i + 1) scripts)
calls_more scripts i d h = let split : drop i scripts ≡ get_or scripts i d ∷ drop (i + 1) scripts = rw add-one (drop-cons scripts i d h) in ap calls_of split

-- the seat of the next number is a session's that has made nothing
pub ready_job : (b : Halls) (j : Job) (v : SeatView) (turns : ℕ) → view j.seat ≡ newcomer turns v → IsSeatOf b j.seat → v.given + 1 ≡ j.number → v.seen ≡ [] → IsKnown v → HasCalls v → turns ≡ shared_calls is_shared j.script.now → IsReadyJob b j
ready_job b j v turns is here num seen known room calls = record {
  book = here;
  fresh = subst (λ (w : SeatView). IsFresh w j.number j.script.now) (sym is) (record {
    rest = record { role = refl; stage = refl; number_is = num; room = room };
    known = (known.0, known.1, record { origin = known.2.origin; library = known.2.library });
    made = refl;
    none = ap (own session_of j.number) seen;
    turns = calls;
  });
}

-- the jobs are ready, and what came back is in their order
pub all_ready : (b : Halls) (origin : Option Origin) (n : ℕ) (xs : List (List Call)) (js : List Job) → Each (IsJob b origin) n xs js → Every (IsReadyJob b) js
all_ready b origin n [] [] r = tt
all_ready b origin n [] (j ∷ js) r = absurd r
all_ready b origin n (x ∷ xs) [] r = absurd r
all_ready b origin n (x ∷ xs) (j ∷ js) r = (r.0.ready, all_ready b origin (n + 1) xs js r.1)

pub all_done : (b : Halls) (origin : Option Origin) (n : ℕ) (xs : List (List Call)) (js : List Job) (ds : List Done) → Each (IsJob b origin) n xs js → AllZip (IsEnded b) js ds → Each (IsDone b origin) n xs ds
all_done b origin n [] [] [] r z = tt
all_done b origin n [] [] (d ∷ ds) r z = absurd z
all_done b origin n [] (j ∷ js) ds r z = absurd r
all_done b origin n (x ∷ xs) [] ds r z = absurd r
all_done b origin n (x ∷ xs) (j ∷ js) [] r z = absurd z
all_done b origin n (x ∷ xs) (j ∷ js) (d ∷ ds) r z = (
  record {
    book = z.0.book;
    rest = subst (λ k. IsAtRest (view d.seat) k) r.0.number z.0.rest;
    served = λ all o is over. subst (λ (p : ℕ × List Call). HasServed all o.base p.0 p.1 (view d.seat) d.ran.replies.items d.ran.places.items) (λ i. (r.0.number i, r.0.script_is i)) (z.0.served all o (record { origin = r.0.origin_is ∙ is; library = over }));
  },
  all_done b origin (n + 1) xs js ds r.1 z.1,
)

in_front : {A : Type 0} (x : A) (xs ys : List A) → IsIn x xs → IsIn x (xs ++ ys)
in_front x [] ys h = absurd h
in_front x (y ∷ xs) ys h = ⊎_elim (λ e. inl e) (λ k. inr (in_front x xs ys k)) h

in_last : {A : Type 0} (x : A) (xs : List A) → IsIn x (xs ++ x ∷ [])
in_last x [] = inl refl
in_last x (y ∷ xs) = inr (in_last x xs)

pub in_every : {A : Type 0} (P : A → Type 0) (x : A) (xs : List A) → IsIn x xs → Every P xs → P x
in_every P x [] h e = absurd h
in_every P x (y ∷ xs) h e = ⊎_elim (λ (s : x ≡ y). subst P (sym s) e.0) (λ k. in_every P x xs k e.1) h

starts_trans : {A : Type 0} (xs ys zs : List A) → StartsWith xs ys → StartsWith ys zs → StartsWith xs zs
starts_trans xs ys zs s t = (t.0 ++ s.0, s.1 ∙ (ap (λ l. l ++ s.0) t.1 ∙ append_assoc zs t.0 s.0))

-- an ended pair is among the ended ones
pub in_times : (p : Ended Item) (ps : List (Ended Item)) → IsIn p ps → 1 ≤ times_ended p.number ps
in_times p [] h = absurd h
in_times p (q ∷ ps) h = ⊎_elim
    (λ (e : p ≡ q). let one : one_if q.number p.number ≡ 1 = ap (λ b. cond b 1 0) (ap (λ (x : Ended Item). x.number == p.number) (sym e) ∙ same_number p.number) in omega arith)
    (λ k. let rest = in_times p ps k in omega arith) h

-- what is joined stays joined
joined_more : (origin : Option Origin) (v w : SeatView) (n : ℕ) (x : List Call) (r : Ran) (pair : Ended Item) → StartsWith w.seen v.seen → w.ended ≡ v.ended ++ pair ∷ [] → IsJoined origin v n x r → IsJoined origin w n x r
joined_more origin v w n x r pair s e j = record {
  seat = j.seat;
  served = j.served;
  begins = starts_trans w.seen v.seen j.seat.seen s j.begins;
  ended = subst (IsIn _) (sym e) (in_front _ v.ended (pair ∷ []) j.ended);
}

-- one more seat is joined
pub joining_more : (b : Halls) (origin : Option Origin) (v w : SeatView) (n : ℕ) (xs : List (List Call)) (rs : List Ran) (d : Done) (ds : List Done) → StartsWith w.seen v.seen → StartsWith w.seen (view d.seat).seen
    → w.ended ≡ v.ended ++ record { number = (view d.seat).number; entries = (view d.seat).made } ∷ [] → Joining b origin v n xs rs (d ∷ ds) → Joining b origin w n xs (rs ++ d.ran ∷ []) ds
joining_more b origin v w n [] [] d ds s t e j = absurd j
joining_more b origin v w n (x ∷ xs) [] d ds s t e j = (
  record {
    seat = view d.seat;
    served = j.0.served;
    begins = t;
    ended = subst (IsIn _) (sym e) (subst (λ (k : ℕ). IsIn (record { number = k; entries = (view d.seat).made }) (v.ended ++ record { number = (view d.seat).number; entries = (view d.seat).made } ∷ [])) j.0.rest.number_is (in_last _ v.ended));
  },
  j.1,
)
joining_more b origin v w n [] (r ∷ rs) d ds s t e j = absurd j
joining_more b origin v w n (x ∷ xs) (r ∷ rs) d ds s t e j = (joined_more origin v w n x r _ s e j.0, joining_more b origin v w (n + 1) xs rs d ds s t e j.1)

-- the next seat to be joined is at rest
pub joining_next : (b : Halls) (origin : Option Origin) (v : SeatView) (n : ℕ) (xs : List (List Call)) (rs : List Ran) (d : Done) (ds : List Done) → Joining b origin v n xs rs (d ∷ ds) → IsSeatOf b d.seat × IsAtRest (view d.seat) (view d.seat).number
joining_next b origin v n [] [] d ds j = absurd j
joining_next b origin v n (x ∷ xs) [] d ds j = (j.0.book, subst (λ k. IsAtRest (view d.seat) k) (sym j.0.rest.number_is) j.0.rest)
joining_next b origin v n [] (r ∷ rs) d ds j = absurd j
joining_next b origin v n (x ∷ xs) (r ∷ rs) d ds j = joining_next b origin v (n + 1) xs rs d ds j.1

pub joining_last : (b : Halls) (origin : Option Origin) (v : SeatView) (n : ℕ) (xs : List (List Call)) (rs : List Ran) → Joining b origin v n xs rs [] → Each (IsJoined origin v) n xs rs
joining_last b origin v n [] [] j = tt
joining_last b origin v n (x ∷ xs) [] j = absurd j
joining_last b origin v n [] (r ∷ rs) j = absurd j
joining_last b origin v n (x ∷ xs) (r ∷ rs) j = (j.0, joining_last b origin v (n + 1) xs rs j.1)

pub nil_of_length : {A : Type 0} (xs : List A) → length xs ≡ 0 → xs ≡ []
nil_of_length [] e = refl
nil_of_length (x ∷ xs) e = absurd (omega arith)
