-- The items of a hall, entry by entry.
use Rattle.std.proofs.Common.{◌≡◌, ℕ, zero, suc, ◌+◌, ◌-◌, ◌<◌, Bool, true, false, cond, List, [], ◌∷◌, ◌++◌, length, map, Some, None, refl, sym, ap, ◌∙◌, subst, arith, get_or, length-append}
use Rattle.std.specs.Prelude.{slice_get}
use Rattle.std.proofs.lemmas.Bool.Decides.{nat_tests}
use Rattle.version_store.specs.declared.entry.HallEntry.{HallEntry}
use Rattle.version_store.specs.declared.entry.HallAct.{HallAct}
use Rattle.version_store.specs.declared.entry.HallAct.TheVariants.{Publish}
use Rattle.version_store.specs.declared.state.HallItem.{HallItem}
use Rattle.version_store.specs.declared.state.HallState.{HallState}
use Rattle.version_store.specs.Halls.{takes, took, item, items_from, rows_of, HasRows, Chain, IsKept, state_of, noted, published, head_of, row_limit}

took_plain : (head : ℕ) (es : List HallEntry) (e : HallEntry) (n : ℕ) → took head es ≡ n → takes (head + n) e.act ≡ false → took head (es ++ e ∷ []) ≡ n
took_plain head [] e n t stays = let z : head + n ≡ head = omega arith in let stays2 : takes head e.act ≡ false = ap (λ m. takes m e.act) (sym z) ∙ stays in rw stays2 t
took_plain head (x ∷ es) e n t stays = elim (takes head x.act) as (λ b. cond b (took (head + 1) es + 1) (took head es) ≡ n → cond b (took (head + 1) (es ++ e ∷ []) + 1) (took head (es ++ e ∷ [])) ≡ n) [
  | true ↦ λ k. let m : head + n ≡ head + 1 + took (head + 1) es = omega arith in let h = took_plain (head + 1) es e (took (head + 1) es) refl (ap (λ j. takes j e.act) (sym m) ∙ stays) in omega arith
  | false ↦ λ k. took_plain head es e n k stays
] t

took_given : (head : ℕ) (es : List HallEntry) (e : HallEntry) (n : ℕ) → took head es ≡ n → takes (head + n) e.act ≡ true → took head (es ++ e ∷ []) ≡ n + 1
took_given head [] e n t given = let z : head + n ≡ head = omega arith in let given2 : takes head e.act ≡ true = ap (λ m. takes m e.act) (sym z) ∙ given in rw given2 (omega arith)
took_given head (x ∷ es) e n t given = elim (takes head x.act) as (λ b. cond b (took (head + 1) es + 1) (took head es) ≡ n → cond b (took (head + 1) (es ++ e ∷ []) + 1) (took head (es ++ e ∷ [])) ≡ n + 1) [
  | true ↦ λ k. let m : head + n ≡ head + 1 + took (head + 1) es = omega arith in let h = took_given (head + 1) es e (took (head + 1) es) refl (ap (λ j. takes j e.act) (sym m) ∙ given) in omega arith
  | false ↦ λ k. took_given head es e n k given
] t

module _ {R : Type 0} where
  -- an entry that appends stays row
  pub items_plain : (head : ℕ) (rows : List R) (es : List HallEntry) (e : HallEntry) → took head es ≡ length rows → takes (head + length rows) e.act ≡ false
      → items_from head rows (es ++ e ∷ []) ≡ items_from head rows es ++ item e None ∷ []
  items_plain head [] [] e t stays = refl
  items_plain head (r ∷ rows) [] e t stays = absurd (cc)
  items_plain head [] (x ∷ es) e t stays = elim (takes head x.act) as (λ b. (cond b (took (head + 1) es + 1) (took head es) ≡ 0) → item {R = R} x None ∷ items_from head [] (es ++ e ∷ []) ≡ item x None ∷ (items_from head [] es ++ item e None ∷ [])) [
    | true ↦ λ k. absurd (omega arith)
    | false ↦ λ k. ap (λ l. item x None ∷ l) (items_plain head [] es e k stays)
  ] t
  items_plain head (r ∷ rows) (x ∷ es) e t stays = elim (takes head x.act) as (λ b. (cond b (took (head + 1) es + 1) (took head es) ≡ suc (length rows)) →
      cond b (item x (Some r) ∷ items_from (head + 1) rows (es ++ e ∷ [])) (item x None ∷ items_from head (r ∷ rows) (es ++ e ∷ [])) ≡ cond b (item x (Some r) ∷ items_from (head + 1) rows es) (item x None ∷ items_from head (r ∷ rows) es) ++ item e None ∷ []) [
        | true ↦ λ k. ap (λ l. item x (Some r) ∷ l) (items_plain (head + 1) rows es e (omega arith) (let n : head + 1 + length rows ≡ head + suc (length rows) = omega arith in ap (λ m. takes m e.act) n ∙ stays))
        | false ↦ λ k. ap (λ l. item x None ∷ l) (items_plain head (r ∷ rows) es e k stays)
      ] t

  -- an entry that appends a row
  pub items_given : (head : ℕ) (rows : List R) (es : List HallEntry) (e : HallEntry) (new : R) → took head es ≡ length rows → takes (head + length rows) e.act ≡ true
      → items_from head (rows ++ new ∷ []) (es ++ e ∷ []) ≡ items_from head rows es ++ item e (Some new) ∷ []
  items_given head [] [] e new t given = let z : head + 0 ≡ head = omega arith in let given2 : takes head e.act ≡ true = ap (λ m. takes m e.act) (sym z) ∙ given in rw given2 refl
  items_given head (r ∷ rows) [] e new t given = absurd (cc)
  items_given head [] (x ∷ es) e new t given = elim (takes head x.act) as (λ b. (cond b (took (head + 1) es + 1) (took head es) ≡ 0) →
      cond b (item x (Some new) ∷ items_from (head + 1) [] (es ++ e ∷ [])) (item x None ∷ items_from head (new ∷ []) (es ++ e ∷ [])) ≡ item x None ∷ (items_from head [] es ++ item e (Some new) ∷ [])) [
        | true ↦ λ k. absurd (omega arith)
        | false ↦ λ k. ap (λ l. item x None ∷ l) (items_given head [] es e new k given)
      ] t
  items_given head (r ∷ rows) (x ∷ es) e new t given = elim (takes head x.act) as (λ b. (cond b (took (head + 1) es + 1) (took head es) ≡ suc (length rows)) →
      cond b (item x (Some r) ∷ items_from (head + 1) (rows ++ new ∷ []) (es ++ e ∷ [])) (item x None ∷ items_from head (r ∷ (rows ++ new ∷ [])) (es ++ e ∷ [])) ≡ cond b (item x (Some r) ∷ items_from (head + 1) rows es) (item x None ∷ items_from head (r ∷ rows) es) ++ item e (Some new) ∷ []) [
        | true ↦ λ k. ap (λ l. item x (Some r) ∷ l) (items_given (head + 1) rows es e new (omega arith) (let n : head + 1 + length rows ≡ head + suc (length rows) = omega arith in ap (λ m. takes m e.act) n ∙ given))
        | false ↦ λ k. ap (λ l. item x None ∷ l) (items_given head (r ∷ rows) es e new k given)
      ] t

  -- the rows are those of the items
  pub rows_all : (head : ℕ) (rows : List R) (es : List HallEntry) → took head es ≡ length rows → rows_of (items_from head rows es) ≡ rows
  rows_all head [] [] t = refl
  rows_all head (r ∷ rows) [] t = absurd (cc)
  rows_all head [] (x ∷ es) t = elim (takes head x.act) as (λ b. (cond b (took (head + 1) es + 1) (took head es) ≡ 0) → rows_of (items_from {R = R} head [] es) ≡ []) [
    | true ↦ λ k. absurd (omega arith)
    | false ↦ λ k. rows_all head [] es k
  ] t
  rows_all head (r ∷ rows) (x ∷ es) t = elim (takes head x.act) as (λ b. (cond b (took (head + 1) es + 1) (took head es) ≡ suc (length rows)) →
      rows_of (cond b (item x (Some r) ∷ items_from (head + 1) rows es) (item x None ∷ items_from head (r ∷ rows) es)) ≡ r ∷ rows) [
        | true ↦ λ k. ap (λ l. r ∷ l) (rows_all (head + 1) rows es (omega arith))
        | false ↦ λ k. rows_all head (r ∷ rows) es k
      ] t

  right_step : (b : Bool) (head : ℕ) (x : HallEntry) (r : R) (taken left : List (HallItem R)) → takes head x.act ≡ b
      → (b ≡ true → HasRows (head + 1) taken) → (b ≡ false → HasRows head left) → HasRows head (cond b (item x (Some r) ∷ taken) (item x None ∷ left))
  right_step true head x r taken left e f g = (sym e, subst (λ c. HasRows (cond c (head + 1) head) taken) (sym e) (f refl))
  right_step false head x r taken left e f g = (sym e, subst (λ c. HasRows (cond c (head + 1) head) left) (sym e) (g refl))

  -- the items have rows exactly where their entries append one
  pub rows_right : (head : ℕ) (rows : List R) (es : List HallEntry) → took head es ≡ length rows → HasRows head (items_from head rows es)
  rows_right head rows [] t = tt
  rows_right head [] (x ∷ es) t = elim (takes head x.act) as (λ b. takes head x.act ≡ b → (cond b (took (head + 1) es + 1) (took head es) ≡ 0) → HasRows {R = R} head (item x None ∷ items_from head [] es)) [
    | true ↦ λ is k. absurd (omega arith)
    | false ↦ λ is k. (sym is, subst (λ c. HasRows {R = R} (cond c (head + 1) head) (items_from head [] es)) (sym is) (rows_right head [] es k))
  ] refl t
  rows_right head (r ∷ rows) (x ∷ es) t = right_step (takes head x.act) head x r (items_from (head + 1) rows es) (items_from head (r ∷ rows) es) refl
      (λ is. let k : took (head + 1) es + 1 ≡ suc (length rows) = subst (λ c. cond c (took (head + 1) es + 1) (took head es) ≡ suc (length rows)) is t in rows_right (head + 1) rows es (omega arith))
      (λ is. rows_right head (r ∷ rows) es (subst (λ c. cond c (took (head + 1) es + 1) (took head es) ≡ suc (length rows)) is t))

  pub entries_all : (head : ℕ) (rows : List R) (es : List HallEntry) → es ≡ map (λ (i : HallItem R). i.entry) (items_from head rows es)
  entries_all head rows [] = refl
  entries_all head [] (x ∷ es) = ap (λ l. x ∷ l) (entries_all head [] es)
  entries_all head (r ∷ rows) (x ∷ es) = elim (takes head x.act) as (λ b. x ∷ es ≡ map (λ (i : HallItem R). i.entry) (cond b (item x (Some r) ∷ items_from (head + 1) rows es) (item x None ∷ items_from head (r ∷ rows) es))) [
    | true ↦ ap (λ l. x ∷ l) (entries_all (head + 1) rows es)
    | false ↦ ap (λ l. x ∷ l) (entries_all head (r ∷ rows) es)
  ]

  -- one more row at the end
  pub chain_more : (follows : R → R → Type 0) (base : R) (rows : List R) (new : R) → Chain follows base rows → ((parent : R) → slice_get (base ∷ rows) (length rows) ≡ Some parent → follows new parent) → Chain follows base (rows ++ new ∷ [])
  chain_more follows base [] new ch f = (f base refl, tt)
  chain_more follows base (r ∷ rows) new ch f = (ch.0, chain_more follows r rows new ch.1 f)

-- an element that was read, through a map
pub get_map : {A B : Type 0} (f : A → B) (xs : List A) (n : ℕ) (x : A) → n < length xs → x ≡ get_or xs n x → slice_get (map f xs) n ≡ Some (f x)
get_map f [] n x h e = absurd (omega arith)
get_map f (y ∷ xs) zero x h e = ap (λ z. Some (f z)) (sym e)
get_map f (y ∷ xs) (suc n) x h e = get_map f xs n x (omega arith) e

pub get_next : {B : Type 0} (b : B) (xs : List B) (n : ℕ) → 0 < n → slice_get (b ∷ xs) n ≡ slice_get xs (n - 1)
get_next b xs zero h = absurd (omega arith)
get_next b xs (suc n) h = let e : suc n - 1 ≡ n = omega arith in rw e refl

abbrev entry : ℕ → HallAct → HallEntry
entry session act = record { session = session; act = act }

module _ {R : Type 0} {follows : R → R → Type 0} {base : R} where
  pub rows_are : {rows : List R} {es : List HallEntry} {n : ℕ} → IsKept follows base rows es n → rows_of (items_from 0 rows es) ≡ rows
  rows_are {rows} {es} {n} k = rows_all 0 rows es (k.all ∙ k.count_is)

  pub right_is : {rows : List R} {es : List HallEntry} {n : ℕ} → IsKept follows base rows es n → HasRows 0 (items_from 0 rows es)
  right_is {rows} {es} {n} k = rows_right 0 rows es (k.all ∙ k.count_is)

  pub head_is : {rows : List R} {es : List HallEntry} {n : ℕ} → IsKept follows base rows es n → length (rows_of (items_from 0 rows es)) ≡ n
  head_is {rows} {es} {n} k = ap length (rows_are k) ∙ sym k.count_is

  pub kept_plain : {rows : List R} {es : List HallEntry} {n : ℕ} (e : HallEntry) → IsKept follows base rows es n → takes n e.act ≡ false → IsKept follows base rows (es ++ e ∷ []) n
  kept_plain {rows} {es} {n} e k t = record { count_is = k.count_is; few = k.few; all = took_plain 0 es e n k.all (let z : 0 + n ≡ n = omega arith in ap (λ m. takes m e.act) z ∙ t); chain = k.chain }

  pub plain_is : {rows : List R} {es : List HallEntry} {n : ℕ} (e : HallEntry) → IsKept follows base rows es n → takes n e.act ≡ false → items_from 0 rows (es ++ e ∷ []) ≡ items_from 0 rows es ++ item e None ∷ []
  plain_is {rows} {es} {n} e k t = items_plain 0 rows es e (k.all ∙ k.count_is) (let h = k.count_is in let z : 0 + length rows ≡ n = omega arith in ap (λ m. takes m e.act) z ∙ t)

  pub kept_given : {rows : List R} {es : List HallEntry} {n : ℕ} (e : HallEntry) (new : R) → IsKept follows base rows es n → takes n e.act ≡ true → n + 1 < row_limit → ((parent : R) → slice_get (base ∷ rows) n ≡ Some parent → follows new parent) → IsKept follows base (rows ++ new ∷ []) (es ++ e ∷ []) (n + 1)
  kept_given {rows} {es} {n} e new k t few f = record {
    count_is = let h = k.count_is in omega (arith, length-append rows (new ∷ []));
    few = omega arith;
    all = took_given 0 es e n k.all (let z : 0 + n ≡ n = omega arith in ap (λ m. takes m e.act) z ∙ t);
    chain = chain_more follows base rows new k.chain (λ p h. f p (ap (λ m. slice_get (base ∷ rows) m) k.count_is ∙ h));
  }

  pub given_is : {rows : List R} {es : List HallEntry} {n : ℕ} (e : HallEntry) (new : R) → IsKept follows base rows es n → takes n e.act ≡ true → items_from 0 (rows ++ new ∷ []) (es ++ e ∷ []) ≡ items_from 0 rows es ++ item e (Some new) ∷ []
  given_is {rows} {es} {n} e new k t = items_given 0 rows es e new (k.all ∙ k.count_is) (let h = k.count_is in let z : 0 + length rows ≡ n = omega arith in ap (λ m. takes m e.act) z ∙ t)

  -- the view after an entry, with no row and with one
  pub noted_plain : {rows : List R} {es : List HallEntry} {n : ℕ} (room session : ℕ) (act : HallAct) (es2 : List HallEntry) (h : HallState R) → state_of base rows es room ≡ h → IsKept follows base rows es n → takes n act ≡ false
      → es2 ≡ es ++ entry session act ∷ [] → state_of base rows es2 (room - 1) ≡ noted h session act None
  noted_plain {rows} {es} {n} room session act es2 h is k t new =
      ap (λ l. state_of base rows l (room - 1)) new
      ∙ ((λ i. record { base = base; items = plain_is (entry session act) k t i; room = room - 1 }) ∙ ap (λ x. noted x session act None) is)

  pub noted_given : {rows : List R} {es : List HallEntry} {n : ℕ} (room session number : ℕ) (r : R) (rows2 : List R) (es2 : List HallEntry) (h : HallState R) → state_of base rows es room ≡ h → IsKept follows base rows es n → takes n (Publish number) ≡ true
      → rows2 ≡ rows ++ r ∷ [] → es2 ≡ es ++ entry session (Publish number) ∷ [] → state_of base rows2 es2 (room - 1) ≡ noted h session (Publish number) (published h number r)
  noted_given {rows} {es} {n} room session number r rows2 es2 h is k t news new =
      let some : Some r ≡ published h number r = (λ i. cond (sym t i) (Some r) None) ∙ ap (λ m. cond (takes m (Publish number)) (Some r) None) (sym (head_is k) ∙ ap head_of is) in
      (λ i. state_of base (news i) (new i) (room - 1))
      ∙ ((λ i. record { base = base; items = given_is (entry session (Publish number)) r k t i; room = room - 1 }) ∙ ((λ i. noted (is i) session (Publish number) (some i))))

-- a publish on the head appends a row while fewer stand than may, and else none does
pub takes_here : (n base : ℕ) → base ≡ n → n + 1 < row_limit → takes n (Publish base) ≡ true
takes_here n base e l = grind (arith, nat_tests)

pub takes_below : (n base : ℕ) → base < n → takes n (Publish base) ≡ false
takes_below n base l = grind (arith, nat_tests)

pub takes_full : (n base : ℕ) → n + 1 ≡ row_limit → takes n (Publish base) ≡ false
takes_full n base l = grind (arith, nat_tests)
