-- The test that two signed numbers of 64 bits are equal.
use Rattle.std.proofs.Common.{◌≡◌, ◌==◌, ℤ, sym, ap, ◌∙◌, w64, to_z, of_z, true}
use Rattle.std.specs.Ordering.{int_eq}
use Rattle.std.proofs.lemmas.Bool.{eq-eqb, eqb-true}
use Rattle.std.proofs.lemmas.Bool.Decides.{same_from_decides, Decides-int_eq}
use Rattle.std.proofs.lemmas.Int.{to_z-of_z}
use mir.Val.{SFits}

pub same_test : (x y : ℤ) → SFits w64 x → SFits w64 y → (of_z w64 x == of_z w64 y) ≡ int_eq x y
same_test x y f g = same_from_decides {P = x ≡ y} (of_z w64 x == of_z w64 y) (int_eq x y) (to, from) (Decides-int_eq x y)
  where
    to : (of_z w64 x == of_z w64 y) ≡ true → x ≡ y
    to e = sym (to_z-of_z w64 x f) ∙ (ap (to_z w64) (eqb-true (of_z w64 x) (of_z w64 y) e) ∙ to_z-of_z w64 y g)

    from : x ≡ y → (of_z w64 x == of_z w64 y) ≡ true
    from e = eq-eqb (of_z w64 x) (of_z w64 y) (ap (of_z w64) e)
