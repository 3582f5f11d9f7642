-- Lists of causes: where none applies, and which cause a refusal has.
use Rattle.std.proofs.Common.{◌≡◌, refl, Bool, true, false, List, [], ◌∷◌, Result, Ok, Err}
use Rattle.causes.specs.declared.Cause.{Cause}
use Rattle.causes.specs.First.{Test, refused_if, first_of}

-- every test of a list is false
abbrev pub NoneApplies : List Test → Type 0
NoneApplies [] = Unit {0}
NoneApplies (refused_if applies cause ∷ tests) = (applies ≡ false) × NoneApplies tests

-- a fact of every cause of a list
abbrev pub EveryCause : (Cause → Type 0) → List Test → Type 0
EveryCause P [] = Unit {0}
EveryCause P (refused_if applies cause ∷ tests) = P cause × EveryCause P tests

module _ {A : Type 0} (answer : A) where
  -- the answer comes out where none applies, and only there
  pub none_applies : (tests : List Test) → first_of tests answer ≡ Ok answer → NoneApplies tests
  unfolding first_of
  none_applies [] e = tt
  none_applies (refused_if true cause ∷ tests) e = cc
  none_applies (refused_if false cause ∷ tests) e = (refl, none_applies tests e)

  pub answered : (tests : List Test) → NoneApplies tests → first_of tests answer ≡ Ok answer
  unfolding first_of
  answered [] none = refl
  answered (refused_if applies cause ∷ tests) none = rw none.0 (answered tests none.1)

  -- what holds of every cause of a list, and of the answer, holds of what comes out
  pub first_has : (P : Result A Cause → Type 0) → P (Ok answer) → (tests : List Test) → EveryCause (λ c. P (Err c)) tests → P (first_of tests answer)
  unfolding first_of
  first_has P own [] all = own
  first_has P own (refused_if true cause ∷ tests) all = all.0
  first_has P own (refused_if false cause ∷ tests) all = first_has P own tests all.1

  -- the first cause of a list applies, or is passed over
  pub first_applies : (applies : Bool) (cause : Cause) (tests : List Test) → applies ≡ true
      → first_of (refused_if applies cause ∷ tests) answer ≡ Err cause
  unfolding first_of
  first_applies applies cause tests e = rw e refl

  pub first_passed : (applies : Bool) (cause : Cause) (tests : List Test) → applies ≡ false
      → first_of (refused_if applies cause ∷ tests) answer ≡ first_of tests answer
  unfolding first_of
  first_passed applies cause tests e = rw e refl
