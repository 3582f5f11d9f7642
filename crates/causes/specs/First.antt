-- A call's causes stand in one list, in the order of their numbers, and the answer is the first that applies (rule C51).
use Rattle.std.specs.Prelude.{Bool, if◌then◌else◌, List, [], ◌∷◌, Result, Ok, Err}
use Rattle.causes.specs.declared.Cause.{Cause}

-- whether a cause applies
pub data Test : Type 0 where
  refused_if : Bool → Cause → Test

-- the refusal by the first cause that applies, and the answer where none does (rules C51 and C53)
unfoldable pub first_of : {A : Type 0} → List Test → A → Result A Cause
first_of [] answer = Ok answer
first_of (refused_if applies cause ∷ tests) answer = (if applies then Err cause else first_of tests answer)
