-- `record::cursor_of` meets its contract, for each tag.
use native.Mathlib.Omega.{arith}
use Prim.Native.Nat.{ℕ, zero, suc}
use Rattle.schedule.specs.declared.Cursor.TheVariants.{Point}
use mathlib.Core.Path.{◌≡◌, refl}
use Rattle.field_host.specs.Carried.{cursor_of}
use Rattle.field_host.proofs.record.cursor_of.Goals as goal

-- any other tag
third : (tag node place point : ℕ) → (tag ≡ 0 → ⊥) → (tag ≡ 1 → ⊥) → Point node place point ≡ cursor_of tag node place point
unfolding cursor_of
third zero node place point first second = absurd (first refl)
third (suc zero) node place point first second = absurd (second refl)
third (suc (suc t)) node place point first second = refl

pub returns-in-0 : goal.returns-in-0
unfolding cursor_of
returns-in-0 c =
    rw c.in-0.is refl

pub returns-in-1 : goal.returns-in-1
unfolding cursor_of
returns-in-1 c =
    rw c.in-1.is refl

pub returns-in_default : goal.returns-in_default
returns-in_default c =
    third _ _ _ _ (λ e. omega arith) (λ e. omega arith)
