-- A block's size is at least 2 and at most 64, and so are small its cube and that of one more.
use Rattle.std.proofs.Common.{◌≡◌, ℕ, ◌*◌, ◌≤◌, Bool, true, false, ◌||◌, eqb, refl, mul-le-mul, arith, eqb-true}
use Rattle.grid.specs.Blocks.{is_block, cube}

either : (a b : Bool) {P : Type 0} → (a ≡ true → P) → (b ≡ true → P) → (a || b) ≡ true → P
either true b left right e = left refl
either false b left right e = right e

pub record Block (n : ℕ) : Type 0 where
  pub least : 2 ≤ n
  pub most : n ≤ 64

one_of : (m n : ℕ) → 2 ≤ m → m ≤ 64 → eqb n m ≡ true → Block n
one_of m n low high e = let same = eqb-true n m e in record { least = omega arith; most = omega arith }

pub block : (n : ℕ) → is_block n ≡ true → Block n
unfolding is_block
block n =
    either (eqb n 2 || eqb n 4 || eqb n 8 || eqb n 16 || eqb n 32) _
    (either (eqb n 2 || eqb n 4 || eqb n 8 || eqb n 16) _
    (either (eqb n 2 || eqb n 4 || eqb n 8) _
    (either (eqb n 2 || eqb n 4) _
    (either (eqb n 2) _ (one_of 2 n (omega arith) (omega arith)) (one_of 4 n (omega arith) (omega arith)))
    (one_of 8 n (omega arith) (omega arith)))
    (one_of 16 n (omega arith) (omega arith)))
    (one_of 32 n (omega arith) (omega arith)))
    (one_of 64 n (omega arith) (omega arith))

pub square_le : (m n : ℕ) → n ≤ m → n * n ≤ m * m
square_le m n h = mul-le-mul h h

pub cube_le : (m n : ℕ) → n ≤ m → cube n ≤ cube m
cube_le m n h = mul-le-mul (square_le m n h) h
