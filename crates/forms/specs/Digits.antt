-- Numbers as bytes: hexadecimal for floats (rule T1), decimal for all others (rule T2).
use Rattle.std.specs.Prelude.{ℕ, zero, suc, ◌+◌, ◌-◌, ◌/◌, ◌%◌, ◌&&◌, cond, List, [], ◌∷◌, ◌++◌, ltb, leb, Option, Some, None, unwrap_or}

-- the byte of a digit: 0 to 9, then a to f
unfoldable pub digit_byte : ℕ → ℕ
digit_byte d = cond (ltb d 10) (48 + d) (87 + d)

-- what a byte counts as a digit, if it is one
unfoldable pub digit_value : ℕ → Option ℕ
digit_value b = cond (leb 48 b && leb b 57) (Some (b - 48)) (cond (leb 97 b && leb b 102) (Some (b - 87)) None)

-- the same, and 16 if it is none
unfoldable pub digit_of : ℕ → ℕ
digit_of b = unwrap_or (digit_value b) 16

-- what it counts as a decimal digit, if it is one
unfoldable pub decimal_value : ℕ → Option ℕ
decimal_value b = cond (ltb (digit_of b) 10) (Some (digit_of b)) None

-- the last k digits of x in a base
unfoldable pub digits : (base k x : ℕ) → List ℕ
digits base zero x = []
digits base (suc k) x = digits base k (x / base) ++ (digit_byte (x % base) ∷ [])

-- the 16 hexadecimal digits of a number of 64 bits (rule T1)
abbrev pub hex_of : ℕ → List ℕ
hex_of x = digits 16 16 x

-- how many decimal digits x has, at most k + 1
unfoldable pub decimal_count : (k x : ℕ) → ℕ
decimal_count zero x = 1
decimal_count (suc k) x = cond (ltb x 10) 1 (suc (decimal_count k (x / 10)))

-- a number of 64 bits in decimal digits, at most 20, the first of them no 0 unless it is the only one (rule T2)
abbrev pub decimal_of : ℕ → List ℕ
decimal_of x = digits 10 (decimal_count 19 x) x
