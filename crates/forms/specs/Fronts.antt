-- A number that stands at the front of a text.
use Rattle.std.specs.Prelude.{ℕ, zero, suc, ◌+◌, ◌*◌, cond, List, [], ◌∷◌, eqb, ltb, leb}
use Rattle.forms.specs.Digits.{digit_of}

-- what stands there: nothing of the kind, or a number with the text after it
pub data Front : Type 0 where
  off : Front
  number : (value : ℕ) (rest : List ℕ) → Front

-- k more hexadecimal digits, after those that make v
unfoldable pub hex_after : (k v : ℕ) → List ℕ → Front
hex_after zero v t = number v t
hex_after (suc k) v [] = off
hex_after (suc k) v (b ∷ t) = cond (ltb (digit_of b) 16) (hex_after k (v * 16 + digit_of b) t) off

-- 16 hexadecimal digits (rule T1)
abbrev pub hex_front : List ℕ → Front
hex_front t = hex_after 16 0 t

-- as many decimal digits as stand there, after those that make v, where the number is not above the limit
unfoldable pub decimal_after : (limit v : ℕ) → List ℕ → Front
decimal_after limit v [] = number v []
decimal_after limit v (b ∷ t) =
    cond (ltb (digit_of b) 10)
    (cond (leb (v * 10 + digit_of b) limit) (decimal_after limit (v * 10 + digit_of b) t) off)
    (number v (b ∷ t))

-- a decimal number: a 0 at its front is the whole number (rule T2)
unfoldable pub decimal_front : (limit : ℕ) → List ℕ → Front
decimal_front limit [] = off
decimal_front limit (b ∷ t) =
    cond (eqb b 48) (number 0 t)
    (cond (ltb (digit_of b) 10) (cond (leb (digit_of b) limit) (decimal_after limit (digit_of b) t) off) off)
