-- As many bytes of a text as a form has at most decide what is read.
use mathlib.Core.Path.{◌≡◌, refl, sym, ap, ◌∙◌}
use Prim.Native.Nat.{ℕ, zero, suc, ◌+◌, ◌-◌, ◌*◌, ◌^◌, ◌≤◌, ◌<◌}
use native.Mathlib.Nat.{pow-succ', pow-le-pow_right, mul-le-mul_right, mul_assoc}
use native.Mathlib.Omega.{arith}
use mathlib.Core.Bool.{Bool, true, false}
use mathlib.Core.List.{List, [], ◌∷◌}
use lib.ListN.{length, take}
use lib.Seq.{take-nil}
use Rattle.forms.specs.Digits.{digit_of}
use Rattle.forms.specs.Fronts as fronts
use Rattle.forms.specs.Fronts.{hex_after, decimal_after, decimal_front}
use Rattle.forms.specs.Forms.{Piece, hex, decimal, byte, is_field, Line, off, line, read_piece, with_number, on_front, read_form}
use Rattle.forms.specs.Fitting.{most_piece, most_of}
use Rattle.forms.specs.Inner.Cuts.{ends_decimal, separated, cut_front, cut_line}
use Rattle.forms.proofs.Cases.{below_or, equal_or, never}
use Rattle.forms.proofs.NumberLaws.{hex_digit, hex_other, decimal_digit, decimal_past, decimal_ends, decimal_first, decimal_large}
use Rattle.forms.proofs.NumberLaws.{decimal_none, decimal_nought, digit_some}
use Rattle.lists.proofs.Tests.{and_left}
use Rattle.forms.proofs.FormLaws.{byte_read, byte_other, front_most, separated_rest}

-- ---- a number

cut_next : (m n : ℕ) (f : fronts.Front) → cut_front (suc m) (suc n) f ≡ cut_front m n f
unfolding cut_front
cut_next m n fronts.off = refl
cut_next m n (fronts.number x rest) = let same : suc m + length rest - suc n ≡ m + length rest - n = omega arith in rw same

cut_whole : (m x : ℕ) (t : List ℕ) → cut_front m (length t) (fronts.number x t) ≡ fronts.number x (take m t)
unfolding cut_front
cut_whole m x t = let same : m + length t - length t ≡ m = omega arith in rw same

hex_cut : (k m v : ℕ) (t : List ℕ) → k ≤ m → hex_after k v (take m t) ≡ cut_front m (length t) (hex_after k v t)
unfolding hex_after cut_front
hex_cut zero m v t enough = sym (cut_whole m v t)
hex_cut (suc k) zero v t enough = absurd (omega arith)
hex_cut (suc k) (suc m) v [] enough = refl
hex_cut (suc k) (suc m) v (b ∷ t) enough =
    below_or (digit_of b) 16
    (λ digit. rw (hex_digit b (take m t) k v digit, hex_digit b t k v digit)
    (hex_cut k m (v * 16 + digit_of b) t (omega arith) ∙ sym (cut_next m (length t) (hex_after k (v * 16 + digit_of b) t))))
    (λ other. rw (hex_other b (take m t) k v other, hex_other b t k v other))

past_more : (limit m v d : ℕ) → limit < v * 10 ^ suc m → limit < (v * 10 + d) * 10 ^ m
past_more limit m v d past =
    let power : 10 ^ suc m ≡ 10 * 10 ^ m = pow-succ' 10 m in
    let less : v * 10 ≤ v * 10 + d = omega arith in
    omega (arith, rw (power, ← mul_assoc v 10 (10 ^ m)) at past, mul-le-mul_right (10 ^ m) less)

-- with m digits more the number is above the limit
decimal_cut_after :
    (limit m v : ℕ) (t : List ℕ) → v ≤ limit → limit < v * 10 ^ m
    → decimal_after limit v (take m t) ≡ cut_front m (length t) (decimal_after limit v t)
unfolding decimal_after cut_front
decimal_cut_after limit zero v t within past = absurd (omega arith)
decimal_cut_after limit (suc m) v [] within past = rw take-nil
decimal_cut_after limit (suc m) v (b ∷ t) within past =
    below_or (digit_of b) 10
    (λ digit. below_or limit (v * 10 + digit_of b)
    (λ above. rw (decimal_past b (take m t) limit v digit above, decimal_past b t limit v digit above))
    (λ room.
    let more : limit < (v * 10 + digit_of b) * 10 ^ m = past_more limit m v (digit_of b) past in
    rw (decimal_digit b (take m t) limit v digit room, decimal_digit b t limit v digit room)
    (decimal_cut_after limit m (v * 10 + digit_of b) t room more ∙ sym (cut_next m (length t) (decimal_after limit (v * 10 + digit_of b) t)))))
    (λ other. rw (decimal_ends b (take m t) limit v other, decimal_ends b t limit v other) (sym (cut_whole (suc m) v (b ∷ t))))

-- a number with more than w digits is above the limit
decimal_cut : (limit w m : ℕ) (t : List ℕ) → limit < 10 ^ w → w < m → decimal_front limit (take m t) ≡ cut_front m (length t) (decimal_front limit t)
unfolding decimal_front cut_front
decimal_cut limit w zero t small enough = absurd (omega arith)
decimal_cut limit w (suc m) [] small enough = refl
decimal_cut limit w (suc m) (b ∷ t) small enough =
    equal_or b 48
    (λ is. rw (decimal_nought b (take m t) limit is, decimal_nought b t limit is) (sym (cut_next m (length t) (fronts.number 0 t) ∙ cut_whole m 0 t)))
    (λ other. below_or (digit_of b) 10
    (λ digit. below_or limit (digit_of b)
    (λ past. rw (decimal_large b (take m t) limit other digit past, decimal_large b t limit other digit past))
    (λ room.
    let power : 10 ^ w ≤ 10 ^ m = pow-le-pow_right (omega arith) (omega arith) in
    let some : 1 ≤ digit_of b = digit_some b other digit in
    let past : limit < digit_of b * 10 ^ m = omega (arith, mul-le-mul_right (10 ^ m) some) in
    rw (decimal_first b (take m t) limit other digit room, decimal_first b t limit other digit room)
    (decimal_cut_after limit m (digit_of b) t room past ∙ sym (cut_next m (length t) (decimal_after limit (digit_of b) t)))))
    (λ large. rw (decimal_none b (take m t) limit large, decimal_none b t limit large)))

-- ---- a line

byte_cut : (limit b m : ℕ) (t : List ℕ) → 0 < m → read_piece limit (byte b) (take m t) ≡ cut_front m (length t) (read_piece limit (byte b) t)
unfolding read_piece cut_front
byte_cut limit b zero t some = absurd (omega arith)
byte_cut limit b (suc m) [] some = refl
byte_cut limit b (suc m) (c ∷ t) some =
    equal_or c b
    (λ is. rw (byte_read limit b c (take m t) is, byte_read limit b c t is) (sym (cut_next m (length t) (fronts.number 0 t) ∙ cut_whole m 0 t)))
    (λ other. rw (byte_other limit b c (take m t) other, byte_other limit b c t other))

ends_some : (w : ℕ) (form : List Piece) → ends_decimal form ≡ true → 0 < most_of w form
unfolding ends_decimal most_of most_piece
ends_some w [] ends = never ends
ends_some w (hex ∷ form) ends = omega arith
ends_some w (decimal ∷ form) ends = never ends
ends_some w (byte b ∷ form) ends = omega arith

piece_cut : (limit w m : ℕ) (p : Piece) (form : List Piece) (t : List ℕ) → limit < 10 ^ w → separated (p ∷ form) ≡ true → most_of w (p ∷ form) ≤ m
    → read_piece limit p (take m t) ≡ cut_front m (length t) (read_piece limit p t)
unfolding read_piece most_of most_piece separated
piece_cut limit w m hex form t small apart enough = hex_cut 16 m 0 t (omega arith)
piece_cut limit w m decimal form t small apart enough =
    decimal_cut limit w m t small (omega (arith, ends_some w form (and_left (ends_decimal form) (separated form) apart)))
piece_cut limit w m (byte b) form t small apart enough = byte_cut limit b m t (omega arith)

cut_with : (b : Bool) (x m n k : ℕ) (l : Line) → n ≤ m + k → with_number b x (cut_line (m + k - n) k l) ≡ cut_line m n (with_number b x l)
unfolding with_number cut_line
cut_with b x m n k off within = refl
cut_with true x m n k (line xs rest) within = let same : m + k - n + length rest - k ≡ m + length rest - n = omega arith in rw same
cut_with false x m n k (line xs rest) within = let same : m + k - n + length rest - k ≡ m + length rest - n = omega arith in rw same

module _ (limit w : ℕ) (some : 0 < w) (small : limit < 10 ^ w) (bound : limit < 10 ^ 19) where
  front_cut : (p : Piece) (form : List Piece) (m : ℕ) (t : List ℕ) → most_of w (p ∷ form) ≤ m
      → ((k : ℕ) (s : List ℕ) → most_of w form ≤ k → read_form limit form (take k s) ≡ cut_line k (length s) (read_form limit form s))
      → (f : fronts.Front) → read_piece limit p t ≡ f
      → on_front p (cut_front m (length t) f) (read_form limit form)
      ≡ cut_line m (length t) (on_front p f (read_form limit form))
  unfolding on_front cut_front cut_line most_of
  front_cut p form m t enough ih fronts.off is = refl
  front_cut p form m t enough ih (fronts.number x rest) is =
      let long : length t ≤ length rest + most_piece w p = front_most limit w p t x rest some small bound is in
      ap (with_number (is_field p) x) (ih (m + length rest - length t) rest (omega arith))
      ∙ cut_with (is_field p) x m (length t) (length rest) (read_form limit form rest) (omega arith)

  pub form_cut :
      (form : List Piece) (m : ℕ) (t : List ℕ) → separated form ≡ true → most_of w form ≤ m
      → read_form limit form (take m t) ≡ cut_line m (length t) (read_form limit form t)
  unfolding read_form cut_line
  form_cut [] m t apart enough = let same : m + length t - length t ≡ m = omega arith in rw same
  form_cut (p ∷ form) m t apart enough =
      rw (piece_cut limit w m p form t small apart enough)
      (front_cut p form m t enough (λ k s. form_cut form k s (separated_rest p form apart)) (read_piece limit p t) refl)

  module _ (form : List Piece) (m : ℕ) (t : List ℕ) (apart : separated form ≡ true) (enough : most_of w form ≤ m) where
    pub off_cut : read_form limit form t ≡ off → read_form limit form (take m t) ≡ off
    unfolding cut_line
    off_cut is = form_cut form m t apart enough ∙ ap (cut_line m (length t)) is

    pub line_cut : (xs rest : List ℕ) → read_form limit form t ≡ line xs rest → read_form limit form (take m t) ≡ line xs (take (m + length rest - length t) rest)
    unfolding cut_line
    line_cut xs rest is = form_cut form m t apart enough ∙ ap (cut_line m (length t)) is
