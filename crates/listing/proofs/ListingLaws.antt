-- A listing's lines one after the other, their bytes in all, and a listing put into lent bytes.
use Prim.Native.Nat.{ℕ, zero, suc, ◌+◌, ◌/◌, ◌%◌, ◌≤◌, ◌<◌, ◌-◌}
use mathlib.Core.Path.{◌≡◌, refl, sym, ap, ap₂, ◌∙◌}
use mathlib.Core.Bool.{Bool, true, false, ◌&&◌}
use mathlib.Core.List.{List, [], ◌∷◌, ◌++◌}
use native.Mathlib.Nat.{zero-add, add-zero, add-suc, suc-add}
use native.Mathlib.Numerals.{add-one}
use native.Mathlib.Omega.{arith}
use borrow.Author.Tests.{le-leb, lt-leb}
use lib.Ieee.{Float}
use lib.ListN.{length, get_or, take, drop, replicate, length-append}
use lib.Seq.{sets, sets-eq, take_at, length-sets}
use Rattle.std.proofs.lemmas.List.{get_or_default}
use Rattle.lists.proofs.Tests.{and_left, and_right}
use Rattle.float.specs.Zero.{plus_zero}
use Rattle.schedule.specs.Memory.{Memory}
use Rattle.lists.specs.Sums.{sum_from, sum_below}
use Rattle.schedule.specs.declared.Counts.{Counts}
use Rattle.lists.proofs.Sums.{sum_from_most}
use Rattle.forms.specs.Digits.{decimal_of}
use Rattle.forms.specs.Forms.{spell, spell_piece, piece_of, is_field, after}
use Rattle.std.proofs.Common.{Ok, Err}
use Rattle.causes.specs.declared.Cause.TheVariants.{TooShort}
use Rattle.listing.specs.declared.unlisted.Unlisted.TheVariants.{Refused}
use Rattle.listing.specs.Listing.{done_line, lines_from, kind_line, line_at, listing_to}
use Rattle.listing.specs.Inner.Lengths.{length_at, Sizes}
use Rattle.listing.specs.Written.{placed, all_placed, put_bytes, put_answer}
use Rattle.listing.proofs.LineLaws.{line_measured, kind_most, decimal_length}

-- ---- children that are placed

module _ (points size : ℕ) (kinds places : List ℕ) where
  -- whether the child at place j is placed
  abbrev here : ℕ → Bool
  here j = placed points size (get_or kinds j 0) (get_or places j 0)

  placed_first : (r j : ℕ) → 0 < r → all_placed points size kinds places r j ≡ (here j && all_placed points size kinds places (r - 1) (j + 1))
  unfolding all_placed
  placed_first zero j some = absurd (omega arith)
  placed_first (suc r) j some =
      let rest : suc r - 1 ≡ r = omega arith in
      ap₂ (λ n k. here j && all_placed points size kinds places n k) (sym rest) (sym (add-one j))

  pub placed_next : (total j : ℕ) → j < total → here j ≡ true
      → all_placed points size kinds places (total - j) j ≡ all_placed points size kinds places (total - (j + 1)) (j + 1)
  placed_next total j below is =
      let rest : total - j - 1 ≡ total - (j + 1) = omega arith in
      placed_first (total - j) j (omega arith) ∙ rw (is, rest)

  pub placed_fails : (total j : ℕ) → j < total → here j ≡ false → all_placed points size kinds places (total - j) j ≡ false
  placed_fails total j below is = placed_first (total - j) j (omega arith) ∙ rw is

  pub placed_done : (total j : ℕ) → total ≤ j → all_placed points size kinds places (total - j) j ≡ true
  unfolding all_placed
  placed_done total j past = let none : total - j ≡ 0 = omega arith in rw none

  placed_each : (r j i : ℕ) → all_placed points size kinds places r j ≡ true → i < r → here (j + i) ≡ true
  unfolding all_placed
  placed_each zero j i all below = absurd (omega arith)
  placed_each (suc r) j zero all below = rw (add-zero j) (and_left (here j) (all_placed points size kinds places r (suc j)) all)
  placed_each (suc r) j (suc i) all below =
      rw (add-suc j i, ← suc-add j i) (placed_each r (suc j) i (and_right (here j) (all_placed points size kinds places r (suc j)) all) (omega arith))

  pub placed_at : (total j : ℕ) → all_placed points size kinds places total 0 ≡ true → j < total → here j ≡ true
  placed_at total j all below = rw (zero-add j) at (placed_each total 0 j all below)

  pub placed_all : (r j : ℕ) → ((i : ℕ) → i < j + r → here i ≡ true) → all_placed points size kinds places r j ≡ true
  unfolding all_placed
  placed_all zero j each = refl
  placed_all (suc r) j each = rw (each j (omega arith), placed_all r (suc j) (λ i below. each i (omega arith)))

-- ---- lines, one after the other

module _ (f : ℕ → List ℕ) where
  -- the line at place j, then the others
  pub lines_turn : (total j : ℕ) → j < total → lines_from f (total - j) j ≡ f j ++ lines_from f (total - (j + 1)) (j + 1)
  unfolding lines_from
  lines_turn total j below =
      let left : total - j ≡ suc (total - (j + 1)) = omega arith in
      rw (left, add-one j)

  pub lines_done : (total j : ℕ) → total ≤ j → lines_from f (total - j) j ≡ []
  unfolding lines_from
  lines_done total j past = let none : total - j ≡ 0 = omega arith in rw none

  pub lines_measured : (g : ℕ → ℕ) → ((i : ℕ) → length (f i) ≡ g i) → (r j : ℕ) → length (lines_from f r j) ≡ sum_from g r j
  unfolding lines_from sum_from
  lines_measured g each zero j = refl
  lines_measured g each (suc r) j =
      length-append (f j) (lines_from f r (suc j)) ∙ ap₂ (λ a b. a + b) (each j) (lines_measured g each r (suc j))

pub lines_cong : (f g : ℕ → List ℕ) (r j : ℕ) → ((i : ℕ) → i < j + r → f i ≡ g i) → lines_from f r j ≡ lines_from g r j
unfolding lines_from
lines_cong f g zero j same = refl
lines_cong f g (suc r) j same =
    ap₂ (λ a b. a ++ b) (same j (omega arith)) (lines_cong f g r (suc j) (λ i below. same i (omega arith)))

-- the line of a child as the code reads it: a number that is there, whatever it reads past the end
pub line_read : (children points nan : ℕ) (m : Memory) (j : ℕ) (d : Float) → j < length m.numbers
    → kind_line points nan (j / children) (j % children) (get_or m.kinds j 0) (get_or m.numbers j d)
    (get_or m.places j 0) m.store
    ≡ line_at children points nan m j
unfolding line_at
line_read children points nan m j d below =
    ap
    (λ x. kind_line points nan (j / children) (j % children) (get_or m.kinds j 0) x (get_or m.places j 0) m.store)
    (get_or_default m.numbers j d plus_zero below)

-- ---- how many bytes

pub line_length : (children points nan : ℕ) (m : Memory) (j : ℕ) → length (line_at children points nan m j) ≡ length_at children points m.kinds j
unfolding line_at length_at
line_length children points nan m j =
    line_measured points nan (j / children) (j % children) (get_or m.kinds j 0) (get_or m.numbers j plus_zero) (get_or m.places j 0) m.store

pub length_most : (children points : ℕ) (kinds : List ℕ) (j : ℕ) → points ≤ 262144 → length_at children points kinds j ≤ 4456519
unfolding length_at
length_most children points kinds j few = omega (arith, kind_most points (j / children) (j % children) (get_or kinds j 0))

pub lengths_most : (total children points : ℕ) (kinds : List ℕ) → Sizes total children points → sum_below (length_at children points kinds) total ≤ 80000000000000
lengths_most total children points kinds sizes =
    omega (arith, sum_from_most (length_at children points kinds) 4456519 (λ i. length_most children points kinds i sizes.size) total 0, sizes.few)

pub listing_measured : (total children points nan : ℕ) (k : Counts) (m : Memory)
    → length (listing_to total children points nan k m) ≡ length (done_line k) + sum_below (length_at children points m.kinds) total
listing_measured total children points nan k m =
    length-append (done_line k) (lines_from (line_at children points nan m) total 0)
    ∙ ap (λ n. length (done_line k) + n)
    (lines_measured (line_at children points nan m) (length_at children points m.kinds)
    (line_length children points nan m) total 0)

number_most : (x n : ℕ) (t : List ℕ) → length t ≤ n → length (decimal_of x ++ t) ≤ 20 + n
number_most x n t few = omega (arith, length-append (decimal_of x) t, decimal_length x)

pub done_most : (k : Counts) → length (done_line k) ≤ 112
unfolding done_line spell spell_piece piece_of is_field after
done_most k =
    let end : List ℕ = 41 ∷ 10 ∷ [] in
    let from_fifth : List ℕ = 32 ∷ (decimal_of k.evaluations ++ end) in
    let from_fourth : List ℕ = 32 ∷ (decimal_of k.sampled ++ from_fifth) in
    let from_third : List ℕ = 32 ∷ (decimal_of k.leaves ++ from_fourth) in
    let from_second : List ℕ = 32 ∷ (decimal_of k.grid.active ++ from_third) in
    let fifth = number_most k.evaluations 2 end (omega arith) in
    let fourth = number_most k.sampled 23 from_fifth (omega (arith, fifth)) in
    let third = number_most k.leaves 44 from_fourth (omega (arith, fourth)) in
    let second = number_most k.grid.active 65 from_third (omega (arith, third)) in
    omega (arith, number_most k.grid.nodes 86 from_second (omega (arith, second)))

pub listing_most :
    (total children points nan : ℕ) (k : Counts) (m : Memory) → Sizes total children points
    → length (listing_to total children points nan k m) < 18446744073709551616
listing_most total children points nan k m sizes =
    omega (arith, listing_measured total children points nan k m, lengths_most total children points m.kinds sizes, done_most k)

-- ---- bytes with 0 after them

module _ (bs out : List ℕ) where
  pub refused_answer : length out < length bs → Err (Refused TooShort) ≡ put_answer bs out
  unfolding put_answer
  refused_answer short = rw (lt-leb (length bs) (length out) short)

  pub refused_bytes : length out < length bs → out ≡ put_bytes bs out
  unfolding put_bytes
  refused_bytes short = rw (lt-leb (length bs) (length out) short)

  pub accepted_answer : {n : ℕ} → n ≡ length bs → length bs ≤ length out → Ok n ≡ put_answer bs out
  unfolding put_answer
  accepted_answer is fits = rw (le-leb (length bs) (length out) fits) (ap Ok is)

  pub accepted_bytes : {l₁ l₂ : List ℕ} {n : ℕ} → length bs ≤ length out → n ≡ length bs → l₁ ≡ sets out 0 bs
      → l₂ ≡ take n l₁ ++ replicate (length l₁ - n) 0 → l₂ ≡ put_bytes bs out
  unfolding put_bytes
  accepted_bytes {l₁} {l₂} {n} fits is put rest =
      let whole : sets out 0 bs ≡ bs ++ drop (length bs) out =
      sets-eq bs out 0 (omega arith) ∙ ap (λ k. bs ++ drop k out) (zero-add (length bs)) in
      let long : length l₁ ≡ length out = ap length put ∙ length-sets out 0 bs in
      rw (le-leb (length bs) (length out) fits)
      (rest
      ∙ ap (λ k. take k l₁ ++ replicate (length l₁ - k) 0) is
      ∙ ap (λ x. take (length bs) x ++ replicate (length l₁ - length bs) 0) (put ∙ whole)
      ∙ ap₂ (λ x k. x ++ replicate (k - length bs) 0) (take_at bs (drop (length bs) out) (length bs) refl) long)
