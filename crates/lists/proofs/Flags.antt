-- Lists of 0 and 1 by a test, and numbers that agree with one: part by part, element by element, and in rows.
use mathlib.Core.Path.{◌≡◌, refl, sym, ap, ◌∙◌}
use mathlib.Core.Bool.{Bool, true, false, not, ◌&&◌, beq, and-false}
use mathlib.Core.List.{List, [], ◌∷◌, ◌++◌, append-nil, append_assoc}
use Prim.Native.Nat.{ℕ, zero, suc, ◌+◌, ◌*◌, ◌/◌, ◌%◌, ◌≤◌, ◌<◌}
use native.Mathlib.Nat.{zero-add, add-zero, add-suc, suc-add, mul-le-mul_right, mul-add-div_right, div-eq_of_lt, mul-add-mod_self_right, mod-eq_of_lt}
use native.Mathlib.Numerals.{add-one}
use native.Mathlib.Omega.{arith}
use lib.ListN.{length, get_or, take, drop, set, replicate, length-append, length-drop, take-append-drop, drop_of_length-le}
use lib.Dec.{eqb}
use lib.Seq.{take_at, drop_at, drop-drop, take-add, take_all, length-take-le, set_at, drop-cons}
use borrow.Author.Tests.{eq-eqb, ne_eqb}
use borrow.Rule.Slice.PartMut.{put_mid}
use Rattle.lists.specs.Sums.{bit}
use Rattle.lists.proofs.Tests.{and_left, and_right, beq_self}
use Rattle.lists.specs.Flags.{nonzero, flags_from, agrees_from, in_rows}

-- ---- places in rows of n

module _ (n : ℕ) (test : ℕ → ℕ → Bool) where
  pub row_test_lem : (j i : ℕ) → i < n → in_rows n test (j * n + i) ≡ test j i
  row_test_lem j i h =
      let row : (j * n + i) / n ≡ j = mul-add-div_right {m = n} (omega arith) j i ∙ ap (λ (x : ℕ). j + x) (div-eq_of_lt h) ∙ add-zero j in
      let place : (j * n + i) % n ≡ i = mul-add-mod_self_right j n i ∙ mod-eq_of_lt h in
      λ t. test (row t) (place t)

-- ---- nonzero numbers

pub nonzero_true : (k : ℕ) → (k ≡ 0 → ⊥) → nonzero k ≡ true
nonzero_true zero h = absurd (h refl)
nonzero_true (suc k) h = refl

-- the code's comparison of a number with a flag
pub nonzero_eqb : (k : ℕ) → not (eqb k 0) ≡ nonzero k
nonzero_eqb zero = ap not (eq-eqb 0 0 refl)
nonzero_eqb (suc k) = ap not (ne_eqb (suc k) 0 (λ e. omega arith))

pub compared_same : (k : ℕ) (b : Bool) → not (beq (not (eqb k 0)) b) ≡ false → nonzero k ≡ b
compared_same k b h = same (nonzero k) b (ap (λ (a : Bool). not (beq a b)) (sym (nonzero_eqb k)) ∙ h)
  where
    same : (a b : Bool) → not (beq a b) ≡ false → a ≡ b
    same true true h = refl
    same true false h = h
    same false true h = sym h
    same false false h = refl

pub compared_other : (k : ℕ) (b : Bool) → not (beq (not (eqb k 0)) b) ≡ true → nonzero k ≡ not b
compared_other k b h = other (nonzero k) b (ap (λ (a : Bool). not (beq a b)) (sym (nonzero_eqb k)) ∙ h)
  where
    other : (a b : Bool) → not (beq a b) ≡ true → a ≡ not b
    other true true h = sym h
    other true false h = refl
    other false true h = refl
    other false false h = h

-- ---- lists of 0 and 1

module _ (test : ℕ → Bool) where
  pub length_flags : (r j : ℕ) → length (flags_from test r j) ≡ r
  unfolding flags_from
  length_flags zero j = refl
  length_flags (suc r) j = ap suc (length_flags r (suc j))

  -- each is that of its place
  pub get_or_flags : (r i j : ℕ) → j < r → get_or (flags_from test r i) j 0 ≡ bit (test (i + j))
  unfolding flags_from
  get_or_flags zero i j h = absurd (omega arith)
  get_or_flags (suc r) i zero h = rw add-zero
  get_or_flags (suc r) i (suc j) h = rw (add-suc, ← suc-add) (get_or_flags r (suc i) j (omega arith))

  pub flags_append : (a b j : ℕ) → flags_from test (a + b) j ≡ flags_from test a j ++ flags_from test b (j + a)
  unfolding flags_from
  flags_append zero b j = rw (zero-add b, add-zero j) refl
  flags_append (suc a) b j = rw (suc-add a b, add-suc j a, ← suc-add j a) (ap (λ (l : List ℕ). bit (test j) ∷ l) (flags_append a b (suc j)))

pub flags_cong : (test other : ℕ → Bool) (r j k : ℕ) → ((i : ℕ) → i < r → test (j + i) ≡ other (k + i)) → flags_from test r j ≡ flags_from other r k
unfolding flags_from
flags_cong test other zero j k same = refl
flags_cong test other (suc r) j k same =
    let first : test j ≡ other k = rw (add-zero j, add-zero k) at (same 0 (omega arith)) in
    let rest : flags_from test r (suc j) ≡ flags_from other r (suc k) =
    flags_cong test other r (suc j) (suc k) (λ i h. rw (suc-add j i, ← add-suc j i, suc-add k i, ← add-suc k i) (same (suc i) (omega arith))) in
    λ t. bit (first t) ∷ rest t

pub flags_none : (r j : ℕ) → replicate r 0 ≡ flags_from (λ _. false) r j
unfolding flags_from
flags_none zero j = refl
flags_none (suc r) j = ap (λ (l : List ℕ). 0 ∷ l) (flags_none r (suc j))

-- a list whose first i elements have been set, as the loops leave it
abbrev pub flagged : (ℕ → Bool) → ℕ → List ℕ → List ℕ
flagged test i l = flags_from test i 0 ++ drop i l

module _ (test : ℕ → Bool) (l : List ℕ) where
  pub flagged_none : l ≡ flagged test 0 l
  unfolding flags_from
  flagged_none = refl

  pub flagged_length : (i : ℕ) → i ≤ length l → length (flagged test i l) ≡ length l
  flagged_length i h = omega (arith, length-append (flags_from test i 0) (drop i l), length_flags test i 0, length-drop i l)

  pub flagged_all : (i r : ℕ) → r ≤ i → length l ≡ r → i ≤ length l → flagged test i l ≡ flags_from test r 0
  flagged_all i r h e k =
      let same : i ≡ r = omega arith in
      ap (λ (x : List ℕ). flags_from test i 0 ++ x) (drop_of_length-le l {i = i} (omega arith)) ∙ append-nil (flags_from test i 0) ∙ ap (λ (n : ℕ). flags_from test n 0) same

  -- one element more
  pub flagged_set : (i : ℕ) → i < length l → {x : ℕ} → x ≡ bit (test i) → set (flagged test i l) i x ≡ flagged test (i + 1) l
  unfolding flags_from
  flagged_set i h {x} e =
      let more : flags_from test (i + 1) 0 ≡ flags_from test i 0 ++ (bit (test (0 + i)) ∷ []) = flags_append test i 1 0 in
      ap (λ (k : List ℕ). set (flags_from test i 0 ++ k) i x) (drop-cons l i 0 h)
      ∙ set_at (flags_from test i 0) (get_or l i 0) (drop (suc i) l) x i (length_flags test i 0)
      ∙ ap (λ (y : ℕ). flags_from test i 0 ++ y ∷ drop (suc i) l) (e ∙ ap (λ (k : ℕ). bit (test k)) (sym (zero-add i)))
      ∙ sym (append_assoc (flags_from test i 0) (bit (test (0 + i)) ∷ []) (drop (suc i) l))
      ∙ (λ t. sym more t ++ drop (sym (add-one i) t) l)

  -- n more, as one part
  pub flagged_part : (a n : ℕ) → a + n ≤ length l → (other : ℕ → Bool) → ((i : ℕ) → i < n → test (a + i) ≡ other i)
      → {part : List ℕ} → part ≡ flags_from other n 0 → put_mid a n (flagged test a l) part ≡ flagged test (a + n) l
  flagged_part a n h other same {part} e =
      let f = flags_from test a 0 in
      let front : take a (flagged test a l) ≡ f = take_at f (drop a l) a (length_flags test a 0) in
      let back : drop a (flagged test a l) ≡ drop a l = drop_at f (drop a l) a (length_flags test a 0) in
      let mid : part ≡ flags_from test n (0 + a) =
      e ∙ flags_cong other test n 0 (0 + a) (λ i k. rw (zero-add i, zero-add a) (sym (same i k))) in
      (λ t. front t ++ (mid t ++ drop n (back t)))
      ∙ sym (append_assoc f (flags_from test n (0 + a)) (drop n (drop a l)))
      ∙ (λ t. sym (flags_append test a n 0) t ++ drop-drop n a l t)

-- ---- numbers that agree with a test

regroup : (a b c : Bool) → (a && (b && c)) ≡ (a && b && c)
regroup true b c = refl
regroup false b c = refl

beq_not : (b : Bool) → beq (not b) b ≡ false
beq_not true = refl
beq_not false = refl

-- tests that pass as equal are
beq_true : (a b : Bool) → beq a b ≡ true → a ≡ b
beq_true true true e = refl
beq_true true false e = sym e
beq_true false true e = e
beq_true false false e = refl

-- numbers agree exactly where each of them does
pub agrees : (test : ℕ → Bool) (l : List ℕ) (j : ℕ) → ((i : ℕ) → i < length l → nonzero (get_or l i 0) ≡ test (j + i)) → agrees_from test j l ≡ true
unfolding agrees_from
agrees test [] j h = refl
agrees test (x ∷ l) j h =
    rw (rw add-zero at (h 0 (omega arith)), beq_self (test j))
    (agrees test l (suc j) (λ i hi. rw (suc-add, ← add-suc) (h (suc i) (omega arith))))

pub agrees_each : (test : ℕ → Bool) (l : List ℕ) (j : ℕ) → agrees_from test j l ≡ true → (i : ℕ) → i < length l → nonzero (get_or l i 0) ≡ test (j + i)
unfolding agrees_from
agrees_each test [] j e i h = absurd (omega arith)
agrees_each test (x ∷ l) j e zero h = rw add-zero (beq_true (nonzero x) (test j) (and_left _ (agrees_from test (suc j) l) e))
agrees_each test (x ∷ l) j e (suc i) h =
    rw (add-suc, ← suc-add) (agrees_each test l (suc j) (and_right (beq (nonzero x) (test j)) _ e) i (omega arith))

pub agrees_append : (test : ℕ → Bool) (j : ℕ) (a b : List ℕ) → agrees_from test j (a ++ b) ≡ (agrees_from test j a && agrees_from test (j + length a) b)
unfolding agrees_from
agrees_append test j [] b = rw (add-zero j) refl
agrees_append test j (x ∷ a) b =
    rw (agrees_append test (suc j) a b, add-suc j (length a), ← suc-add j (length a))
    (regroup (beq (nonzero x) (test j)) (agrees_from test (suc j) a) (agrees_from test (suc j + length a) b))

pub agrees_cong : (test other : ℕ → Bool) (j k : ℕ) (l : List ℕ) → ((i : ℕ) → i < length l → test (j + i) ≡ other (k + i)) → agrees_from test j l ≡ agrees_from other k l
unfolding agrees_from
agrees_cong test other j k [] same = refl
agrees_cong test other j k (x ∷ l) same =
    let first : test j ≡ other k = rw (add-zero j, add-zero k) at (same 0 (omega arith)) in
    let rest : agrees_from test (suc j) l ≡ agrees_from other (suc k) l =
    agrees_cong test other (suc j) (suc k) l (λ i h. rw (suc-add j i, ← add-suc j i, suc-add k i, ← add-suc k i) (same (suc i) (omega arith))) in
    λ t. beq (nonzero x) (first t) && rest t

module _ (test : ℕ → Bool) (l : List ℕ) where
  pub agrees_none : agrees_from test 0 (take 0 l) ≡ true
  unfolding agrees_from
  agrees_none = refl

  pub agrees_all : (i : ℕ) → length l ≤ i → agrees_from test 0 (take i l) ≡ true → true ≡ agrees_from test 0 l
  agrees_all i h e = sym (ap (agrees_from test 0) (sym (take_all i l h)) ∙ e)

  -- n more, as one part
  module _ (a n : ℕ) (h : a + n ≤ length l) (other : ℕ → Bool) (same : (i : ℕ) → i < n → test (a + i) ≡ other i) where
    part_length : length (take n (drop a l)) ≡ n
    part_length = length-take-le n (drop a l) (omega (arith, length-drop a l))

    shifted : agrees_from test (0 + length (take a l)) (take n (drop a l)) ≡ agrees_from other 0 (take n (drop a l))
    shifted =
        agrees_cong test other (0 + length (take a l)) 0 (take n (drop a l))
        (λ i k. rw (length-take-le a l (omega arith), zero-add a, zero-add i) (same i (omega (arith, part_length))))

    pub agrees_more : agrees_from test 0 (take a l) ≡ true → agrees_from other 0 (take n (drop a l)) ≡ true → agrees_from test 0 (take (a + n) l) ≡ true
    agrees_more before here =
        ap (agrees_from test 0) (take-add a n l) ∙ agrees_append test 0 (take a l) (take n (drop a l)) ∙ (λ t. before t && (shifted ∙ here) t)

    pub agrees_not : agrees_from other 0 (take n (drop a l)) ≡ false → false ≡ agrees_from test 0 l
    agrees_not here =
        sym (ap (agrees_from test 0) (sym (take-append-drop a l))
        ∙ agrees_append test 0 (take a l) (drop a l)
        ∙ ap (λ (b : Bool). agrees_from test 0 (take a l) && b) tail
        ∙ and-false (agrees_from test 0 (take a l)))
      where
        tail : agrees_from test (0 + length (take a l)) (drop a l) ≡ false
        tail =
            ap (agrees_from test (0 + length (take a l))) (sym (take-append-drop n (drop a l)))
            ∙ agrees_append test (0 + length (take a l)) (take n (drop a l)) (drop n (drop a l))
            ∙ ap (λ (b : Bool). b && agrees_from test (0 + length (take a l) + length (take n (drop a l))) (drop n (drop a l))) (shifted ∙ here)

  -- one element more
  module _ (i : ℕ) (h : i < length l) where
    pub agrees_one : agrees_from test 0 (take i l) ≡ true → nonzero (get_or l i 0) ≡ test i → agrees_from test 0 (take (i + 1) l) ≡ true
    unfolding agrees_from
    agrees_one before here =
        agrees_more i 1 (omega arith) (λ k. test (i + k)) (λ k small. refl) before
        (ap (λ (k : List ℕ). agrees_from (λ k. test (i + k)) 0 (take 1 k)) (drop-cons l i 0 h) ∙ single)
      where
        single : agrees_from (λ k. test (i + k)) 0 (get_or l i 0 ∷ []) ≡ true
        single = rw (here, add-zero i, beq_self (test i)) refl

    pub differs_one : nonzero (get_or l i 0) ≡ not (test i) → false ≡ agrees_from test 0 l
    unfolding agrees_from
    differs_one here =
        agrees_not i 1 (omega arith) (λ k. test (i + k)) (λ k small. refl)
        (ap (λ (k : List ℕ). agrees_from (λ k. test (i + k)) 0 (take 1 k)) (drop-cons l i 0 h) ∙ single)
      where
        single : agrees_from (λ k. test (i + k)) 0 (get_or l i 0 ∷ []) ≡ false
        single = rw (here, add-zero i, beq_not (test i)) refl

-- ---- one row more of places in rows of n

pub row_below : (n j rows : ℕ) → j < rows → j * n + n ≤ rows * n
row_below n j rows h = omega (arith, mul-le-mul_right n h)

module _ (n : ℕ) (f : ℕ → ℕ → Bool) (l : List ℕ) (j : ℕ) (h : j * n + n ≤ length l) where
  pub row_length : {s : List ℕ} {d : ℕ} → d ≡ n → s ≡ flagged (in_rows n f) (j * n) l → length (take d (drop (j * n) s)) ≡ n
  row_length {s} {d} k e =
      let long : length s ≡ length l = ap length e ∙ flagged_length (in_rows n f) l (j * n) (omega arith) in
      length-take-le d (drop (j * n) s) (omega (arith, length-drop (j * n) s)) ∙ k

  pub rows_more : {s part : List ℕ} {d r : ℕ} → d ≡ n → r ≡ n → s ≡ flagged (in_rows n f) (j * n) l → part ≡ flags_from (f j) r 0
      → put_mid (j * n) d s part ≡ flagged (in_rows n f) ((j + 1) * n) l
  rows_more {s} {part} {d} {r} k m e p =
      let next : j * n + n ≡ (j + 1) * n = omega arith in
      (λ t. put_mid (j * n) (k t) (e t) part)
      ∙ flagged_part (in_rows n f) l (j * n) n h (f j) (λ i b. row_test_lem n f j i b) (p ∙ ap (λ (x : ℕ). flags_from (f j) x 0) m)
      ∙ ap (λ (x : ℕ). flagged (in_rows n f) x l) next

  pub rows_agree : {d : ℕ} → d ≡ n → agrees_from (in_rows n f) 0 (take (j * n) l) ≡ true → agrees_from (f j) 0 (take d (drop (j * n) l)) ≡ true
      → agrees_from (in_rows n f) 0 (take ((j + 1) * n) l) ≡ true
  rows_agree {d} k before here =
      let next : (j + 1) * n ≡ j * n + n = omega arith in
      ap (λ (x : ℕ). agrees_from (in_rows n f) 0 (take x l)) next
      ∙ agrees_more (in_rows n f) l (j * n) n h (f j) (λ i b. row_test_lem n f j i b) before (ap (λ (x : ℕ). agrees_from (f j) 0 (take x (drop (j * n) l))) (sym k) ∙ here)

  pub rows_differ : {d : ℕ} → d ≡ n → agrees_from (f j) 0 (take d (drop (j * n) l)) ≡ false → false ≡ agrees_from (in_rows n f) 0 l
  rows_differ {d} k here =
      agrees_not (in_rows n f) l (j * n) n h (f j) (λ i b. row_test_lem n f j i b) (ap (λ (x : ℕ). agrees_from (f j) 0 (take x (drop (j * n) l))) (sym k) ∙ here)
