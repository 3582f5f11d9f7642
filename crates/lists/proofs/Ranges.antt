-- The numbers below n that pass a test: whether there is one, how many there are, and their list: its length, its members, and that it ascends.
use mathlib.Core.Path.{◌≡◌, refl, sym, ap, ◌∙◌}
use mathlib.Core.Bool.{Bool, true, false, cond, ◌&&◌, ◌||◌, or-false}
use mathlib.Core.List.{List, [], ◌∷◌, ◌++◌, append-nil}
use Prim.Native.Nat.{ℕ, zero, suc, ◌+◌, ◌≤◌, ◌<◌}
use native.Mathlib.Nat.{not-suc-le-zero, add-zero}
use native.Mathlib.Omega.{arith}
use lib.Dec.{eqb, ltb}
use lib.ListN.{length, get_or, length-append}
use borrow.Author.Tests.{ltb-true, ltb-false, lt-ltb, le-ltb, eqb-true, eqb-false}
use Rattle.lists.specs.Sums.{sum_from, bit}
use Rattle.lists.specs.Ranges.{any_below, count_below, list_below, among}
use Rattle.lists.proofs.Tables.{get_or_before, get_or_last}
use Rattle.lists.proofs.Sums.{sum_below_snoc, sum_below_cong, sum_bits_most}

-- ---- only the numbers below n count

pub any_below_none : (n : ℕ) (test : ℕ → Bool) → ((i : ℕ) → i < n → test i ≡ false) → any_below n test ≡ false
unfolding any_below
any_below_none zero test none = refl
any_below_none (suc n) test none =
    rw (any_below_none n test (λ i h. none i (omega arith))) (none n (omega arith))

pub count_below_cong : (n : ℕ) (test other : ℕ → Bool) → ((i : ℕ) → i < n → test i ≡ other i) → count_below n test ≡ count_below n other
count_below_cong n test other same = sum_below_cong n (λ i. bit (test i)) (λ i. bit (other i)) (λ i below. ap bit (same i below))

pub list_below_cong : (n : ℕ) (test other : ℕ → Bool) → ((i : ℕ) → i < n → test i ≡ other i) → list_below n test ≡ list_below n other
unfolding list_below
list_below_cong zero test other same = refl
list_below_cong (suc n) test other same =
    let rest : list_below n test ≡ list_below n other = list_below_cong n test other (λ i h. same i (omega arith)) in
    let last : test n ≡ other n = same n (omega arith) in
    λ i. rest i ++ cond (last i) (n ∷ []) []

pub count_below_le : (n : ℕ) (test : ℕ → Bool) → count_below n test ≤ n
count_below_le n test = sum_bits_most test n

-- ---- the list

module _ (test : ℕ → Bool) where
  -- one more number, which passes or not
  pub list_below_more : (n : ℕ) → test n ≡ true → list_below (suc n) test ≡ list_below n test ++ (n ∷ [])
  unfolding list_below
  list_below_more n passes = rw passes refl

  pub list_below_skip : (n : ℕ) → test n ≡ false → list_below (suc n) test ≡ list_below n test
  unfolding list_below
  list_below_skip n fails = rw fails (append-nil (list_below n test))

  pub count_below_more : (n : ℕ) → test n ≡ true → count_below (suc n) test ≡ count_below n test + 1
  count_below_more n passes = sum_below_snoc (λ i. bit (test i)) n ∙ ap (λ (b : Bool). count_below n test + bit b) passes

  pub count_below_skip : (n : ℕ) → test n ≡ false → count_below (suc n) test ≡ count_below n test
  count_below_skip n fails =
      sum_below_snoc (λ i. bit (test i)) n ∙ ap (λ (b : Bool). count_below n test + bit b) fails ∙ add-zero (count_below n test)

  pub length_list_below : (n : ℕ) → length (list_below n test) ≡ count_below n test
  unfolding list_below sum_from
  length_list_below zero = refl
  length_list_below (suc n) = one (test n) refl (length_list_below n)
    where
      one : (b : Bool) → test n ≡ b → length (list_below n test) ≡ count_below n test → length (list_below (suc n) test) ≡ count_below (suc n) test
      one true t before =
          rw (list_below_more n t, count_below_more n t) (omega (arith, length-append (list_below n test) (n ∷ [])))
      one false t before = rw (list_below_skip n t, count_below_skip n t) before

-- ---- membership

pub among_append : (x : ℕ) (l m : List ℕ) → among x (l ++ m) ≡ (among x l || among x m)
unfolding among
among_append x [] m = refl
among_append x (y ∷ l) m = one (eqb x y) (among_append x l m)
  where
    one : (b : Bool) → among x (l ++ m) ≡ (among x l || among x m) → (b || among x (l ++ m)) ≡ (b || among x l || among x m)
    one true e = refl
    one false e = e

among_one : (x y : ℕ) → among x (y ∷ []) ≡ eqb x y
unfolding among
among_one x y = or-false (eqb x y)

pub among_list_below : (n : ℕ) (test : ℕ → Bool) (x : ℕ) → among x (list_below n test) ≡ (ltb x n && test x)
unfolding among list_below
among_list_below zero test x = rw (le-ltb x 0 (omega arith)) refl
among_list_below (suc n) test x = one (test n) refl (among_list_below n test x)
  where
    here : (b e : Bool) → ltb x n ≡ b → eqb x n ≡ e → test n ≡ true → (ltb x n && test x || eqb x n) ≡ (ltb x (suc n) && test x)
    here true true t u passes = let h = ltb-true x n t in let q = eqb-true x n u in absurd (omega arith)
    here true false t u passes =
        let h = ltb-true x n t in
        rw (t, u, lt-ltb x (suc n) (omega arith)) (or-false (test x))
    here false true t u passes =
        let q = eqb-true x n u in
        rw (t, u, lt-ltb x (suc n) (omega arith)) (sym passes ∙ ap test (sym q))
    here false false t u passes =
        let h = ltb-false x n t in
        let more : suc n ≤ x = over x n h (eqb-false x n u) in
        rw (t, u, le-ltb x (suc n) more) refl
      where
        over : (x n : ℕ) → n ≤ x → (x ≡ n → ⊥) → suc n ≤ x
        over x n h ne = omega arith

    gone : (b e : Bool) → ltb x n ≡ b → eqb x n ≡ e → test n ≡ false → (ltb x n && test x) ≡ (ltb x (suc n) && test x)
    gone true e t u fails = let h = ltb-true x n t in rw (t, lt-ltb x (suc n) (omega arith)) refl
    gone false true t u fails =
        let q = eqb-true x n u in
        rw (t, lt-ltb x (suc n) (omega arith)) (sym fails ∙ ap test (sym q))
    gone false false t u fails =
        let h = ltb-false x n t in
        let ne = eqb-false x n u in
        rw (t, le-ltb x (suc n) (omega arith)) refl

    one : (b : Bool) → test n ≡ b → among x (list_below n test) ≡ (ltb x n && test x) → among x (list_below (suc n) test) ≡ (ltb x (suc n) && test x)
    one true t before =
        rw (list_below_more test n t, among_append x (list_below n test) (n ∷ []), before, among_one x n)
        (here (ltb x n) (eqb x n) refl refl t)
    one false t before =
        rw (list_below_skip test n t, before)
        (gone (ltb x n) (eqb x n) refl refl t)

-- ---- order: each element is below n, and a later one is greater

module _ (test : ℕ → Bool) where
  element_below : (n p : ℕ) → p < count_below n test → get_or (list_below n test) p 0 < n
  unfolding sum_from
  element_below zero p h = absurd (not-suc-le-zero h)
  element_below (suc n) p h = one (test n) refl (ltb p (count_below n test)) refl (λ h. element_below n p h)
    where
      one : (b : Bool) → test n ≡ b → (e : Bool) → ltb p (count_below n test) ≡ e
          → (p < count_below n test → get_or (list_below n test) p 0 < n) → get_or (list_below (suc n) test) p 0 < suc n
      one true t true u before =
          let h = ltb-true p (count_below n test) u in
          rw (list_below_more test n t, get_or_before (list_below n test) n p 0 (omega (arith, length_list_below test n)))
          (omega (arith, before h))
      one true t false u before =
          let past = ltb-false p (count_below n test) u in
          let one_more : count_below (suc n) test ≡ count_below n test + 1 = count_below_more test n t in
          let last : length (list_below n test) ≡ p = omega (arith, length_list_below test n) in
          rw (list_below_more test n t, get_or_last (list_below n test) n p 0 last) (omega arith)
      one false t e u before =
          rw (list_below_skip test n t) (omega (arith, before (omega (arith, count_below_skip test n t))))

  pub ascending : (n p q : ℕ) → p < q → q < count_below n test → get_or (list_below n test) p 0 < get_or (list_below n test) q 0
  unfolding sum_from
  ascending zero p q less h = absurd (not-suc-le-zero h)
  ascending (suc n) p q less h = one (test n) refl (ltb q (count_below n test)) refl (λ h. ascending n p q less h)
    where
      one : (b : Bool) → test n ≡ b → (e : Bool) → ltb q (count_below n test) ≡ e
          → (q < count_below n test → get_or (list_below n test) p 0 < get_or (list_below n test) q 0)
          → get_or (list_below (suc n) test) p 0 < get_or (list_below (suc n) test) q 0
      one true t true u before =
          let h = ltb-true q (count_below n test) u in
          let long = length_list_below test n in
          rw (list_below_more test n t, get_or_before (list_below n test) n p 0 (omega arith), get_or_before (list_below n test) n q 0 (omega arith))
          (before h)
      one true t false u before =
          let past = ltb-false q (count_below n test) u in
          let long = length_list_below test n in
          let one_more : count_below (suc n) test ≡ count_below n test + 1 = count_below_more test n t in
          let last : length (list_below n test) ≡ q = omega arith in
          rw (list_below_more test n t, get_or_before (list_below n test) n p 0 (omega arith), get_or_last (list_below n test) n q 0 last)
          (element_below n p (omega arith))
      one false t e u before =
          rw (list_below_skip test n t) (before (omega (arith, count_below_skip test n t)))

  -- no element stands twice
  pub no_repeat : (n p q : ℕ) → p < count_below n test → q < count_below n test → get_or (list_below n test) p 0 ≡ get_or (list_below n test) q 0 → p ≡ q
  no_repeat n p q hp hq same = one (ltb p q) (ltb q p) refl refl
    where
      one : (a b : Bool) → ltb p q ≡ a → ltb q p ≡ b → p ≡ q
      one true b t u = let h = ascending n p q (ltb-true p q t) hq in absurd (omega arith)
      one false true t u = let h = ascending n q p (ltb-true q p u) hp in absurd (omega arith)
      one false false t u = omega (arith, ltb-false p q t, ltb-false q p u)
