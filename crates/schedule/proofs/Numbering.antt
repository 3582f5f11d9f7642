-- At every stop of a job its leaves are numbered from 0 in child order, where no constant has the kind of a leaf.
use Prim.Native.Nat.{ℕ, zero, suc, ◌+◌, ◌-◌, ◌*◌, ◌≤◌, ◌<◌}
use mathlib.Core.Path.{◌≡◌, refl, sym, ap, ap₂, ◌∙◌}
use mathlib.Core.Bool.{Bool, true, false}
use mathlib.Core.List.{List}
use native.Mathlib.Omega.{arith}
use lib.ListN.{get_or}
use lib.Ieee.{Float}
use borrow.Author.Tests.{eq-eqb, ne_eqb}
use Rattle.lists.specs.Sums.{sum_from, bit}
use Rattle.lists.proofs.Sums.{bit_most}
use Rattle.grid.specs.declared.Kind.{Kind}
use Rattle.grid.specs.declared.Verdict.{Verdict}
use Rattle.grid.specs.Kinds.{kind_number}
use Rattle.grid.specs.declared.Verdict.TheVariants.{Constant, Leaf}
use Rattle.input.specs.declared.Lengths.{Lengths}
use Rattle.schedule.specs.Plan.{Plan}
use Rattle.schedule.specs.Schedule.{decision}
use Rattle.schedule.specs.Memory.{State}
use Rattle.schedule.specs.Totals.{count_before, becomes_leaf, leaves_before}
use Rattle.schedule.specs.Opened.{active_at, state_at}
use Rattle.schedule.specs.Finished.{LongEnough, Child, child_at, finished_child}
use Rattle.schedule.specs.Numbering.{numbered, numbers_leaves}
use Rattle.schedule.proofs.Sums.{before_next, before_node}
use Rattle.schedule.proofs.Finished.{Decided, decided_at}

-- one child more, at place j
module _ (kinds places : List ℕ) (j n : ℕ) where
  skip : (get_or kinds j 0 ≡ 2 → ⊥) → numbered kinds places (suc j) n ≡ numbered kinds places j n
  unfolding numbered
  skip other = rw (ne_eqb (get_or kinds j 0) 2 other) refl

  take : get_or kinds j 0 ≡ 2 → get_or places j 0 + 1 ≡ n → numbered kinds places (suc j) n ≡ numbered kinds places j (n - 1)
  unfolding numbered
  take leaf next = rw (eq-eqb (get_or kinds j 0) 2 leaf, eq-eqb (get_or places j 0 + 1) n next) refl

-- no leaf among r children more
skip_all : (kinds places : List ℕ) (j n : ℕ) → ((i : ℕ) → j ≤ i → get_or kinds i 0 ≡ 2 → ⊥)
    → (r : ℕ) → numbered kinds places (r + j) n ≡ numbered kinds places j n
skip_all kinds places j n other zero = ap (λ (i : ℕ). numbered kinds places i n) (let e : 0 + j ≡ j = omega arith in e)
skip_all kinds places j n other (suc r) =
    let place : suc r + j ≡ suc (r + j) = omega arith in
    ap (λ (i : ℕ). numbered kinds places i n) place
    ∙ skip kinds places (r + j) n (other (r + j) (omega arith))
    ∙ skip_all kinds places j n other r

module _ (P : Plan) (other : (v c : ℕ) (k : Kind) (x : Float) → decision P v c ≡ Constant k x → kind_number k ≡ 2 → ⊥) where
  module _ (s : State) (at : Decided P s) where
    -- the children before child c of node v are numbered
    abbrev Before : ℕ → ℕ → Type 0
    Before v c = numbered s.memory.kinds s.memory.places (v * P.children + c) (leaves_before P v c) ≡ true

    -- the child after them is numbered too, if it is finished
    next : (v c : ℕ) → c < P.children → v * P.children + c < at.node * P.children + at.child → Before v c → Before v (suc c)
    next v c hc done so_far = one (P.active v c) (decision P v c) refl refl (at.children.0 v c hc done)
      where
        ks : List ℕ
        ks = s.memory.kinds

        ps : List ℕ
        ps = s.memory.places

        j : ℕ
        j = v * P.children + c

        place : v * P.children + suc c ≡ suc j
        place = omega arith

        same : leaves_before P v (suc c) ≡ leaves_before P v c → (get_or ks j 0 ≡ 2 → ⊥) → Before v (suc c)
        same count not-two = ap₂ (numbered ks ps) place count ∙ skip ks ps j (leaves_before P v c) not-two ∙ so_far

        one : (a : Bool) (d : Verdict) → P.active v c ≡ a → decision P v c ≡ d
            → child_at s.memory j ≡ finished_child (leaves_before P v c) a d → Before v (suc c)
        one false d on is child =
            let kind : get_or ks j 0 ≡ 0 = ap (λ (x : Child). x.kind) child in
            let none : becomes_leaf P v c ≡ false = rw on refl in
            same (omega (arith, before_next P (becomes_leaf P) v c, ap bit none)) (λ two. omega (arith, kind, two))
        one true (Constant k x) on is child =
            let kind : get_or ks j 0 ≡ kind_number k = ap (λ (x : Child). x.kind) child in
            let none : becomes_leaf P v c ≡ false = rw (on, is) refl in
            same (omega (arith, before_next P (becomes_leaf P) v c, ap bit none)) (λ two. other v c k x is (sym kind ∙ two))
        one true Leaf on is child =
            let kind : get_or ks j 0 ≡ 2 = ap (λ (x : Child). x.kind) child in
            let ordinal : get_or ps j 0 ≡ leaves_before P v c = ap (λ (x : Child). x.place) child in
            let some : becomes_leaf P v c ≡ true = rw (on, is) refl in
            let count : leaves_before P v (suc c) ≡ leaves_before P v c + 1 = omega (arith, before_next P (becomes_leaf P) v c, ap bit some) in
            let less : leaves_before P v (suc c) - 1 ≡ leaves_before P v c = omega (arith, count) in
            ap (λ (i : ℕ). numbered ks ps i (leaves_before P v (suc c))) place
            ∙ take ks ps j (leaves_before P v (suc c)) kind (omega (arith, ordinal, count))
            ∙ ap (numbered ks ps j) less
            ∙ so_far

    node : (v c : ℕ) → c ≤ P.children → v * P.children + c ≤ at.node * P.children + at.child → Before v 0 → Before v c
    node v zero hc le first = first
    node v (suc c) hc le first = next v c hc (omega arith) (node v c (omega arith) (omega arith) first)

    to : (v : ℕ) → v * P.children ≤ at.node * P.children + at.child → Before v 0
    unfolding numbered count_before sum_from
    to zero le = let none : 0 * P.children + 0 ≡ 0 = omega arith in ap (λ (j : ℕ). numbered s.memory.kinds s.memory.places j 0) none
    to (suc v) le =
        let place : suc v * P.children + 0 ≡ v * P.children + P.children = omega arith in
        ap₂ (numbered s.memory.kinds s.memory.places) place (before_node P (becomes_leaf P) v)
        ∙ node v P.children (omega arith) (omega arith) (to v (omega arith))

    -- the finished children, and after them no leaf
    decided_numbered : numbers_leaves P s.memory s.leaves ≡ true
    decided_numbered =
        let d = at.node * P.children + at.child in
        let all : P.nodes * P.children ≡ (P.nodes * P.children - d) + d = omega (arith, at.below) in
        ap₂ (numbered s.memory.kinds s.memory.places) all at.leaves
        ∙ skip_all s.memory.kinds s.memory.places d (leaves_before P at.node at.child) (λ i le two.
        let kind : get_or s.memory.kinds i 0 ≡ bit (active_at P i) = ap (λ (x : Child). x.kind) (at.children.1 i le) in
        omega (arith, kind, two, bit_most (active_at P i))) (P.nodes * P.children - d)
        ∙ node at.node at.child at.within (omega arith) (to at.node (omega arith))

  -- LEAVES ARE NUMBERED AT EVERY STOP: after any number of evaluations the kinds equal to 2 are as many as the leaves so far, and their
  -- places are 0, 1, 2, .. in child order
  pub numbered_at : (l : Lengths) → LongEnough P l → (k : ℕ) → numbers_leaves P (state_at P l k).memory (state_at P l k).leaves ≡ true
  numbered_at l long k = decided_numbered (state_at P l k) (decided_at P l long k)
