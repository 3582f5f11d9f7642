-- Corners evaluated in rows: what one row adds to those before it.
use mathlib.Core.Path.{◌≡◌, refl, sym, ap, ◌∙◌, subst}
use mathlib.Core.Bool.{Bool, true}
use mathlib.Core.List.{List}
use mathlib.Core.Logic.{◌⊎◌, ⊎_elim}
use Prim.Native.Nat.{ℕ, zero, suc, min, ◌+◌, ◌-◌, ◌≤◌, ◌<◌}
use native.Mathlib.Omega.{arith}
use lib.ListN.{length, get_or, take}
use lib.Ieee.{Float}
use Rattle.lists.specs.Sums.{sum_from, bit}
use Rattle.rows.specs.Inner.CornerRun.{needed_from, evaluated_from, CornerRun}
use Rattle.rows.specs.Inner.Gathered.{Gathered}
use Rattle.rows.specs.Inner.Written.{written}
use Rattle.rows.proofs.Writing.{evaluated_written, evaluated_add, listed_below}

-- first r terms, then s more
sum_from_add : (f : ℕ → ℕ) (r s i : ℕ) → sum_from f (r + s) i ≡ sum_from f r i + sum_from f s (i + r)
unfolding sum_from
sum_from_add f zero s i =
    let here : i + 0 ≡ i = omega arith in
    let all : 0 + s ≡ s = omega arith in
    rw (here, all) (omega arith)
sum_from_add f (suc r) s i =
    let here : i + suc r ≡ suc i + r = omega arith in
    let all : suc r + s ≡ suc (r + s) = omega arith in
    rw (here, all) (omega (arith, sum_from_add f r s (suc i)))

-- a run on its way: what `CornerRun` says but for where it stops
pub record Ran (test : ℕ → Bool) (value : ℕ → Float) (i b next left : ℕ) (before after : List Float) : Type 0 where
  pub from : i ≤ next
  pub spent : needed_from test (next - i) i + left ≡ b
  pub written : after ≡ evaluated_from test value (next - i) i before

module _ (test : ℕ → Bool) (value : ℕ → Float) where
  pub ran_none : (i b : ℕ) (l : List Float) → Ran test value i b i b l l
  unfolding sum_from evaluated_from
  ran_none i b l =
      let none : i - i ≡ 0 = omega arith in
      record { from = omega arith; spent = rw none (omega arith); written = rw none refl }

  -- the corners up to `stop`, of which `count` are needed
  pub ran_more : {i b next left stop count rest : ℕ} {before after more : List Float} → Ran test value i b next left before after
      → next ≤ stop → needed_from test (stop - next) next ≡ count → count + rest ≡ left
      → more ≡ evaluated_from test value (stop - next) next after → Ran test value i b stop rest before more
  ran_more {i} {b} {next} {left} {stop} {count} {rest} {before} {after} {more} r h counted spends more-is =
      let from = r.from in
      let parts : stop - i ≡ (next - i) + (stop - next) = omega arith in
      let here : i + (next - i) ≡ next = omega arith in
      let sum : needed_from test (stop - i) i ≡ needed_from test (next - i) i + count =
      rw parts (sum_from_add (λ c. bit (test c)) (next - i) (stop - next) i ∙ rw (here, counted) refl) in
      let values : evaluated_from test value (stop - i) i before ≡ evaluated_from test value (stop - next) next (evaluated_from test value (next - i) i before) =
      rw parts (evaluated_add value test (next - i) (stop - next) i before ∙ rw here refl) in
      record {
        from = omega arith;
        spent = omega (arith, r.spent);
        written = more-is ∙ ap (evaluated_from test value (stop - next) next) r.written ∙ sym values;
      }

-- ---- one row: the corners that a search listed

-- each of them is a corner of the node
pub gathered_below : (test : ℕ → Bool) {total next most count stop : ℕ} {list : List ℕ} → Gathered test total next most count stop list
    → (q : ℕ) → q < length (take count list) → get_or (take count list) q 0 < total
gathered_below test {total} {next} {most} {count} {stop} {list} g q h =
    let from = g.found.from in
    let within = g.within in
    let listed = g.found.listed in
    subst (λ l. get_or l q 0 < total) (sym listed)
    (omega (arith, listed_below test (stop - next) next q (subst (λ l. q < length l) listed h)))

module _ (test : ℕ → Bool) (value : ℕ → Float) {total i b next left stop most count : ℕ} {list : List ℕ} {before after : List Float}
    (r : Ran test value i b next left before after) (g : Gathered test total next most count stop list) (m : most ≡ min left 64) where
  -- the run goes on by their values
  pub row_ran : {more : List Float} → more ≡ written value (take count list) after → Ran test value i b stop (left - count) before more
  row_ran e =
      let few = g.few in
      ran_more test value r g.found.from g.found.counted (omega arith)
      (e ∙ ap (λ l. written value l after) g.found.listed ∙ sym (evaluated_written value test (stop - next) next after))

  -- it may end there, for one of two reasons
  pub row_ended : {more : List Float} → more ≡ written value (take count list) after
      → (stop ≡ total) ⊎ ((left - count ≡ 0) × (test stop ≡ true)) → CornerRun test value total i b stop (left - count) before more
  row_ended e why =
      let ran = row_ran e in
      record { from = ran.from; within = g.within; spent = ran.spent; written = ran.written; stops = why }

  -- and where it has neither passed the last corner nor used the budget up, the row was not empty
  pub row_less : (stop ≡ total → ⊥) → (left - count ≡ 0 → ⊥) → left - count < left
  row_less on some = ⊎_elim (λ e. absurd (on e)) (λ w. let full = w.0 in omega arith) g.stops
