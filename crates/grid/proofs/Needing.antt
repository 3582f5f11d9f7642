-- A corner is needed exactly where an active child has it, and it is one of the node's (n + 1)³.
use Rattle.std.proofs.Common.{◌≡◌, ℕ, ◌+◌, ◌<◌, Bool, true, ◌&&◌, get_or, refl, subst, arith}
use Rattle.lists.proofs.Tests.{and_left, and_right}
use Rattle.lists.specs.Ranges.{among}
use Rattle.lists.proofs.Members.{passing, any_at, Place, place, among_at}
use Rattle.grid.specs.Blocks.{cube}
use Rattle.grid.specs.Corners.{octet, needed}
use Rattle.grid.proofs.Octets.{octet_below, octet_length}

-- the child that a needed corner belongs to
pub record Child (n : ℕ) (act : ℕ → Bool) (corner : ℕ) : Type 0 where
  pub child : ℕ
  pub below : child < cube n
  pub active : act child ≡ true
  pub has : Place corner (octet n child)

module _ (n : ℕ) (act : ℕ → Bool) where
  pub needed_child : (corner : ℕ) → needed n act corner ≡ true → Child n act corner
  unfolding needed
  needed_child corner e =
      let p = passing (cube n) (λ c. act c && among corner (octet n c)) e in
      record {
        child = p.at;
        below = p.below;
        active = and_left (act p.at) (among corner (octet n p.at)) p.passes;
        has = place corner (octet n p.at) (and_right (act p.at) (among corner (octet n p.at)) p.passes);
      }

  pub needed_below : (corner : ℕ) → 0 < n → needed n act corner ≡ true → corner < cube (n + 1)
  needed_below corner hn e =
      let c = needed_child corner e in
      let q = c.has in
      subst (λ (x : ℕ). x < cube (n + 1)) q.is (octet_below n c.child hn c.below q.at (omega (arith, q.below, octet_length n c.child)))

  -- each of an active child's eight corners is needed
  pub octet_needed : (c q : ℕ) → c < cube n → act c ≡ true → q < 8 → needed n act (get_or (octet n c) q 0) ≡ true
  unfolding needed
  octet_needed c q hc active hq =
      any_at (cube n) (λ d. act d && among (get_or (octet n c) q 0) (octet n d)) c hc
      (rw (active, among_at (octet n c) q (omega (arith, octet_length n c))) refl)
