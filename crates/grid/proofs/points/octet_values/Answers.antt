-- Each place is within the corners, and one value more is read.
use Rattle.std.proofs.Common.{◌≡◌, ℕ, ◌∙◌, map, length, replicate, get_or, refl, sym, ap, arith}
use lib.Ieee.{nan}
use Rattle.lists.specs.Filled.{filled}
use Rattle.std.proofs.lemmas.List.{get_or_default}
use Rattle.lists.proofs.Filling.{filled_none, front_store}
use Rattle.float.specs.Zero.{plus_zero}
use Rattle.grid.specs.Inner.Octets.{octet_values}
use Rattle.grid.proofs.Eight.{eight_set}
use Rattle.grid.proofs.Octets.{octet_inside, octet_length}
use Rattle.grid.proofs.points.octet_values.Goals as goal

pub loop-q-init : goal.loop-q-init
loop-q-init c = sym (filled_none 0 _ _)

pub offset_bounds-values-places : goal.offset_bounds-values-places
offset_bounds-values-places c =
    let p = c.requires in
    omega (arith, octet_inside _ c.loop-q.q _ _ _ c.octet-places.ensures p.0 p.2 p.3 (omega arith))

pub bounds-values-places : goal.bounds-values-places
bounds-values-places c = let p = c.requires in octet_inside _ c.loop-q.q _ _ _ c.octet-places.ensures p.0 p.2 p.3 (omega arith)

pub loop-q-preserved : goal.loop-q-preserved
loop-q-preserved c = front_store c.loop-q.q _ _ c.loop-q.invariant refl

pub returns : goal.returns
unfolding octet_values
returns c =
    let values = c.args.values.now in
    let places = c.octet-places.result in
    let p = c.requires in
    let last : c.loop-q.q ≡ 8 = omega arith in
    let long : length places ≡ 8 = ap length c.octet-places.ensures ∙ octet_length _ _ in
    c.loop-q.invariant
    ∙ ap (λ (n : ℕ). filled 0 n (λ q. get_or values (get_or places q 0) nan) (replicate 8 plus_zero)) last
    ∙ eight_set nan _ (λ q. get_or values q plus_zero) (replicate 8 plus_zero) places refl long
    (λ q h. get_or_default values (get_or places q 0) nan plus_zero (octet_inside _ q _ _ _ c.octet-places.ensures p.0 p.2 p.3 h))
    ∙ ap (map (λ q. get_or values q plus_zero)) c.octet-places.ensures
