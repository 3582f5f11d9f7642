-- A sum over the places of a grid, of products of a value for each axis, is the product of the axes' sums, and so is a count of places.
use Rattle.std.proofs.Common.{◌≡◌, ℕ, ◌*◌, ◌/◌, ◌%◌, Bool, ◌&&◌, ap, ◌∙◌}
use Rattle.lists.specs.Sums.{sum_below, bit}
use Rattle.lists.specs.Ranges.{count_below}
use Rattle.lists.proofs.Sums.{sum_below_cong, sum_rows, bit_product}
use Rattle.geometry.specs.Index.{indices_of}

pub sum_places : (nx ny nz : ℕ) (f h k : ℕ → ℕ)
    → sum_below (λ p. let v = indices_of p nx ny in f v.i * h v.j * k v.k) (nx * ny * nz)
    ≡ sum_below f nx * sum_below h ny * sum_below k nz
unfolding indices_of
sum_places nx ny nz f h k =
    sum_rows (nx * ny) nz (λ q. f (q % nx) * h (q / nx)) k
    ∙ ap (λ (x : ℕ). x * sum_below k nz) (sum_rows nx ny f h)

pub count_places : (nx ny nz : ℕ) (a b c : ℕ → Bool)
    → count_below (nx * ny * nz) (λ p. let v = indices_of p nx ny in a v.i && b v.j && c v.k)
    ≡ count_below nx a * count_below ny b * count_below nz c
count_places nx ny nz a b c =
    sum_below_cong (nx * ny * nz)
    (λ p. let v = indices_of p nx ny in bit (a v.i && b v.j && c v.k))
    (λ p. let v = indices_of p nx ny in bit (a v.i) * bit (b v.j) * bit (c v.k))
    (λ p below. let v = indices_of p nx ny in bit_product (a v.i) (b v.j) (c v.k))
    ∙ sum_places nx ny nz (λ i. bit (a i)) (λ j. bit (b j)) (λ k. bit (c k))
