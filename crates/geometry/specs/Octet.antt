-- The eight corners of a cell in octet order: round the lower face, then round the upper (rule B9).
use Rattle.std.specs.Prelude.{ℕ, ◌+◌, List, [], ◌∷◌, map}
use Rattle.geometry.specs.declared.Vec3i.{Vec3i}
use Rattle.geometry.specs.Values.{vec3i}
use Rattle.geometry.specs.Index.{place_of}

-- how far each corner is from the first, along i, j and k (rule B9)
unfoldable pub octet_order : List Vec3i
octet_order =
    vec3i 0 0 0 ∷ vec3i 1 0 0 ∷ vec3i 1 1 0 ∷ vec3i 0 1 0 ∷ vec3i 0 0 1 ∷ vec3i 1 0 1 ∷ vec3i 1 1 1 ∷ vec3i 0 1 1 ∷ []

-- the places of a cell's eight corners in a grid of nx by ny points (rules B5 and B9)
unfoldable pub octet_places : (nx ny : ℕ) → Vec3i → List ℕ
octet_places nx ny c = map (λ o. place_of (c.i + o.i) (c.j + o.j) (c.k + o.k) nx ny) octet_order
