-- A model's 64 places: the parts that are read, and the constants after them.
use Rattle.std.proofs.Common.{◌≡◌, ℕ, suc, ◌+◌, ◌*◌, ◌<◌, min, List, ◌++◌, drop, take, length, slice_set, replicate, ap, ◌∙◌, arith}
use Rattle.std.proofs.lemmas.List.{drop-replicate, take_more_set}
use lib.Seq.{drop-drop}
use Rattle.float.specs.Zero.{plus_zero}
use Rattle.model.specs.declared.Part.TheVariants.{Constant}
use Rattle.model.specs.declared.ModelComponent.{ModelComponent}
use Rattle.cases.specs.Parts.{component, model_at, part_at, parts_at}

pub one_more : (xs : List ℕ) (places : List ModelComponent) (i : ℕ)
    → i < length places → take i places ≡ parts_at xs i
    → take (i + 1) (slice_set places i (component (part_at (drop (5 * i) xs) 0))) ≡ parts_at xs (i + 1)
unfolding parts_at
one_more xs places i below so_far = let next : i + 1 ≡ suc i = omega arith in take_more_set places i _ below ∙ rw (so_far, next)

pub five_more : (xs left now : List ℕ) (i : ℕ) → now ≡ drop 5 left → left ≡ drop (5 * i) xs → now ≡ drop (5 * (i + 1)) xs
five_more xs left now i last so_far =
    let more : 5 * i + 5 ≡ 5 * (i + 1) = omega arith in
    last ∙ rw so_far (drop-drop 5 (5 * i) xs) ∙ ap (λ k. drop k xs) more

pub whole : (xs : List ℕ) (given count k : ℕ) (read : List ModelComponent)
    → k ≡ min given 64 → read ≡ parts_at xs k
    → record { parts = read ++ drop k (replicate 64 (component (Constant plus_zero))); count = count } ≡ model_at xs given count
whole xs given count k read least is = rw (is, drop-replicate k 64 (component (Constant plus_zero)), least)
