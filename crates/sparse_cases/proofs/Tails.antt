-- What a list ends with, once its end is written over.
use Rattle.std.proofs.Common.{◌≡◌, ℕ, ◌+◌, List, [], ◌++◌, drop, take, length, sym, ap, ◌∙◌, arith}
use Rattle.std.proofs.Math.Seq.{drop-append_seam}
use Rattle.std.proofs.Math.ListN.{drop_of_length-le}
use Rattle.std.proofs.lemmas.List.{append-nil, length-drop, length-take-le}
use borrow.Rule.Slice.PartMut.{put_mid}

pub end_written : (a k : ℕ) (xs ys : List ℕ) → length xs ≡ a + k → drop a (put_mid a k xs ys) ≡ ys
end_written a k xs ys long =
    let front : length (take a xs) ≡ a = length-take-le a xs (omega arith) in
    let none : drop k (drop a xs) ≡ [] = drop_of_length-le (drop a xs) (omega (arith, length-drop a xs)) in
    ap (λ n. drop n (put_mid a k xs ys)) (sym front) ∙ drop-append_seam (take a xs) (ys ++ drop k (drop a xs))
    ∙ ap (λ l. ys ++ l) none ∙ append-nil ys
