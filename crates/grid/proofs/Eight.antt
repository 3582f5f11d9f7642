-- A list of eight, by its elements.
use Rattle.std.proofs.Common.{◌≡◌, ℕ, zero, suc, ◌<◌, List, [], ◌∷◌, length, map, get_or, refl, sym, ◌∙◌, arith}
use lib.ListN.{length-map}
use lib.Seq.{ext_get_or}
use Rattle.lists.specs.Filled.{filled}
use Rattle.std.proofs.lemmas.List.{get_or-map}
use Rattle.lists.proofs.Filling.{filled_length, get_or_filled}

pub eight : {A : Type 0} (d : A) (l : List A) → length l ≡ 8
    → get_or l 0 d ∷ get_or l 1 d ∷ get_or l 2 d ∷ get_or l 3 d ∷ get_or l 4 d ∷ get_or l 5 d ∷ get_or l 6 d ∷ get_or l 7 d ∷ [] ≡ l
eight d [] e = absurd (omega arith)
eight d (a ∷ []) e = absurd (omega arith)
eight d (a ∷ b ∷ []) e = absurd (omega arith)
eight d (a ∷ b ∷ c ∷ []) e = absurd (omega arith)
eight d (a ∷ b ∷ c ∷ f ∷ []) e = absurd (omega arith)
eight d (a ∷ b ∷ c ∷ f ∷ g ∷ []) e = absurd (omega arith)
eight d (a ∷ b ∷ c ∷ f ∷ g ∷ h ∷ []) e = absurd (omega arith)
eight d (a ∷ b ∷ c ∷ f ∷ g ∷ h ∷ i ∷ []) e = absurd (omega arith)
eight d (a ∷ b ∷ c ∷ f ∷ g ∷ h ∷ i ∷ j ∷ []) e = refl
eight d (a ∷ b ∷ c ∷ f ∷ g ∷ h ∷ i ∷ j ∷ k ∷ l) e = absurd (omega arith)

-- what holds of eight elements holds of each place below 8
pub each : {A : Type 0} (P : A → Type 0) (z a b c d e f g h : A) → P a → P b → P c → P d → P e → P f → P g → P h
    → (q : ℕ) → q < 8 → P (get_or (a ∷ b ∷ c ∷ d ∷ e ∷ f ∷ g ∷ h ∷ []) q z)
each P z a b c d e f g h pa pb pc pd pe pf pg ph zero hq = pa
each P z a b c d e f g h pa pb pc pd pe pf pg ph (suc zero) hq = pb
each P z a b c d e f g h pa pb pc pd pe pf pg ph (suc (suc zero)) hq = pc
each P z a b c d e f g h pa pb pc pd pe pf pg ph (suc (suc (suc zero))) hq = pd
each P z a b c d e f g h pa pb pc pd pe pf pg ph (suc (suc (suc (suc zero)))) hq = pe
each P z a b c d e f g h pa pb pc pd pe pf pg ph (suc (suc (suc (suc (suc zero))))) hq = pf
each P z a b c d e f g h pa pb pc pd pe pf pg ph (suc (suc (suc (suc (suc (suc zero)))))) hq = pg
each P z a b c d e f g h pa pb pc pd pe pf pg ph (suc (suc (suc (suc (suc (suc (suc zero))))))) hq = ph
each P z a b c d e f g h pa pb pc pd pe pf pg ph (suc (suc (suc (suc (suc (suc (suc (suc q)))))))) hq = absurd (omega arith)

-- eight elements set one after the other, each by a function of a place in another list
pub eight_set : {A : Type 0} (d : A) (g : ℕ → A) (f : ℕ → A) (l : List A) (p : List ℕ) → length l ≡ 8 → length p ≡ 8
    → ((q : ℕ) → q < 8 → g q ≡ f (get_or p q 0)) → filled 0 8 g l ≡ map f p
eight_set d g f l p long eight_places same =
    ext_get_or d (filled 0 8 g l) (map f p) (filled_length 0 8 g l ∙ long ∙ sym (length-map p f ∙ eight_places))
    (λ q h.
    let below : q < 8 = omega (arith, filled_length 0 8 g l) in
    get_or_filled 0 8 g l q d (omega arith) (omega arith) (omega arith)
    ∙ same q below
    ∙ sym (get_or-map f p q 0 d (omega arith)))
