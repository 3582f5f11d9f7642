-- Part lines gathered into a model's arrays, one after the other.
use mathlib.Core.Path.{◌≡◌, refl, sym, ap, ◌∙◌}
use Prim.Native.Nat.{ℕ, zero, suc, ◌+◌, ◌-◌, ◌≤◌, ◌<◌}
use native.Mathlib.Omega.{arith}
use mathlib.Core.List.{List, [], ◌∷◌, ◌++◌, map, append-nil}
use lib.ListN.{length, set, replicate, length-append}
use Rattle.input.specs.declared.Band.{Band}
use Rattle.grid.specs.declared.Grid.{Grid}
use Rattle.model.specs.declared.ModelComponent.{ModelComponent}
use Rattle.model.specs.declared.Part.{Part}
use Rattle.float.specs.Zero.{plus_zero}
use Rattle.model.specs.declared.Part.TheVariants.{Constant}
use Rattle.job_text.specs.Parts.{part_from, pattern_from, Spelt, none, part, read_part}
use Rattle.job_text.specs.Reading.{Parts, off_at, parts, with_part, on_part, read_parts, component_of, components_of, patterns_of, off_reading, read_job}
use Rattle.job_text.specs.Inner.TextAnswers.{model_reading}

-- ---- an array that holds a list's values at its front

padded_more : {A B : Type 0} (f : A → B) (d : B) (ss : List A) (s : A) (n : ℕ) → length ss < n
    → set (map f ss ++ replicate (n - length ss) d) (length ss) (f s) ≡ map f (ss ++ (s ∷ [])) ++ replicate (n - length (ss ++ (s ∷ []))) d
padded_more f d [] s zero more = absurd (omega arith)
padded_more f d [] s (suc n) more =
    let all : suc n - 0 ≡ suc n = omega arith in
    let rest : suc n - 1 ≡ n = omega arith in
    rw (all, rest)
padded_more f d (a ∷ ss) s zero more = absurd (omega arith)
padded_more {B = B} f d (a ∷ ss) s (suc n) more =
    let less : suc n - suc (length ss) ≡ n - length ss = omega arith in
    let next : suc n - suc (length (ss ++ (s ∷ []))) ≡ n - length (ss ++ (s ∷ [])) = omega arith in
    rw (less, next) (ap (λ (l : List B). f a ∷ l) (padded_more f d ss s n (omega arith)))

-- ---- part lines in front of others

unfoldable pub with_parts : List Spelt → Parts → Parts
with_parts [] p = p
with_parts (s ∷ ss) p = with_part s (with_parts ss p)

pub with_off : (ss : List Spelt) (n : ℕ) → with_parts ss (off_at n) ≡ off_at n
unfolding with_parts with_part
with_off [] n = refl
with_off (s ∷ ss) n = rw (with_off ss n)

with_all : (ss ts : List Spelt) → with_parts ss (parts ts) ≡ parts (ss ++ ts)
unfolding with_parts with_part
with_all [] ts = refl
with_all (s ∷ ss) ts = rw (with_all ss ts)

pub with_more : (ss : List Spelt) (s : Spelt) (p : Parts) → with_parts (ss ++ (s ∷ [])) p ≡ with_parts ss (with_part s p)
unfolding with_parts
with_more [] s p = refl
with_more (a ∷ ss) s p = rw (with_more ss s p)

-- ---- one line more

pub parts_turn : (r n : ℕ) (t : List ℕ) → 0 < length t → read_parts (suc r) n t ≡ on_part n (read_part t) (read_parts r (suc n))
unfolding read_parts
parts_turn r n [] more = absurd (omega arith)
parts_turn r n (b ∷ t) more = refl

pub parts_full : (n : ℕ) (t : List ℕ) → 0 < length t → read_parts 0 n t ≡ off_at n
unfolding read_parts
parts_full n [] more = absurd (omega arith)
parts_full n (b ∷ t) more = refl

pub parts_end : (r n : ℕ) (t : List ℕ) → length t ≡ 0 → read_parts r n t ≡ parts []
unfolding read_parts
parts_end zero n [] empty = refl
parts_end (suc r) n [] empty = refl
parts_end zero n (b ∷ t) empty = absurd (omega arith)
parts_end (suc r) n (b ∷ t) empty = absurd (omega arith)

-- the part lines that are passed are in the arrays, and with those that are left they are the text's
pub record Gathered (text : List ℕ) (components : List ModelComponent) (patterns rest : List ℕ) (count : ℕ) : Type 0 where
  pub spelts : List Spelt
  pub number : length spelts ≡ count
  pub most : count ≤ 64
  pub parts : components ≡ components_of spelts
  pub bits : patterns ≡ patterns_of spelts
  pub left : read_parts 64 5 text ≡ with_parts spelts (read_parts (64 - count) (5 + count) rest)

pub gathered_first : (text : List ℕ) → Gathered text (replicate 64 (record { part = Constant plus_zero })) (replicate 64 0) text 0
unfolding with_parts
gathered_first text = record { spelts = []; number = refl; most = omega arith; parts = refl; bits = refl; left = refl }

module _
    {text : List ℕ} {components : List ModelComponent} {patterns rest : List ℕ} {count : ℕ}
    (g : Gathered text components patterns rest count) where
  -- the text ends here
  pub gathered_done : (grid : Grid) (band : Band) → length rest ≡ 0
      → read_job (record {
        input = record { grid = grid; band = band; model = record { parts = components; count = count } };
        patterns = patterns;
      }) ≡ model_reading grid band (read_parts 64 5 text)
  unfolding model_reading
  gathered_done grid band ended =
      let whole : read_parts 64 5 text ≡ parts g.spelts =
      g.left
      ∙ ap (with_parts g.spelts) (parts_end (64 - count) (5 + count) rest ended)
      ∙ with_all g.spelts []
      ∙ ap parts (append-nil g.spelts) in
      rw (whole, g.parts, g.bits, ← g.number)

  -- line n is off its form
  gathered_off : (n : ℕ) → read_parts (64 - count) (5 + count) rest ≡ off_at n → (grid : Grid) (band : Band)
      → off_reading n ≡ model_reading grid band (read_parts 64 5 text)
  unfolding model_reading
  gathered_off n is grid band =
      let whole : read_parts 64 5 text ≡ off_at n = g.left ∙ ap (with_parts g.spelts) is ∙ with_off g.spelts n in
      rw whole

  module _ (more : 0 < length rest) where
    pub left_full : 64 ≤ count → (grid : Grid) (band : Band) → off_reading 69 ≡ model_reading grid band (read_parts 64 5 text)
    left_full all =
        let full : 64 - count ≡ 0 = omega arith in
        let line : 5 + count ≡ 69 = omega (arith, g.most) in
        gathered_off 69 (rw (full, line) (parts_full 69 rest more))

    module _ (room : count < 64) where
      left_turn : read_parts (64 - count) (5 + count) rest ≡ on_part (5 + count) (read_part rest) (read_parts (64 - (count + 1)) (5 + (count + 1)))
      left_turn =
          let one : 64 - count ≡ suc (64 - (count + 1)) = omega arith in
          let next : 5 + (count + 1) ≡ suc (5 + count) = omega arith in
          rw (one, next) (parts_turn (64 - (count + 1)) (5 + count) rest more)

      pub left_off : none ≡ read_part rest → (grid : Grid) (band : Band) → off_reading (5 + count) ≡ model_reading grid band (read_parts 64 5 text)
      unfolding on_part
      left_off is = gathered_off (5 + count) (rw (← is) at left_turn)

      pub gathered_turn : (s : Spelt) (next : List ℕ) → part s next ≡ read_part rest → (p : Part) → p ≡ part_from s.kind s.numbers
          → (pattern : ℕ) → pattern ≡ pattern_from s.kind s.numbers
          → Gathered text (set components count (record { part = p })) (set patterns count pattern) next (count + 1)
      unfolding on_part
      gathered_turn s next is p made pattern bits =
          let ss = g.spelts in
          let below : length ss < 64 = omega (arith, g.number) in
          let turned : read_parts (64 - count) (5 + count) rest ≡ with_part s (read_parts (64 - (count + 1)) (5 + (count + 1)) next) = rw (← is) at left_turn in
          record {
            spelts = ss ++ (s ∷ []);
            number = omega (arith, length-append ss (s ∷ []), g.number);
            most = omega arith;
            parts = rw (g.parts, made, ← g.number) (padded_more component_of (record { part = Constant plus_zero }) ss s 64 below);
            bits = rw (g.bits, bits, ← g.number) (padded_more (λ (s : Spelt). pattern_from s.kind s.numbers) 0 ss s 64 below);
            left = g.left ∙ ap (with_parts ss) turned ∙ sym (with_more ss s (read_parts (64 - (count + 1)) (5 + (count + 1)) next));
          }
