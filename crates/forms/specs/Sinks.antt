-- What holds of every sink, and of a count and a lent slice.
use Rattle.std.specs.Prelude.{◌≡◌, ℕ, ◌+◌, ◌^◌, ◌<◌, ◌≤◌, List, [], ◌++◌, length, refl}
use Rattle.std.proofs.Common.{arith, length-append, ◌∙◌}
use Rattle.std.proofs.lemmas.List.Edits.{sets}
use Rattle.std.proofs.Math.Seq.{length-sets}
use Rattle.forms.specs.Stores.{sets_append}
use Rattle.forms.specs.declared.sink.Count.{Count}
use Rattle.forms.specs.declared.sink.Cursor.{Cursor}

-- bytes put one after another are all put, and what is put takes no more than its own room
pub record SinkLaws {S : Type 0} (room : S → ℕ → Type 0) (puts : S → List ℕ → S → Type 0) : Type 0 where
  pub none : (s : S) → puts s [] s
  pub both : (s t u : S) (xs ys : List ℕ) → puts s xs t → puts t ys u → puts s (xs ++ ys) u
  pub less : (s : S) (m n : ℕ) → m ≤ n → room s n → room s m
  pub left : (s t : S) (xs : List ℕ) (n : ℕ) → room s (length xs + n) → puts s xs t → room t n

-- a count that stays below 2^64
abbrev pub count_room : Count → ℕ → Type 0
count_room s n = s.bytes + n < 2 ^ 64

abbrev pub count_puts : Count → List ℕ → Count → Type 0
count_puts s xs t = t.bytes ≡ s.bytes + length xs

pub count_laws : SinkLaws count_room count_puts
count_laws = record {
  none = λ s. omega arith;
  both = λ s t u xs ys first second. omega (arith, length-append xs ys);
  less = λ s m n fewer room. omega arith;
  left = λ s t xs n room put. omega arith;
}

-- a slice that has so many bytes from the place on
abbrev pub cursor_room : Cursor → ℕ → Type 0
cursor_room s n = s.at + n ≤ length s.out.now

-- the same slice with the bytes at the place, which goes past them
abbrev pub cursor_puts : Cursor → List ℕ → Cursor → Type 0
cursor_puts s xs t = (t.out.ghost_name ≡ s.out.ghost_name) × (t.out.now ≡ sets s.out.now s.at xs) × (t.at ≡ s.at + length xs)

pub cursor_laws : SinkLaws cursor_room cursor_puts
cursor_laws = record {
  none = λ s. (refl, refl, omega arith);
  both = λ s t u xs ys first second. (
    second.0 ∙ first.0,
    second.1 ∙ rw (first.1, first.2) (sets_append s.out.now s.at xs ys),
    second.2 ∙ rw first.2 (omega (arith, length-append xs ys)),
  );
  less = λ s m n fewer room. omega arith;
  left = λ s t xs n room put. rw (put.1, put.2, length-sets s.out.now s.at xs) (omega arith);
}
