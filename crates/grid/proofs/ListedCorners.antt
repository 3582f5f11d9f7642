-- The list that is left when the marked corners have been gathered and the rest zeroed: each needed corner once.
use Rattle.std.proofs.Common.{◌≡◌, ℕ, ◌+◌, ◌<◌, ◌≤◌, Bool, true, false, cond, not, ◌&&◌, eqb, ltb, List, length, get_or, take, replicate, sym, refl, ap, ◌∙◌, arith, get_or-take, ltb-false, le-ltb, lt-ltb, eq-eqb, ne_eqb}
use lib.ListN.{length-replicate}
use Rattle.lists.proofs.Rest.{get_or_same, set_from, rest_length, rest_front, rest_same}
use Rattle.std.specs.Prelude.{Ok, Err}
use Rattle.causes.specs.declared.Cause.TheVariants.{BlockSize, TooShort}
use Rattle.causes.specs.First.{first_of}
use Rattle.lists.specs.Ranges.{any_below, count_below, list_below, among}
use Rattle.grid.specs.Blocks.{is_block, cube}
use Rattle.grid.specs.Corners.{needed}
use Rattle.grid.specs.CornerList.{nonzero_at, corner_list_causes, corner_list_of, CornersOnce}
use Rattle.grid.specs.Inner.CornerMarks.{needed_to, Marks, Gathered}
use Rattle.lists.proofs.Ranges.{list_below_cong, count_below_cong, among_list_below, no_repeat}
use Rattle.grid.proofs.MarkLaws.{needed_within}

-- ---- the answer

module _ (n : ℕ) (kinds : List ℕ) (list : ℕ) where
  pub answer_two : is_block n ≡ false → corner_list_of n kinds list ≡ Err BlockSize
  unfolding first_of corner_list_of corner_list_causes
  answer_two block = rw block refl

  pub answer_kinds : is_block n ≡ true → (length kinds ≡ cube n → ⊥) → corner_list_of n kinds list ≡ Err TooShort
  unfolding first_of corner_list_of corner_list_causes
  answer_kinds block other = rw (block, ne_eqb (length kinds) (cube n) other) refl

  pub answer_list : is_block n ≡ true → length kinds ≡ cube n → list < cube (n + 1) → corner_list_of n kinds list ≡ Err TooShort
  unfolding first_of corner_list_of corner_list_causes
  answer_list block same short = rw (block, eq-eqb (length kinds) (cube n) same, lt-ltb list (cube (n + 1)) short) refl

  pub answer_count : is_block n ≡ true → length kinds ≡ cube n → cube (n + 1) ≤ list
      → corner_list_of n kinds list ≡ Ok (count_below (cube (n + 1)) (needed n (nonzero_at kinds)))
  unfolding first_of corner_list_of corner_list_causes
  answer_count block same long = rw (block, eq-eqb (length kinds) (cube n) same, le-ltb list (cube (n + 1)) long) refl

-- ---- the list

pub gathered_to : {m n count : ℕ} {before after : List ℕ} → m ≡ n → Gathered m before after count → Gathered n before after count
gathered_to e g = rw (← e) g

-- a list of zeros has no mark
pub no_marks : (n : ℕ) (kinds before list : List ℕ) → cube (n + 1) ≤ length before → list ≡ replicate (length before) 0
    → Marks n kinds 0 list
unfolding needed_to any_below
no_marks n kinds before list long e =
    record {
      long = omega (arith, ap length e ∙ length-replicate (length before) 0);
      marks = λ p h. ap (λ (l : List ℕ). get_or l p 0) e ∙ get_or_same (length before) p 0;
    }

module _ (n : ℕ) (kinds list : List ℕ) (m : Marks n kinds (cube n) list) where
  -- a mark stands where a corner is needed
  marked_needed : (p : ℕ) → p < cube (n + 1) → nonzero_at list p ≡ needed n (nonzero_at kinds) p
  unfolding nonzero_at needed needed_to
  marked_needed p h = rw (m.marks p h) (bit (needed n (nonzero_at kinds) p))
    where
      bit : (b : Bool) → not (eqb (cond b 1 0) 0) ≡ b
      bit true = refl
      bit false = refl

  pub room : (gathered : List ℕ) (count : ℕ) → Gathered (cube (n + 1)) list gathered count → count ≤ length gathered
  room gathered count g = omega (arith, g.few, m.long, g.kept)

  module _ (gathered listed : List ℕ) (count : ℕ) (g : Gathered (cube (n + 1)) list gathered count) (z : listed ≡ set_from count 0 gathered) where
    pub kept : length listed ≡ length gathered
    kept = ap length z ∙ rest_length count 0 gathered (room gathered count g)

    pub counted : count ≡ count_below (cube (n + 1)) (needed n (nonzero_at kinds))
    counted = g.counted ∙ count_below_cong (cube (n + 1)) (nonzero_at list) (needed n (nonzero_at kinds)) marked_needed

    in_front : take count listed ≡ list_below (cube (n + 1)) (needed n (nonzero_at kinds))
    in_front =
        ap (take count) z ∙ rest_front count 0 gathered (room gathered count g) ∙ g.front
        ∙ list_below_cong (cube (n + 1)) (nonzero_at list) (needed n (nonzero_at kinds)) marked_needed

    element : (p : ℕ) → p < count → get_or listed p 0 ≡ get_or (list_below (cube (n + 1)) (needed n (nonzero_at kinds))) p 0
    element p h = sym (get_or-take count listed p 0 h) ∙ ap (λ (l : List ℕ). get_or l p 0) in_front

    pub corners_once : CornersOnce (needed n (nonzero_at kinds)) count listed
    corners_once =
        record {
          within = omega (arith, room gathered count g, kept);
          exactly =
              λ corner.
              ap (among corner) in_front
              ∙ among_list_below (cube (n + 1)) (needed n (nonzero_at kinds)) corner
              ∙ below corner (ltb corner (cube (n + 1))) refl;
          once =
              λ p q hp hq same.
              no_repeat (needed n (nonzero_at kinds)) (cube (n + 1)) p q (omega (arith, counted)) (omega (arith, counted))
              (sym (element p hp) ∙ same ∙ element q hq);
          rest = λ p behind. ap (λ (l : List ℕ). get_or l p 0) z ∙ rest_same count 0 gathered (room gathered count g) p behind;
        }
      where
        below : (corner : ℕ) (b : Bool) → ltb corner (cube (n + 1)) ≡ b → (b && needed n (nonzero_at kinds) corner) ≡ needed n (nonzero_at kinds) corner
        below corner true t = refl
        below corner false t = sym (needed_within n (nonzero_at kinds) corner (ltb-false corner (cube (n + 1)) t))
