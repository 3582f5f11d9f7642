-- The parts that flat arrays of any contents stand for are what counts as the parts of the model made of the arrays.
use Rattle.std.proofs.Common.{◌≡◌, ◌<◌, ◌≤◌, ℕ, Bool, true, false, get_or, refl, sym, ap, ◌∙◌, arith}
use lib.Dec.{ltb}
use lib.ListN.{get_or-map}
use borrow.Author.Tests.{ltb-true, le-ltb}
use Rattle.lists.specs.Tabulate.{tabulate}
use Rattle.lists.proofs.Tables.{get_d_tabulate, tabulate_cong}
use Rattle.float.specs.Zero.{plus_zero}
use Rattle.model.specs.Part.{part_in, inputs_below, placed}
use Rattle.model.specs.Model.{parts_in, part_of}
use Rattle.model.specs.Model as list
use Rattle.model.specs.Flat.{Flat, part_read, part_at, parts_of}
use Rattle.model.specs.declared.Part.TheVariants.{Constant}
use Rattle.model.specs.declared.ModelComponent.{ModelComponent}
use Rattle.model.proofs.FlatParts.{unknown_code}
use Rattle.field_host.specs.Given.{no_part, part_coded, part_given, component_given, model_given}

-- what stands past a list of parts
abbrev none : ModelComponent
none = record { part = Constant plus_zero }

module _ (l : Flat) (count : ℕ) where
  given_there : (p : ℕ) → p < 64 → part_of (parts_in (model_given l count)) p ≡ part_given l p
  given_there p h =
      get_or-map part_in (tabulate 64 (component_given l)) p none
      ∙ ap part_in (get_d_tabulate 64 (component_given l) p none h)

  -- an operation on a part that stands nowhere counts as the constant +0
  no_part_placed : (p : ℕ) → p < 64 → placed p (Constant plus_zero) ≡ placed p no_part
  unfolding placed inputs_below
  no_part_placed p h = rw (le-ltb 4294967295 p (omega arith)) refl

  -- so a code that no part has counts as that both ways
  counts_both : (p : ℕ) → p < 64 → part_at l p ≡ placed p (part_given l p)
  unfolding part_at part_read part_given part_coded
  counts_both p h = one (ltb 7 (get_or l.words p 0)) refl
    where
      one : (b : Bool) → ltb 7 (get_or l.words p 0) ≡ b → part_at l p ≡ placed p (part_given l p)
      one true above =
          rw above (ap (placed p) (unknown_code _ _ _ _ _ (ltb-true 7 (get_or l.words p 0) above)) ∙ no_part_placed p h)
      one false within = rw within refl

  pub same_parts : (n : ℕ) → n ≤ 64 → parts_of l n ≡ list.parts_of (parts_in (model_given l count)) n
  unfolding list.part_at
  same_parts n few =
      tabulate_cong n _ _
      (λ p h.
      let low : p < 64 = omega arith in
      counts_both p low ∙ ap (placed p) (sym (given_there p low)))
