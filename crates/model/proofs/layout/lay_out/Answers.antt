-- The places passed so far hold their parts' entries.
use Rattle.std.proofs.Common.{◌≡◌, ◌∙◌, sym, ap, ap₂, map, replicate, ℕ, arith}
use lib.ListN.{length-replicate}
use lib.Ieee.{Float}
use Rattle.std.proofs.lemmas.List.{get_or-map}
use Rattle.float.specs.Zero.{plus_zero}
use Rattle.model.specs.Part.{part_in}
use Rattle.model.specs.Flat.{flat_of, word_entries, number_entries}
use Rattle.model.proofs.EntryRows.{laid, laid_none, laid_all, words_more, numbers_more}
use Rattle.model.proofs.layout.lay_out.Goals as goal

pub loop-p-init : goal.loop-p-init
loop-p-init c = (laid_none _ word_entries 0 _, laid_none _ number_entries 0 _)

pub loop-p-preserved : goal.loop-p-preserved
loop-p-preserved c =
    let parts = c.args.model.now.parts in
    let p = c.loop-p.p in
    let same = sym (get_or-map part_in parts p _ _ (omega arith)) in (
      words_more (map part_in parts) p same (omega arith) (replicate 192 0) c.loop-p.invariant.0 c.store_part.ensures.words,
      numbers_more (map part_in parts) p same (omega arith) (replicate 256 plus_zero) c.loop-p.invariant.1 c.store_part.ensures.numbers,
    )

pub returns-clause-laid : goal.returns-clause-laid
returns-clause-laid c =
    let parts = map part_in c.args.model.now.parts in
    let last : c.loop-p.p ≡ 64 = omega arith in
    let words = c.loop-p.invariant.0 ∙ ap (λ (p : ℕ). laid parts word_entries 0 p (replicate 192 0)) last
    ∙ laid_all parts word_entries 0 (replicate 192 0) (length-replicate {A = ℕ} 192 0) in
    let numbers = c.loop-p.invariant.1 ∙ ap (λ (p : ℕ). laid parts number_entries 0 p (replicate 256 plus_zero)) last
    ∙ laid_all parts number_entries 0 (replicate 256 plus_zero) (length-replicate {A = Float} 256 plus_zero) in
    ap₂ flat_of words numbers
