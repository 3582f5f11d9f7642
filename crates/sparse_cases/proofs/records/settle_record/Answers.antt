-- `settle_record` writes before the lengths and after the counts alone.
use Rattle.std.proofs.Common.{drop, take, sym, ap, ◌∙◌, arith, rules}
use Rattle.std.proofs.lemmas.List.{drop-set-lt, drop-take}
use Rattle.std.proofs.lemmas.Slice.{drop-put_mid, take-put_mid_below}
use borrow.Rule.Slice.PartMut.{put_mid}
use Rattle.sparse_cases.proofs.records.settle_record.Goals as goal

pub returns-clause-counts : goal.returns-clause-counts
returns-clause-counts c =
    let head = put_mid 1 12 c.args.record.now c.settle_head.new.head in
    let parts = put_mid 13 320 head c.settle_parts.new.parts in
    let all = put_mid 343 4 parts c.copy_from_slice.new.self in
    ap (λ l. take 10 l) (drop-set-lt 333 all 0 _ (omega arith)) ∙ sym (drop-take 333 10 all)
    ∙ ap (λ l. drop 333 l) (take-put_mid_below 343 4 parts c.copy_from_slice.new.self 343 (search rules) (search rules))
    ∙ drop-take 333 10 parts
    ∙ ap (λ l. take 10 l) (drop-put_mid 13 320 head c.settle_parts.new.parts 333 (search rules) (search rules) (search rules))
    ∙ ap (λ l. take 10 l) (drop-put_mid 1 12 c.args.record.now c.settle_head.new.head 333 (search rules) (search rules) (search rules))
