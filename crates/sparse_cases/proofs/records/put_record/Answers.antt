-- `put_record` writes the end of the record, and the flag before it.
use Rattle.std.proofs.Common.{◌≡◌, ◌+◌, length, ◌∙◌, arith, rules}
use Rattle.std.proofs.lemmas.List.{drop-set-lt}
use borrow.Rule.Slice.PartMut.{put_mid}
use Rattle.sparse_cases.proofs.Tails.{end_written}
use Rattle.sparse_cases.proofs.records.put_record.Goals as goal

pub returns-clause-rest : goal.returns-clause-rest
returns-clause-rest c =
    let before = put_mid 13 320 (put_mid 1 12 c.args.record.now c.copy_from_slice.new.self) c.put_parts.new.room in
    let tail = c.copy_from_slice-2.new.self in
    let whole : length before ≡ 333 + 14 = search rules in
    drop-set-lt 333 (put_mid 333 14 before tail) 0 c.from.result (omega arith) ∙ end_written 333 14 before tail whole ∙ (search rules)
