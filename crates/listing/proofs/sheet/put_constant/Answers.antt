-- `put_constant` meets its contract.
use Rattle.std.proofs.Common.{sym, length, subst}
use Rattle.listing.proofs.LineLaws.{constant_put}
use Rattle.listing.proofs.sheet.put_constant.Goals as goal

pub put_form-requires : goal.put_form-requires
put_form-requires g c =
    let a = c.args in
    subst (λ xs. g.S.Sink.room a.sink.now (length xs)) (sym (constant_put a.v a.c a.x c.to_bits.ensures)) c.requires

pub returns : goal.returns
returns g c =
    let a = c.args in
    subst (λ xs. g.S.Sink.puts a.sink.now xs c.put_form.new.sink) (constant_put a.v a.c a.x c.to_bits.ensures) c.put_form.ensures
