-- `write_off` meets its contract: its line has few bytes.
use Rattle.std.proofs.Common.{◌<◌, ◌^◌, [], ◌∷◌, length, arith}
use Rattle.forms.specs.Forms.{spell}
use Rattle.listing.specs.Lines.{off_form}
use Rattle.listing.proofs.ListingFits.{off_fits}
use Rattle.listing.proofs.writing.write_off.Goals as goal

pub write-requires : goal.write-requires
write-requires c =
    let few : length (spell off_form (c.from.result ∷ [])) < 2 ^ 64 = omega (arith, off_fits c.from.result) in few
