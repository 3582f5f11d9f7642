-- `write_refusal` meets its contract: a refusal has few bytes.
use Rattle.std.proofs.Common.{◌<◌, ◌^◌, [], ◌∷◌, length, arith}
use Rattle.forms.specs.Forms.{spell}
use Rattle.listing.specs.Lines.{refused_form}
use Rattle.listing.proofs.ListingFits.{refused_fits}
use Rattle.listing.proofs.writing.write_refusal.Goals as goal

pub write-requires : goal.write-requires
write-requires c =
    let few : length (spell refused_form (c.from.result ∷ [])) < 2 ^ 64 = omega (arith, refused_fits c.from.result) in few
