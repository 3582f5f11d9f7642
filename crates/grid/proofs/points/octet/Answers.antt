-- `octet` meets its contract: a child's indices are below n.
use Rattle.std.proofs.Common.{sym, ap, ◌∙◌, subst}
use Rattle.geometry.specs.Octet.{octet_places}
use Rattle.grid.specs.Corners.{octet}
use Rattle.grid.proofs.Octets.{Within, within}
use Rattle.grid.proofs.points.octet.Goals as goal

pub octet_at-requires : goal.octet_at-requires
octet_at-requires c =
    let p = c.requires in
    let w : Within c.args.n c.indices-at.result = subst (Within _) (sym c.indices-at.ensures) (within _ _ p.0 p.2) in
    (w.i_below, w.j_below, w.k_below, p.1)

pub returns : goal.returns
unfolding octet
returns c = c.octet_at.ensures ∙ ap (octet_places _ _) c.indices-at.ensures
