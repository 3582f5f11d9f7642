-- `try_root` meets its contract: without a mark there are no objections, and the bits are the root's.
use mathlib.Core.Path.{ap, ◌∙◌}
use Prim.Native.Nat.{ℕ, ◌*◌, ◌^◌}
use native.Mathlib.Omega.{arith}
use Rattle.root.specs.Nearest.{nearest_root}
use Rattle.root.proofs.TrialLaws.{tried_bits}
use Rattle.root.proofs.trial.try_root.Goals as goal

pub returns : goal.returns
returns c =
    let n = c.before.before.before in
    let t = n.before in
    let r = t.before in
    tried_bits _ _ _ _ _ r.pattern_of-pattern.ensures (omega arith)
    (λ z. let none = c.mark-marked.ensures.1 z in
    let normal = n.not_normal.ensures.1 (omega arith) in
    record {
      least = normal.0;
      most = normal.1;
      half = omega arith;
      digits = t.try_digits-t.ensures.nearest (omega arith) ∙ ap (λ (k : ℕ). nearest_root (k * 2 ^ 52)) r.reduced.ensures;
    })
