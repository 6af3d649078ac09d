-- `sweep::still` meets its contract: `all` looks at each arrival.
-- Assumes nothing.
use Rattle.std.proofs.Common.{rules, refl}
use lib.ListN.{get_or}
use Prim.Native.Nat.{◌≤◌}
use Rattle.rules.specs.Net.{no_distance}
use Rattle.distance.specs.Labels.{best}
use Rattle.distance.proofs.Every.{all_from}
use Rattle.distance.proofs.sweep.still.Goals as goal

pub returns : goal.returns
returns c =
    λ e. record { still = all_from _ _ _ _ (λ a. get_or c.args.labels.now a no_distance ≤ best c.args.net.now c.args.labels.now a) _ c.all.ensures.ran refl refl (λ x q k. search rules) e }
