use Rattle.std.proofs.Common.{◌≡◌, [], replicate, sym, subst}
use Rattle.cabled.specs.Cables.{Means, lone}
use Rattle.cabled.specs.Tables.{cabled_plan}
use Rattle.cabled.proofs.Alone.{alone, lone_means}
use Rattle.cabled.proofs.cabled.Cabled.new.Goals as goal

pub returns : goal.returns
returns c =
    let w = c.bare.result in
    let same : cabled_plan w.nodes w.ends (replicate 64 (replicate 64 0)) 0 ≡ lone = rw (c.bare.ensures.nodes, c.bare.ensures.ends) alone in
    record { plan = same; meaning = subst (Means 1 []) (sym same) lone_means }
