use Rattle.std.proofs.Common.{sym, ◌∙◌}
use Rattle.bounds.proofs.Going.{arrived}
use Rattle.bounds.proofs.path.path.Goals as goal

pub returns : goal.returns
returns g c =
    arrived (g.L.Layout.plan c.args.layout.now) (g.met.L.Layout.lawful c.args.layout.now) _ _ _ _ c.loop-port.invariant
    (sym c.wish.ensures ∙ c.in_default.is)
