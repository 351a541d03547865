use Rattle.calls.proofs.Setting.{begins, first_accepted}
use Rattle.calls.proofs.calls.Network.new.Goals as goal

pub returns-clause-begins : goal.returns-clause-begins
returns-clause-begins g c =
    let law = g.met.L.Layout.lawful c.args.layout in
    begins _ law (g.met.S.Switch.lawful c.args.switch) c.fresh-inner.result _ c.fresh-inner.ensures (first_accepted _ law)
