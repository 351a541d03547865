use Rattle.std.proofs.Common.{sym}
use Rattle.calls.proofs.Setting.{begins}
use Rattle.calls.proofs.calls.Network.set_up.Goals as goal

pub returns-clause-begins : goal.returns-clause-begins
returns-clause-begins g c =
    let s = c.args.self.now in
    begins _ (g.met.L.Layout.lawful s.layout) (g.met.S.Switch.lawful s.switch) c.fresh-self.result _ c.fresh-self.ensures (sym c.in_ok-judge.ensures)
