use Rattle.std.proofs.Common.{ℕ, ◌+◌, ◌*◌, ◌++◌, sym, subst}
use Rattle.network.proofs.Kept.{kept}
use Rattle.network.specs.Promises.{InTime}
use Rattle.calls.specs.Networks.{fabric_of}
use Rattle.calls.proofs.calls.Network.limit.Goals as goal

pub returns-clause-promised : goal.returns-clause-promised
returns-clause-promised g c =
    let s = c.args.self.now in
    let F = fabric_of g.L.Layout.plan g.S.Switch.turn s in
    λ run t f more r led.
    subst (λ (n : ℕ). InTime ((n * s.inner.settings.tickets + 1) * s.inner.settings.epoch) r) (sym c.nodes.ensures)
    ((kept F s.inner.settings (g.met.L.Layout.lawful s.layout) (g.met.S.Switch.lawful s.switch) f.lawful (more ++ run)).kept r led).delivered
