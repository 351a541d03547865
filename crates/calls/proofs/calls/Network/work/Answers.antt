use Rattle.std.proofs.Common.{sym, subst}
use Rattle.line.specs.Lines.{queue_of}
use Rattle.calls.specs.Networks.{fabric_of}
use Rattle.calls.specs.declared.tables.Tables.{Tables}
use Rattle.calls.specs.Midway.{NodeWorks}
use Rattle.calls.proofs.Stepping.{unsent_more}
use Rattle.calls.proofs.Working.{node_works}
use Rattle.calls.proofs.calls.Network.work.Goals as goal

pub returns-clause-works : goal.returns-clause-works
returns-clause-works g c =
    let s = c.args.self.now in
    let F = fabric_of g.L.Layout.plan g.S.Switch.turn s in
    subst (λ (t : Tables). NodeWorks F s.inner t c.args.node c.args.golden s.arriving c.send.new.self.arriving (queue_of c.args.line.now) (queue_of c.enter-places.new.line) c.take_off-off.result.1) (sym c.send.ensures.same)
    (node_works F (g.met.L.Layout.lawful s.layout) s.inner c.take_off-off.new.self c.enter-places.new.self c.draw-draws.new.self c.args.node c.args.golden c.requires.known
    s.arriving c.send.new.self.arriving (queue_of c.args.line.now) (queue_of c.take_off-off.new.line) (queue_of c.enter-places.new.line) c.take_off-off.result.1
    c.take_off-off.result.0 c.enter-places.result c.draw-draws.result
    c.take_off-off.ensures.takes c.enter-places.ensures.enters c.draw-draws.ensures c.send.ensures.sent)

pub returns-clause-unsent : goal.returns-clause-unsent
returns-clause-unsent g c =
    let s = c.args.self.now in
    unsent_more (g.L.Layout.plan s.layout) (g.met.L.Layout.lawful s.layout) c.args.node c.requires.known _ s.arriving c.send.new.self.arriving c.send.ensures.sent c.requires.unsent
