use Rattle.std.proofs.Common.{refl}
use Rattle.calls.specs.Networks.{fabric_of}
use Rattle.runner.proofs.Sessions.{not_declined, carried_out, tellable, told_of}
use Rattle.runner.proofs.session.Session.cycle.Goals as goal

pub returns-in_err-cycle : goal.returns-in_err-cycle
returns-in_err-cycle g c =
    let n = c.args.self.now.network in
    let F = fabric_of g.L.Layout.plan g.S.Switch.turn n in
    let x = c.requires.going in
    absurd (not_declined F x.settings (g.met.L.Layout.lawful n.layout) x.stands _ refl c.new-line.ensures.queue c.requires.early c.in_err-cycle.ensures.promised)

pub tell-requires : goal.tell-requires
tell-requires g c =
    let n = c.args.self.now.network in
    let F = fabric_of g.L.Layout.plan g.S.Switch.turn n in
    let law = g.met.L.Layout.lawful n.layout in
    let x = c.requires.going in
    let y = carried_out F x.settings law x.stands _ refl c.new-line.ensures.queue c.requires.early c.in_ok-cycle.ensures.promised in
    tellable F x.settings law x.stands _ refl c.new-line.ensures.queue c.requires.early y

pub returns-clause-cycled : goal.returns-clause-cycled
returns-clause-cycled g c =
    let n = c.args.self.now.network in
    let F = fabric_of g.L.Layout.plan g.S.Switch.turn n in
    let law = g.met.L.Layout.lawful n.layout in
    let new = c.new-line.ensures.queue in
    let e = c.in_ok-cycle.ensures in (
      c.tell.ensures.told.0,
      λ P M s ls es o st early.
          let y = carried_out F P law st _ refl new early e.promised in
          record {
            state = y.state;
            line = _;
            filled = _;
            off = _;
            serves = y.serves;
            counted = y.counted;
            stands = record { at = told_of F P law st _ refl new early y c.tell.ensures.told.1; nodes = st.nodes; tickets = st.tickets };
          },
    )
