use Rattle.std.proofs.Common.{ℕ, ◌<◌, refl, ◌∙◌, subst, arith}
use Rattle.calls.specs.Networks.{fabric_of}
use Rattle.writer.specs.Listings.{LineOut, no_line}
use Rattle.fabric.specs.Refusals.{shown, number}
use Rattle.runner.proofs.Sessions.{place_below, took, refuses}
use Rattle.runner.proofs.session.Session.offer.Goals as goal

pub bounds-self-node : goal.bounds-self-node
bounds-self-node g c =
    let n = c.args.self.now.network in
    let F = fabric_of g.L.Layout.plan g.S.Switch.turn n in
    let x = c.requires.0 in
    place_below F x.settings (g.met.L.Layout.lawful n.layout) x.stands c.args.packet c.in-Ok.ensures.promised

pub returns-in-Ok-clause-offered : goal.returns-in-Ok-clause-offered
returns-in-Ok-clause-offered g c =
    let n = c.args.self.now.network in
    let F = fabric_of g.L.Layout.plan g.S.Switch.turn n in
    let e = c.in-Ok.ensures in (
      refl,
      λ P M s ls es o st h.
          let z = took F P (g.met.L.Layout.lawful n.layout) st c.args.packet c.requires.1 e.promised h in
          record { state = z.state; more = _; offers = z.offers; counted = z.counted; stands = record { at = z.at; nodes = st.nodes; tickets = st.tickets } },
    )

pub returns-in-Err-clause-offered : goal.returns-in-Err-clause-offered
returns-in-Err-clause-offered g c =
    let n = c.args.self.now.network in
    let F = fabric_of g.L.Layout.plan g.S.Switch.turn n in
    let law = g.met.L.Layout.lawful n.layout in
    let e = c.in-Err.ensures in
    let p = c.args.packet in
    let x = c.requires.0 in
    let k = c.from-number.ensures ∙ c.number.ensures in
    let small : number c.in-Err.refusal < 1000 = let h = c.number.type_inv in let e = c.number.ensures in omega arith in
    let out = subst (λ (m : ℕ). LineOut c.args.writer.now (no_line p.cycle m p.node p.own) c.no.new.self (shown c.no.result)) k c.no.ensures.line in (
      (refuses F x.settings law x.stands p _ _ c.no.result c.requires.1 small e.promised out).0,
      λ P M s ls es o st h.
          let z = (refuses F P law st p _ _ c.no.result c.requires.1 small e.promised out).1 h in
          record { state = z.state; more = _; offers = z.offers; counted = z.counted; stands = record { at = z.at; nodes = st.nodes; tickets = st.tickets } },
    )
