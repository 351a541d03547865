use Rattle.std.proofs.Common.{List, sym, refl, ◌∙◌, subst}
use Rattle.network.specs.Cycle.{Fabric}
use Rattle.calls.specs.Networks.{fabric_of}
use Rattle.text.specs.declared.parts.Packet.{Packet}
use Rattle.runner.specs.Progress.{Going, Offered, coming, DueFrom, Left}
use Rattle.calls.proofs.Fabrics.{same_fabric, then_same}
use Rattle.runner.proofs.Turning.{left_due, due_none, due_more}
use Rattle.runner.proofs.session.Session.offer_due.Goals as goal

pub loop-packet-init : goal.loop-packet-init
loop-packet-init g c =
    let F = fabric_of g.L.Layout.plan g.S.Switch.turn c.args.self.now.network in
    record {
      due = λ P M s ls es o st few. due_none F P c.args.cycle (coming c.args.planned.now) st;
      left = c.requires.left;
      parts = (refl, refl);
      lender = refl;
      places = refl;
    }

pub offer-requires : goal.offer-requires
offer-requires g c =
    let l = c.loop-packet in
    let i = l.invariant in
    let x = c.requires.going in
    let k = i.due x.settings x.memory x.state x.lines x.events x.packets x.stands c.requires.room in (
      subst (λ (F : Fabric). Going F l.self l.writer) (sym (same_fabric g.L.Layout.plan g.S.Switch.turn i.parts))
          (record { settings = x.settings; memory = x.memory; state = k.state; lines = _; events = x.events; packets = _; stands = k.stands }),
      (subst (λ (ps : List Packet). Left c.args.cycle ps) c.in-Some.ensures.due.1 i.left).sendable.0,
    )

pub loop-packet-preserved : goal.loop-packet-preserved
loop-packet-preserved g c =
    let F = fabric_of g.L.Layout.plan g.S.Switch.turn c.args.self.now.network in
    let l = c.loop-packet in
    let i = l.invariant in
    let p = c.in-Some.packet in
    let e = c.in_ok-offer.ensures in
    let t = c.in-Some.ensures.due in
    let before = coming c.args.planned.now in
    let rest = coming c.next_due.new.self in
    let offered = subst (λ (X : Fabric). Offered X p l.self l.writer c.offer.new.self c.offer.new.writer) (same_fabric g.L.Layout.plan g.S.Switch.turn i.parts) e.offered.1 in
    record {
      due = λ P M s ls es o st few.
          due_more F P c.args.cycle before p rest
          (subst (λ (ps : List Packet). DueFrom F P M c.args.cycle before ps l.self l.writer s ls es o) t.1 (i.due P M s ls es o st few)) t.0 offered few;
      left = left_due c.args.cycle p rest t.0 (subst (λ (ps : List Packet). Left c.args.cycle ps) t.1 i.left);
      parts = then_same i.parts e.parts;
      lender = e.lender ∙ i.lender;
      places = c.next_due.ensures.lender ∙ i.places;
    }
