use Rattle.std.proofs.Common.{◌*◌, sym, subst, arith}
use Rattle.network.specs.Cycle.{Fabric}
use Rattle.calls.specs.Networks.{fabric_of}
use Rattle.runner.specs.Progress.{Early, Going, Cycled, Collected, coming}
use Rattle.calls.proofs.Fabrics.{same_fabric, then_same}
use Rattle.runner.proofs.Turning.{turned}
use Rattle.runner.proofs.session.Session.turn.Goals as goal

pub cycle-requires : goal.cycle-requires
cycle-requires g c =
    let e = c.in_ok-offer_due.ensures in
    let x = c.requires.ready.going in
    let k = e.offered.1 x.settings x.memory x.state x.lines x.events x.packets x.stands c.requires.ready.room in
    subst (λ (F : Fabric). Early F c.offer_due.new.self c.offer_due.new.writer) (sym (same_fabric g.L.Layout.plan g.S.Switch.turn e.parts))
    (record {
      going = record { settings = x.settings; memory = x.memory; state = k.state; lines = _; events = x.events; packets = _; stands = k.stands };
      early = let a = k.counted in let b = c.requires.ready.now in let h = c.requires.early in omega arith;
    })

pub collect_all-requires : goal.collect_all-requires
collect_all-requires g c =
    let e = c.in_ok-offer_due.ensures in
    let f = c.in_ok-cycle.ensures in
    let x = c.requires.ready.going in
    let k = e.offered.1 x.settings x.memory x.state x.lines x.events x.packets x.stands c.requires.ready.room in
    let cycled =
    subst (λ (F : Fabric). Cycled F c.offer_due.new.self c.offer_due.new.writer c.cycle.new.self c.cycle.new.writer) (same_fabric g.L.Layout.plan g.S.Switch.turn e.parts) f.cycled.1 in
    let m = cycled x.settings x.memory k.state _ x.events _ k.stands (let a = k.counted in let b = c.requires.ready.now in let h = c.requires.early in omega arith) in
    record {
      going =
          subst (λ (F : Fabric). Going F c.cycle.new.self c.cycle.new.writer) (sym (same_fabric g.L.Layout.plan g.S.Switch.turn (then_same e.parts f.parts)))
          (record { settings = x.settings; memory = x.memory; state = m.state; lines = _; events = _; packets = _; stands = m.stands });
      numbers = let h = c.requires.early in omega arith;
    }

pub returns-clause-turned : goal.returns-clause-turned
returns-clause-turned g c =
    let F = fabric_of g.L.Layout.plan g.S.Switch.turn c.args.self.now.network in
    let e = c.in_ok-offer_due.ensures in
    let f = c.in_ok-cycle.ensures in
    let h = c.collect_all.ensures in
    let z = c.cycle.new.self in
    let cycled =
    subst (λ (F : Fabric). Cycled F c.offer_due.new.self c.offer_due.new.writer z c.cycle.new.writer) (same_fabric g.L.Layout.plan g.S.Switch.turn e.parts) f.cycled.1 in
    let collected =
    subst (λ (F : Fabric). Collected F c.args.cycle (z.nodes * z.tickets) z c.cycle.new.writer c.collect_all.new.self c.collect_all.new.writer)
    (same_fabric g.L.Layout.plan g.S.Switch.turn (then_same e.parts f.parts)) h.collected.1 in (
      h.collected.0,
      λ P M s ls es o st now few.
          turned F P c.args.cycle (coming c.args.planned.now) (coming c.offer_due.new.planned) st now c.requires.early few e.offered.1 cycled collected,
    )
