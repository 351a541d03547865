use Rattle.std.proofs.Common.{◌≡◌, ℕ, ◌*◌, ◌<◌, sym, refl, ◌∙◌, subst, subst₂, arith}
use Rattle.network.specs.Cycle.{Fabric}
use Rattle.calls.specs.Networks.{fabric_of}
use Rattle.calls.proofs.Fabrics.{same_fabric, then_same}
use Rattle.runner.specs.Progress.{Going, Tried, CollectedFrom}
use Rattle.runner.proofs.Turning.{collected_none, collected_more}
use Rattle.runner.proofs.session.Session.collect_all.Goals as goal

pub loop-ticket-init : goal.loop-ticket-init
loop-ticket-init g c =
    let n = c.args.self.now.network in
    let F = fabric_of g.L.Layout.plan g.S.Switch.turn n in
    record { collected = λ P M s ls es o st. collected_none F P c.args.cycle st; parts = (refl, refl); lender = refl }

pub collect-requires : goal.collect-requires
collect-requires g c =
    let l = c.loop-ticket in
    let i = l.invariant in
    let x = c.requires.going in
    let k = i.collected x.settings x.memory x.state x.lines x.events x.packets x.stands in
    record {
      going =
          subst (λ (F : Fabric). Going F l.self l.writer) (sym (same_fabric g.L.Layout.plan g.S.Switch.turn i.parts))
          (record { settings = x.settings; memory = x.memory; state = k.state; lines = _; events = x.events; packets = x.packets; stands = k.stands });
      numbers = (
        c.requires.numbers,
        subst₂ (λ (a b : ℕ). l.ticket < a * b) (x.stands.nodes ∙ sym k.stands.nodes) (x.stands.tickets ∙ sym k.stands.tickets) c.loop-ticket-test.true,
      );
    }

pub loop-ticket-preserved : goal.loop-ticket-preserved
loop-ticket-preserved g c =
    let n = c.args.self.now.network in
    let F = fabric_of g.L.Layout.plan g.S.Switch.turn n in
    let l = c.loop-ticket in
    let i = l.invariant in
    let e = c.in_ok-collect.ensures in
    let t =
    subst (λ (F : Fabric). Tried F c.args.cycle l.ticket l.self l.writer c.collect.new.self c.collect.new.writer)
    (same_fabric g.L.Layout.plan g.S.Switch.turn i.parts) e.tried.1 in
    record {
      collected = λ P M s ls es o st. collected_more F P c.args.cycle l.ticket (i.collected P M s ls es o st) t;
      parts = then_same i.parts e.parts;
      lender = e.lender ∙ i.lender;
    }

pub returns-clause-collected : goal.returns-clause-collected
returns-clause-collected g c =
    let n = c.args.self.now.network in
    let F = fabric_of g.L.Layout.plan g.S.Switch.turn n in
    let l = c.loop-ticket in
    let i = l.invariant in
    let all : l.ticket ≡ c.args.self.now.nodes * c.args.self.now.tickets =
    let a = c.loop-ticket-test.false in let b = l.auto.ticket-end in omega arith in
    (refl, λ P M s ls es o st. subst (λ (k : ℕ). CollectedFrom F P M c.args.cycle k l.self l.writer s ls es o) all (i.collected P M s ls es o st))
