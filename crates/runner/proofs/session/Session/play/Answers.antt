use Rattle.std.proofs.Common.{◌≡◌, ℕ, Option, sym, refl, ◌∙◌, subst, arith}
use Rattle.fabric.specs.Refusals.{shown}
use Rattle.network.specs.Cycle.{Fabric}
use Rattle.calls.specs.Networks.{fabric_of}
use Rattle.calls.proofs.Fabrics.{same_fabric, then_same}
use Rattle.writer.specs.Listings.{LineOut, end_line}
use Rattle.runner.specs.Listing.{Turns}
use Rattle.runner.specs.Progress.{coming, Ready, Turned}
use Rattle.runner.proofs.Sessions.{ends}
use Rattle.runner.proofs.Steps.{tally_few}
use Rattle.runner.proofs.Turning.{through_none, through_more}
use Rattle.runner.proofs.session.Session.play.Goals as goal

pub loop-cycle-init : goal.loop-cycle-init
loop-cycle-init g c =
    let n = c.args.self.now.network in
    let F = fabric_of g.L.Layout.plan g.S.Switch.turn n in
    record {
      through = λ P M st. through_none F P M (coming c.args.planned.now) st c.requires.few;
      left = c.requires.left;
      parts = (refl, refl);
      lender = refl;
      places = refl;
    }

pub turn-requires : goal.turn-requires
turn-requires g c =
    let l = c.loop-cycle in
    let i = l.invariant in
    let x = c.requires in
    let k = i.through x.settings x.memory x.stands in
    record {
      ready =
          subst (λ (F : Fabric). Ready F l.cycle (coming l.planned) l.self l.writer) (sym (same_fabric g.L.Layout.plan g.S.Switch.turn i.parts))
          (record {
            going = record { settings = x.settings; memory = x.memory; state = k.state; lines = k.lines; events = k.events; packets = k.packets; stands = k.stands };
            now = k.now;
            room = k.room;
            left = i.left;
          });
      early = let a = c.loop-cycle-test.true in let b = x.short in omega arith;
    }

pub loop-cycle-preserved : goal.loop-cycle-preserved
loop-cycle-preserved g c =
    let n = c.args.self.now.network in
    let F = fabric_of g.L.Layout.plan g.S.Switch.turn n in
    let l = c.loop-cycle in
    let i = l.invariant in
    let e = c.in_ok-turn.ensures in
    let turned =
    subst (λ (F : Fabric). Turned F l.cycle (coming l.planned) (coming c.turn.new.planned) l.self l.writer c.turn.new.self c.turn.new.writer) (same_fabric g.L.Layout.plan g.S.Switch.turn i.parts) e.turned.1 in
    record {
      through = λ P M st. through_more F P M (coming c.args.planned.now) l.cycle (coming l.planned) (coming c.turn.new.planned) (i.through P M st) turned e.left;
      left = e.left;
      parts = then_same i.parts e.parts;
      lender = e.lender.0 ∙ i.lender;
      places = e.lender.1 ∙ i.places;
    }

pub mean-requires : goal.mean-requires
mean-requires g c =
    let n = c.args.self.now.network in
    let F = fabric_of g.L.Layout.plan g.S.Switch.turn n in
    let l = c.loop-cycle in
    let x = c.requires in
    let k = l.invariant.through x.settings x.memory x.stands in
    (tally_few F x.settings (g.met.L.Layout.lawful n.layout) k.stands.at).waited

pub returns-clause-played : goal.returns-clause-played
returns-clause-played g c =
    let n = c.args.self.now.network in
    let F = fabric_of g.L.Layout.plan g.S.Switch.turn n in
    let law = g.met.L.Layout.lawful n.layout in
    let l = c.loop-cycle in
    let i = l.invariant in
    let x = c.requires in
    let t = l.self.tally in
    let last : l.cycle ≡ c.args.cycles = let a = c.loop-cycle-test.false in let b = l.auto.cycle-end in omega arith in
    let out = subst (λ (m : Option ℕ). LineOut l.writer (end_line t.entered t.off m) c.end.new.self (shown c.end.result)) c.mean.ensures c.end.ensures.line in
    let k = i.through x.settings x.memory x.stands in (
      (ends F x.settings law k.stands c.end.result out).0,
      λ P M st.
          let h = i.through P M st in
          record {
            out = _;
            lists = record {
              later = coming l.planned;
              state = h.state;
              lines = h.lines;
              events = h.events;
              turns = subst (λ (m : ℕ). Turns F P (coming c.args.planned.now) m (coming l.planned) h.state h.lines h.events) last h.turns;
              bytes = refl;
            };
            holds = (ends F P law h.stands c.end.result out).1;
          },
    )
