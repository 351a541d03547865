use Rattle.std.proofs.Common.{◌≡◌, List, [], length, Result, sym, refl, ap, ◌∙◌, subst, arith}
use Rattle.fabric.specs.declared.refusal.Refusal.{Refusal}
use Rattle.fabric.specs.Refusals.{shown}
use Rattle.fabric.specs.Verdicts.Verdict.{granted}
use Rattle.bounds.specs.SetUp.{set_up_verdict}
use Rattle.network.specs.Cycle.{Fabric}
use Rattle.calls.specs.Follow.{Begins}
use Rattle.text.specs.declared.parts.Packet.{Packet}
use Rattle.runsheet.specs.Said.{said}
use Rattle.runner.specs.Answering.{made_of, Ran}
use Rattle.runner.specs.Tallies.{Tallied}
use Rattle.runner.specs.Progress.{Left}
use Rattle.runner.proofs.Beginning.{at_first, all_left, ran}
use Rattle.calls.proofs.Fabrics.{same_fabric, then_same}
use Rattle.runner.proofs.list.set_up_and_play.Goals as goal
use Rattle.runner.proofs.list.set_up_and_play.Goals.{After-play-arg-1}

pub play-requires : goal.play-requires
play-requires g c =
    let s = said c.args.sheet.now in
    let e = c.in_ok-set_up.ensures in
    let same = same_fabric g.L.Layout.plan g.S.Switch.turn (then_same c.new-network.ensures.parts e.parts) in
    let begins =
    subst (λ (F : Fabric). Begins F c.settings-settings.result c.set_up.new.self.inner) (sym (same_fabric g.L.Layout.plan g.S.Switch.turn e.parts)) e.begins in
    let tallied : Tallied c.default.result [] = record { entered = c.default.ensures.0; off = c.default.ensures.1.0; waited = c.default.ensures.1.1; short = omega arith } in
    let all = c.in_ok-planned.ensures ∙ c.packets.ensures in
    let few = c.requires.0.packets in
    record {
      settings = c.settings-settings.result;
      memory = _;
      stands = at_first begins c.requires.1 (c.nodes-nodes.ensures ∙ ap (λ (F : Fabric). F.plan.nodes) (sym same)) refl refl tallied;
      few = let h = ap length all in omega (arith, h);
      left = subst (λ (ps : List Packet). Left 0 ps) (sym all) (all_left s c.requires.0);
      short = c.requires.0.cycles;
    }

pub returns-clause-ran : goal.returns-clause-ran
unfolding play-requires
returns-clause-ran g c =
    let s = said c.args.sheet.now in
    let e = c.in_ok-set_up.ensures in
    let same = same_fabric g.L.Layout.plan g.S.Switch.turn (then_same c.new-network.ensures.parts e.parts) in
    let stands = (play-requires g (goal.at.returns-clause-ran g c).After-play-arg-1).stands in
    let verdict : granted tt ≡ set_up_verdict (g.L.Layout.plan c.set_up.new.self.layout) c.settings-settings.result =
    subst (λ (a : g.row.L.Denot). granted tt ≡ set_up_verdict (g.L.Layout.plan a) c.settings-settings.result) (sym e.parts.0) e.exact in
    let m = c.play.ensures.played in
    subst (λ (r : Result (Unit {0}) Refusal). Ran (made_of (g.L.Layout.plan c.args.layout) (g.S.Switch.turn c.args.switch)) s c.args.writer.now c.play.new.writer (shown r)) (sym m.0)
    (ran s c.args.writer.now same c.settings-settings.ensures (c.in_ok-planned.ensures ∙ c.packets.ensures) verdict (m.1 _ _ stands))
