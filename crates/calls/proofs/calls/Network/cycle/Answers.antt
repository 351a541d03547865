use Rattle.std.proofs.Common.{ℕ, ◌+◌, ◌*◌, replicate, None, refl, ap, ◌∙◌, subst, rules, arith}
use Rattle.std.proofs.lemmas.List.{length-take-le}
use Rattle.line.specs.Lines.{queue_of}
use Rattle.clock.specs.Epochs.{golden_ticket}
use Rattle.network.specs.Cycle.{Fabric}
use Rattle.calls.specs.Networks.{fabric_of}
use Rattle.calls.specs.Records.{Advances}
use Rattle.calls.specs.Steps.{Unsent}
use Rattle.calls.specs.Midway.{NodeWorks}
use Rattle.calls.proofs.Fabrics.{same_fabric, then_same}
use Rattle.calls.proofs.Stepping.{unsent_all}
use Rattle.calls.proofs.Promising.{promised, refusing}
use Rattle.calls.proofs.Rounds.{round_none, round_more, no_cycle, no_room, cycles_on}
use Rattle.calls.proofs.calls.Network.cycle.Goals as goal

pub returns-then-self-ge-MOST_CYCLES-clause-promised : goal.returns-then-self-ge-MOST_CYCLES-clause-promised
returns-then-self-ge-MOST_CYCLES-clause-promised g c =
    let s = c.args.self.now in
    let law = g.met.L.Layout.lawful s.layout in
    let F = fabric_of g.L.Layout.plan g.S.Switch.turn s in
    let q = queue_of c.args.line.now in
    refusing law (g.met.S.Switch.lawful s.switch) (no_cycle F s.inner law q c.if-self-ge-MOST_CYCLES.true)

pub returns-then-free-nodes-clause-promised : goal.returns-then-free-nodes-clause-promised
returns-then-free-nodes-clause-promised g c =
    let s = c.args.self.now in
    let law = g.met.L.Layout.lawful s.layout in
    let F = fabric_of g.L.Layout.plan g.S.Switch.turn s in
    let q = queue_of c.args.line.now in
    refusing law (g.met.S.Switch.lawful s.switch) (no_room F s.inner law q c.if-self-ge-MOST_CYCLES.false (omega arith))

pub loop-node-init : goal.loop-node-init
loop-node-init g c =
    let s = c.args.self.now in
    let F = fabric_of g.L.Layout.plan g.S.Switch.turn s in
    let law = g.met.L.Layout.lawful s.layout in
    let few = law.few_nodes in
    let front = length-take-le (4 * c.nodes-nodes.result) s.arriving (omega arith) ∙ ap (λ n. 4 * n) c.nodes-nodes.ensures in
    record {
      round = round_none F s.inner c.golden-golden.result _ (queue_of c.args.line.now);
      unsent = unsent_all F.plan law _ _ (c.fill.ensures.after (λ y e. search rules) ∙ ap (λ k. replicate k None) front);
      parts = (refl, refl);
      lender = refl;
    }

pub loop-node-preserved : goal.loop-node-preserved
loop-node-preserved g c =
    let s = c.args.self.now in
    let F = fabric_of g.L.Layout.plan g.S.Switch.turn s in
    let i = c.loop-node.invariant in
    let w = c.work-off in
    let same = same_fabric g.L.Layout.plan g.S.Switch.turn i.parts in
    record {
      round =
          round_more F s.inner c.loop-node.self.inner w.new.self.inner c.loop-node.node c.golden-golden.result c.loop-node.self.arriving w.new.self.arriving
          (queue_of c.args.line.now) (queue_of c.loop-node.line) (queue_of w.new.line) c.loop-node.off w.result (omega arith) i.round
          (subst (λ (G : Fabric).
          NodeWorks G c.loop-node.self.inner w.new.self.inner c.loop-node.node c.golden-golden.result
          c.loop-node.self.arriving w.new.self.arriving (queue_of c.loop-node.line) (queue_of w.new.line) w.result)
          same w.ensures.works);
      unsent = subst (λ (G : Fabric). Unsent G.plan (c.loop-node.node + 1) w.new.self.arriving) same w.ensures.unsent;
      parts = then_same i.parts w.ensures.parts;
      lender = w.ensures.lender ∙ i.lender;
    }

pub returns-clause-promised : goal.returns-clause-promised
returns-clause-promised g c =
    let s = c.args.self.now in
    let law = g.met.L.Layout.lawful s.layout in
    let F = fabric_of g.L.Layout.plan g.S.Switch.turn s in
    let i = c.loop-node.invariant in
    let q = queue_of c.args.line.now in
    promised law (g.met.S.Switch.lawful s.switch)
    (cycles_on F s.inner law q c.if-self-ge-MOST_CYCLES.false (omega arith) c.args.line.now.sound.0 c.loop-node.self.inner c.advance.new.self c.golden-golden.result
    c.loop-node.self.arriving (queue_of c.loop-node.line) c.loop-node.off c.loop-node.node
    (c.golden-golden.ensures ∙ ap (λ (x : ℕ). golden_ticket (x * s.inner.settings.tickets) s.inner.settings.epoch s.inner.cycles) c.nodes-nodes.ensures) (omega arith) i.round
    (subst (λ (m : ℕ). Advances c.loop-node.self.inner c.advance.new.self (4 * m) c.loop-node.self.arriving) c.nodes-nodes.ensures c.advance.ensures)) (λ e. absurd e)
