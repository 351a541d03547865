use Rattle.std.proofs.Common.{◌≡◌, ℕ, ◌<◌, ◌≤◌, ◌⊎◌, length, Some, None, Err, sym, ap, ◌∙◌, subst, inl, inr, rules, arith}
use Rattle.std.specs.Result.{result_ok}
use Rattle.fabric.specs.declared.refusal.Refusal.TheVariants.{NotComplete}
use Rattle.fabric.specs.Refusals.{shown}
use Rattle.calls.specs.Networks.{fabric_of}
use Rattle.network.specs.Runs.{Outcome}
use Rattle.network.specs.Runs.Call.{collect as collects}
use Rattle.network.specs.Runs.Outcome.{collecting}
use Rattle.calls.specs.Follow.{Promised}
use Rattle.calls.proofs.Promising.{promised, refusing}
use Rattle.calls.proofs.Collects.{no_node, not_complete, no_memory, grants}
use Rattle.calls.proofs.calls.Network.collect.Goals.{then-receiver-nodes-via-then-receiver-nodes, then-receiver-nodes-via-else-receiver-nodes+then-sender-nodes, then-receiver-nodes-via-else-receiver-nodes+else-sender-nodes+then-own-self}
use Rattle.calls.proofs.calls.Network.collect.Goals as goal

pub returns-then-receiver-nodes-clause-promised : goal.returns-then-receiver-nodes-clause-promised
returns-then-receiver-nodes-clause-promised g c =
    let s = c.args.self.now in
    let F = fabric_of g.L.Layout.plan g.S.Switch.turn s in
    let which : (F.plan.nodes ≤ c.args.receiver) ⊎ ((F.plan.nodes ≤ c.args.sender) ⊎ (s.inner.settings.tickets ≤ c.args.own)) =
    elim c.then-receiver-nodes.branch [
      | then-receiver-nodes-via-then-receiver-nodes w ↦ inl (omega arith)
      | then-receiver-nodes-via-else-receiver-nodes+then-sender-nodes w ↦ inr (inl (omega arith))
      | then-receiver-nodes-via-else-receiver-nodes+else-sender-nodes+then-own-self w ↦ inr (inr w.if-own-self.true)
    ] in
    refusing (g.met.L.Layout.lawful s.layout) (g.met.S.Switch.lawful s.switch)
    (no_node F s.inner c.args.receiver c.args.sender c.args.own c.args.memory.now which)

pub returns-in_err-packet-clause-promised : goal.returns-in_err-packet-clause-promised
returns-in_err-packet-clause-promised g c =
    let s = c.args.self.now in
    let F = fabric_of g.L.Layout.plan g.S.Switch.turn s in
    let none : c.arrived.result ≡ None = c.ok_or.ensures.ok_part ∙ ap result_ok c.in_err-packet.was in
    let b = refusing (g.met.L.Layout.lawful s.layout) (g.met.S.Switch.lawful s.switch)
    (not_complete F s.inner c.args.receiver c.args.sender c.args.own c.args.memory.now (omega arith) (omega arith) c.if-own-self.false (sym c.arrived.ensures ∙ none)) in
    let e : c.from_residual.result ≡ Err NotComplete = search rules in
    subst (λ (v : Outcome). Promised F s.inner s.inner (collects c.args.receiver c.args.sender c.args.own c.args.memory.now) v)
    (ap (λ v. collecting (shown v) c.args.memory.now) (sym e)) b

pub returns-then-memory-size-clause-promised : goal.returns-then-memory-size-clause-promised
returns-then-memory-size-clause-promised g c =
    let s = c.args.self.now in
    let F = fabric_of g.L.Layout.plan g.S.Switch.turn s in
    let some : c.arrived.result ≡ Some c.in_ok-packet.packet = c.ok_or.ensures.ok_part ∙ ap result_ok c.in_ok-packet.was in
    refusing (g.met.L.Layout.lawful s.layout) (g.met.S.Switch.lawful s.switch)
    (no_memory F s.inner c.args.receiver c.args.sender c.args.own c.args.memory.now (omega arith) (omega arith) c.if-own-self.false
    c.in_ok-packet.packet (sym c.arrived.ensures ∙ some) (subst (λ (z : ℕ). length c.args.memory.now < z) c.from-size.ensures c.if-memory-size.true))

pub returns-clause-promised : goal.returns-clause-promised
returns-clause-promised g c =
    let s = c.args.self.now in
    let law = g.met.L.Layout.lawful s.layout in
    let F = fabric_of g.L.Layout.plan g.S.Switch.turn s in
    let some : c.arrived.result ≡ Some c.in_ok-packet.packet = c.ok_or.ensures.ok_part ∙ ap result_ok c.in_ok-packet.was in
    promised law (g.met.S.Switch.lawful s.switch)
    (grants F s.inner c.args.receiver c.args.sender c.args.own c.args.memory.now (omega arith) (omega arith) c.if-own-self.false
    c.in_ok-packet.packet (sym c.arrived.ensures ∙ some) law (subst (λ (z : ℕ). z ≤ length c.args.memory.now) c.from-size.ensures c.if-memory-size.false) c.free.new.self c.free.ensures
    (omega arith) c.from-size.result c.from-size.ensures c.write.new.memory c.write.ensures) (λ e. absurd e)
