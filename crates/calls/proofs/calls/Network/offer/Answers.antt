use Rattle.std.proofs.Common.{◌≡◌, ◌+◌, ◌*◌, ◌<◌, ◌≤◌, ◌⊎◌, length, is_some, None, inl, inr, ⊎_elim, sym, ap, ◌∙◌, rules, arith}
use Rattle.std.proofs.lemmas.List.{get_or_default}
use Rattle.calls.specs.Networks.{fabric_of}
use Rattle.calls.proofs.Promising.{promised, refusing}
use Rattle.calls.proofs.Offers.{no_node, no_destination, no_words, not_free, own_ticket, grants}
use Rattle.calls.proofs.calls.Network.offer.Goals.{then-node-nodes-via-then-node-nodes, then-node-nodes-via-else-node-nodes+then-own-self}
use Rattle.calls.proofs.calls.Network.offer.Goals.{then-is_empty-via-then-is_empty, then-is_empty-via-else-is_empty+then-words-self}
use Rattle.calls.proofs.calls.Network.offer.Goals as goal

pub returns-then-node-nodes-clause-promised : goal.returns-then-node-nodes-clause-promised
returns-then-node-nodes-clause-promised g c =
    let s = c.args.self.now in
    let F = fabric_of g.L.Layout.plan g.S.Switch.turn s in
    let which : (F.plan.nodes ≤ c.args.node) ⊎ (s.inner.settings.tickets ≤ c.args.own) =
    elim c.then-node-nodes.branch [
      | then-node-nodes-via-then-node-nodes w ↦ inl (omega arith)
      | then-node-nodes-via-else-node-nodes+then-own-self w ↦ inr w.if-own-self.true
    ] in
    refusing (g.met.L.Layout.lawful s.layout) (g.met.S.Switch.lawful s.switch)
    (no_node F s.inner c.args.node c.args.own c.args.destination c.args.words.now which)

pub returns-then-destination-nodes-clause-promised : goal.returns-then-destination-nodes-clause-promised
returns-then-destination-nodes-clause-promised g c =
    let s = c.args.self.now in
    let F = fabric_of g.L.Layout.plan g.S.Switch.turn s in
    refusing (g.met.L.Layout.lawful s.layout) (g.met.S.Switch.lawful s.switch)
    (no_destination F s.inner c.args.node c.args.own c.args.destination c.args.words.now (omega arith) (omega arith)
    (⊎_elim (λ h. inl (omega arith)) (λ h. inr h.1) c.then-destination-nodes.either))

pub returns-then-is_empty-clause-promised : goal.returns-then-is_empty-clause-promised
returns-then-is_empty-clause-promised g c =
    let s = c.args.self.now in
    let F = fabric_of g.L.Layout.plan g.S.Switch.turn s in
    let which : (length c.args.words.now ≡ 0) ⊎ (s.inner.settings.words < length c.args.words.now) =
    elim c.then-is_empty.branch [
      | then-is_empty-via-then-is_empty w ↦ inl (search rules)
      | then-is_empty-via-else-is_empty+then-words-self w ↦ inr w.if-words-self.true
    ] in
    refusing (g.met.L.Layout.lawful s.layout) (g.met.S.Switch.lawful s.switch)
    (no_words F s.inner c.args.node c.args.own c.args.destination c.args.words.now (omega arith) (omega arith) (omega arith) c.if-destination-node.false which)

pub returns-then-is_some-clause-promised : goal.returns-then-is_some-clause-promised
returns-then-is_some-clause-promised g c =
    let s = c.args.self.now in
    let t = own_ticket (g.L.Layout.plan s.layout) (g.met.L.Layout.lawful s.layout) s.inner.settings s.inner.fits.few c.args.node c.args.own (omega arith) c.if-own-self.false in
    let F = fabric_of g.L.Layout.plan g.S.Switch.turn s in
    refusing (g.met.L.Layout.lawful s.layout) (g.met.S.Switch.lawful s.switch)
    (not_free F s.inner c.args.node c.args.own c.args.destination c.args.words.now (omega arith) (omega arith) (omega arith) c.if-destination-node.false
    (λ e. search rules) c.if-words-self.false (ap is_some (get_or_default s.inner.tickets (c.args.node * s.inner.settings.tickets + c.args.own) None _ (omega arith)) ∙ sym c.if-is_some.ensures))

pub returns-clause-promised : goal.returns-clause-promised
returns-clause-promised g c =
    let s = c.args.self.now in
    let law = g.met.L.Layout.lawful s.layout in
    let t = own_ticket (g.L.Layout.plan s.layout) law s.inner.settings s.inner.fits.few c.args.node c.args.own (omega arith) c.if-own-self.false in
    let F = fabric_of g.L.Layout.plan g.S.Switch.turn s in
    promised law (g.met.S.Switch.lawful s.switch)
    (grants F s.inner c.args.node c.args.own c.args.destination c.args.words.now (omega arith) (omega arith) (omega arith) c.if-destination-node.false
    (λ e. search rules) c.if-words-self.false law c.accept.new.self c.accept.ensures (omega arith) (omega arith)
    (ap is_some (get_or_default s.inner.tickets (c.args.node * s.inner.settings.tickets + c.args.own) None _ (omega arith)) ∙ sym c.if-is_some.ensures)) (λ e. absurd e)
