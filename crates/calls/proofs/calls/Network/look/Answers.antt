use Rattle.std.proofs.Common.{get_or, None, ap, ◌∙◌, inl, inr, ⊎_elim, arith, rules}
use Rattle.calls.specs.Follow.{slot_of}
use Rattle.calls.proofs.Promising.{refusing}
use Rattle.calls.proofs.Looking.{no_look, a_look, port_at}
use Rattle.calls.proofs.calls.Network.look.Goals as goal

pub returns-then-node-nodes : goal.returns-then-node-nodes
returns-then-node-nodes g c =
    let s = c.args.self.now in
    record {
      promised = refusing (g.met.L.Layout.lawful s.layout) (g.met.S.Switch.lawful s.switch)
          (no_look _ _ c.args.node c.args.port (⊎_elim (λ h. inl (omega arith)) (λ h. inr h.1) c.then-node-nodes.either));
    }

pub returns : goal.returns
returns g c =
    let s = c.args.self.now in
    record { promised = refusing (g.met.L.Layout.lawful s.layout) (g.met.S.Switch.lawful s.switch) (a_look _ _ c.args.node c.args.port _ (ap (λ j. get_or s.inner.slots j None) (c.number.ensures.here (search rules)).0 ∙ ap (slot_of s.inner.slots c.args.node) (port_at c.args.port (search rules))) (search rules) (search rules)) }
