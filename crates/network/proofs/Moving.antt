-- The invariant while flits move to other slots, and while the cycle goes on.
use Rattle.std.proofs.Common.{◌≡◌, ℕ, ◌/◌, ◌<◌, ◌≤◌, ◌⊎◌, Some, Option, sym, ap, ◌∙◌, inl, inr}
use Rattle.fabric.specs.declared.parts.Flit.{Flit}
use Rattle.fabric.specs.declared.parts.Port.{Port}
use Rattle.fabric.specs.declared.parts.Slot.{Slot}
use Rattle.bounds.specs.declared.settings.Settings.{Settings}
use Rattle.network.specs.Cycle.{Fabric, State}
use Rattle.network.specs.Promises.{OffOnce, NeverOff, InOneSlot, InNoSlot}
use Rattle.network.proofs.Invariant.{Inv}

abbrev pub Slots : Type 0
Slots = ℕ → Port → Option Flit

-- each flit of the one stands in one slot of the other, and none is added
pub record Moved (F : Fabric) (old new : Slots) : Type 0 where
  pub to : ℕ → Port → Slot
  pub ahead : (n : ℕ) (p : Port) (f : Flit) → old n p ≡ Some f → new (to n p).node (to n p).port ≡ Some f
  pub back : (m : ℕ) (q : Port) (f : Flit) → new m q ≡ Some f → (n : ℕ) × (p : Port) × (old n p ≡ Some f) × (to n p ≡ record { node = m; port = q })
  pub exists : (m : ℕ) (q : Port) (f : Flit) → new m q ≡ Some f → m < F.plan.nodes

module _ (F : Fabric) (P : Settings) (s : State) (N : ℕ) (i : Inv F P s N) (new : Slots) (mv : Moved F s.slot new) (c M : ℕ)
    (later : (e x : ℕ) → (e ≤ s.cycles) × (e ≡ s.cycles → x < N) → (e ≤ c) × (e ≡ c → x < M)) where
  abbrev now : State
  now = record { cycles = c; slot = new; log = s.log }

  alone : (n m : ℕ) (p q : Port) (f g : Flit) → new n p ≡ Some f → new m q ≡ Some g → f.ticket ≡ g.ticket → f.number ≡ g.number → (n ≡ m) × (p ≡ q)
  alone n m p q f g u v t k =
      let a = mv.back n p f u in
      let b = mv.back m q g v in
      let e = i.alone a.0 b.0 a.1 b.1 f g a.2 b.2 t k in
      let w : record { node = n; port = p } ≡ record { node = m; port = q } = sym a.3 ∙ (λ j. mv.to (e.0 j) (e.1 j)) ∙ b.3 in
      (ap (λ (x : Slot). x.node) w, ap (λ (x : Slot). x.port) w)

  in_one : (f : Flit) → InOneSlot f s → InOneSlot f now
  in_one f h =
      record {
        node = (mv.to h.node h.port).node;
        port = (mv.to h.node h.port).port;
        here = mv.ahead h.node h.port f h.here;
        only = λ m q g u k.
            let a = mv.back m q g u in
            let e = h.only a.0 a.1 g a.2 k in
            let w : record { node = m; port = q } ≡ mv.to h.node h.port = sym a.3 ∙ (λ j. mv.to (e.0 j) (e.1 j)) in
            (ap (λ (x : Slot). x.node) w, ap (λ (x : Slot). x.port) w);
      }

  in_none : (f : Flit) → InNoSlot f s → InNoSlot f now
  in_none f h m q g u k = let a = mv.back m q g u in h a.0 a.1 g a.2 k

  account : (f : Flit) → (OffOnce f s.log × InNoSlot f s) ⊎ (NeverOff f s.log × InOneSlot f s) → (OffOnce f s.log × InNoSlot f now) ⊎ (NeverOff f s.log × InOneSlot f now)
  account f (inl h) = inl (h.0, in_none f h.1)
  account f (inr h) = inr (h.0, in_one f h.1)

  pub inv_move : Inv F P now M
  inv_move =
      record {
        sits = λ m q f u.
            let a = mv.back m q f u in
            let z = i.sits a.0 a.1 f a.2 in
            record { exists = mv.exists m q f u; open_ticket = z.open_ticket; was_sent = z.was_sent; in_size = z.in_size; word_is = z.word_is; unreceived = z.unreceived; goes = z.goes; from = z.from; was_entered = z.was_entered };
        alone = alone;
        in_turn = λ n m p q f g u v.
            let a = mv.back n p f u in
            let b = mv.back m q g v in
            i.in_turn a.0 b.0 a.1 b.1 f g a.2 b.2;
        opens = i.opens;
        right_words = i.right_words;
        unsent = i.unsent;
        queue = i.queue;
        queue_apart = i.queue_apart;
        timely = λ f m e. later f.entered (f.ticket / P.tickets) (i.timely f m e);
        apart = i.apart;
        offs = i.offs;
        accounted = λ f n e. account f (i.accounted f n e);
        carries = i.carries;
        collections = i.collections;
      }
