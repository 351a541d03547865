-- The golden flits of a cycle: the lowest leads, and what a handing says of them.
use Rattle.std.proofs.Common.{◌≡◌, ℕ, zero, suc, ◌+◌, ◌<◌, ◌≤◌, ◌⊎◌, Some, None, Option, sym, refl, ap, ◌∙◌, inl, inr, arith}
use Rattle.std.proofs.lemmas.Option.{some_pair_parts}
use Rattle.fabric.specs.declared.parts.Flit.{Flit}
use Rattle.fabric.specs.declared.parts.Port.{Port}
use Rattle.fabric.specs.declared.parts.Slot.{Slot}
use Rattle.fabric.specs.Layouts.{Lawful}
use Rattle.fabric.proofs.Following.{settled, wish_leads}
use Rattle.switch.specs.Switches.{LawfulSwitch, Golden, Apart, at}
use Rattle.network.specs.Log.{sent}
use Rattle.bounds.specs.declared.settings.Settings.{Settings}
use Rattle.network.specs.Cycle.{Fabric, State, golden_in, wish_of}
use Rattle.network.specs.Computed.{left, entering, ready, handing, arriving}
use Rattle.network.proofs.Nodes.{left_slot, left_gone, enters, ready_split, left_ready, leads_to, at_places, at_wishes, golden_is, Came, came, taken_lowest}
use Rattle.network.proofs.Invariant.{Inv}

module _ (F : Fabric) (P : Settings) (s : State) (i : Inv F P s 0) where
  -- what enters comes after the flits of its ticket
  pub last_in : (n : ℕ) (p : Port) (f : Flit) → entering F P s n ≡ Some (p, f) → (m : ℕ) (q : Port) (g : Flit) → s.slot m q ≡ Some g → g.ticket ≡ f.ticket → g.number < f.number
  last_in n p f e m q g u t =
      let a : g.number < sent g.ticket s.log = (i.sits m q g u).was_sent in
      let b : f.number ≡ sent f.ticket s.log = (enters F P s n p f e).1.number in
      let c : sent g.ticket s.log ≡ sent f.ticket s.log = ap (λ (x : ℕ). sent x s.log) t in
      omega arith

  pub enters_now : (n : ℕ) (p : Port) (f : Flit) → entering F P s n ≡ Some (p, f) → f.entered ≡ s.cycles
  enters_now n p f e = (enters F P s n p f e).1.now

  ready_alone : (n : ℕ) (p q : Port) (f g : Flit) → ready F P s n p ≡ Some f → ready F P s n q ≡ Some g → f.ticket ≡ g.ticket → f.number ≡ g.number → p ≡ q
  ready_alone n p q f g u v t k = go (ready_split F P s n p f u) (ready_split F P s n q g v)
    where
      go : (entering F P s n ≡ Some (p, f)) ⊎ (left F P s n p ≡ Some f) → (entering F P s n ≡ Some (q, g)) ⊎ (left F P s n q ≡ Some g) → p ≡ q
      go (inl a) (inl b) = (some_pair_parts p q f g (sym a ∙ b)).0
      go (inl a) (inr b) = let z = last_in n p f a n q g (left_slot F P s n q g b) (sym t) in absurd (omega arith)
      go (inr a) (inl b) = let z = last_in n q g b n p f (left_slot F P s n p f a) t in absurd (omega arith)
      go (inr a) (inr b) = (i.alone n n p q f g (left_slot F P s n p f a) (left_slot F P s n q g b) t k).1

  -- a golden flit of a handing is ready, and the other way round
  pub golden_ready : (n : ℕ) (p : Port) (f : Flit) → Golden (handing F P s n) p f → (ready F P s n p ≡ Some f) × (f.ticket ≡ golden_in F P s.cycles)
  golden_ready n p f g = (sym (at_places F P s n p) ∙ g.0, g.1 ∙ golden_is F P s n)

  pub ready_golden : (n : ℕ) (p : Port) (f : Flit) → ready F P s n p ≡ Some f → f.ticket ≡ golden_in F P s.cycles → Golden (handing F P s n) p f
  ready_golden n p f e t = (at_places F P s n p ∙ e, t ∙ sym (golden_is F P s n))

  pub wish_is : (n : ℕ) (p : Port) (f : Flit) → ready F P s n p ≡ Some f → at (handing F P s n).wishes p ≡ F.plan.wish n f.destination
  wish_is n p f e = at_wishes F P s n p ∙ ap (λ (o : Option Flit). wish_of F.plan n o) e

  apart : (n : ℕ) → Apart (handing F P s n)
  apart n p q f g u v k =
      let a = golden_ready n p f u in
      let b = golden_ready n q g v in
      ready_alone n p q f g a.0 b.0 (a.1 ∙ sym b.1) k

  abbrev pub Lowest : Flit → Type 0
  Lowest g = (m : ℕ) (q : Port) (h : Flit) → s.slot m q ≡ Some h → h.ticket ≡ g.ticket → h.number < g.number → ⊥

  -- where a flit that was in a slot comes from
  pub came_from : Lawful F.plan → (n m : ℕ) (p q : Port) (g : Flit) → s.slot n p ≡ Some g → arriving F P s m q ≡ Some g →
      (left F P s n p ≡ Some g) × (leads_to F P s n p ≡ record { node = m; port = q })
  came_from law n m p q g e u = go (ready_split F P s z.node z.port g z.there)
    where
      z : Came F P s m q g
      z = came F P s law m q g u

      go : (entering F P s z.node ≡ Some (z.port, g)) ⊎ (left F P s z.node z.port ≡ Some g) → (left F P s n p ≡ Some g) × (leads_to F P s n p ≡ record { node = m; port = q })
      go (inl a) = let b = last_in z.node z.port g a n p g e refl in absurd (omega arith)
      go (inr a) =
          let b = i.alone z.node n z.port p g g (left_slot F P s z.node z.port g a) e refl refl in
          (sym (λ j. left F P s (b.0 j) (b.1 j)) ∙ a, sym (λ j. leads_to F P s (b.0 j) (b.1 j)) ∙ z.led)

  -- the lowest golden flit comes one nearer, unless it is taken off
  pub lead : Lawful F.plan → LawfulSwitch F.turn → (n m : ℕ) (p q : Port) (g : Flit) → s.slot n p ≡ Some g → g.ticket ≡ golden_in F P s.cycles → Lowest g →
      arriving F P s m q ≡ Some g → F.plan.distance m g.destination + 1 ≡ F.plan.distance n g.destination
  lead law sw n m p q g e t low u = go (F.plan.wish n g.destination) refl
    where
      c : (left F P s n p ≡ Some g) × (leads_to F P s n p ≡ record { node = m; port = q })
      c = came_from law n m p q g e u

      away : g.destination ≡ n → ⊥
      away d =
          left_gone F P s n p g g
          (taken_lowest F P s n p g e d t
          (λ r h a b v. low n r h a (v ∙ sym t))
          (λ r h a b v. (i.alone n n r p h g a e b v).1))
          c.0

      here : ready F P s n p ≡ Some g
      here = left_ready F P s n p g c.0

      lowest : (r : Port) (h : Flit) → Golden (handing F P s n) r h → (h.number < g.number) → ⊥
      lowest r h a b = first (ready_split F P s n r h (golden_ready n r h a).0)
        where
          first : (entering F P s n ≡ Some (r, h)) ⊎ (left F P s n r ≡ Some h) → ⊥
          first (inl x) = let y = last_in n r h x n p g e (t ∙ sym (golden_ready n r h a).1) in omega arith
          first (inr x) = low n r h (left_slot F P s n r h x) ((golden_ready n r h a).1 ∙ sym t) b

      go : (o : Option Port) → F.plan.wish n g.destination ≡ o → F.plan.distance m g.destination + 1 ≡ F.plan.distance n g.destination
      go None v =
          absurd (away (sym (law.apart n g.destination (i.sits n p g e).exists (i.sits n p g e).goes (settled F.plan law n g.destination v))))
      go (Some w) v =
          let by : (F.turn (handing F P s n)).to p ≡ w = sw.leads (handing F P s n) (apart n) p g (ready_golden n p g here t) lowest w (wish_is n p g here ∙ v) in
          let x : (F.plan.far n w).node ≡ m = ap (λ (y : Slot). y.node) (ap (λ (r : Port). F.plan.far n r) (sym by) ∙ c.1) in
          ap (λ (k : ℕ). F.plan.distance k g.destination + 1) (sym x) ∙ (wish_leads F.plan law n g.destination w v).1

  -- where a lower flit leads to a contradiction, so does any
  pub least : (b n : ℕ) (p : Port) (g : Flit) → g.number ≤ b → s.slot n p ≡ Some g →
      ((m : ℕ) (q : Port) (h : Flit) → s.slot m q ≡ Some h → h.ticket ≡ g.ticket → h.number ≤ g.number → Lowest h → ⊥) → ⊥
  least zero n p g k e no_low = no_low n p g e refl (omega arith) (λ m q h a b c. omega arith)
  least (suc b) n p g k e no_low =
      no_low n p g e refl (omega arith)
      (λ m q h a t c. least b m q h (omega arith) a (λ x y z u v w. no_low x y z u (v ∙ t) (omega arith)))
