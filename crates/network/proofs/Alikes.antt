-- Two networks whose golden flits stand alike, over one cycle in which no golden flit enters.
use Rattle.std.proofs.Common.{◌≡◌, ℕ, ◌≤◌, ◌⊎◌, Some, sym, refl, ap, ◌∙◌, inl, inr, arith}
use Rattle.std.proofs.lemmas.Option.{same_Some}
use Rattle.fabric.specs.declared.parts.Flit.{Flit}
use Rattle.fabric.specs.declared.parts.Port.{Port}
use Rattle.fabric.specs.declared.parts.Slot.{Slot}
use Rattle.fabric.specs.Layouts.{Lawful}
use Rattle.switch.specs.Switches.{LawfulSwitch, Carried}
use Rattle.bounds.specs.declared.settings.Settings.{Settings}
use Rattle.network.specs.Cycle.{Fabric, State, golden_in}
use Rattle.network.specs.Computed.{taken, left, entering, ready, handing, arriving, cycled}
use Rattle.network.specs.Promises.{Same, AlikeFrom, InNoSlot}
use Rattle.network.proofs.Nodes.{taken_here, slot_split, left_slot, left_gone, ready_split, left_ready, leads_to, arrives, came, taken_lowest, taken_low}
use Rattle.network.proofs.Invariant.{Inv}
use Rattle.network.proofs.Golden.{golden_ready, ready_golden, wish_is}

-- a state in which a ticket is golden, and no flit of it enters in this cycle
pub record Side (F : Fabric) (t : ℕ) (P : Settings) (s : State) : Type 0 where
  pub inv : Inv F P s 0
  pub golden : golden_in F P s.cycles ≡ t
  pub quiet : (n : ℕ) (p : Port) (f : Flit) → entering F P s n ≡ Some (p, f) → f.ticket ≡ t → ⊥

module _ (F : Fabric) (law : Lawful F.plan) (sw : LawfulSwitch F.turn) (t : ℕ) where
  -- what is golden and ready was in the slot
  ready_left : (P : Settings) (s : State) → Side F t P s → (n : ℕ) (p : Port) (f : Flit) → ready F P s n p ≡ Some f → f.ticket ≡ t → left F P s n p ≡ Some f
  ready_left P s a n p f e k = go (ready_split F P s n p f e)
    where
      go : (entering F P s n ≡ Some (p, f)) ⊎ (left F P s n p ≡ Some f) → left F P s n p ≡ Some f
      go (inl u) = absurd (a.quiet n p f u k)
      go (inr u) = u

  module _ (P : Settings) (s : State) (a : Side F t P s) (Q : Settings) (r : State) (b : Side F t Q r) (there : AlikeFrom t s r) (back : AlikeFrom t r s) where
    -- what is taken off here is taken off there
    taken_too : (n : ℕ) (p : Port) (f g : Flit) → f.ticket ≡ t → taken F P s n ≡ Some (p, f) → r.slot n p ≡ Some g → g.ticket ≡ t → g.number ≡ f.number → g.destination ≡ f.destination →
        taken F Q r n ≡ Some (p, g)
    taken_too n p f g k e u v w d =
        taken_lowest F Q r n p g u (d ∙ (taken_here F P s n p f e).1) (v ∙ sym b.golden)
        (λ q h x y z l.
        let c = back n q h x (z ∙ b.golden) in
        let m : f.number ≤ c.0.number = taken_low F P s n p f e q c.0 c.1 (c.4 ∙ y) (c.2 ∙ sym a.golden) in
        let o = c.3 in
        omega arith)
        (λ q h x y z. (b.inv.alone n n q p h g x u y z).1)

module _ (F : Fabric) (law : Lawful F.plan) (sw : LawfulSwitch F.turn) (t : ℕ)
    (P : Settings) (s : State) (a : Side F t P s) (Q : Settings) (r : State) (b : Side F t Q r) (there : AlikeFrom t s r) (back : AlikeFrom t r s) where
  -- what stays here stays there
  left_too : (n : ℕ) (p : Port) (f g : Flit) → f.ticket ≡ t → left F P s n p ≡ Some f → r.slot n p ≡ Some g → g.ticket ≡ t → g.number ≡ f.number → g.destination ≡ f.destination →
      left F Q r n p ≡ Some g
  left_too n p f g k e u v w d = go (slot_split F Q r n p g u)
    where
      go : (taken F Q r n ≡ Some (p, g)) ⊎ (left F Q r n p ≡ Some g) → left F Q r n p ≡ Some g
      go (inl x) = absurd (left_gone F P s n p f f (taken_too F law sw t Q r b P s a back there n p g f v x (left_slot F P s n p f e) k (sym w) (sym d)) e)
      go (inr x) = x

  carried : (n : ℕ) → Carried (handing F P s n) (handing F Q r n)
  carried n p f x =
      let y = golden_ready F P s a.inv n p f x in
      let k : f.ticket ≡ t = y.1 ∙ a.golden in
      let e = ready_left F law sw t P s a n p f y.0 k in
      let c = there n p f (left_slot F P s n p f e) k in
      let h = left_ready F Q r n p c.0 (left_too n p f c.0 k e c.1 c.2 c.3 c.4) in (
        c.0,
        ready_golden F Q r b.inv n p c.0 h (c.2 ∙ sym b.golden),
        c.3,
        c.4,
        wish_is F Q r b.inv n p c.0 h ∙ ap (λ (z : ℕ). F.plan.wish n z) c.4 ∙ sym (wish_is F P s a.inv n p f y.0),
      )

module _ (F : Fabric) (law : Lawful F.plan) (sw : LawfulSwitch F.turn) (t : ℕ)
    (P : Settings) (s : State) (a : Side F t P s) (Q : Settings) (r : State) (b : Side F t Q r) (there : AlikeFrom t s r) (back : AlikeFrom t r s) where
  -- golden flits leave alike
  same_way : (n : ℕ) (p : Port) (f : Flit) → left F P s n p ≡ Some f → f.ticket ≡ t → leads_to F Q r n p ≡ leads_to F P s n p
  same_way n p f e k =
      ap (λ (q : Port). F.plan.far n q)
      (sym (sw.steady (handing F P s n) (handing F Q r n) (carried F law sw t P s a Q r b there back n) (carried F law sw t Q r b P s a back there n) p f
      (ready_golden F P s a.inv n p f (left_ready F P s n p f e) (k ∙ sym a.golden))))

  -- a golden flit that stays and its like arrive in one slot
  arrive_both : (n : ℕ) (p : Port) (f g : Flit) → f.ticket ≡ t → left F P s n p ≡ Some f → r.slot n p ≡ Some g → g.ticket ≡ t → g.number ≡ f.number → g.destination ≡ f.destination →
      (m : ℕ) (q : Port) → leads_to F P s n p ≡ record { node = m; port = q } → (arriving F P s m q ≡ Some f) × (arriving F Q r m q ≡ Some g)
  arrive_both n p f g k e u v w d m q l =
      let h = (a.inv.sits n p f (left_slot F P s n p f e)).exists in
      let x = arrives F P s law n p f h (left_ready F P s n p f e) in
      let y = arrives F Q r law n p g h (left_ready F Q r n p g (left_too F law sw t P s a Q r b there back n p f g k e u v w d)) in (
        sym (ap (λ (z : Slot). arriving F P s z.node z.port) l) ∙ x,
        sym (ap (λ (z : Slot). arriving F Q r z.node z.port) (same_way n p f e k ∙ l)) ∙ y,
      )

  pub like_step : AlikeFrom t (cycled F P s) (cycled F Q r)
  like_step m q f e k =
      let z = came F P s law m q f e in
      let y = ready_left F law sw t P s a z.node z.port f z.there k in
      let c = there z.node z.port f (left_slot F P s z.node z.port f y) k in
      (c.0, (arrive_both z.node z.port f c.0 k y c.1 c.2 c.3 c.4 m q z.led).1, c.2, c.3, c.4)

  -- a flit that is in no slot, or taken off, is in none after the cycle
  nowhere_after : (f : Flit) → f.ticket ≡ t → ((n : ℕ) (p : Port) (g : Flit) → left F P s n p ≡ Some g → Same g f → ⊥) → InNoSlot f (cycled F P s)
  nowhere_after f k h m q g e u =
      let z = came F P s law m q g e in
      h z.node z.port g (ready_left F law sw t P s a z.node z.port g z.there (u.ticket ∙ k)) u

  pub nowhere_step : (f : Flit) → f.ticket ≡ t → InNoSlot f s → InNoSlot f (cycled F P s)
  nowhere_step f k h = nowhere_after f k (λ n p g e u. h n p g (left_slot F P s n p g e) u)

  pub taken_nowhere : (n : ℕ) (p : Port) (f : Flit) → f.ticket ≡ t → taken F P s n ≡ Some (p, f) → InNoSlot f (cycled F P s)
  taken_nowhere n p f k e =
      nowhere_after f k
      (λ m q g u v.
      let w = a.inv.alone m n q p g f (left_slot F P s m q g u) (taken_here F P s n p f e).0 v.ticket v.number in
      left_gone F P s n p g f e (sym (λ j. left F P s (w.0 j) (w.1 j)) ∙ u))

-- two flits in one slot, or both in none
abbrev pub Tied : State → State → Flit → Flit → Type 0
Tied s r f g = ((n : ℕ) × (p : Port) × (s.slot n p ≡ Some f) × (r.slot n p ≡ Some g)) ⊎ (InNoSlot f s × InNoSlot g r)

module _ (F : Fabric) (law : Lawful F.plan) (sw : LawfulSwitch F.turn) (t : ℕ)
    (P : Settings) (s : State) (a : Side F t P s) (Q : Settings) (r : State) (b : Side F t Q r) (there : AlikeFrom t s r) (back : AlikeFrom t r s) where
  pub tied_step : (f g : Flit) → f.ticket ≡ t → g.ticket ≡ t → Tied s r f g → Tied (cycled F P s) (cycled F Q r) f g
  tied_step f g k l (inr h) =
      inr (nowhere_step F law sw t P s a Q r b there back f k h.0, nowhere_step F law sw t Q r b P s a back there g l h.1)
  tied_step f g k l (inl h) = go (slot_split F P s h.0 h.1 f h.2)
    where
      c : (x : Flit) × (r.slot h.0 h.1 ≡ Some x) × (x.ticket ≡ t) × (x.number ≡ f.number) × (x.destination ≡ f.destination)
      c = there h.0 h.1 f h.2 k

      same : c.0 ≡ g
      same = same_Some c.0 g (sym c.1 ∙ h.3)

      number : g.number ≡ f.number
      number = sym (ap (λ (x : Flit). x.number) same) ∙ c.3

      destination : g.destination ≡ f.destination
      destination = sym (ap (λ (x : Flit). x.destination) same) ∙ c.4

      go : (taken F P s h.0 ≡ Some (h.1, f)) ⊎ (left F P s h.0 h.1 ≡ Some f) → Tied (cycled F P s) (cycled F Q r) f g
      go (inl e) =
          inr (
            taken_nowhere F law sw t P s a Q r b there back h.0 h.1 f k e,
            taken_nowhere F law sw t Q r b P s a back there h.0 h.1 g l (taken_too F law sw t P s a Q r b there back h.0 h.1 f g k e h.3 l number destination),
          )
      go (inr e) =
          let x = leads_to F P s h.0 h.1 in
          let y = arrive_both F law sw t P s a Q r b there back h.0 h.1 f g k e h.3 l number destination x.node x.port refl in
          inl (x.node, x.port, y.0, y.1)
