-- What one cycle does at a node, as facts on its slots.
use Rattle.std.proofs.Common.{◌≡◌, ℕ, ◌<◌, ◌≤◌, ◌⊎◌, Some, None, Option, sym, refl, ap, ◌∙◌, subst, inl, inr, ⊎_elim, arith}
use Rattle.std.proofs.lemmas.Bool.{cases_lt, lt-ltb, le-ltb}
use Rattle.std.proofs.lemmas.Option.{same_Some}
use Rattle.fabric.specs.declared.parts.Flit.{Flit}
use Rattle.fabric.specs.declared.parts.Slot.{Slot}
use Rattle.fabric.specs.declared.parts.Port.{Port}
use Rattle.fabric.specs.Layouts.{Exists, Missing, Lawful}
use Rattle.fabric.specs.Places.{port_cases}
use Rattle.fabric.proofs.Following.{far_exists}
use Rattle.switch.specs.Switches.{at}
use Rattle.bounds.specs.declared.settings.Settings.{Settings}
use Rattle.network.specs.Cycle.{Fabric, State, golden_in, wish_of, Destined, Takes, Remains, LetsIn, Filled}
use Rattle.network.specs.Computed.{taken, left, entering, ready, handing, leaving, arriving}
use Rattle.network.proofs.Places.{some_none, pair_some, at_ordered, at_turned}
use Rattle.network.proofs.Choosing.{work_is}

module _ (F : Fabric) (P : Settings) (s : State) where
  taken_law : (n : ℕ) (p : Port) (f : Flit) → taken F P s n ≡ Some (p, f) → Takes (golden_in F P s.cycles) n (s.slot n) (Some (p, f))
  taken_law n p f e = subst (Takes (golden_in F P s.cycles) n (s.slot n)) e (work_is F P s n).takes_off

  pub taken_here : (n : ℕ) (p : Port) (f : Flit) → taken F P s n ≡ Some (p, f) → Destined n (s.slot n) p f
  taken_here n p f e = (taken_law n p f e).0

  pub slot_split : (n : ℕ) (p : Port) (f : Flit) → s.slot n p ≡ Some f → (taken F P s n ≡ Some (p, f)) ⊎ (left F P s n p ≡ Some f)
  slot_split n p f e = go (taken F P s n) refl (work_is F P s n).remains
    where
      go : (o : Option (Port × Flit)) → taken F P s n ≡ o → Remains o (s.slot n) (left F P s n) → (taken F P s n ≡ Some (p, f)) ⊎ (left F P s n p ≡ Some f)
      go None t k = inr (k p ∙ e)
      go (Some b) t k =
          ⊎_elim
          (λ d.
          let w : b.1 ≡ f = same_Some b.1 f (sym (taken_here n b.0 b.1 t).0 ∙ subst (λ (q : Port). s.slot n q ≡ Some f) d e) in
          inl (t ∙ pair_some b p f (sym d) w))
          (λ h. inr (k.others p h ∙ e)) (port_cases p b.0)

  pub left_slot : (n : ℕ) (p : Port) (f : Flit) → left F P s n p ≡ Some f → s.slot n p ≡ Some f
  left_slot n p f e = go (taken F P s n) (work_is F P s n).remains
    where
      go : (o : Option (Port × Flit)) → Remains o (s.slot n) (left F P s n) → s.slot n p ≡ Some f
      go None k = sym (k p) ∙ e
      go (Some b) k =
          ⊎_elim (λ d. some_none (left F P s n b.0) f k.there (subst (λ (q : Port). left F P s n q ≡ Some f) d e))
          (λ h. sym (k.others p h) ∙ e) (port_cases p b.0)

  pub left_gone : (n : ℕ) (p : Port) (f g : Flit) → taken F P s n ≡ Some (p, g) → left F P s n p ≡ Some f → ⊥
  left_gone n p f g e u =
      let k : Remains (Some (p, g)) (s.slot n) (left F P s n) = subst (λ (o : Option (Port × Flit)). Remains o (s.slot n) (left F P s n)) e (work_is F P s n).remains in
      some_none (left F P s n p) f k.there u

  -- the flit that enters is the next one of the first packet that waits, and its place was empty
  pub enters : (n : ℕ) (p : Port) (f : Flit) → entering F P s n ≡ Some (p, f) → LetsIn P s n (left F P s n) (Some (p, f))
  enters n p f e = subst (LetsIn P s n (left F P s n)) e (work_is F P s n).lets_in

  pub ready_split : (n : ℕ) (p : Port) (f : Flit) → ready F P s n p ≡ Some f → (entering F P s n ≡ Some (p, f)) ⊎ (left F P s n p ≡ Some f)
  ready_split n p f e = go (entering F P s n) refl (work_is F P s n).fills
    where
      go : (o : Option (Port × Flit)) → entering F P s n ≡ o → Filled o (left F P s n) (ready F P s n) → (entering F P s n ≡ Some (p, f)) ⊎ (left F P s n p ≡ Some f)
      go None t k = inr (sym (k p) ∙ e)
      go (Some b) t k =
          ⊎_elim
          (λ d.
          let w : b.1 ≡ f = same_Some b.1 f (sym k.there ∙ subst (λ (q : Port). ready F P s n q ≡ Some f) d e) in
          inl (t ∙ pair_some b p f (sym d) w))
          (λ h. inr (sym (k.others p h) ∙ e)) (port_cases p b.0)

  pub left_ready : (n : ℕ) (p : Port) (f : Flit) → left F P s n p ≡ Some f → ready F P s n p ≡ Some f
  left_ready n p f e = go (entering F P s n) refl (work_is F P s n).fills
    where
      go : (o : Option (Port × Flit)) → entering F P s n ≡ o → Filled o (left F P s n) (ready F P s n) → ready F P s n p ≡ Some f
      go None t k = k p ∙ e
      go (Some b) t k =
          ⊎_elim (λ d. some_none (left F P s n b.0) f (enters n b.0 b.1 t).0.empty (subst (λ (q : Port). left F P s n q ≡ Some f) d e))
          (λ h. k.others p h ∙ e) (port_cases p b.0)

  pub entering_ready : (n : ℕ) (p : Port) (f : Flit) → entering F P s n ≡ Some (p, f) → ready F P s n p ≡ Some f
  entering_ready n p f e =
      let k : Filled (Some (p, f)) (left F P s n) (ready F P s n) = subst (λ (o : Option (Port × Flit)). Filled o (left F P s n) (ready F P s n)) e (work_is F P s n).fills in
      k.there

  pub at_places : (n : ℕ) (p : Port) → at (handing F P s n).places p ≡ ready F P s n p
  unfolding handing
  at_places n = at_ordered (ready F P s n)

  pub at_wishes : (n : ℕ) (p : Port) → at (handing F P s n).wishes p ≡ wish_of F.plan n (ready F P s n p)
  unfolding handing
  at_wishes n = at_ordered (λ p. wish_of F.plan n (ready F P s n p))

  pub golden_is : (n : ℕ) → (handing F P s n).golden ≡ golden_in F P s.cycles
  unfolding handing
  golden_is n = refl

  -- where a place of a node leads
  abbrev pub leads_to : ℕ → Port → Slot
  leads_to n p = F.plan.far n ((F.turn (handing F P s n)).to p)

  pub arriving_is : (m : ℕ) (q : Port) → Exists F.plan m → arriving F P s m q ≡ leaving F P s (F.plan.far m q).node (F.plan.far m q).port
  unfolding arriving
  arriving_is m q h = rw (lt-ltb m F.plan.nodes h) refl

  pub arriving_none : (m : ℕ) (q : Port) → Missing F.plan m → arriving F P s m q ≡ None
  unfolding arriving
  arriving_none m q h = rw (le-ltb m F.plan.nodes h) refl

  leaving_is : (n : ℕ) (p : Port) → leaving F P s n p ≡ ready F P s n ((F.turn (handing F P s n)).from p)
  leaving_is n p = at_turned (F.turn (handing F P s n)) (handing F P s n).places p ∙ at_places n ((F.turn (handing F P s n)).from p)

  pub arrives : Lawful F.plan → (n : ℕ) (p : Port) (f : Flit) → Exists F.plan n → ready F P s n p ≡ Some f →
      arriving F P s (leads_to n p).node (leads_to n p).port ≡ Some f
  arrives law n p f h e =
      let t = F.turn (handing F P s n) in
      arriving_is (leads_to n p).node (leads_to n p).port (far_exists F.plan law n (t.to p) h)
      ∙ (ap (λ (x : Slot). leaving F P s x.node x.port) (law.back n (t.to p) h)
      ∙ (leaving_is n (t.to p) ∙ (ap (ready F P s n) (t.from_to p) ∙ e)))

  -- where a flit that arrived comes from
  pub record Came (m : ℕ) (q : Port) (f : Flit) : Type 0 where
    pub node : ℕ
    pub port : Port
    pub exists : Exists F.plan node
    pub there : ready F P s node port ≡ Some f
    pub to_exists : Exists F.plan m
    pub led : leads_to node port ≡ record { node = m; port = q }

  pub came : Lawful F.plan → (m : ℕ) (q : Port) (f : Flit) → arriving F P s m q ≡ Some f → Came m q f
  came law m q f e = go (cases_lt m F.plan.nodes)
    where
      go : Exists F.plan m ⊎ Missing F.plan m → Came m q f
      go (inl h) =
          let x = F.plan.far m q in
          let t = F.turn (handing F P s x.node) in
          record {
            node = x.node;
            port = t.from x.port;
            exists = far_exists F.plan law m q h;
            there = sym (leaving_is x.node x.port) ∙ (sym (arriving_is m q h) ∙ e);
            to_exists = h;
            led = ap (λ (r : Port). F.plan.far x.node r) (t.to_from x.port) ∙ law.back m q h;
          }
      go (inr h) = some_none (arriving F P s m q) f (arriving_none m q h) e

  -- no golden flit destined for a node is lower than the golden flit that is taken off there
  pub taken_low : (n : ℕ) (p : Port) (f : Flit) → taken F P s n ≡ Some (p, f) →
      (q : Port) (h : Flit) → s.slot n q ≡ Some h → h.destination ≡ n → h.ticket ≡ golden_in F P s.cycles → f.number ≤ h.number
  taken_low n p f e q h u d t = (((taken_law n p f e).1 q h (u, d)).golden_first t).1

  -- the lowest golden flit among those destined for a node is taken off
  pub taken_lowest : (n : ℕ) (p : Port) (f : Flit) → s.slot n p ≡ Some f → f.destination ≡ n → f.ticket ≡ golden_in F P s.cycles →
      ((q : Port) (h : Flit) → s.slot n q ≡ Some h → h.destination ≡ n → h.ticket ≡ golden_in F P s.cycles → h.number < f.number → ⊥) →
      ((q : Port) (h : Flit) → s.slot n q ≡ Some h → h.ticket ≡ f.ticket → h.number ≡ f.number → q ≡ p) →
      taken F P s n ≡ Some (p, f)
  taken_lowest n p f e d t lowest apart = go (taken F P s n) refl (work_is F P s n).takes_off
    where
      go : (o : Option (Port × Flit)) → taken F P s n ≡ o → Takes (golden_in F P s.cycles) n (s.slot n) o → taken F P s n ≡ Some (p, f)
      go None u k = absurd (k p f (e, d))
      go (Some b) u k =
          let g = (k.1 p f (e, d)).golden_first t in
          let low : b.1.number ≤ f.number = g.1 in
          let least = lowest b.0 b.1 k.0.0 k.0.1 g.0 in
          let q : b.0 ≡ p = apart b.0 b.1 k.0.0 (g.0 ∙ sym t) (omega arith) in
          let w : b.1 ≡ f = same_Some b.1 f (sym (subst (λ (x : Port). s.slot n x ≡ Some b.1) q k.0.0) ∙ e) in
          u ∙ pair_some b p f q w
