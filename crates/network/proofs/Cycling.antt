-- The invariant over one cycle: node after node, and then each flit to its port's far end.
use Rattle.std.proofs.Common.{◌≡◌, ℕ, zero, suc, ◌+◌, ◌/◌, ◌<◌, ◌≤◌, cond, eqb, ltb, ◌⊎◌, List, ◌∷◌, ◌++◌, Some, None, Option, sym, refl, ap, ◌∙◌, subst, inl, inr, append_assoc, add-one, arith}
use Rattle.std.specs.List.{AllByRecursion}
use Rattle.std.proofs.lemmas.Bool.{eq-eqb, ne_eqb, lt-ltb, le-ltb, cases_eq, cases_lt}
use Rattle.std.proofs.lemmas.Nat.{row_below_turned}
use Rattle.std.proofs.lemmas.Option.{some_pair_parts}
use Rattle.fabric.specs.declared.parts.Flit.{Flit}
use Rattle.fabric.specs.declared.parts.Port.{Port}
use Rattle.fabric.specs.Layouts.{Lawful}
use Rattle.network.specs.Log.{Log, Packet, packet, word, aim, sent, waiting}
use Rattle.bounds.specs.declared.settings.Settings.{Settings}
use Rattle.bounds.specs.SetUp.{all_tickets}
use Rattle.network.specs.Cycle.{Fabric, State, Next, off_at, entered_at}
use Rattle.network.specs.Computed.{taken, left, entering, ready, arriving, done, cycled}
use Rattle.network.proofs.Places.{some_none}
use Rattle.network.proofs.Nodes.{taken_here, slot_split, left_slot, left_gone, enters, ready_split, left_ready, entering_ready, leads_to, arrives, came}
use Rattle.network.proofs.Invariant.{Waits, Inv}
use Rattle.network.proofs.Moving.{Slots, inv_move}
use Rattle.network.proofs.Taking.{inv_take}
use Rattle.network.proofs.Entering.{inv_enter}

-- a ticket is one of an existing node
pub ticket_node : (F : Fabric) (P : Settings) (t : ℕ) → t < all_tickets F.plan P → t / P.tickets < F.plan.nodes
ticket_node F P t h = (row_below_turned t P.tickets F.plan.nodes P.tickets h (omega arith)).1

module _ (F : Fabric) (P : Settings) (s : State) where
  pub entered_packet : (t n : ℕ) (o : Option (Port × Flit)) (l : Log) → packet t (entered_at n o ++ l) ≡ packet t l
  entered_packet t n None l = refl
  entered_packet t n (Some b) l = refl

  pub off_packet : (t n : ℕ) (o : Option (Port × Flit)) (l : Log) → packet t (off_at s.cycles n o ++ l) ≡ packet t l
  off_packet t n None l = refl
  off_packet t n (Some b) l = refl

  pub entered_waiting : (n m : ℕ) (o : Option (Port × Flit)) (l : Log) → (n ≡ m → ⊥) → waiting P.tickets m (entered_at n o ++ l) ≡ waiting P.tickets m l
  entered_waiting n m None l h = refl
  entered_waiting n m (Some b) l h = rw (ne_eqb n m h)

  pub off_waiting : (n m : ℕ) (o : Option (Port × Flit)) (l : Log) → waiting P.tickets m (off_at s.cycles n o ++ l) ≡ waiting P.tickets m l
  off_waiting n m None l = refl
  off_waiting n m (Some b) l = refl

  pub entered_sent : (t n : ℕ) (o : Option (Port × Flit)) (l : Log) → ((p : Port) (f : Flit) → o ≡ Some (p, f) → t ≡ f.ticket → ⊥) → sent t (entered_at n o ++ l) ≡ sent t l
  entered_sent t n None l h = refl
  entered_sent t n (Some b) l h = rw (ne_eqb t b.1.ticket (h b.0 b.1 refl))

  pub off_sent : (t n : ℕ) (o : Option (Port × Flit)) (l : Log) → sent t (off_at s.cycles n o ++ l) ≡ sent t l
  off_sent t n None l = refl
  off_sent t n (Some b) l = refl

  abbrev pub grown : ℕ → Log
  grown k = done F P s k ++ s.log

  abbrev pub half_log : ℕ → Log
  half_log k = off_at s.cycles k (taken F P s k) ++ grown k

  pub grown_none : grown zero ≡ s.log
  unfolding done
  grown_none = refl

  pub grown_more : (k : ℕ) → grown (suc k) ≡ entered_at k (entering F P s k) ++ half_log k
  unfolding done
  grown_more k = simp append_assoc

  pub keeps_packet : (k t : ℕ) → packet t (grown k) ≡ packet t s.log
  keeps_packet zero t = rw grown_none
  keeps_packet (suc k) t =
      ap (λ (l : Log). packet t l) (grown_more k) ∙ entered_packet t k (entering F P s k) (half_log k) ∙ off_packet t k (taken F P s k) (grown k) ∙ keeps_packet k t

  pub keeps_waiting : (k m : ℕ) → k ≤ m → waiting P.tickets m (grown k) ≡ waiting P.tickets m s.log
  keeps_waiting zero m h = rw grown_none
  keeps_waiting (suc k) m h =
      ap (λ (l : Log). waiting P.tickets m l) (grown_more k) ∙ entered_waiting k m (entering F P s k) (half_log k) (λ e. omega arith)
      ∙ off_waiting k m (taken F P s k) (grown k) ∙ keeps_waiting k m (omega arith)

  module _ (i : Inv F P s 0) where
    -- what enters at a node waited there
    pub waited : (k : ℕ) (p : Port) (f : Flit) → entering F P s k ≡ Some (p, f) → Waits P s.log k f.ticket
    waited k p f e =
        let z = (enters F P s k p f e).1 in
        let w : AllByRecursion (Waits P s.log k) (f.ticket ∷ z.others) = subst (λ (x : List ℕ). AllByRecursion (Waits P s.log k) x) z.ticket (i.queue k) in
        w.0

    pub keeps_sent : (k t : ℕ) → k ≤ t / P.tickets → sent t (grown k) ≡ sent t s.log
    keeps_sent zero t h = rw grown_none
    keeps_sent (suc k) t h =
        ap (λ (l : Log). sent t l) (grown_more k)
        ∙ entered_sent t k (entering F P s k) (half_log k)
        (λ p f e d. let w = (waited k p f e).node in let y : t / P.tickets ≡ f.ticket / P.tickets = ap (λ (x : ℕ). x / P.tickets) d in omega arith)
        ∙ off_sent t k (taken F P s k) (grown k) ∙ keeps_sent k t (omega arith)

    abbrev pub stage_slot : ℕ → Slots
    stage_slot k m q = cond (ltb m k) (ready F P s m q) (s.slot m q)

    abbrev pub half_slot : ℕ → Slots
    half_slot k m q = cond (eqb m k) (left F P s m q) (stage_slot k m q)

    abbrev pub stage : ℕ → State
    stage k = record { cycles = s.cycles; slot = stage_slot k; log = grown k }

    abbrev pub half : ℕ → State
    half k = record { cycles = s.cycles; slot = half_slot k; log = half_log k }

    half_here : (k m : ℕ) (q : Port) → m ≡ k → half_slot k m q ≡ left F P s m q
    half_here k m q e = rw (eq-eqb m k e)

    half_there : (k m : ℕ) (q : Port) → (m ≡ k → ⊥) → half_slot k m q ≡ stage_slot k m q
    half_there k m q h = rw (ne_eqb m k h)

    pub stage_here : (k m : ℕ) (q : Port) → k ≤ m → stage_slot k m q ≡ s.slot m q
    stage_here k m q e = rw (le-ltb m k e)

    stage_done : (k m : ℕ) (q : Port) → m < k → stage_slot k m q ≡ ready F P s m q
    stage_done k m q e = rw (lt-ltb m k e)

    next_there : (k m : ℕ) (q : Port) → (m ≡ k → ⊥) → stage_slot (suc k) m q ≡ half_slot k m q
    next_there k m q h = go (cases_lt m k)
      where
        go : (m < k) ⊎ (k ≤ m) → stage_slot (suc k) m q ≡ half_slot k m q
        go (inl l) = stage_done (suc k) m q (omega arith) ∙ sym (half_there k m q h ∙ stage_done k m q l)
        go (inr l) = stage_here (suc k) m q (omega arith) ∙ sym (half_there k m q h ∙ stage_here k m q l)

    half_back : (k m : ℕ) (q : Port) (g : Flit) → half_slot k m q ≡ Some g → stage_slot k m q ≡ Some g
    half_back k m q g u = go (cases_eq m k)
      where
        go : (m ≡ k) ⊎ (m ≡ k → ⊥) → stage_slot k m q ≡ Some g
        go (inl e) = stage_here k m q (omega arith) ∙ left_slot F P s m q g (sym (half_here k m q e) ∙ u)
        go (inr h) = sym (half_there k m q h) ∙ u

    half_stays : (k m : ℕ) (q : Port) (g : Flit) → stage_slot k m q ≡ Some g → ((m ≡ k) × (taken F P s k ≡ Some (q, g))) ⊎ (half_slot k m q ≡ Some g)
    half_stays k m q g u = go (cases_eq m k)
      where
        here : m ≡ k → (taken F P s m ≡ Some (q, g)) ⊎ (left F P s m q ≡ Some g) → ((m ≡ k) × (taken F P s k ≡ Some (q, g))) ⊎ (half_slot k m q ≡ Some g)
        here e (inl t) = inl (e, sym (ap (λ (x : ℕ). taken F P s x) e) ∙ t)
        here e (inr t) = inr (half_here k m q e ∙ t)

        go : (m ≡ k) ⊎ (m ≡ k → ⊥) → ((m ≡ k) × (taken F P s k ≡ Some (q, g))) ⊎ (half_slot k m q ≡ Some g)
        go (inl e) = here e (slot_split F P s m q g (sym (stage_here k m q (omega arith)) ∙ u))
        go (inr h) = inr (half_there k m q h ∙ u)

    next_stays : (k m : ℕ) (q : Port) (g : Flit) → half_slot k m q ≡ Some g → stage_slot (suc k) m q ≡ Some g
    next_stays k m q g u = go (cases_eq m k)
      where
        go : (m ≡ k) ⊎ (m ≡ k → ⊥) → stage_slot (suc k) m q ≡ Some g
        go (inl e) = stage_done (suc k) m q (omega arith) ∙ left_ready F P s m q g (sym (half_here k m q e) ∙ u)
        go (inr h) = next_there k m q h ∙ u

    next_back : (k m : ℕ) (q : Port) (g : Flit) → stage_slot (suc k) m q ≡ Some g → ((m ≡ k) × (entering F P s k ≡ Some (q, g))) ⊎ (half_slot k m q ≡ Some g)
    next_back k m q g u = go (cases_eq m k)
      where
        here : m ≡ k → (entering F P s m ≡ Some (q, g)) ⊎ (left F P s m q ≡ Some g) → ((m ≡ k) × (entering F P s k ≡ Some (q, g))) ⊎ (half_slot k m q ≡ Some g)
        here e (inl t) = inl (e, sym (ap (λ (x : ℕ). entering F P s x) e) ∙ t)
        here e (inr t) = inr (half_here k m q e ∙ t)

        go : (m ≡ k) ⊎ (m ≡ k → ⊥) → ((m ≡ k) × (entering F P s k ≡ Some (q, g))) ⊎ (half_slot k m q ≡ Some g)
        go (inl e) = here e (ready_split F P s m q g (sym (stage_done (suc k) m q (omega arith)) ∙ u))
        go (inr h) = inr (sym (next_there k m q h) ∙ u)

    -- the flit taken off leaves the node
    pub take_step : (k : ℕ) → Inv F P (stage k) k → Inv F P (half k) k
    take_step k j = go (taken F P s k) refl
      where
        go : (o : Option (Port × Flit)) → taken F P s k ≡ o → Inv F P (record { cycles = s.cycles; slot = half_slot k; log = off_at s.cycles k o ++ grown k }) k
        go None e =
            inv_move F P (stage k) k j (half_slot k)
            (record {
              to = λ n p. record { node = n; port = p };
              ahead = λ n p f u. stays n p f (half_stays k n p f u);
              back = λ m q f u. (m, q, half_back k m q f u, refl);
              exists = λ m q f u. (j.sits m q f (half_back k m q f u)).exists;
            })
            s.cycles k (λ a b h. h)
          where
            stays : (n : ℕ) (p : Port) (f : Flit) → ((n ≡ k) × (taken F P s k ≡ Some (p, f))) ⊎ (half_slot k n p ≡ Some f) → half_slot k n p ≡ Some f
            stays n p f (inl t) = some_none (taken F P s k) (p, f) e t.1
            stays n p f (inr t) = t
        go (Some b) e =
            inv_take F P (stage k) k j (half_slot k) k b.0 b.1
            (record {
              there = stage_here k k b.0 (omega arith) ∙ (taken_here F P s k b.0 b.1 e).0;
              back = half_back k;
              gone = λ g u. left_gone F P s k b.0 g b.1 e (sym (half_here k k b.0 refl) ∙ u);
              stays = λ m q g u. stays m q g (half_stays k m q g u);
            })
            (taken_here F P s k b.0 b.1 e).1
          where
            stays : (m : ℕ) (q : Port) (g : Flit) → ((m ≡ k) × (taken F P s k ≡ Some (q, g))) ⊎ (half_slot k m q ≡ Some g) → ((m ≡ k) × (q ≡ b.0)) ⊎ (half_slot k m q ≡ Some g)
            stays m q g (inl t) = inl (t.0, (some_pair_parts q b.0 g b.1 (sym t.1 ∙ e)).0)
            stays m q g (inr t) = inr t

    pub next_of_half : (k : ℕ) (p : Port) (f : Flit) → entering F P s k ≡ Some (p, f) → Next P (half k) k f
    next_of_half k p f e =
        record {
          others = z.others;
          ticket = off_waiting k k (taken F P s k) (grown k) ∙ keeps_waiting k k (omega arith) ∙ z.ticket;
          number = z.number ∙ sym sent_is;
          destination = z.destination ∙ ap aim (sym packet_is);
          its_word = z.its_word ∙ ap (λ (x : Option Packet). word x f.number) (sym packet_is);
          now = z.now;
        }
      where
        z : Next P s k f
        z = (enters F P s k p f e).1

        packet_is : packet f.ticket (half_log k) ≡ packet f.ticket s.log
        packet_is = off_packet f.ticket k (taken F P s k) (grown k) ∙ keeps_packet k f.ticket

        sent_is : sent f.ticket (half_log k) ≡ sent f.ticket s.log
        sent_is = off_sent f.ticket k (taken F P s k) (grown k) ∙ keeps_sent k f.ticket (let w = (waited k p f e).node in omega arith)

    -- the next flit enters
    enter_step : (k : ℕ) → k < F.plan.nodes → Inv F P (half k) k → Inv F P (stage (suc k)) (suc k)
    enter_step k h j = subst (λ (l : Log). Inv F P (record { cycles = s.cycles; slot = stage_slot (suc k); log = l }) (suc k)) (sym (grown_more k)) (go (entering F P s k) refl)
      where
        go : (o : Option (Port × Flit)) → entering F P s k ≡ o → Inv F P (record { cycles = s.cycles; slot = stage_slot (suc k); log = entered_at k o ++ half_log k }) (suc k)
        go None e =
            inv_move F P (half k) k j (stage_slot (suc k))
            (record {
              to = λ n p. record { node = n; port = p };
              ahead = next_stays k;
              back = λ m q f u. (m, q, stays m q f (next_back k m q f u), refl);
              exists = λ m q f u. (j.sits m q f (stays m q f (next_back k m q f u))).exists;
            })
            s.cycles (suc k) (λ a b w. (w.0, λ u. let y = w.1 u in omega arith))
          where
            stays : (n : ℕ) (p : Port) (f : Flit) → ((n ≡ k) × (entering F P s k ≡ Some (p, f))) ⊎ (half_slot k n p ≡ Some f) → half_slot k n p ≡ Some f
            stays n p f (inl t) = some_none (entering F P s k) (p, f) e t.1
            stays n p f (inr t) = t
        go (Some b) e =
            subst (λ (x : ℕ). Inv F P (record { cycles = s.cycles; slot = stage_slot (suc k); log = entered_at k (Some b) ++ half_log k }) x) (add-one k)
            (inv_enter F P (half k) k j (stage_slot (suc k)) b.0 b.1
            (record {
              exists = h;
              there = stage_done (suc k) k b.0 (omega arith) ∙ entering_ready F P s k b.0 b.1 e;
              stays = next_stays k;
              back = λ m q g u. back m q g (next_back k m q g u);
            })
            (next_of_half k b.0 b.1 e))
          where
            back : (m : ℕ) (q : Port) (g : Flit) → ((m ≡ k) × (entering F P s k ≡ Some (q, g))) ⊎ (half_slot k m q ≡ Some g) → ((m ≡ k) × (q ≡ b.0) × (g ≡ b.1)) ⊎ (half_slot k m q ≡ Some g)
            back m q g (inl t) = let w = some_pair_parts q b.0 g b.1 (sym t.1 ∙ e) in inl (t.0, w.0, w.1)
            back m q g (inr t) = inr t

    start : Inv F P (stage zero) zero
    start =
        subst (λ (l : Log). Inv F P (record { cycles = s.cycles; slot = stage_slot zero; log = l }) zero) (sym grown_none)
        (inv_move F P s zero i (stage_slot zero)
        (record {
          to = λ n p. record { node = n; port = p };
          ahead = λ n p f u. stage_here zero n p (omega arith) ∙ u;
          back = λ m q f u. (m, q, sym (stage_here zero m q (omega arith)) ∙ u, refl);
          exists = λ m q f u. (i.sits m q f (sym (stage_here zero m q (omega arith)) ∙ u)).exists;
        })
        s.cycles zero (λ a b h. h))

    pub stages : (k : ℕ) → k ≤ F.plan.nodes → Inv F P (stage k) k
    stages zero h = start
    stages (suc k) h = enter_step k h (take_step k (stages k (omega arith)))

    -- only existing nodes have flits to send
    pub ready_exists : (n : ℕ) (p : Port) (f : Flit) → ready F P s n p ≡ Some f → n < F.plan.nodes
    ready_exists n p f e = go (ready_split F P s n p f e)
      where
        go : (entering F P s n ≡ Some (p, f)) ⊎ (left F P s n p ≡ Some f) → n < F.plan.nodes
        go (inl u) =
            let w = waited n p f u in
            let y : f.ticket / P.tickets < F.plan.nodes = ticket_node F P f.ticket (i.opens f.ticket w.open_ticket).ticket in
            let x = w.node in omega arith
        go (inr u) = (i.sits n p f (left_slot F P s n p f u)).exists

    pub inv_cycle : Lawful F.plan → Inv F P (cycled F P s) 0
    inv_cycle law =
        inv_move F P (stage F.plan.nodes) F.plan.nodes all (arriving F P s)
        (record {
          to = leads_to F P s;
          ahead = λ n p f u. arrives F P s law n p f (all.sits n p f u).exists (sym (stage_done F.plan.nodes n p (all.sits n p f u).exists) ∙ u);
          back = λ m q f u.
              let z = came F P s law m q f u in
              (z.node, z.port, stage_done F.plan.nodes z.node z.port z.exists ∙ z.there, z.led);
          exists = λ m q f u. (came F P s law m q f u).to_exists;
        })
        (s.cycles + 1) 0 (λ a b h. (let y = h.0 in omega arith, λ u. let y = h.0 in absurd (omega arith)))
      where
        all : Inv F P (stage F.plan.nodes) F.plan.nodes
        all = stages F.plan.nodes (omega arith)
