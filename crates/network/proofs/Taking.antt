-- The invariant when a flit is taken off.
use Rattle.std.proofs.Common.{◌≡◌, ℕ, ◌<◌, ◌≤◌, true, false, ◌&&◌, eqb, ◌⊎◌, List, ◌∷◌, Some, None, sym, ap, ◌∙◌, subst, inl, inr, arith}
use Rattle.std.proofs.lemmas.Bool.{eqb-true, cases_Bool, and_parts}
use Rattle.std.proofs.lemmas.Option.{same_Some}
use Rattle.fabric.specs.declared.parts.Flit.{Flit}
use Rattle.fabric.specs.declared.parts.Port.{Port}
use Rattle.network.specs.Log.{Log, packet, word, free, sent, received, waiting}
use Rattle.network.specs.Log.Happening.{entered, off, collected}
use Rattle.bounds.specs.declared.settings.Settings.{Settings}
use Rattle.network.specs.Cycle.{Fabric, State}
use Rattle.network.specs.Promises.{Same, Stands, OffOnce, NeverOff, InOneSlot, InNoSlot, OfPacket, OfferedLast}
use Rattle.network.proofs.Stand.{stands_later, stands_cases, stands_older, Other, never_more, once_more, once_now}
use Rattle.network.proofs.Invariant.{Sits, Waits, Inv, all_weaker}
use Rattle.network.proofs.Moving.{Slots}

-- the slots lose this flit
pub record Removed (old new : Slots) (n : ℕ) (p : Port) (f : Flit) : Type 0 where
  pub there : old n p ≡ Some f
  pub back : (m : ℕ) (q : Port) (g : Flit) → new m q ≡ Some g → old m q ≡ Some g
  pub gone : (g : Flit) → new n p ≡ Some g → ⊥
  pub stays : (m : ℕ) (q : Port) (g : Flit) → old m q ≡ Some g → ((m ≡ n) × (q ≡ p)) ⊎ (new m q ≡ Some g)

off_entered : {f g : Flit} {n m c : ℕ} → off f n c ≡ entered g m → ⊥
off_entered e = cc

off_collected : {f : Flit} {n c t r : ℕ} {ws : List ℕ} → off f n c ≡ collected t r ws → ⊥
off_collected e = cc

module _ (F : Fabric) (P : Settings) (s : State) (N : ℕ) (i : Inv F P s N) (new : Slots) (n : ℕ) (p : Port) (f : Flit)
    (rm : Removed s.slot new n p f) (home : f.destination ≡ n) where
  abbrev log : Log
  log = off f n s.cycles ∷ s.log

  abbrev now : State
  now = record { cycles = s.cycles; slot = new; log = log }

  unreceived : (m : ℕ) (q : Port) (g : Flit) → new m q ≡ Some g → received g.ticket g.number log ≡ None
  unreceived m q g e = go (cases_Bool (eqb g.ticket f.ticket && eqb g.number f.number))
    where
      go : ((eqb g.ticket f.ticket && eqb g.number f.number) ≡ true) ⊎ ((eqb g.ticket f.ticket && eqb g.number f.number) ≡ false) →
          received g.ticket g.number log ≡ None
      go (inl k) =
          let a = and_parts (eqb g.ticket f.ticket) (eqb g.number f.number) k in
          let w = i.alone m n q p g f (rm.back m q g e) rm.there (eqb-true g.ticket f.ticket a.0) (eqb-true g.number f.number a.1) in
          absurd (rm.gone g (sym (λ j. new (w.0 j) (w.1 j)) ∙ e))
      go (inr k) = rw k (i.sits m q g (rm.back m q g e)).unreceived

  sits : (m : ℕ) (q : Port) (g : Flit) → new m q ≡ Some g → Sits F P log m g
  sits m q g e =
      let z = i.sits m q g (rm.back m q g e) in
      record {
        exists = z.exists;
        open_ticket = z.open_ticket;
        was_sent = z.was_sent;
        in_size = z.in_size;
        word_is = z.word_is;
        unreceived = unreceived m q g e;
        goes = z.goes;
        from = z.from;
        was_entered = stands_later z.was_entered;
      }

  right_words : (t k w : ℕ) → free t s.log ≡ false → received t k log ≡ Some w → w ≡ word (packet t s.log) k
  right_words t k w o e = go (cases_Bool (eqb t f.ticket && eqb k f.number))
    where
      go : ((eqb t f.ticket && eqb k f.number) ≡ true) ⊎ ((eqb t f.ticket && eqb k f.number) ≡ false) → w ≡ word (packet t s.log) k
      go (inl b) =
          let a = and_parts (eqb t f.ticket) (eqb k f.number) b in
          let u : t ≡ f.ticket = eqb-true t f.ticket a.0 in
          let v : k ≡ f.number = eqb-true k f.number a.1 in
          let x : Some f.word ≡ Some w = rw b at e in
          let y = (i.sits n p f rm.there).word_is in
          cc
      go (inr b) = i.right_words t k w o (rw b at e)

  unsent : (t k : ℕ) → free t s.log ≡ false → sent t s.log ≤ k → received t k log ≡ None
  unsent t k o h = go (cases_Bool (eqb t f.ticket && eqb k f.number))
    where
      go : ((eqb t f.ticket && eqb k f.number) ≡ true) ⊎ ((eqb t f.ticket && eqb k f.number) ≡ false) → received t k log ≡ None
      go (inl b) =
          let a = and_parts (eqb t f.ticket) (eqb k f.number) b in
          let u : t ≡ f.ticket = eqb-true t f.ticket a.0 in
          let v : k ≡ f.number = eqb-true k f.number a.1 in
          let y : f.number < sent f.ticket s.log = (i.sits n p f rm.there).was_sent in
          let x : f.number < sent t s.log = rw u y in
          absurd (omega arith)
      go (inr b) = rw b (i.unsent t k o h)

  offs : (g : Flit) (m d : ℕ) → Stands (off g m d) log → (k : ℕ) × Stands (entered g k) log
  offs g m d e = go (stands_cases e)
    where
      go : ((off f n s.cycles ≡ off g m d) × (e.older ≡ s.log)) ⊎ ((u : Stands (off g m d) s.log) × (u.older ≡ e.older)) → (k : ℕ) × Stands (entered g k) log
      go (inl k) =
          let z = i.sits n p f rm.there in
          let w : f ≡ g = cc in
          (z.from, subst (λ (x : Flit). Stands (entered x z.from) log) w (stands_later z.was_entered))
      go (inr k) = let z = i.offs g m d k.0 in (z.0, stands_later z.1)

  -- another flit than f is not the one that comes off now
  other : (g : Flit) → (Same f g → ⊥) → Other g (off f n s.cycles)
  other g h k m d u e = let w : f ≡ k = cc in h (subst (λ (x : Flit). Same x g) (sym w) u)

  account : (g : Flit) → (OffOnce g s.log × InNoSlot g s) ⊎ (NeverOff g s.log × InOneSlot g s) →
      (OffOnce g log × InNoSlot g now) ⊎ (NeverOff g log × InOneSlot g now)
  account g (inl h) =
      inl (once_more (other g (λ u. h.1 n p f rm.there u)) h.0, λ m q k e u. h.1 m q k (rm.back m q k e) u)
  account g (inr h) = go (rm.stays h.1.node h.1.port g h.1.here)
    where
      itself : f ≡ g → Same f g
      itself e = record { ticket = ap (λ (x : Flit). x.ticket) e; number = ap (λ (x : Flit). x.number) e; since = ap (λ (x : Flit). x.entered) e }

      go : ((h.1.node ≡ n) × (h.1.port ≡ p)) ⊎ (new h.1.node h.1.port ≡ Some g) → (OffOnce g log × InNoSlot g now) ⊎ (NeverOff g log × InOneSlot g now)
      go (inl k) =
          let w : s.slot n p ≡ Some g = sym (λ j. s.slot (k.0 j) (k.1 j)) ∙ h.1.here in
          let x : f ≡ g = same_Some f g (sym rm.there ∙ w) in
          let y : n ≡ g.destination = sym home ∙ ap (λ (z : Flit). z.destination) x in
          inl (
            once_now n s.cycles (itself x) y h.0,
            λ m q d e u.
                let a = h.1.only m q d (rm.back m q d e) u in
                rm.gone d (sym (λ j. new ((a.0 ∙ k.0) j) ((a.1 ∙ k.1) j)) ∙ e),
          )
      go (inr k) =
          inr (
            never_more
                (other g (λ u.
                let a = h.1.only n p f rm.there u in
                rm.gone g ((λ j. new (a.0 j) (a.1 j)) ∙ k)))
                h.0,
            record {
              node = h.1.node;
              port = h.1.port;
              here = k;
              only = λ m q d e u. h.1.only m q d (rm.back m q d e) u;
            },
          )

  pub inv_take : Inv F P now N
  inv_take =
      record {
        sits = sits;
        alone = λ a b x y g h u v. i.alone a b x y g h (rm.back a x g u) (rm.back b y h v);
        in_turn = λ a b x y g h u v. i.in_turn a b x y g h (rm.back a x g u) (rm.back b y h v);
        opens = λ t o. let z = i.opens t o in record { ticket = z.ticket; goes = z.goes; short = z.short };
        right_words = right_words;
        unsent = unsent;
        queue = λ m. all_weaker (Waits P s.log m) (Waits P log m) (λ u w. record { node = w.node; open_ticket = w.open_ticket; more = w.more }) (waiting P.tickets m s.log) (i.queue m);
        queue_apart = i.queue_apart;
        timely = λ g m e. i.timely g m (stands_older e off_entered).0;
        apart = λ g h m k e d. let z = stands_older e off_entered in i.apart g h m k z.0 (subst (λ (x : Log). Stands (entered h k) x) (sym z.1) d);
        offs = offs;
        accounted = λ g m e. account g (i.accounted g m (stands_older e off_entered).0);
        carries = λ g m e. let z = stands_older e off_entered in subst (λ (x : Log). OfPacket g x) z.1 (i.carries g m z.0);
        collections = λ t r ws e. let z = stands_older e off_collected in subst (λ (x : Log). OfferedLast t (record { destination = r; words = ws }) x) z.1 (i.collections t r ws z.0);
      }
