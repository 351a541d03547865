-- The invariant when a flit enters.
use Rattle.std.proofs.Common.{◌≡◌, ℕ, suc, ◌+◌, ◌/◌, ◌<◌, ◌≤◌, Bool, true, false, cond, eqb, ◌⊎◌, List, ◌∷◌, ◌++◌, take, drop, Some, None, Option, sym, refl, ap, ◌∙◌, subst, inl, inr, arith, take-append-drop, drop-cons}
use Rattle.std.specs.List.{AllByRecursion}
use Rattle.fabric.proofs.Pigeons.{Distinct}
use Rattle.std.proofs.lemmas.List.{length-take-le}
use Rattle.std.proofs.lemmas.Bool.{eqb-false, eq-eqb, ne_eqb, cases_eq, cases_Bool}
use Rattle.fabric.specs.declared.parts.Flit.{Flit}
use Rattle.fabric.specs.declared.parts.Port.{Port}
use Rattle.network.specs.Log.{Log, Packet, packet, size, word, aim, sent, waiting}
use Rattle.network.specs.Log.Happening.{entered, off, collected}
use Rattle.bounds.specs.declared.settings.Settings.{Settings}
use Rattle.network.specs.Cycle.{Fabric, State, Next}
use Rattle.network.specs.Promises.{Same, Stands, OffOnce, NeverOff, InOneSlot, InNoSlot, OfPacket, OfferedLast}
use Rattle.network.proofs.Stand.{stands_now, stands_later, stands_cases, stands_older, Other, never_more, once_more}
use Rattle.network.proofs.Invariant.{Sits, Waits, Inv, all_weaker, all_both}
use Rattle.network.proofs.Moving.{Slots}

-- the slots gain this flit
pub record Added (F : Fabric) (old new : Slots) (n : ℕ) (p : Port) (f : Flit) : Type 0 where
  pub exists : n < F.plan.nodes
  pub there : new n p ≡ Some f
  pub stays : (m : ℕ) (q : Port) (g : Flit) → old m q ≡ Some g → new m q ≡ Some g
  pub back : (m : ℕ) (q : Port) (g : Flit) → new m q ≡ Some g → ((m ≡ n) × (q ≡ p) × (g ≡ f)) ⊎ (old m q ≡ Some g)

entered_off : {f g : Flit} {n m c : ℕ} → entered f n ≡ off g m c → ⊥
entered_off e = cc

entered_collected : {f : Flit} {n t r : ℕ} {ws : List ℕ} → entered f n ≡ collected t r ws → ⊥
entered_collected e = cc

same_back : {f g : Flit} → Same f g → Same g f
same_back e = record { ticket = sym e.ticket; number = sym e.number; since = sym e.since }

of_packet : (f : Flit) (l : Log) (o : Option Packet) → packet f.ticket l ≡ o → f.destination ≡ aim o → f.word ≡ word o f.number → f.number < size o → OfPacket f l
of_packet f l None e d w h = absurd (omega arith)
of_packet f l (Some k) e d w h =
    record {
      its = k;
      accepted = e;
      destination = d;
      front = take f.number k.words;
      back = drop (suc f.number) k.words;
      words = sym (take-append-drop f.number k.words) ∙ ap (λ (r : List ℕ). take f.number k.words ++ r) (drop-cons k.words f.number 0 h ∙ ap (λ (x : ℕ). x ∷ drop (suc f.number) k.words) (sym w));
      number = sym (length-take-le f.number k.words (omega arith));
    }

module _ (F : Fabric) (P : Settings) (s : State) (n : ℕ) (i : Inv F P s n) (new : Slots) (p : Port) (f : Flit)
    (ad : Added F s.slot new n p f) (nx : Next P s n f) where
  abbrev log : Log
  log = entered f n ∷ s.log

  abbrev now : State
  now = record { cycles = s.cycles; slot = new; log = log }

  queued : AllByRecursion (Waits P s.log n) (f.ticket ∷ nx.others)
  queued = subst (λ (x : List ℕ). AllByRecursion (Waits P s.log n) x) nx.ticket (i.queue n)

  apart : Distinct (f.ticket ∷ nx.others)
  apart = subst (λ (x : List ℕ). Distinct x) nx.ticket (i.queue_apart n)

  fits : f.number < size (packet f.ticket s.log)
  fits = rw nx.number queued.0.more

  grows : (t : ℕ) → sent t s.log ≤ sent t log
  grows t = go (eqb t f.ticket)
    where
      go : (b : Bool) → sent t s.log ≤ cond b (sent t s.log + 1) (sent t s.log)
      go true = omega arith
      go false = omega arith

  not_same : (g : Flit) (m : ℕ) → Stands (entered g m) s.log → Same g f → ⊥
  not_same g m e u =
      let a = (i.timely g m e).1 (u.since ∙ nx.now) in
      let b : g.ticket / P.tickets ≡ n = ap (λ (x : ℕ). x / P.tickets) u.ticket ∙ queued.0.node in
      omega arith

  old_cases : (g : Flit) (m : ℕ) (e : Stands (entered g m) log) → ((f ≡ g) × (e.older ≡ s.log)) ⊎ ((d : Stands (entered g m) s.log) × (d.older ≡ e.older))
  old_cases g m e = go (stands_cases e)
    where
      go : ((entered f n ≡ entered g m) × (e.older ≡ s.log)) ⊎ ((d : Stands (entered g m) s.log) × (d.older ≡ e.older)) →
          ((f ≡ g) × (e.older ≡ s.log)) ⊎ ((d : Stands (entered g m) s.log) × (d.older ≡ e.older))
      go (inl k) = let u = k.0 in inl (cc, k.1)
      go (inr k) = inr k

  sits_new : Sits F P log n f
  sits_new =
      record {
        exists = ad.exists;
        open_ticket = queued.0.open_ticket;
        was_sent = rw (eq-eqb f.ticket f.ticket refl, nx.number) (omega arith);
        in_size = fits;
        word_is = nx.its_word;
        unreceived = i.unsent f.ticket f.number queued.0.open_ticket (omega (arith, nx.number));
        goes = rw nx.destination (i.opens f.ticket queued.0.open_ticket).goes;
        from = n;
        was_entered = stands_now;
      }

  sits : (m : ℕ) (q : Port) (g : Flit) → new m q ≡ Some g → Sits F P log m g
  sits m q g e = go (ad.back m q g e)
    where
      go : ((m ≡ n) × (q ≡ p) × (g ≡ f)) ⊎ (s.slot m q ≡ Some g) → Sits F P log m g
      go (inl k) = subst (λ (x : ℕ). Sits F P log x g) (sym k.0) (subst (λ (x : Flit). Sits F P log n x) (sym k.2) sits_new)
      go (inr k) =
          let z = i.sits m q g k in
          record {
            exists = z.exists;
            open_ticket = z.open_ticket;
            was_sent = let h = grows g.ticket in let y = z.was_sent in omega arith;
            in_size = z.in_size;
            word_is = z.word_is;
            unreceived = z.unreceived;
            goes = z.goes;
            from = z.from;
            was_entered = stands_later z.was_entered;
          }

  -- the flit that enters comes after those of its ticket
  last : (m : ℕ) (q : Port) (g : Flit) → s.slot m q ≡ Some g → g.ticket ≡ f.ticket → g.number < f.number
  last m q g e t =
      let z : g.number < sent g.ticket s.log = (i.sits m q g e).was_sent in
      let y : sent g.ticket s.log ≡ f.number = ap (λ (x : ℕ). sent x s.log) t ∙ sym nx.number in
      omega arith

  alone : (a b : ℕ) (x y : Port) (g h : Flit) → new a x ≡ Some g → new b y ≡ Some h → g.ticket ≡ h.ticket → g.number ≡ h.number → (a ≡ b) × (x ≡ y)
  alone a b x y g h u v t k = go (ad.back a x g u) (ad.back b y h v)
    where
      go : ((a ≡ n) × (x ≡ p) × (g ≡ f)) ⊎ (s.slot a x ≡ Some g) → ((b ≡ n) × (y ≡ p) × (h ≡ f)) ⊎ (s.slot b y ≡ Some h) → (a ≡ b) × (x ≡ y)
      go (inl c) (inl d) = (c.0 ∙ sym d.0, c.1 ∙ sym d.1)
      go (inl c) (inr d) =
          let w : g.number ≡ f.number = ap (λ (z : Flit). z.number) c.2 in
          let z = last b y h d (sym t ∙ ap (λ (z : Flit). z.ticket) c.2) in absurd (omega arith)
      go (inr c) (inl d) =
          let w : h.number ≡ f.number = ap (λ (z : Flit). z.number) d.2 in
          let z = last a x g c (t ∙ ap (λ (z : Flit). z.ticket) d.2) in absurd (omega arith)
      go (inr c) (inr d) = i.alone a b x y g h c d t k

  in_turn : (a b : ℕ) (x y : Port) (g h : Flit) → new a x ≡ Some g → new b y ≡ Some h → g.ticket ≡ h.ticket → g.number < h.number → g.entered ≤ h.entered
  in_turn a b x y g h u v t k = go (ad.back a x g u) (ad.back b y h v)
    where
      go : ((a ≡ n) × (x ≡ p) × (g ≡ f)) ⊎ (s.slot a x ≡ Some g) → ((b ≡ n) × (y ≡ p) × (h ≡ f)) ⊎ (s.slot b y ≡ Some h) → g.entered ≤ h.entered
      go (inl c) (inl d) =
          let w : g.number ≡ h.number = ap (λ (z : Flit). z.number) (c.2 ∙ sym d.2) in absurd (omega arith)
      go (inl c) (inr d) =
          let w : g.number ≡ f.number = ap (λ (z : Flit). z.number) c.2 in
          let z = last b y h d (sym t ∙ ap (λ (z : Flit). z.ticket) c.2) in absurd (omega arith)
      go (inr c) (inl d) =
          let w : h.entered ≡ s.cycles = ap (λ (z : Flit). z.entered) d.2 ∙ nx.now in
          let z = i.sits a x g c in
          let y = (i.timely g z.from z.was_entered).0 in omega arith
      go (inr c) (inr d) = i.in_turn a b x y g h c d t k

  -- what waits still, but for the ticket of the flit that enters
  others : (m : ℕ) (xs : List ℕ) → AllByRecursion (Waits P s.log m) xs → AllByRecursion (λ u. f.ticket ≡ u → ⊥) xs → AllByRecursion (Waits P log m) xs
  others m xs w d =
      all_weaker (λ u. Waits P s.log m u × (f.ticket ≡ u → ⊥)) (Waits P log m)
      (λ u e. record { node = e.0.node; open_ticket = e.0.open_ticket; more = rw (ne_eqb u f.ticket (λ h. e.1 (sym h))) e.0.more })
      xs (all_both (Waits P s.log m) (λ u. f.ticket ≡ u → ⊥) xs w d)

  queue_here : (m : ℕ) → n ≡ m → AllByRecursion (Waits P log m) (waiting P.tickets m log) × Distinct (waiting P.tickets m log)
  queue_here m e = go (cases_Bool (eqb (f.number + 1) (size (packet f.ticket s.log))))
    where
      q : waiting P.tickets m s.log ≡ f.ticket ∷ nx.others
      q = subst (λ (x : ℕ). waiting P.tickets x s.log ≡ f.ticket ∷ nx.others) e nx.ticket

      tail : AllByRecursion (Waits P log m) nx.others
      tail = subst (λ (x : ℕ). AllByRecursion (Waits P log x) nx.others) e (others n nx.others queued.1 apart.0)

      go : (eqb (f.number + 1) (size (packet f.ticket s.log)) ≡ true) ⊎ (eqb (f.number + 1) (size (packet f.ticket s.log)) ≡ false) →
          AllByRecursion (Waits P log m) (waiting P.tickets m log) × Distinct (waiting P.tickets m log)
      go (inl b) = rw (eq-eqb n m e, b, q) (tail, apart.1)
      go (inr b) =
          let first : Waits P log m f.ticket =
          record {
            node = queued.0.node ∙ e;
            open_ticket = queued.0.open_ticket;
            more = rw (eq-eqb f.ticket f.ticket refl) (let z = eqb-false (f.number + 1) (size (packet f.ticket s.log)) b in let y = fits in let w = nx.number in omega arith);
          } in
          rw (eq-eqb n m e, b, q) ((first, tail), apart)

  queue_both : (m : ℕ) → AllByRecursion (Waits P log m) (waiting P.tickets m log) × Distinct (waiting P.tickets m log)
  queue_both m = go (cases_eq n m)
    where
      go : (n ≡ m) ⊎ (n ≡ m → ⊥) → AllByRecursion (Waits P log m) (waiting P.tickets m log) × Distinct (waiting P.tickets m log)
      go (inl e) = queue_here m e
      go (inr h) =
          let d : AllByRecursion (λ u. f.ticket ≡ u → ⊥) (waiting P.tickets m s.log) =
          all_weaker (Waits P s.log m) (λ u. f.ticket ≡ u → ⊥) (λ u w e. h (sym queued.0.node ∙ ap (λ (x : ℕ). x / P.tickets) e ∙ w.node)) (waiting P.tickets m s.log) (i.queue m) in
          rw (ne_eqb n m h) (others m (waiting P.tickets m s.log) (i.queue m) d, i.queue_apart m)

  timely : (g : Flit) (m : ℕ) → Stands (entered g m) log → (g.entered ≤ s.cycles) × (g.entered ≡ s.cycles → g.ticket / P.tickets < n + 1)
  timely g m e = go (old_cases g m e)
    where
      go : ((f ≡ g) × (e.older ≡ s.log)) ⊎ ((d : Stands (entered g m) s.log) × (d.older ≡ e.older)) → (g.entered ≤ s.cycles) × (g.entered ≡ s.cycles → g.ticket / P.tickets < n + 1)
      go (inl k) =
          let a : g.entered ≡ s.cycles = ap (λ (x : Flit). x.entered) (sym k.0) ∙ nx.now in
          let b : g.ticket / P.tickets ≡ n = ap (λ (x : Flit). x.ticket / P.tickets) (sym k.0) ∙ queued.0.node in
          (omega arith, λ _. omega arith)
      go (inr k) = let z = i.timely g m k.0 in (z.0, λ u. let y = z.1 u in omega arith)

  told_apart : (g h : Flit) (m k : ℕ) (e : Stands (entered g m) log) → Stands (entered h k) e.older → Same h g → ⊥
  told_apart g h m k e d u = go (old_cases g m e)
    where
      go : ((f ≡ g) × (e.older ≡ s.log)) ⊎ ((c : Stands (entered g m) s.log) × (c.older ≡ e.older)) → ⊥
      go (inl x) = not_same h k (subst (λ (y : Log). Stands (entered h k) y) x.1 d) (subst (λ (y : Flit). Same h y) (sym x.0) u)
      go (inr x) = i.apart g h m k x.0 (subst (λ (y : Log). Stands (entered h k) y) (sym x.1) d) u

  other : (g : Flit) → Other g (entered f n)
  other g k m d u e = entered_off e

  account_new : (OffOnce f log × InNoSlot f now) ⊎ (NeverOff f log × InOneSlot f now)
  account_new =
      inr (
        never_more (other f) (λ g m d u e. let z = i.offs g m d e in not_same g z.0 z.1 u),
        record {
          node = n;
          port = p;
          here = ad.there;
          only = λ m q g e u. only m q g u (ad.back m q g e);
        },
      )
    where
      only : (m : ℕ) (q : Port) (g : Flit) → Same g f → ((m ≡ n) × (q ≡ p) × (g ≡ f)) ⊎ (s.slot m q ≡ Some g) → (m ≡ n) × (q ≡ p)
      only m q g u (inl k) = (k.0, k.1)
      only m q g u (inr k) = let z = i.sits m q g k in absurd (not_same g z.from z.was_entered u)

  account : (g : Flit) → (Same f g → ⊥) → (OffOnce g s.log × InNoSlot g s) ⊎ (NeverOff g s.log × InOneSlot g s) →
      (OffOnce g log × InNoSlot g now) ⊎ (NeverOff g log × InOneSlot g now)
  account g h (inl k) = inl (once_more (other g) k.0, λ m q d e u. none m q d u (ad.back m q d e))
    where
      none : (m : ℕ) (q : Port) (d : Flit) → Same d g → ((m ≡ n) × (q ≡ p) × (d ≡ f)) ⊎ (s.slot m q ≡ Some d) → ⊥
      none m q d u (inl c) = h (subst (λ (x : Flit). Same x g) c.2 u)
      none m q d u (inr c) = k.1 m q d c u
  account g h (inr k) =
      inr (
        never_more (other g) k.0,
        record {
          node = k.1.node;
          port = k.1.port;
          here = ad.stays k.1.node k.1.port g k.1.here;
          only = λ m q d e u. only m q d u (ad.back m q d e);
        },
      )
    where
      only : (m : ℕ) (q : Port) (d : Flit) → Same d g → ((m ≡ n) × (q ≡ p) × (d ≡ f)) ⊎ (s.slot m q ≡ Some d) → (m ≡ k.1.node) × (q ≡ k.1.port)
      only m q d u (inl c) = absurd (h (subst (λ (x : Flit). Same x g) c.2 u))
      only m q d u (inr c) = k.1.only m q d c u

  accounted : (g : Flit) (m : ℕ) → Stands (entered g m) log → (OffOnce g log × InNoSlot g now) ⊎ (NeverOff g log × InOneSlot g now)
  accounted g m e = go (old_cases g m e)
    where
      go : ((f ≡ g) × (e.older ≡ s.log)) ⊎ ((d : Stands (entered g m) s.log) × (d.older ≡ e.older)) → (OffOnce g log × InNoSlot g now) ⊎ (NeverOff g log × InOneSlot g now)
      go (inl k) = subst (λ (x : Flit). (OffOnce x log × InNoSlot x now) ⊎ (NeverOff x log × InOneSlot x now)) k.0 account_new
      go (inr k) = account g (λ u. not_same g m k.0 (same_back u)) (i.accounted g m k.0)

  carries : (g : Flit) (m : ℕ) (e : Stands (entered g m) log) → OfPacket g e.older
  carries g m e = go (old_cases g m e)
    where
      go : ((f ≡ g) × (e.older ≡ s.log)) ⊎ ((d : Stands (entered g m) s.log) × (d.older ≡ e.older)) → OfPacket g e.older
      go (inl k) =
          subst (λ (x : Log). OfPacket g x) (sym k.1) (subst (λ (x : Flit). OfPacket x s.log) k.0
          (of_packet f s.log (packet f.ticket s.log) refl nx.destination nx.its_word fits))
      go (inr k) = subst (λ (x : Log). OfPacket g x) k.1 (i.carries g m k.0)

  pub inv_enter : Inv F P now (n + 1)
  inv_enter =
      record {
        sits = sits;
        alone = alone;
        in_turn = in_turn;
        opens = λ t o. let z = i.opens t o in record { ticket = z.ticket; goes = z.goes; short = z.short };
        right_words = i.right_words;
        unsent = λ t k o h. let g = grows t in i.unsent t k o (omega arith);
        queue = λ m. (queue_both m).0;
        queue_apart = λ m. (queue_both m).1;
        timely = timely;
        apart = told_apart;
        offs = λ g m d e. let z = i.offs g m d (stands_older e entered_off).0 in (z.0, stands_later z.1);
        accounted = accounted;
        carries = carries;
        collections = λ t r ws e. let z = stands_older e entered_collected in subst (λ (x : Log). OfferedLast t (record { destination = r; words = ws }) x) z.1 (i.collections t r ws z.0);
      }
