-- A node lets a flit in: the tables then show the log with that.
use Rattle.std.proofs.Common.{◌≤◌, ◌≡◌, ℕ, ◌+◌, ◌<◌, false, ◌⊎◌, List, [], ◌∷◌, ◌++◌, get_or, map, drop, set, Some, None, Option, sym, refl, ap, ◌∙◌, subst, inl, inr, arith}
use Rattle.std.specs.List.{AllByRecursion}
use mathlib.Core.Path.{fun_ext}
use Rattle.std.proofs.lemmas.List.{get_or-set_same, get_or-set_other}
use Rattle.std.proofs.lemmas.Bool.{cases_eq, eq-eqb, ne_eqb, cond-true, cond-false, and_left, and_right, and_from}
use Rattle.std.proofs.lemmas.Option.{same_Some}
use Rattle.fabric.specs.declared.parts.Port.{Port}
use Rattle.fabric.specs.declared.parts.Flit.{Flit}
use Rattle.fabric.specs.Layouts.{Lawful}
use Rattle.fabric.specs.Ports.{place_of}
use Rattle.switch.specs.Switches.{at}
use Rattle.line.specs.Queues.{Queue, put}
use Rattle.batch.specs.Items.{items}
use Rattle.bounds.specs.declared.settings.Settings.{Settings}
use Rattle.bounds.specs.SetUp.{all_tickets}
use Rattle.network.specs.declared.event.Event.{Event}
use Rattle.network.specs.declared.event.Kind.TheVariants.{In}
use Rattle.network.specs.Log.{Log, packet, size, word, aim, free, sent, waiting}
use Rattle.network.specs.Log.Happening.{entered}
use Rattle.network.specs.Cycle.{Fabric, State, entered_at, in_slot_order}
use Rattle.network.specs.Runs.{put_all, told, event_of}
use Rattle.network.specs.Computed.{gap, placed, next_of, with_flit, left, entering, ready}
use Rattle.network.proofs.Invariant.{Inv, Opened, Waits as Waiting}
use Rattle.network.proofs.Places.{some_none, at_ordered}
use Rattle.calls.specs.declared.ticket.Ticket.{Ticket}
use Rattle.calls.specs.declared.tables.Tables.{Tables}
use Rattle.calls.specs.Records.{all_waiting, waiting_at, Keeps, LetsGo, LetsIn}
use Rattle.calls.specs.Follow.{Recorded, Entry, Records, Queued}
use Rattle.calls.specs.Midway.{Reached, Between, Own, Let}
use Rattle.calls.proofs.Showing.{like, change, entry_more, entered_in, get_or_some, invariant}
use Rattle.calls.proofs.Takes.{set_ordered, between}

module _ (F : Fabric) (i : Tables) (s : State) (l : Log) (n : ℕ) (law : Lawful F.plan) (led : Reached F i.settings s) (h : n < F.plan.nodes)
    (own : Own i.settings s n l) (b : Between F s l i) (places : List (Option Flit)) (pl : places ≡ in_slot_order (left F i.settings s n)) where
  abbrev P : Settings
  P = i.settings

  inv : Inv F P s 0
  inv = invariant F P law s led

  abbrev T : ℕ
  T = i.settings.tickets

  same_gap : gap (at places) ≡ gap (left F P s n)
  same_gap = ap (λ xs. gap (at xs)) pl ∙ ap gap (fun_ext (at_ordered (left F P s n)))

  stay : (j : Tables) (q : Queue Event) → Keeps i j → j.tickets ≡ i.tickets → j.waits ≡ i.waits → entering F P s n ≡ None → Let F P s n l j q q places
  unfolding ready
  stay j q k ti wa e =
      record {
        shows = subst (λ (o : Option (Port × Flit)). Between F s (entered_at n o ++ l) j) (sym e)
            (between F s l l i j k b (subst (λ (xs : List (Option Ticket)). Records (all_tickets F.plan P) xs l) (sym ti) b.records) (subst (λ (xs : List (List ℕ)). Queued F.plan.nodes T xs l) (sym (ap (map items) wa)) b.queued));
        gives = pl ∙ ap (λ (o : Option (Port × Flit)). in_slot_order (with_flit o (left F P s n))) (sym e);
        line = ap (λ (o : Option (Port × Flit)). put_all q (told (entered_at n o))) (sym e);
      }

  -- no place is empty
  pub let_full : (q : Queue Event) → gap (at places) ≡ None → Let F P s n l i q q places
  unfolding entering
  let_full q e =
      stay i q (record { settings = refl; cycles = refl; register = refl; slots = refl }) refl refl
      (ap (λ g. placed F P s g (next_of F P s (waiting T n s.log))) (sym same_gap ∙ e))

  module _ (p : Port) (g : gap (at places) ≡ Some p) (j : Tables) (o : Option Flit) (lets : LetsIn i j n o) where
    waiting_is : waiting_at i n ≡ waiting T n s.log
    waiting_is = b.queued n h ∙ own.waits

    enters_by : (xs : List ℕ) → waiting T n s.log ≡ xs → entering F P s n ≡ placed F P s (Some p) (next_of F P s xs)
    unfolding entering
    enters_by xs e = ap (λ x. placed F P s x (next_of F P s (waiting T n s.log))) (sym same_gap ∙ g) ∙ ap (λ x. placed F P s (Some p) (next_of F P s x)) e

    -- the first that waits
    module _ (t : ℕ) (ts : List ℕ) (e : waiting T n s.log ≡ t ∷ ts) where
      waits : Waiting P s.log n t
      waits = (subst (λ (xs : List ℕ). AllByRecursion (Waiting P s.log n) xs) e (inv.queue n)).0

      opened : Opened F P s.log t
      opened = inv.opens t waits.open_ticket

      entry : Entry (get_or i.tickets t None) t l
      entry = b.records t opened.ticket

      taken : free t l ≡ false
      taken = own.taken t ∙ waits.open_ticket

      module _ (r : Ticket) (there : get_or i.tickets t None ≡ Some r) where
        recorded : Recorded r t l
        recorded = entry.recorded r there

        sent_is : r.sent ≡ sent t s.log
        sent_is = recorded.sent ∙ own.flits t waits.node

        small : r.sent < 4
        small = let a = waits.more in let c = opened.short in let d = i.fits.short in let f = sent_is in omega arith

        goes : LetsGo i j n t r o
        goes = lets.some t ts r (waiting_is ∙ e) there

        abbrev flit : Flit
        flit = record { ticket = t; number = sent t s.log; destination = aim (packet t s.log); word = word (packet t s.log) (sent t s.log); entered = s.cycles }

        flit_is : o ≡ Some flit
        flit_is =
            let a = sent_is in
            let d : r.destination ≡ aim (packet t s.log) = recorded.destination ∙ ap aim (own.packets t) in
            let w : get_or r.words r.sent 0 ≡ word (packet t s.log) (sent t s.log) =
            recorded.words r.sent small ∙ ap (λ x. word x r.sent) (own.packets t) ∙ ap (word (packet t s.log)) a in
            goes.sends.flit small ∙ ap Some (λ k. record { ticket = t; number = a k; destination = d k; word = w k; entered = b.cycles k })

        entering_is : entering F P s n ≡ Some (p, flit)
        entering_is = enters_by (t ∷ ts) e

        abbrev then : Log
        then = entered flit n ∷ l

        mine : Recorded r t l → Recorded goes.its t then
        mine x =
            let z = goes.sends in
            record {
              destination = z.destination ∙ x.destination;
              size = z.size ∙ x.size;
              sent = z.sent small ∙ ap (λ k. k + 1) x.sent ∙ sym (cond-true _ _ _ (eq-eqb t t refl));
              words = λ k y. ap (λ xs. get_or xs k 0) z.words ∙ x.words k y;
              short = subst (λ m. m ≤ 4) (sym z.size) x.short;
              received = λ k y. ap (λ xs. get_or xs k None) z.received ∙ x.received k y;
            }

        others : (u : ℕ) → (u ≡ t → ⊥) → Entry (get_or i.tickets u None) u l → Entry (get_or i.tickets u None) u then
        others u d = like _ u l then refl refl (cond-false _ _ _ (ne_eqb u t d)) (λ k. refl)

        records : Records (all_tickets F.plan P) j.tickets then
        records =
            subst (λ (xs : List (Option Ticket)). Records (all_tickets F.plan P) xs then) (sym goes.tickets)
            (change (all_tickets F.plan P) t i.tickets (Some goes.its) l then (get_or_some i.tickets t r there) b.records
            (entry_more r goes.its t l then refl mine (subst (λ (x : Option Ticket). Entry x t l) there entry)) others)

        -- its last flit is the packet's last
        last_one : goes.its.sent ≡ sent t s.log + 1
        last_one = goes.sends.sent small ∙ ap (λ k. k + 1) sent_is

        in_all : goes.its.size ≡ size (packet t l)
        in_all = goes.sends.size ∙ recorded.size

        queued : Queued F.plan.nodes T (all_waiting j) then
        queued m k = go (cases_eq goes.its.sent goes.its.size) (cases_eq m n)
          where
            elsewhere : (m ≡ n → ⊥) → waiting T m then ≡ waiting T m l
            elsewhere d = cond-false _ _ _ (and_left _ _ (ne_eqb n m (λ z. d (sym z))))

            go : (goes.its.sent ≡ goes.its.size) ⊎ (goes.its.sent ≡ goes.its.size → ⊥) → (m ≡ n) ⊎ (m ≡ n → ⊥) → get_or (all_waiting j) m [] ≡ waiting T m then
            go (inl a) (inl d) =
                ap (λ xs. get_or xs m []) (goes.leaves a)
                ∙ ap (λ x. get_or (set (all_waiting i) n (drop 1 (waiting_at i n))) x []) d
                ∙ get_or-set_same (all_waiting i) n (drop 1 (waiting_at i n)) [] goes.room
                ∙ ap (drop 1) (b.queued n h)
                ∙ sym (cond-true _ _ _ (and_from _ _ (eq-eqb n n refl) (eq-eqb (sent t s.log + 1) (size (packet t l)) (sym last_one ∙ a ∙ in_all))))
                ∙ ap (λ x. waiting T x then) (sym d)
            go (inl a) (inr d) =
                ap (λ xs. get_or xs m []) (goes.leaves a)
                ∙ get_or-set_other (all_waiting i) n m (drop 1 (waiting_at i n)) [] d
                ∙ b.queued m k
                ∙ sym (elsewhere d)
            go (inr a) (inl d) =
                ap (λ xs. get_or (map items xs) m []) (goes.stays a)
                ∙ b.queued m k
                ∙ sym (cond-false _ _ _ (and_right _ _ (ne_eqb (sent t s.log + 1) (size (packet t l)) (λ z. a (last_one ∙ z ∙ sym in_all)))))
            go (inr a) (inr d) = ap (λ xs. get_or (map items xs) m []) (goes.stays a) ∙ b.queued m k ∙ sym (elsewhere d)

        some : (f : Flit) → o ≡ Some f → (q u : Queue Event) (after : List (Option Flit)) (y : ℕ) → after ≡ set places (place_of p) (Some f) → y ≡ i.cycles →
            u ≡ put q (event_of y In f n) → Let F P s n l j q u after
        unfolding ready
        some f of q u after y pa yc uq =
            let same : f ≡ flit = same_Some f flit (sym of ∙ flit_is) in
            record {
              shows = subst (λ (x : Option (Port × Flit)). Between F s (entered_at n x ++ l) j) (sym entering_is) (between F s l then i j lets.keeps b records queued);
              gives =
                  pa ∙ ap (λ xs. set xs (place_of p) (Some f)) pl ∙ set_ordered (left F P s n) p (Some f)
                  ∙ ap (λ (x : Flit). in_slot_order (with_flit (Some (p, x)) (left F P s n))) same
                  ∙ ap (λ (x : Option (Port × Flit)). in_slot_order (with_flit x (left F P s n))) (sym entering_is);
              line =
                  uq
                  ∙ ap (λ (x : Flit). put q (event_of y In x n)) same
                  ∙ ap (λ c. put q (event_of c In flit n)) (yc ∙ b.cycles)
                  ∙ ap (λ (x : Option (Port × Flit)). put_all q (told (entered_at n x))) (sym entering_is);
            }

    pub let_none : (q : Queue Event) → o ≡ None → Let F P s n l j q q places
    let_none q e = go (waiting T n s.log) refl
      where
        go : (xs : List ℕ) → waiting T n s.log ≡ xs → Let F P s n l j q q places
        go [] w = let z = lets.none (waiting_is ∙ w) in stay j q lets.keeps z.1 z.2 (enters_by [] w)
        go (t ∷ ts) w = entered_in _ t l (taken t ts w) (entry t ts w) (λ r there. some_none o (flit t ts w r there) e (flit_is t ts w r there))

    pub let_some : (f : Flit) → o ≡ Some f → (q u : Queue Event) (after : List (Option Flit)) (y : ℕ) → after ≡ set places (place_of p) (Some f) → y ≡ i.cycles →
        u ≡ put q (event_of y In f n) → Let F P s n l j q u after
    let_some f e q u after y pa yc uq = go (waiting T n s.log) refl
      where
        go : (xs : List ℕ) → waiting T n s.log ≡ xs → Let F P s n l j q u after
        go [] w = some_none o f (lets.none (waiting_is ∙ w)).0 e
        go (t ∷ ts) w = entered_in _ t l (taken t ts w) (entry t ts w) (λ r there. some t ts w r there f e q u after y pa yc uq)
