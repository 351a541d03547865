-- A node takes a flit off: the tables then show the log with that.
use Rattle.std.proofs.Common.{◌≤◌, ◌≡◌, ℕ, ◌<◌, cond, ◌&&◌, eqb, ◌⊎◌, List, ◌∷◌, ◌++◌, get_or, map, set, Some, None, Option, sym, refl, ap, ◌∙◌, subst, inl, inr, arith}
use mathlib.Core.Path.{fun_ext}
use Rattle.std.proofs.lemmas.Bool.{cases_eq, eq-eqb, ne_eqb, cond-false, and_left}
use Rattle.fabric.specs.declared.parts.Port.{Port}
use Rattle.fabric.specs.declared.parts.Port.TheVariants.{N, E, S, W}
use Rattle.fabric.specs.declared.parts.Flit.{Flit}
use Rattle.fabric.specs.Layouts.{Lawful}
use Rattle.fabric.specs.Ports.{place_of, same}
use Rattle.switch.specs.Switches.{at}
use Rattle.line.specs.Queues.{Queue, put}
use Rattle.batch.specs.Items.{items}
use Rattle.bounds.specs.declared.settings.Settings.{Settings}
use Rattle.bounds.specs.SetUp.{all_tickets}
use Rattle.network.specs.declared.event.Event.{Event}
use Rattle.network.specs.declared.event.Kind.TheVariants.{Out}
use Rattle.network.specs.Log.{Log, received}
use Rattle.network.specs.Log.Happening.{off}
use Rattle.network.specs.Cycle.{Fabric, State, golden_in, off_at, in_slot_order}
use Rattle.network.specs.Runs.{put_all, told, count_off, event_of}
use Rattle.network.specs.Computed.{due, best, without, taken, left}
use Rattle.network.proofs.Invariant.{Inv, Sits, Opened}
use Rattle.network.proofs.Nodes.{taken_here}
use Rattle.network.proofs.Places.{at_ordered}
use Rattle.calls.specs.declared.ticket.Ticket.{Ticket}
use Rattle.calls.specs.declared.tables.Tables.{Tables}
use Rattle.calls.specs.Records.{all_waiting, Keeps, Receives, TakesIn}
use Rattle.calls.specs.Follow.{slot_of, Recorded, Entry, Records, Queued}
use Rattle.calls.specs.Midway.{Reached, Between, Took, TakesOff}
use Rattle.calls.proofs.Showing.{like, change, entry_more, entry_none, get_or_some, invariant}

pub set_ordered : (here : Port → Option Flit) (p : Port) (o : Option Flit) → set (in_slot_order here) (place_of p) o ≡ in_slot_order (λ q. cond (same p q) o (here q))
set_ordered here N o = refl
set_ordered here E o = refl
set_ordered here S o = refl
set_ordered here W o = refl

-- the tables after nothing but tickets and queues changed
pub between : (F : Fabric) (s : State) (l m : Log) (i j : Tables) → Keeps i j → Between F s l i → Records (all_tickets F.plan i.settings) j.tickets m →
    Queued F.plan.nodes i.settings.tickets (all_waiting j) m → Between F s m j
between F s l m i j k b r q =
    record {
      cycles = k.cycles ∙ b.cycles;
      slots = λ n p h. ap (λ xs. slot_of xs n p) k.slots ∙ b.slots n p h;
      records = subst (λ (P : Settings). Records (all_tickets F.plan P) j.tickets m) (sym k.settings) r;
      queued = subst (λ (P : Settings). Queued F.plan.nodes P.tickets (all_waiting j) m) (sym k.settings) q;
    }

module _ (f : Flit) (n c : ℕ) (l : Log) where
  -- the ticket's own record
  off_own : (r q : Ticket) → f.number < 4 → Receives r q f.number f.word → Recorded r f.ticket l → Recorded q f.ticket (off f n c ∷ l)
  off_own r q h x y =
      record {
        destination = x.destination ∙ y.destination;
        size = x.size ∙ y.size;
        sent = x.sent ∙ y.sent;
        words = λ k z. ap (λ xs. get_or xs k 0) x.words ∙ y.words k z;
        short = subst (λ m. m ≤ 4) (sym x.size) y.short;
        received = λ k z.
            x.received k z h
            ∙ ap (λ o. cond (eqb k f.number) (Some f.word) o) (y.received k z)
            ∙ ap (λ b. cond (b && eqb k f.number) (Some f.word) (received f.ticket k l)) (sym (eq-eqb f.ticket f.ticket refl));
      }

  off_other : (u : ℕ) (o : Option Ticket) → (u ≡ f.ticket → ⊥) → Entry o u l → Entry o u (off f n c ∷ l)
  off_other u o h = like o u l (off f n c ∷ l) refl refl refl (λ k. cond-false _ _ _ (and_left _ _ (ne_eqb u f.ticket h)))

module _ (F : Fabric) (i : Tables) (s : State) (l : Log) (n g : ℕ) (law : Lawful F.plan) (led : Reached F i.settings s) (h : n < F.plan.nodes)
    (gold : g ≡ golden_in F i.settings s.cycles) (b : Between F s l i) where
  abbrev P : Settings
  P = i.settings

  inv : Inv F P s 0
  inv = invariant F P law s led

  -- what the code looks at is what the definition looks at
  same_places : in_slot_order (slot_of i.slots n) ≡ in_slot_order (s.slot n)
  same_places = ap in_slot_order (fun_ext (λ p. b.slots n p h))

  pub same_best : best g (λ p. due n (at (in_slot_order (slot_of i.slots n)) p)) ≡ taken F P s n
  unfolding taken
  same_best =
      ap (λ x. best x (λ p. due n (at (in_slot_order (slot_of i.slots n)) p))) gold
      ∙ ap (best (golden_in F P s.cycles)) (fun_ext (λ p. ap (due n) (at_ordered (slot_of i.slots n) p ∙ b.slots n p h)))

  pub took_none : (j : Tables) (q : Queue Event) → Keeps i j → j.tickets ≡ i.tickets → j.waits ≡ i.waits → taken F P s n ≡ None →
      Took F P s n l j q q (in_slot_order (slot_of i.slots n)) 0
  unfolding left
  took_none j q k ti wa e =
      record {
        shows = subst (λ (o : Option (Port × Flit)). Between F s (off_at s.cycles n o ++ l) j) (sym e)
            (between F s l l i j k b (subst (λ (xs : List (Option Ticket)). Records (all_tickets F.plan P) xs l) (sym ti) b.records) (subst (λ (xs : List (List ℕ)). Queued F.plan.nodes P.tickets xs l) (sym (ap (map items) wa)) b.queued));
        gives = same_places ∙ ap (λ (o : Option (Port × Flit)). in_slot_order (without o (s.slot n))) (sym e);
        line = ap (λ (o : Option (Port × Flit)). put_all q (told (off_at s.cycles n o))) (sym e);
        count = ap (λ (o : Option (Port × Flit)). count_off (off_at s.cycles n o)) (sym e);
      }

  module _ (p : Port) (f : Flit) (e : taken F P s n ≡ Some (p, f)) where
    sits : Sits F P s.log n f
    sits = inv.sits n p f (taken_here F P s n p f e).0

    opened : Opened F P s.log f.ticket
    opened = inv.opens f.ticket sits.open_ticket

    pub small : f.number < 4
    small = let a = sits.in_size in let c = opened.short in let d = i.fits.short in omega arith

    -- the tables' records, whether the flit's ticket has one or not
    records : (j : Tables) → TakesIn i j f → (o : Option Ticket) → get_or i.tickets f.ticket None ≡ o → Records (all_tickets F.plan P) j.tickets (off f n s.cycles ∷ l)
    records j t None e =
        subst (λ (xs : List (Option Ticket)). Records (all_tickets F.plan P) xs (off f n s.cycles ∷ l)) (sym (t.none e)) (λ u g. go u g (cases_eq u f.ticket))
      where
        go : (u : ℕ) → u < all_tickets F.plan P → (u ≡ f.ticket) ⊎ (u ≡ f.ticket → ⊥) → Entry (get_or i.tickets u None) u (off f n s.cycles ∷ l)
        go u g (inl q) =
            let x : get_or i.tickets u None ≡ None = ap (λ v. get_or i.tickets v None) q ∙ e in
            subst (λ (o : Option Ticket). Entry o u (off f n s.cycles ∷ l)) (sym x)
            (entry_none u l (off f n s.cycles ∷ l) refl (subst (λ (o : Option Ticket). Entry o u l) x (b.records u g)))
        go u g (inr d) = off_other f n s.cycles l u _ d (b.records u g)
    records j t (Some r) e =
        let x = t.some r e in
        let within = get_or_some i.tickets f.ticket r e in
        subst (λ (xs : List (Option Ticket)). Records (all_tickets F.plan P) xs (off f n s.cycles ∷ l)) (sym x.2)
        (change (all_tickets F.plan P) f.ticket i.tickets (Some x.0) l (off f n s.cycles ∷ l) within b.records
        (entry_more r x.0 f.ticket l (off f n s.cycles ∷ l) refl (off_own f n s.cycles l r x.0 small x.1) (subst (λ (o : Option Ticket). Entry o f.ticket l) e (b.records f.ticket opened.ticket)))
        (λ u d. off_other f n s.cycles l u _ d))

    pub took_some : (j : Tables) (q r : Queue Event) (places : List (Option Flit)) (y : ℕ) → TakesIn i j f →
        places ≡ set (in_slot_order (slot_of i.slots n)) (place_of p) None →
        y ≡ i.cycles → r ≡ put q (event_of y Out f n) → Took F P s n l j q r places 1
    unfolding left
    took_some j q r places y t pl ev li =
        record {
          shows = subst (λ (o : Option (Port × Flit)). Between F s (off_at s.cycles n o ++ l) j) (sym e)
              (between F s l (off f n s.cycles ∷ l) i j t.keeps b (records j t (get_or i.tickets f.ticket None) refl)
              (subst (λ (xs : List (List ℕ)). Queued F.plan.nodes P.tickets xs l) (sym (ap (map items) t.waits)) b.queued));
          gives = pl ∙ ap (λ xs. set xs (place_of p) None) same_places ∙ set_ordered (s.slot n) p None ∙ ap (λ (o : Option (Port × Flit)). in_slot_order (without o (s.slot n))) (sym e);
          line =
              li ∙ ap (λ c. put q (event_of c Out f n)) (ev ∙ b.cycles)
              ∙ ap (λ (o : Option (Port × Flit)). put_all q (told (off_at s.cycles n o))) (sym e);
          count = ap (λ (o : Option (Port × Flit)). count_off (off_at s.cycles n o)) (sym e);
        }

-- where the code finds no flit to take off, nothing changes
pub none_taken : (i : Tables) (n g : ℕ) (q : Queue Event) (places : List (Option Flit)) → places ≡ in_slot_order (slot_of i.slots n) →
    best g (λ p. due n (at places p)) ≡ None → TakesOff i i n g q q places 0
none_taken i n g q places here none =
    let keeps : Keeps i i = record { settings = refl; cycles = refl; register = refl; slots = refl } in
    record {
      keeps = keeps;
      few = omega arith;
      took = λ F s l law led h gold b room.
          subst (λ (xs : List (Option Flit)). Took F i.settings s n l i q q xs 0) (sym here)
          (took_none F i s l n g law led h gold b i q keeps refl refl
          (sym (same_best F i s l n g law led h gold b) ∙ ap (λ xs. best g (λ p. due n (at xs p))) (sym here) ∙ none));
    }
