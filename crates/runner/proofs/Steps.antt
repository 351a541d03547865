-- What each call of a sheet's run brings: the state after it, and the lines that are written of it.
use Rattle.std.proofs.Common.{◌≡◌, ℕ, ◌+◌, ◌*◌, ◌/◌, ◌%◌, ◌^◌, ◌<◌, ◌≤◌, Bool, true, false, cond, not, ◌||◌, eqb, ltb, leb, ◌⊎◌, List, [], ◌∷◌, ◌++◌, map, length, get_or, take, drop, set, Some, None, Option, sym, refl, ap, ◌∙◌, subst, ap₂, inl, inr, arith}
use Rattle.std.specs.List.{AllByRecursion}
use Rattle.std.proofs.lemmas.Nat.{div_below, mod_below, div-add-mod'}
use Rattle.std.proofs.lemmas.List.{length-append, length-set, get_or-set_same, get_or-set_other, take-append-le, take_all}
use Rattle.std.proofs.lemmas.Bool.{cases_eq, eq-eqb, ne_eqb, or_parts, or_from, leb-false, lt-leb, le-ltb, not-false, not_from_true, cond-false}
use Rattle.fabric.specs.Layouts.{Lawful}
use Rattle.fabric.specs.Verdicts.{Verdict}
use Rattle.fabric.specs.Verdicts.Verdict.{granted, refused}
use Rattle.line.specs.Queues.{Queue, Sound, contents, free_places}
use Rattle.bounds.specs.declared.settings.Settings.{Settings}
use Rattle.bounds.specs.SetUp.{all_tickets, set_up_verdict}
use Rattle.network.specs.declared.event.Event.{Event}
use Rattle.network.specs.Log.{Log, Packet as Load, packet, size, aim, free, received, complete}
use Rattle.network.specs.Log.Happening.{offered, entered, off, collected}
use Rattle.network.specs.Cycle.{Fabric, State, happened}
use Rattle.network.specs.Runs.{Call, Outcome, Serves, Leads, ticket, missing, offer_verdict, cycle_verdict, collect_verdict, collection, with_log, told, count_off, over}
use Rattle.network.specs.Runs.Call.{offer, cycle, collect}
use Rattle.network.specs.Runs.Outcome.{offering, cycling, collecting}
use Rattle.network.specs.Runs.Serves.{offer_granted, offer_refused, cycle_granted, cycle_refused, collect_granted, collect_refused}
use Rattle.network.specs.Runs.Leads.{one_more}
use Rattle.network.specs.Promises.{puts, Kept}
use Rattle.network.proofs.Invariant.{Inv, Opened}
use Rattle.network.proofs.Running.{peel}
use Rattle.network.proofs.Offering.{length_words}
use Rattle.network.proofs.Solving.{all_told}
use Rattle.network.proofs.Seen.{seen}
use Rattle.calls.specs.declared.tables.Tables.{Tables}
use Rattle.calls.specs.Fits.{Fits}
use Rattle.calls.specs.Follow.{Promised}
use Rattle.calls.proofs.Setting.{fits, ticket_below}
use Rattle.calls.proofs.Offers.{own_ticket}
use Rattle.calls.proofs.Showing.{invariant}
use Rattle.text.specs.Texts.{Field, written, text}
use Rattle.writer.specs.declared.writer.Writer.{Writer}
use Rattle.writer.specs.Listings.{beyond, Appends}
use Rattle.runner.specs.declared.tally.Tally.{Tally}
use Rattle.network.specs.Counts.{offers, entries}
use Rattle.runner.specs.Listing.{line_of, ins, outs}
use Rattle.runner.specs.Tallies.{Small, Tallied}
use Rattle.runner.specs.Progress.{Aimed, Narrow, most_bytes, Calls, At}
use Rattle.network.proofs.Counting.{Few, few}
use Rattle.runner.proofs.Events.{sums_append, ins_told, outs_told, Alike, alike, moves, small_told}
use Rattle.runner.proofs.Pages.{text_short, room_beyond, lines_more, line_more}

-- a call that kept its promise
pub record Moved (F : Fabric) (P : Settings) (j : Tables) (s : State) (k : Call) (o : Outcome) : Type 0 where
  pub state : State
  pub serves : Serves F P s k o state
  pub calls : Calls F P j state
  pub kept : Kept F P calls.run state

-- what is known of each packet that was accepted
narrow_at : (newer older : Log) (u : ℕ) (p : Load) → Narrow (newer ++ (offered u p ∷ older)) → (length p.words ≤ 4) × AllByRecursion (λ v. v < 2 ^ 32) p.words
narrow_at [] older u p h = (h.0, h.1)
narrow_at (offered x q ∷ l) older u p h = narrow_at l older u p h.2
narrow_at (entered f n ∷ l) older u p h = narrow_at l older u p h
narrow_at (off f n c ∷ l) older u p h = narrow_at l older u p h
narrow_at (collected x r ws ∷ l) older u p h = narrow_at l older u p h

-- a collection that was granted: what it does, that its ticket is complete, and the words that it brings
module _ (F : Fabric) (P : Settings) where
  pub collect_did : {s : State} {d n m k : ℕ} {memory m' : List ℕ} {r : State} → Serves F P s (collect d n m memory) (collecting (granted k) m') r →
      (collect_verdict F P s d n m memory ≡ granted k) × ((m' ≡ over (collection s (ticket P n m)) memory) × (r ≡ with_log s (collected (ticket P n m) d (collection s (ticket P n m)))))
  collect_did (collect_granted e) = (e, (refl, refl))

  module _ {s : State} {d n m k : ℕ} {memory m' : List ℕ} {r : State} (v : Serves F P s (collect d n m memory) (collecting (granted k) m') r) where
    pub collect_tested : (complete (ticket P n m) s.log ≡ true) × (size (packet (ticket P n m) s.log) ≡ k)
    collect_tested =
        let u = ticket P n m in
        let v4 = peel 4 (missing F d || missing F n || leb P.tickets m) _ k (collect_did v).0 in
        let v8 = peel 8 (not (complete u s.log) || not (eqb (aim (packet u s.log)) d)) _ k v4.1 in
        let v9 = peel 9 (ltb (length memory) (size (packet u s.log))) _ k v8.1 in (
          not-false (complete u s.log) (or_parts (not (complete u s.log)) (not (eqb (aim (packet u s.log)) d)) v8.0).0,
          let e = v9.1 in cc,
        )

    pub collect_taken : take k m' ≡ collection s (ticket P n m)
    collect_taken =
        let u = ticket P n m in
        let ws = collection s u in
        let exact = collect_tested.1 in
        let long = length_words (λ j. received u j s.log) (size (packet u s.log)) in
        ap (take k) (collect_did v).1.0 ∙ take-append-le k ws (drop (length ws) memory) (omega (arith, exact, long)) ∙ take_all k ws (omega (arith, exact, long))

-- no listing comes near the end of its memory
most_few : (k : ℕ) {l : Log} → Few l → k + offers l ≤ 256 → most_bytes k l ≤ 56320
most_few k h m = omega (arith, h.entered, h.off, h.collected)

module _ (F : Fabric) (P : Settings) (law : Lawful F.plan) {M : List ℕ} {i : Tables} {aims : List (Option ℕ)} {t : Tally} {w : Writer} {s : State} {ls : List (List Field)} {es : List Event} {o : ℕ}
    (a : At F P M i aims t w s ls es o) where
  pub moved : {j : Tables} {k : Call} {x : Outcome} → Promised F i j k x → Moved F P j s k x
  moved {k = k} {x = x} p =
      let c = p.continues a.calls.run s a.calls.follows in
      let same = c.same ∙ a.calls.settings in
      record {
        state = c.state;
        serves = subst (λ (Q : Settings). Serves F Q s k x c.state) a.calls.settings c.serves;
        calls = record { run = k ∷ a.calls.run; follows = c.follows; settings = same };
        kept = subst (λ (Q : Settings). Kept F Q (k ∷ a.calls.run) c.state) same c.kept;
      }

  pub accepts : set_up_verdict F.plan P ≡ granted tt
  accepts = subst (λ (Q : Settings). set_up_verdict F.plan Q ≡ granted tt) a.calls.settings a.calls.follows.lawful

  pub sizes : Fits P
  sizes = fits F.plan P accepts

  led : Leads F P a.calls.run s
  led = subst (λ (Q : Settings). Leads F Q a.calls.run s) a.calls.settings a.calls.follows.leads

  pub kept_inv : Inv F P s 0
  kept_inv = invariant F P law s (a.calls.run, led)

  pub most_tickets : all_tickets F.plan P ≤ 512
  most_tickets = ticket_below F law P sizes.few

  pub happens : Few s.log
  happens = few F P law accepts led

  pub lines_few : most_bytes a.spent.declined s.log ≤ 56320
  lines_few = most_few a.spent.declined happens (omega (arith, a.spent.packets, a.spent.few))

  pub room_left : 9216 ≤ length (beyond w)
  room_left = omega (arith, room_beyond a.spent.long a.spent.holds, lines_few)

  -- the counts stay small
  pub record TallyFew : Type 0 where
    pub entered : t.entered ≤ 1024
    pub off : t.off ≤ 1024
    pub waited : t.waited ≤ 100000000

  pub tally_few : TallyFew
  tally_few =
      let h = happens in
      let e = h.entered in
      let f = h.off in
      let x = a.spent.packets in
      let m = a.spent.few in
      let i = a.tallied.entered in
      let j = a.tallied.off in
      let e1 = sym (ins_told s.log) ∙ ap ins a.events in
      let e2 = sym (outs_told s.log) ∙ ap outs a.events in
      let w = a.tallied.short in
      record { entered = omega arith; off = omega arith; waited = omega arith }

  -- what a granted offer was tested for, and what it logs
  offer_did : {n m d : ℕ} {ws : List ℕ} {r : State} → Serves F P s (offer n m d ws) (offering (granted tt)) r →
      (offer_verdict F P s n m d ws ≡ granted tt) × (r ≡ with_log s (offered (ticket P n m) (record { destination = d; words = ws })))
  offer_did (offer_granted e) = (e, refl)

  own_exists : (n m d : ℕ) (ws : List ℕ) → offer_verdict F P s n m d ws ≡ granted tt → (n < F.plan.nodes) × (m < P.tickets)
  own_exists n m d ws e =
      let v4 = peel 4 (missing F n || leb P.tickets m) _ tt e in
      let x = or_parts (missing F n) (leb P.tickets m) v4.0 in
      (leb-false F.plan.nodes n x.0, leb-false P.tickets m x.1)

  aimed_offer : (u d : ℕ) (ws : List ℕ) → u < 512 → Aimed (all_tickets F.plan P) (set aims u (Some d)) (offered u (record { destination = d; words = ws }) ∷ s.log)
  aimed_offer u d ws h x l = go (cases_eq x u)
    where
      go : (x ≡ u) ⊎ (x ≡ u → ⊥) → get_or (set aims u (Some d)) x None ≡
          cond (cond (eqb x u) false (free x s.log)) None (Some (aim (cond (eqb x u) (Some (record { destination = d; words = ws })) (packet x s.log))))
      go (inl e) = rw (eq-eqb x u e) (ap (λ (y : ℕ). get_or (set aims u (Some d)) y None) e ∙ get_or-set_same aims u (Some d) None (let p = a.places in omega arith))
      go (inr e) = rw (ne_eqb x u e) (get_or-set_other aims u x (Some d) None e ∙ a.aimed x l)

  -- the ticket of an accepted packet has its place in the table
  pub own_below : {j : Tables} (n m d : ℕ) (ws : List ℕ) → Promised F i j (offer n m d ws) (offering (granted tt)) → n * P.tickets + m < 512
  own_below n m d ws p =
      let ex = own_exists n m d ws (offer_did (moved p).serves).0 in
      own_ticket F.plan law P sizes.few n m ex.0 ex.1

  -- what an offer brings, by its verdict
  pub record AfterOffer (j : Tables) (n m d : ℕ) (ws : List ℕ) (v : Verdict (Unit {0})) (aims' : List (Option ℕ)) (w' : Writer) (ls' : List (List Field)) : Type 0 where
    pub state : State
    pub serves : Serves F P s (offer n m d ws) (offering v) state
    pub counted : state.cycles ≡ s.cycles
    pub at : At F P M j aims' t w' state ls' es (o + 1)

  pub offered_at : {j : Tables} (n m d : ℕ) (ws : List ℕ) → Promised F i j (offer n m d ws) (offering (granted tt)) → o < 256 → length ws ≤ 4 → AllByRecursion (λ v. v < 2 ^ 32) ws →
      AfterOffer j n m d ws (granted tt) (set aims (n * P.tickets + m) (Some d)) w ls
  offered_at {j} n m d ws p h short narrow =
      let y = moved p in
      let e = offer_did y.serves in
      let u = n * P.tickets + m in
      let below : u < 512 = own_below n m d ws p in
      record {
        state = _;
        serves = subst (λ (r : State). Serves F P s (offer n m d ws) (offering (granted tt)) r) e.1 y.serves;
        counted = refl;
        at = record {
          calls = subst (λ (r : State). Calls F P j r) e.1 y.calls;
          aimed = aimed_offer u d ws below;
          places = length-set aims u (Some d) ∙ a.places;
          events = a.events;
          narrow = (short, narrow, a.narrow);
          tallied = a.tallied;
          spent = record { declined = a.spent.declined; packets = let x = a.spent.packets in omega arith; few = omega arith; long = a.spent.long; holds = a.spent.holds };
        };
      }

  declined_same : {n m d k : ℕ} {ws vs : List ℕ} {r : State} → Serves F P s (offer n m d ws) (offering (refused k vs)) r → r ≡ s
  declined_same (offer_refused e) = refl

  -- a line of a refused packet
  pub declined_at : {j : Tables} {w' : Writer} (n m d k : ℕ) (ws vs : List ℕ) (line : List Field) → Promised F i j (offer n m d ws) (offering (refused k vs)) → o < 256 →
      length (written line) ≤ 60 → Appends w (written line) w' →
      AfterOffer j n m d ws (refused k vs) aims w' (ls ++ line ∷ [])
  declined_at {j} {w'} n m d k ws vs line p h short app =
      let y = moved p in
      let e = declined_same y.serves in
      record {
        state = s;
        serves = subst (λ (r : State). Serves F P s (offer n m d ws) (offering (refused k vs)) r) e y.serves;
        counted = refl;
        at = record {
          calls = subst (λ (r : State). Calls F P j r) e y.calls;
          aimed = a.aimed;
          places = a.places;
          events = a.events;
          narrow = a.narrow;
          tallied = a.tallied;
          spent = record {
            declined = a.spent.declined + 1;
            packets = let z = a.spent.packets in omega arith;
            few = omega arith;
            long = a.spent.long;
            holds = line_more ls line a.spent.holds (omega arith) app;
          };
        };
      }

  -- the lines of a cycle's events
  record Did (r : State) (fresh : List Event) : Type 0 where
    counted : r.cycles ≡ s.cycles + 1
    told : told r.log ≡ es ++ fresh
    alike : Alike r.log s.log
    small : AllByRecursion Small fresh

  cycle_did : {q q' : Queue Event} {k : ℕ} {r : State} → s.cycles < 65536 → (v : Serves F P s (cycle q) (cycling (granted k) q') r) → Did r (puts v)
  cycle_did {q} h (cycle_granted e c) =
      record {
        counted = c.counted;
        told = sym (all_told F P (one_more led (cycle_granted {q = q} e c))) ∙ ap (λ (y : List Event). y ++ puts (cycle_granted {q = q} e c)) (all_told F P led ∙ a.events);
        alike = subst (λ (l : Log). Alike l s.log) (sym c.logged) (alike (happened c) s.log (moves s.cycles c.work F.plan.nodes));
        small = small_told F P s kept_inv law.few_nodes most_tickets sizes.short h c;
      }

  -- what a cycle that was granted brings
  pub record CarriedOut (j : Tables) (q q' : Queue Event) (k : ℕ) : Type 0 where
    pub state : State
    pub serves : Serves F P s (cycle q) (cycling (granted k) q') state
    pub counted : state.cycles ≡ s.cycles + 1
    pub held : contents q' ≡ puts serves
    pub small : AllByRecursion Small (puts serves)
    pub fits : length (text (map line_of (puts serves))) ≤ length (beyond w)
    pub ins_few : ins es + ins (puts serves) ≤ 1024
    pub outs_few : outs es + outs (puts serves) ≤ 1024
    pub then : {t' : Tally} {w' : Writer} → Tallied t' (es ++ puts serves) → Appends w (text (map line_of (puts serves))) w' →
        At F P M j aims t' w' state (ls ++ map line_of (puts serves)) (es ++ puts serves) o

  pub carried_out_at : {j : Tables} {q q' : Queue Event} {k : ℕ} → s.cycles < 65536 → Sound q → contents q ≡ [] → Promised F i j (cycle q) (cycling (granted k) q') → CarriedOut j q q' k
  carried_out_at {j} {q} {q'} {k} h sound none p =
      record {
        state = y.state;
        serves = y.serves;
        counted = d.counted;
        held = seen F P y.serves sound ∙ ap (λ (x : List Event). x ++ fresh) none;
        small = d.small;
        fits = room;
        ins_few = omega (arith, e1, few_packets, after.entered);
        outs_few = omega (arith, e2, few_packets, after.off);
        then = λ {t'} {w'} tally app.
            record {
              calls = y.calls;
              aimed = λ u l. a.aimed u l ∙ sym (ap₂ (λ (b : Bool) (m : Option Load). cond b None (Some (aim m))) (d.alike.free u) (d.alike.packet u));
              places = a.places;
              events = d.told;
              narrow = d.alike.narrow a.narrow;
              tallied = tally;
              spent = record { declined = a.spent.declined; packets = packets; few = a.spent.few; long = a.spent.long; holds = lines_more ls lines a.spent.holds longer app };
            };
      }
    where
      y : Moved F P j s (cycle q) (cycling (granted k) q')
      y = moved p

      fresh : List Event
      fresh = puts y.serves

      d : Did y.state fresh
      d = cycle_did h y.serves

      lines : List (List Field)
      lines = map line_of fresh

      after : Few y.state.log
      after = few F P law accepts (subst (λ (Q : Settings). Leads F Q y.calls.run y.state) y.calls.settings y.calls.follows.leads)

      e1 : entries y.state.log ≡ ins es + ins fresh
      e1 = sym (ins_told y.state.log) ∙ ap ins d.told ∙ (sums_append es fresh).ins

      e2 : count_off y.state.log ≡ outs es + outs fresh
      e2 = sym (outs_told y.state.log) ∙ ap outs d.told ∙ (sums_append es fresh).outs

      e3 : entries s.log ≡ ins es
      e3 = sym (ins_told s.log) ∙ ap ins a.events

      e4 : count_off s.log ≡ outs es
      e4 = sym (outs_told s.log) ∙ ap outs a.events

      short : length (text lines) ≤ 20 * (ins fresh + outs fresh)
      short = text_short fresh d.small

      packets : a.spent.declined + offers y.state.log ≡ o
      packets = omega (arith, d.alike.offers, a.spent.packets)

      longer : most_bytes a.spent.declined s.log + length (text lines) ≤ most_bytes a.spent.declined y.state.log
      longer = omega (arith, e1, e2, e3, e4, short, d.alike.collections)

      room : length (text lines) ≤ length (beyond w)
      room = omega (arith, room_beyond a.spent.long a.spent.holds, longer, most_few a.spent.declined after (omega (arith, packets, a.spent.few)))

      few_packets : offers y.state.log ≤ 256
      few_packets = omega (arith, packets, a.spent.few)

  -- a cycle for which the line has room is not refused
  cycle_granted_here : {q q' : Queue Event} {k : ℕ} {vs : List ℕ} {r : State} → s.cycles < 65536 → 128 ≤ free_places q → Serves F P s (cycle q) (cycling (refused k vs) q') r → ⊥
  cycle_granted_here {q} h room (cycle_refused e) =
      let v : cycle_verdict F P s q ≡ granted tt =
      cond-false _ _ _ (lt-leb 1073741823 s.cycles (omega arith)) ∙ cond-false _ _ _ (le-ltb (free_places q) (2 * F.plan.nodes) (let n = law.few_nodes in omega arith)) in
      cc

  pub not_refused : {j : Tables} {q q' : Queue Event} {k : ℕ} {vs : List ℕ} → s.cycles < 65536 → 128 ≤ free_places q → Promised F i j (cycle q) (cycling (refused k vs) q') → ⊥
  not_refused h room p = cycle_granted_here h room (moved p).serves

  -- the ticket with this number
  pub record Numbered (g n m : ℕ) : Type 0 where
    pub exists : g < all_tickets F.plan P
    pub node : n < F.plan.nodes
    pub own : m < P.tickets
    pub ticket : ticket P n m ≡ g

  pub numbered : (g : ℕ) → g < all_tickets F.plan P → Numbered g (g / P.tickets) (g % P.tickets)
  numbered g h =
      record {
        exists = h;
        node = div_below g P.tickets F.plan.nodes sizes.some h;
        own = mod_below g P.tickets sizes.some;
        ticket = div-add-mod' g P.tickets;
      }

  -- a ticket that is not free, by the table of destinations
  pub record Busy (g d : ℕ) : Type 0 where
    pub taken : free g s.log ≡ false
    pub goes : aim (packet g s.log) ≡ d

  pub busy : (g d : ℕ) → g < all_tickets F.plan P → get_or aims g None ≡ Some d → Busy g d
  busy g d h e = go (free g s.log) refl (sym (a.aimed g h) ∙ e)
    where
      go : (b : Bool) → free g s.log ≡ b → cond b None (Some (aim (packet g s.log))) ≡ Some d → Busy g d
      go true f x = cc
      go false f x = record { taken = f; goes = cc }

  pub not_busy : (g : ℕ) → g < all_tickets F.plan P → get_or aims g None ≡ None → complete g s.log ≡ false
  not_busy g h e = go (free g s.log) refl (sym (a.aimed g h) ∙ e)
    where
      go : (b : Bool) → free g s.log ≡ b → cond b None (Some (aim (packet g s.log))) ≡ None → complete g s.log ≡ false
      go true f x = rw f refl
      go false f x = cc

  aimed_collect : (g d : ℕ) (ws : List ℕ) → g < all_tickets F.plan P → Aimed (all_tickets F.plan P) (set aims g None) (collected g d ws ∷ s.log)
  aimed_collect g d ws h x l = go (cases_eq x g)
    where
      go : (x ≡ g) ⊎ (x ≡ g → ⊥) → get_or (set aims g None) x None ≡ cond (cond (eqb x g) true (free x s.log)) None (Some (aim (packet x s.log)))
      go (inl e) = rw (eq-eqb x g e) (ap (λ (y : ℕ). get_or (set aims g None) y None) e ∙ get_or-set_same aims g None None (let p = a.places in let q = most_tickets in omega arith))
      go (inr e) = rw (ne_eqb x g e) (get_or-set_other aims g x None None e ∙ a.aimed x l)

  -- what a collection that was granted brings
  pub record Brought (j : Tables) (g d n m k : ℕ) (memory m' : List ℕ) : Type 0 where
    pub whole : complete g s.log ≡ true
    pub narrow : AllByRecursion (λ v. v < 2 ^ 32) (take k m')
    pub short : length (take k m') ≤ 4
    pub in_memory : k ≤ length m'
    pub state : State
    pub serves : Serves F P s (collect d n m memory) (collecting (granted k) m') state
    pub counted : state.cycles ≡ s.cycles
    pub then : {w' : Writer} (line : List Field) → length (written line) ≤ 60 → Appends w (written line) w' → At F P M j (set aims g None) t w' state (ls ++ line ∷ []) es o

  pub brought_at : {j : Tables} (g d n m k : ℕ) (memory m' : List ℕ) → Numbered g n m → Promised F i j (collect d n m memory) (collecting (granted k) m') → Brought j g d n m k memory m'
  brought_at {j} g d n m k memory m' at p =
      record {
        whole = subst (λ (u : ℕ). complete u s.log ≡ true) at.ticket tested.0;
        narrow = subst (λ (x : List ℕ). AllByRecursion (λ v. v < 2 ^ 32) x) (sym taken) offer_of_it.1;
        short = let e = ap length taken in omega (arith, e, offer_of_it.0);
        in_memory = let e = ap length did.1.0 ∙ length-append ws (drop (length ws) memory) in omega (arith, e, tested.1, long);
        state = _;
        serves = subst (λ (r : State). Serves F P s (collect d n m memory) (collecting (granted k) m') r) did.1.1 y.serves;
        counted = refl;
        then = λ {w'} line short app.
            record {
              calls = subst (λ (r : State). Calls F P j r) did.1.1 y.calls;
              aimed = subst (λ (u : ℕ). Aimed (all_tickets F.plan P) (set aims g None) (collected u d ws ∷ s.log)) (sym at.ticket) (aimed_collect g d ws at.exists);
              places = length-set aims g None ∙ a.places;
              events = a.events;
              narrow = a.narrow;
              tallied = a.tallied;
              spent = record { declined = a.spent.declined; packets = a.spent.packets; few = a.spent.few; long = a.spent.long; holds = line_more ls line a.spent.holds (omega arith) app };
            };
      }
    where
      u : ℕ
      u = ticket P n m

      ws : List ℕ
      ws = collection s u

      y : Moved F P j s (collect d n m memory) (collecting (granted k) m')
      y = moved p

      did : (collect_verdict F P s d n m memory ≡ granted k) × ((m' ≡ over ws memory) × (y.state ≡ with_log s (collected u d ws)))
      did = collect_did F P y.serves

      kept_so : Kept F P y.calls.run (with_log s (collected u d ws))
      kept_so = subst (λ (r : State). Kept F P y.calls.run r) did.1.1 y.kept

      offer_of_it : (length ws ≤ 4) × AllByRecursion (λ v. v < 2 ^ 32) ws
      offer_of_it =
          let e = (kept_so.collections u d ws (record { newer = []; older = s.log; split = refl })).there in
          narrow_at e.newer e.older u (record { destination = d; words = ws }) (subst (λ (l : Log). Narrow l) e.split a.narrow)

      tested : (complete u s.log ≡ true) × (size (packet u s.log) ≡ k)
      tested = collect_tested F P y.serves

      long : length ws ≡ size (packet u s.log)
      long = length_words (λ j. received u j s.log) (size (packet u s.log))

      taken : take k m' ≡ ws
      taken = collect_taken F P y.serves

  uncollected : {d n m k : ℕ} {memory m' vs : List ℕ} {r : State} → Serves F P s (collect d n m memory) (collecting (refused k vs) m') r →
      (collect_verdict F P s d n m memory ≡ refused k vs) × (r ≡ s)
  uncollected (collect_refused e) = (e, refl)

  -- a collection that was refused: its ticket is not complete
  pub left_at : {j : Tables} (g d n m k : ℕ) (memory m' vs : List ℕ) → Numbered g n m → Busy g d → length memory ≡ 4 → Promised F i j (collect d n m memory) (collecting (refused k vs) m') →
      (complete g s.log ≡ false) × At F P M j aims t w s ls es o
  left_at {j} g d n m k memory m' vs at b long p = (
    go (complete g s.log) refl,
    record {
      calls = subst (λ (r : State). Calls F P j r) did.1 y.calls;
      aimed = a.aimed;
      places = a.places;
      events = a.events;
      narrow = a.narrow;
      tallied = a.tallied;
      spent = a.spent;
    },
  )
    where
      y : Moved F P j s (collect d n m memory) (collecting (refused k vs) m')
      y = moved p

      did : (collect_verdict F P s d n m memory ≡ refused k vs) × (y.state ≡ s)
      did = uncollected y.serves

      opened : Opened F P s.log g
      opened = kept_inv.opens g b.taken

      go : (c : Bool) → complete g s.log ≡ c → complete g s.log ≡ false
      go false e = e
      go true e =
          let u = ticket P n m in
          let whole : complete u s.log ≡ true = subst (λ (x : ℕ). complete x s.log ≡ true) (sym at.ticket) e in
          let there : aim (packet u s.log) ≡ d = subst (λ (x : ℕ). aim (packet x s.log) ≡ d) (sym at.ticket) b.goes in
          let goes : d < F.plan.nodes = let q = opened.goes in let z = b.goes in omega arith in
          let fits : size (packet u s.log) ≤ length memory =
          subst (λ (x : ℕ). size (packet x s.log) ≤ length memory) (sym at.ticket) (let q = opened.short in let z = sizes.short in omega arith) in
          let v : collect_verdict F P s d n m memory ≡ granted (size (packet u s.log)) =
          cond-false _ _ _ (or_from _ _ (or_from _ _ (lt-leb F.plan.nodes d goes) (lt-leb F.plan.nodes n at.node)) (lt-leb P.tickets m at.own))
          ∙ cond-false _ _ _ (or_from _ _ (not_from_true _ whole) (not_from_true _ (eq-eqb (aim (packet u s.log)) d there)))
          ∙ cond-false _ _ _ (le-ltb (length memory) (size (packet u s.log)) fits) in
          let x = sym v ∙ did.0 in
          (cc)
