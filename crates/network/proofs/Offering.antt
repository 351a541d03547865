-- The invariant when an offer is accepted, or a packet collected.
use Rattle.std.proofs.Common.{◌≡◌, ℕ, ◌+◌, ◌/◌, ◌<◌, ◌≤◌, true, false, not, eqb, ◌⊎◌, List, [], ◌∷◌, ◌++◌, length, get_or, take, Some, None, Option, sym, refl, ap, ◌∙◌, subst, inl, inr, arith, take-suc, add-one, is_some, unwrap_or}
use Rattle.std.specs.List.{AllByRecursion}
use Rattle.std.proofs.SliceLists.{all_by_recursion_push}
use Rattle.fabric.proofs.Pigeons.{Distinct}
use mathlib.Core.Path.{transport}
use lib.Seq.{take-length}
use Rattle.std.proofs.lemmas.Bool.{eq-eqb, ne_eqb, cases_eq, and_parts, not-true, both_ways}
use Rattle.std.proofs.lemmas.Option.{same_Some}
use Rattle.std.proofs.lemmas.List.{length-append}
use Rattle.fabric.specs.declared.parts.Flit.{Flit}
use Rattle.fabric.specs.declared.parts.Port.{Port}
use Rattle.network.specs.Log.{Happening, Log, Packet, packet, size, word, aim, free, sent, received, filled, complete, gathered, waiting, words_of}
use Rattle.network.specs.Log.Happening.{offered, entered, off, collected}
use Rattle.bounds.specs.declared.settings.Settings.{Settings}
use Rattle.bounds.specs.SetUp.{all_tickets}
use Rattle.network.specs.Cycle.{Fabric, State}
use Rattle.network.specs.Runs.{collection}
use Rattle.network.specs.Promises.{Stands, OffOnce, NeverOff, InOneSlot, InNoSlot, OfPacket, OfferedLast}
use Rattle.network.proofs.Stand.{stands_later, stands_cases, stands_older, none_stands, Other, never_more, once_more}
use Rattle.network.proofs.Places.{some_none}
use Rattle.network.proofs.Invariant.{Sits, Opened, Waits, Inv, all_weaker, distinct_push}

-- no flit moves
abbrev pub Quiet : Happening → Type 0
Quiet (offered t p) = Unit {0}
Quiet (entered f n) = ⊥
Quiet (off f n c) = ⊥
Quiet (collected t r ws) = Unit {0}

module _ (F : Fabric) (P : Settings) (s : State) (N : ℕ) (i : Inv F P s N) (x : Happening) (quiet : Quiet x) where
  abbrev log : Log
  log = x ∷ s.log

  abbrev now : State
  now = record { cycles = s.cycles; slot = s.slot; log = log }

  no_entry : {g : Flit} {m : ℕ} → x ≡ entered g m → ⊥
  no_entry e = subst (λ (y : Happening). Quiet y) e quiet

  no_off : {g : Flit} {m d : ℕ} → x ≡ off g m d → ⊥
  no_off e = subst (λ (y : Happening). Quiet y) e quiet

  other : (g : Flit) → Other g x
  other g k m d u e = no_off e

  account : (g : Flit) → (OffOnce g s.log × InNoSlot g s) ⊎ (NeverOff g s.log × InOneSlot g s) →
      (OffOnce g log × InNoSlot g now) ⊎ (NeverOff g log × InOneSlot g now)
  account g (inl k) = inl (once_more (other g) k.0, k.1)
  account g (inr k) = inr (never_more (other g) k.0, record { node = k.1.node; port = k.1.port; here = k.1.here; only = k.1.only })

  -- the parts that such a happening may change
  pub inv_quiet : ((n : ℕ) (p : Port) (f : Flit) → s.slot n p ≡ Some f → Sits F P s.log n f → Sits F P log n f) →
      ((t : ℕ) → free t log ≡ false → Opened F P log t) →
      ((t k w : ℕ) → free t log ≡ false → received t k log ≡ Some w → w ≡ word (packet t log) k) →
      ((t k : ℕ) → free t log ≡ false → sent t log ≤ k → received t k log ≡ None) →
      ((n : ℕ) → AllByRecursion (Waits P log n) (waiting P.tickets n log) × Distinct (waiting P.tickets n log)) →
      ((t r : ℕ) (ws : List ℕ) → x ≡ collected t r ws → OfferedLast t (record { destination = r; words = ws }) s.log) →
      Inv F P now N
  inv_quiet sits opens right_words unsent queue collects =
      record {
        sits = λ n p f e. sits n p f e (i.sits n p f e);
        alone = i.alone;
        in_turn = i.in_turn;
        opens = opens;
        right_words = right_words;
        unsent = unsent;
        queue = λ m. (queue m).0;
        queue_apart = λ m. (queue m).1;
        timely = λ g m e. i.timely g m (stands_older e no_entry).0;
        apart = λ g h m k e d. let z = stands_older e no_entry in i.apart g h m k z.0 (subst (λ (y : Log). Stands (entered h k) y) (sym z.1) d);
        offs = λ g m d e. let z = i.offs g m d (stands_older e no_off).0 in (z.0, stands_later z.1);
        accounted = λ g m e. account g (i.accounted g m (stands_older e no_entry).0);
        carries = λ g m e. let z = stands_older e no_entry in subst (λ (y : Log). OfPacket g y) z.1 (i.carries g m z.0);
        collections = λ t r ws e. collected_last t r ws e (stands_cases e);
      }
    where
      collected_last : (t r : ℕ) (ws : List ℕ) (e : Stands (collected t r ws) log) → ((x ≡ collected t r ws) × (e.older ≡ s.log)) ⊎ ((d : Stands (collected t r ws) s.log) × (d.older ≡ e.older)) →
          OfferedLast t (record { destination = r; words = ws }) e.older
      collected_last t r ws e (inl k) = subst (λ (y : Log). OfferedLast t (record { destination = r; words = ws }) y) (sym k.1) (collects t r ws k.0)
      collected_last t r ws e (inr k) = subst (λ (y : Log). OfferedLast t (record { destination = r; words = ws }) y) k.1 (i.collections t r ws k.0)

module _ (F : Fabric) (P : Settings) (s : State) (N : ℕ) (i : Inv F P s N) (u : ℕ) (pk : Packet)
    (is_free : free u s.log ≡ true) (ticket : u < all_tickets F.plan P) (goes : pk.destination < F.plan.nodes)
    (some : 0 < length pk.words) (short : length pk.words ≤ P.words) where
  abbrev log_o : Log
  log_o = offered u pk ∷ s.log

  apart : (t : ℕ) → free t s.log ≡ false → t ≡ u → ⊥
  apart t o e = both_ways (free u s.log) (subst (λ (z : ℕ). free z s.log ≡ false) e o) is_free

  sits_o : (n : ℕ) (p : Port) (f : Flit) → s.slot n p ≡ Some f → Sits F P s.log n f → Sits F P log_o n f
  sits_o n p f e z =
      let h : eqb f.ticket u ≡ false = ne_eqb f.ticket u (apart f.ticket z.open_ticket) in
      record {
        exists = z.exists;
        open_ticket = rw h z.open_ticket;
        was_sent = rw h z.was_sent;
        in_size = rw h z.in_size;
        word_is = rw h z.word_is;
        unreceived = rw h z.unreceived;
        goes = z.goes;
        from = z.from;
        was_entered = stands_later z.was_entered;
      }

  opens_o : (t : ℕ) → free t log_o ≡ false → Opened F P log_o t
  opens_o t o = go (cases_eq t u)
    where
      go : (t ≡ u) ⊎ (t ≡ u → ⊥) → Opened F P log_o t
      go (inl e) = record { ticket = rw e ticket; goes = rw (eq-eqb t u e) goes; short = rw (eq-eqb t u e) short }
      go (inr h) =
          let z = i.opens t (rw (ne_eqb t u h) at o) in
          record { ticket = z.ticket; goes = rw (ne_eqb t u h) z.goes; short = rw (ne_eqb t u h) z.short }

  right_o : (t k w : ℕ) → free t log_o ≡ false → received t k log_o ≡ Some w → w ≡ word (packet t log_o) k
  right_o t k w o e = go (cases_eq t u)
    where
      go : (t ≡ u) ⊎ (t ≡ u → ⊥) → w ≡ word (packet t log_o) k
      go (inl h) = some_none None w refl (rw (eq-eqb t u h) at e)
      go (inr h) = rw (ne_eqb t u h) (i.right_words t k w (rw (ne_eqb t u h) at o) (rw (ne_eqb t u h) at e))

  unsent_o : (t k : ℕ) → free t log_o ≡ false → sent t log_o ≤ k → received t k log_o ≡ None
  unsent_o t k o l = go (cases_eq t u)
    where
      go : (t ≡ u) ⊎ (t ≡ u → ⊥) → received t k log_o ≡ None
      go (inl h) = rw (eq-eqb t u h)
      go (inr h) = rw (ne_eqb t u h) (i.unsent t k (rw (ne_eqb t u h) at o) (rw (ne_eqb t u h) at l))

  queue_o : (n : ℕ) → AllByRecursion (Waits P log_o n) (waiting P.tickets n log_o) × Distinct (waiting P.tickets n log_o)
  queue_o n = go (cases_eq (u / P.tickets) n)
    where
      old : AllByRecursion (Waits P log_o n) (waiting P.tickets n s.log)
      old =
          all_weaker (Waits P s.log n) (Waits P log_o n)
          (λ v w. let h = ne_eqb v u (apart v w.open_ticket) in record { node = w.node; open_ticket = rw h w.open_ticket; more = rw h w.more })
          (waiting P.tickets n s.log) (i.queue n)

      differ : AllByRecursion (λ v. v ≡ u → ⊥) (waiting P.tickets n s.log)
      differ = all_weaker (Waits P s.log n) (λ v. v ≡ u → ⊥) (λ v w. apart v w.open_ticket) (waiting P.tickets n s.log) (i.queue n)

      go : (u / P.tickets ≡ n) ⊎ (u / P.tickets ≡ n → ⊥) → AllByRecursion (Waits P log_o n) (waiting P.tickets n log_o) × Distinct (waiting P.tickets n log_o)
      go (inl e) =
          let h = eq-eqb u u refl in
          let new : Waits P log_o n u = record { node = e; open_ticket = rw h; more = rw h some } in
          rw (eq-eqb (u / P.tickets) n e) (all_by_recursion_push (Waits P log_o n) (waiting P.tickets n s.log) u old new, distinct_push (waiting P.tickets n s.log) u (i.queue_apart n) differ)
      go (inr h) = rw (ne_eqb (u / P.tickets) n h) (old, i.queue_apart n)

  pub inv_offer : Inv F P (record { cycles = s.cycles; slot = s.slot; log = offered u pk ∷ s.log }) N
  inv_offer = inv_quiet F P s N i (offered u pk) tt sits_o opens_o right_o unsent_o queue_o (λ t r ws e. cc)

-- one more happening that is no offer and no collection of this ticket
last_more : (t : ℕ) (p : Packet) (x : Happening) (l : Log) → ((q : Packet) → x ≡ offered t q → ⊥) → ((r : ℕ) (ws : List ℕ) → x ≡ collected t r ws → ⊥) →
    OfferedLast t p l → OfferedLast t p (x ∷ l)
last_more t p x l nf nc h =
    record {
      there = record { newer = x ∷ h.there.newer; older = h.there.older; split = ap (λ (y : Log). x ∷ y) h.there.split };
      no_offer = λ q d. h.no_offer q (stands_older d (nf q)).0;
      no_collection = λ r ws d. h.no_collection r ws (stands_older d (nc r ws)).0;
    }

-- the last offer of an open ticket
pub offered_last : (t : ℕ) (p : Packet) (l : Log) → packet t l ≡ Some p → free t l ≡ false → OfferedLast t p l
offered_last t p [] e o = some_none None p refl e
offered_last t p (offered u q ∷ l) e o = go (cases_eq t u) (offered_last t p l)
  where
    go : (t ≡ u) ⊎ (t ≡ u → ⊥) → (packet t l ≡ Some p → free t l ≡ false → OfferedLast t p l) → OfferedLast t p (offered u q ∷ l)
    go (inl h) ih =
        let w : Some q ≡ Some p = rw (eq-eqb t u h) at e in
        let v : q ≡ p = same_Some q p w in
        record {
          there = record { newer = []; older = l; split = λ j. offered (sym h j) (v j) ∷ l };
          no_offer = λ x d. none_stands d;
          no_collection = λ r ws d. none_stands d;
        }
    go (inr h) ih =
        last_more t p (offered u q) l
        (λ x k. let y : u ≡ t = cc in h (sym y))
        (λ r ws k. cc)
        (ih (rw (ne_eqb t u h) at e) (rw (ne_eqb t u h) at o))
offered_last t p (entered f n ∷ l) e o =
    last_more t p (entered f n) l (λ x k. cc) (λ r ws k. cc) (offered_last t p l e o)
offered_last t p (off f n c ∷ l) e o =
    last_more t p (off f n c) l (λ x k. cc) (λ r ws k. cc) (offered_last t p l e o)
offered_last t p (collected u r ws ∷ l) e o = go (cases_eq t u) (offered_last t p l)
  where
    go : (t ≡ u) ⊎ (t ≡ u → ⊥) → (packet t l ≡ Some p → free t l ≡ false → OfferedLast t p l) → OfferedLast t p (collected u r ws ∷ l)
    go (inl h) ih = absurd (both_ways true (rw (eq-eqb t u h) at o) refl)
    go (inr h) ih =
        last_more t p (collected u r ws) l
        (λ x k. cc)
        (λ a b k. let y : u ≡ t = cc in h (sym y))
        (ih e (rw (ne_eqb t u h) at o))

-- an open ticket has a packet
pub open_packet : (t : ℕ) (l : Log) → free t l ≡ false → packet t l ≡ None → ⊥
open_packet t [] o e = both_ways true o refl
open_packet t (offered u q ∷ l) o e = go (cases_eq t u) (open_packet t l)
  where
    go : (t ≡ u) ⊎ (t ≡ u → ⊥) → (free t l ≡ false → packet t l ≡ None → ⊥) → ⊥
    go (inl h) ih = some_none None q refl (sym (rw (eq-eqb t u h) at e))
    go (inr h) ih = ih (rw (ne_eqb t u h) at o) (rw (ne_eqb t u h) at e)
open_packet t (entered f n ∷ l) o e = open_packet t l o e
open_packet t (off f n c ∷ l) o e = open_packet t l o e
open_packet t (collected u r ws ∷ l) o e = go (cases_eq t u) (open_packet t l)
  where
    go : (t ≡ u) ⊎ (t ≡ u → ⊥) → (free t l ≡ false → packet t l ≡ None → ⊥) → ⊥
    go (inl h) ih = both_ways true (rw (eq-eqb t u h) at o) refl
    go (inr h) ih = ih (rw (ne_eqb t u h) at o) e

-- what a filled record holds
pub filled_has : (t m : ℕ) (l : Log) → filled t m l ≡ true → (k : ℕ) → k < m → received t k l ≡ None → ⊥
filled_has t ℕ.zero l e k h u = omega arith
filled_has t (ℕ.suc m) l e k h u = go (cases_eq k m) (filled_has t m l)
  where
    parts : (filled t m l ≡ true) × (is_some (received t m l) ≡ true)
    parts = and_parts (filled t m l) (is_some (received t m l)) e

    go : (k ≡ m) ⊎ (k ≡ m → ⊥) → (filled t m l ≡ true → (k : ℕ) → k < m → received t k l ≡ None → ⊥) → ⊥
    go (inl d) ih =
        let v : received t m l ≡ None = subst (λ (x : ℕ). received t x l ≡ None) d u in
        both_ways false refl (rw v at parts.1)
    go (inr d) ih = ih parts.0 k (omega arith) u

some_of : (o : Option ℕ) → (o ≡ None → ⊥) → (w : ℕ) × (o ≡ Some w)
some_of None h = absurd (h refl)
some_of (Some w) h = (w, refl)

-- the words in the first places are the first of a list
pub words_upto : (f : ℕ → Option ℕ) (m : ℕ) (ws : List ℕ) → m ≤ length ws → ((k : ℕ) → k < m → unwrap_or (f k) 0 ≡ get_or ws k 0) → words_of f m ≡ take m ws
words_upto f ℕ.zero ws h e = refl
words_upto f (ℕ.suc m) ws h e =
    (λ j. words_upto f m ws (omega arith) (λ k d. e k (omega arith)) j ++ (e m (omega arith) j ∷ [])) ∙ sym (take-suc ws m 0 h)

pub length_words : (f : ℕ → Option ℕ) (m : ℕ) → length (words_of f m) ≡ m
length_words f ℕ.zero = refl
length_words f (ℕ.suc m) = length-append (words_of f m) _ ∙ ap (λ k. k + 1) (length_words f m) ∙ add-one m

-- a complete ticket is open, and its record filled
pub complete_parts : (t : ℕ) (l : Log) → complete t l ≡ true → (free t l ≡ false) × (filled t (size (packet t l)) l ≡ true)
complete_parts t l whole =
    let z = and_parts (not (free t l)) (filled t (size (packet t l)) l) whole in (not-true (free t l) z.0, z.1)

module _ (F : Fabric) (P : Settings) (s : State) (N : ℕ) (i : Inv F P s N) (u r : ℕ)
    (whole : complete u s.log ≡ true) (at_home : aim (packet u s.log) ≡ r) where
  abbrev ws_c : List ℕ
  ws_c = collection s u

  abbrev log_c : Log
  log_c = collected u r ws_c ∷ s.log

  parts : (free u s.log ≡ false) × (filled u (size (packet u s.log)) s.log ≡ true)
  parts = complete_parts u s.log whole

  was_open : free u s.log ≡ false
  was_open = parts.0

  -- nothing of this ticket is still to come
  arrived : (t k : ℕ) → k < size (packet t s.log) → received t k s.log ≡ None → t ≡ u → ⊥
  arrived t k h e d =
      filled_has u (size (packet u s.log)) s.log parts.1 k
      (subst (λ (x : ℕ). k < size (packet x s.log)) d h) (subst (λ (x : ℕ). received x k s.log ≡ None) d e)

  still : (t : ℕ) → free t log_c ≡ false → free t s.log ≡ false
  still t o = go (cases_eq t u)
    where
      go : (t ≡ u) ⊎ (t ≡ u → ⊥) → free t s.log ≡ false
      go (inl h) = absurd (both_ways true (rw (eq-eqb t u h) at o) refl)
      go (inr h) = rw (ne_eqb t u h) at o

  queue_c : (n : ℕ) → AllByRecursion (Waits P log_c n) (waiting P.tickets n log_c) × Distinct (waiting P.tickets n log_c)
  queue_c n = (
    all_weaker (Waits P s.log n) (Waits P log_c n)
        (λ v w. let h = ne_eqb v u (arrived v (sent v s.log) w.more (i.unsent v (sent v s.log) w.open_ticket (omega arith))) in
        record { node = w.node; open_ticket = rw h w.open_ticket; more = w.more })
        (waiting P.tickets n s.log) (i.queue n),
    i.queue_apart n,
  )

  held : (o : Option Packet) → packet u s.log ≡ o → OfferedLast u (record { destination = r; words = ws_c }) s.log
  held None e = absurd (open_packet u s.log was_open e)
  held (Some p) e = subst (λ (x : Packet). OfferedLast u x s.log) (λ j. record { destination = d j; words = w j }) (offered_last u p s.log e was_open)
    where
      d : p.destination ≡ r
      d = rw e at at_home

      long : size (packet u s.log) ≡ length p.words
      long = rw e

      each : (k : ℕ) → k < length p.words → unwrap_or (received u k s.log) 0 ≡ get_or p.words k 0
      each k h =
          let z = some_of (received u k s.log) (filled_has u (size (packet u s.log)) s.log parts.1 k (rw long h)) in
          let y : z.0 ≡ word (packet u s.log) k = i.right_words u k z.0 was_open z.1 in
          let x : z.0 ≡ get_or p.words k 0 = y ∙ ap (λ (o : Option Packet). word o k) e in
          ap (λ (o : Option ℕ). unwrap_or o 0) z.1 ∙ x

      w : p.words ≡ ws_c
      w = sym (ap (λ (m : ℕ). gathered u m s.log) long ∙ words_upto (λ k. received u k s.log) (length p.words) p.words (omega arith) each ∙ take-length p.words)

  pub inv_collect : Inv F P (record { cycles = s.cycles; slot = s.slot; log = collected u r ws_c ∷ s.log }) N
  inv_collect =
      inv_quiet F P s N i (collected u r ws_c) tt
      (λ n p f e z.
      let h = ne_eqb f.ticket u (arrived f.ticket f.number z.in_size z.unreceived) in
      record {
        exists = z.exists;
        open_ticket = rw h z.open_ticket;
        was_sent = z.was_sent;
        in_size = z.in_size;
        word_is = z.word_is;
        unreceived = z.unreceived;
        goes = z.goes;
        from = z.from;
        was_entered = stands_later z.was_entered;
      })
      (λ t o. let z = i.opens t (still t o) in record { ticket = z.ticket; goes = z.goes; short = z.short })
      (λ t k w o e. i.right_words t k w (still t o) e)
      (λ t k o h. i.unsent t k (still t o) h)
      queue_c
      (λ t a ws e.
      let x : u ≡ t = cc in
      let y : r ≡ a = cc in
      let z : ws_c ≡ ws = cc in
      transport (λ j. OfferedLast (x j) (record { destination = y j; words = z j }) s.log) (held (packet u s.log) refl))
