-- What an offer does.
use Rattle.std.proofs.Common.{◌≡◌, ℕ, ◌+◌, ◌*◌, ◌/◌, ◌%◌, ◌<◌, ◌≤◌, true, false, cond, ◌||◌, eqb, ltb, leb, ◌⊎◌, List, [], ◌∷◌, ◌++◌, length, get_or, set, is_some, Some, None, Option, sym, refl, ap, ◌∙◌, subst, inl, inr, mod-lt, mul-le-mul_left, div-add-mod', arith}
use Rattle.std.specs.List.{AllByRecursion}
use Rattle.fabric.proofs.Pigeons.{Distinct, few}
use lib.Arith.{digits_lt, digits_div}
use Rattle.std.proofs.lemmas.List.{get_or-set_same, get_or-set_other, get_or-replicate, length-map}
use Rattle.std.proofs.lemmas.Bool.{le-leb, lt-leb, le-ltb, lt-ltb, eq-eqb, ne_eqb, or_left, or_right, or_from, cond-true, cond-false, cases_eq, not_from_true, not-false, both_ways}
use Rattle.fabric.specs.Layouts.{Plan, Lawful}
use Rattle.fabric.specs.Verdicts.{Verdict}
use Rattle.fabric.specs.Verdicts.Verdict.{granted, refused}
use Rattle.batch.specs.Items.{items, joined}
use Rattle.bounds.specs.declared.settings.Settings.{Settings}
use Rattle.bounds.specs.SetUp.{all_tickets}
use Rattle.network.specs.Log.{Log, Packet, packet, size, word, aim, free, waiting}
use Rattle.network.specs.Log.Happening.{offered}
use Rattle.network.specs.Cycle.{Fabric, State}
use Rattle.network.specs.Runs.{ticket, missing, offer_verdict, with_log}
use Rattle.network.specs.Runs.Call.{offer}
use Rattle.network.specs.Runs.Outcome.{offering}
use Rattle.network.specs.Computed.{decided}
use Rattle.network.proofs.Invariant.{all_weaker, Waits as Waiting, Inv}
use Rattle.calls.specs.declared.tables.Tables.{Tables}
use Rattle.calls.specs.declared.ticket.Ticket.{Ticket}
use Rattle.calls.specs.Records.{all_waiting, waiting_at, Accepts}
use Rattle.calls.specs.Follow.{Shows, Recorded, Entry, Records}
use Rattle.calls.proofs.Promising.{Works, nothing_done}
use Rattle.calls.proofs.Showing.{like, change, entry_of, invariant, logged}
use Rattle.calls.proofs.Setting.{ticket_below}

-- a ticket's number lies among those of its node
pub own_range : (T n x : ℕ) → 0 < T → x / T ≡ n → (n * T ≤ x) × (x < n * T + T)
own_range T n x p e =
    let d : n * T + x % T ≡ x = ap (λ q. q * T + x % T) (sym e) ∙ div-add-mod' x T in
    let m = mod-lt x p in
    (omega arith, omega arith)

pub own_ticket : (p : Plan) → Lawful p → (P : Settings) → P.tickets ≤ 8 → (n o : ℕ) → n < p.nodes → o < P.tickets → n * P.tickets + o < 512
own_ticket p law P h n o hn ho =
    let few = law.few_nodes in omega (arith, digits_lt hn ho, mul-le-mul_left p.nodes h)

-- a node with a free ticket has room for one more that waits
pub room : (P : Settings) (l : Log) (n t : ℕ) (xs : List ℕ) → 0 < P.tickets → t / P.tickets ≡ n → free t l ≡ true → AllByRecursion (Waiting P l n) xs → Distinct xs →
    length xs < P.tickets
room P l n t xs p e f ws d =
    let T = P.tickets in
    few T (n * T) (t ∷ xs)
    (own_range T n t p e, all_weaker _ _ (λ x w. own_range T n x p w.node) xs ws)
    (all_weaker _ _ (λ x w q. both_ways (free x l) w.open_ticket (ap (λ y. free y l) (sym q) ∙ f)) xs ws, d)

module _ (F : Fabric) (i : Tables) (n o d : ℕ) (ws : List ℕ) where
  abbrev P : Settings
  P = i.settings

  refuses : (k : ℕ) → ((s : State) → Shows F i s → offer_verdict F P s n o d ws ≡ refused k []) → Works F i i (offer n o d ws) (offering (refused k []))
  refuses k h =
      nothing_done (λ s sh.
      let e = h s sh in
      (ap offering (sym e), ap (λ (v : Verdict (Unit {0})). decided v (with_log s (offered (ticket P n o) (record { destination = d; words = ws }))) s) e))

  pub no_node : (F.plan.nodes ≤ n) ⊎ (P.tickets ≤ o) → Works F i i (offer n o d ws) (offering (refused 4 []))
  no_node (inl h) = refuses 4 (λ s sh. cond-true _ _ _ (or_left _ _ (le-leb F.plan.nodes n h)))
  no_node (inr h) = refuses 4 (λ s sh. cond-true _ _ _ (or_right _ _ (le-leb P.tickets o h)))

  module _ (hn : n < F.plan.nodes) (ho : o < P.tickets) where
    first : {A : Type 0} (x y : A) → cond (missing F n || leb P.tickets o) x y ≡ y
    first x y = cond-false _ _ _ (or_from _ _ (lt-leb F.plan.nodes n hn) (lt-leb P.tickets o ho))

    pub no_destination : (F.plan.nodes ≤ d) ⊎ (d ≡ n) → Works F i i (offer n o d ws) (offering (refused 5 []))
    no_destination (inl h) = refuses 5 (λ s sh. first _ _ ∙ cond-true _ _ _ (or_left _ _ (le-leb F.plan.nodes d h)))
    no_destination (inr h) = refuses 5 (λ s sh. first _ _ ∙ cond-true _ _ _ (or_right _ _ (eq-eqb d n h)))

    module _ (hd : d < F.plan.nodes) (ne : d ≡ n → ⊥) where
      second : {A : Type 0} (x y : A) → cond (missing F d || eqb d n) x y ≡ y
      second x y = cond-false _ _ _ (or_from _ _ (lt-leb F.plan.nodes d hd) (ne_eqb d n ne))

      pub no_words : (length ws ≡ 0) ⊎ (P.words < length ws) → Works F i i (offer n o d ws) (offering (refused 6 []))
      no_words (inl h) = refuses 6 (λ s sh. first _ _ ∙ second _ _ ∙ cond-true _ _ _ (or_left _ _ (eq-eqb (length ws) 0 h)))
      no_words (inr h) = refuses 6 (λ s sh. first _ _ ∙ second _ _ ∙ cond-true _ _ _ (or_right _ _ (lt-ltb P.words (length ws) h)))

      module _ (some : length ws ≡ 0 → ⊥) (few_words : length ws ≤ P.words) where
        abbrev t : ℕ
        t = ticket P n o

        third : {A : Type 0} (x y : A) → cond (eqb (length ws) 0 || ltb P.words (length ws)) x y ≡ y
        third x y = cond-false _ _ _ (or_from _ _ (ne_eqb (length ws) 0 some) (le-ltb P.words (length ws) few_words))

        pub own : t < all_tickets F.plan P
        own = digits_lt hn ho

        pub not_free : is_some (get_or i.tickets t None) ≡ true → Works F i i (offer n o d ws) (offering (refused 7 []))
        not_free b =
            refuses 7 (λ s sh. first _ _ ∙ second _ _ ∙ third _ _ ∙ cond-true _ _ _ (sym (sh.records t own).opened ∙ b))

        module _ (law : Lawful F.plan) (j : Tables) (a : Accepts i j n t d ws) (lt : length i.tickets ≡ 512) (lw : length i.waits ≡ 64)
            (b : is_some (get_or i.tickets t None) ≡ false) where
          abbrev p : Packet
          p = record { destination = d; words = ws }

          is_free : (s : State) → Shows F i s → free t s.log ≡ true
          is_free s sh = not-false (free t s.log) (sym (sh.records t own).opened ∙ b)

          verdict : (s : State) → Shows F i s → offer_verdict F P s n o d ws ≡ granted tt
          verdict s sh = first _ _ ∙ second _ _ ∙ third _ _ ∙ cond-false _ _ _ (not_from_true _ (is_free s sh))

          at_node : t / P.tickets ≡ n
          at_node = digits_div n ho

          -- the ticket's own record
          new_record : (l : Log) → Recorded a.its t (offered t p ∷ l)
          new_record l =
              let e = eq-eqb t t refl in
              let q : packet t (offered t p ∷ l) ≡ Some p = cond-true _ _ _ e in
              record {
                destination = a.packed.goes ∙ ap aim (sym q);
                size = a.packed.size ∙ ap size (sym q);
                sent = a.packed.sent ∙ sym (cond-true _ _ _ e);
                short = subst (λ m. m ≤ 4) (sym a.packed.size) (let f = i.fits.short in omega arith);
                words = λ k h. a.packed.words k h ∙ ap (λ x. word x k) (sym q);
                received = λ k h. ap (λ xs. get_or xs k None) a.packed.received ∙ get_or-replicate 4 k None None h ∙ sym (cond-true _ _ _ e);
              }

          other_record : (u : ℕ) (r : Option Ticket) (l : Log) → (u ≡ t → ⊥) → Entry r u l → Entry r u (offered t p ∷ l)
          other_record u r l h =
              let e = ne_eqb u t h in
              like r u l (offered t p ∷ l) (cond-false _ _ _ e) (cond-false _ _ _ e) (cond-false _ _ _ e) (λ k. cond-false _ _ _ e)

          records : (s : State) → Shows F i s → Records (all_tickets F.plan P) j.tickets (offered t p ∷ s.log)
          records s sh =
              let below = ticket_below F law P i.fits.few in
              let mine = own in
              subst (λ (xs : List (Option Ticket)). Records (all_tickets F.plan P) xs (offered t p ∷ s.log)) (sym a.tickets)
              (change (all_tickets F.plan P) t i.tickets (Some a.its) s.log (offered t p ∷ s.log) (omega arith) sh.records
              (entry_of a.its t (offered t p ∷ s.log) (cond-true _ _ _ (eq-eqb t t refl)) (new_record s.log)) (λ u d. other_record u _ s.log d))

          queued : (s : State) → Inv F P s 0 → Shows F i s → (m : ℕ) → m < F.plan.nodes → get_or (all_waiting j) m [] ≡ waiting P.tickets m (offered t p ∷ s.log)
          queued s inv sh m h = ap (λ xs. get_or xs m []) a.waits ∙ go (cases_eq m n)
            where
              here : List ℕ
              here = joined 8 (waiting_at i n) t

              go : (m ≡ n) ⊎ (m ≡ n → ⊥) → get_or (set (all_waiting i) n here) m [] ≡ waiting P.tickets m (offered t p ∷ s.log)
              go (inl q) =
                  let xs = waiting P.tickets n s.log in
                  let fewer = room P s.log n t xs i.fits.some at_node (is_free s sh) (inv.queue n) (inv.queue_apart n) in
                  let most = i.fits.few in
                  let w = length-map i.waits items in
                  let y = law.few_nodes in
                  let joins : joined 8 xs t ≡ xs ++ (t ∷ []) = cond-true _ _ _ (lt-ltb (length xs) 8 (omega arith)) in
                  ap (λ k. get_or (set (all_waiting i) n here) k []) q
                  ∙ get_or-set_same (all_waiting i) n here [] (omega arith)
                  ∙ ap (λ ys. joined 8 ys t) (sh.queued n hn)
                  ∙ joins
                  ∙ sym (cond-true _ _ _ (eq-eqb (t / P.tickets) n at_node))
                  ∙ ap (λ k. waiting P.tickets k (offered t p ∷ s.log)) (sym q)
              go (inr q) =
                  get_or-set_other (all_waiting i) n m here [] q
                  ∙ sh.queued m h
                  ∙ sym (cond-false _ _ _ (ne_eqb (t / P.tickets) m (λ x. q (sym x ∙ at_node))))

          pub grants : Works F i j (offer n o d ws) (offering (granted tt))
          grants =
              record {
                does = λ s led sh.
                    let e = verdict s sh in
                    let then = with_log s (offered t p) in
                    let shows : Shows F j then = logged F i j s (offered t p) a.keeps sh (records s sh) (queued s (invariant F P law s led) sh) in
                    record {
                      exact = ap offering (sym e);
                      same = a.keeps.settings;
                      shows = subst (λ (v : Verdict (Unit {0})). Shows F j (decided v then s)) (sym e) shows;
                    };
              }
