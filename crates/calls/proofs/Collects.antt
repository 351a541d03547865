-- What a collection does.
use Rattle.std.proofs.Common.{◌≡◌, ℕ, ◌<◌, ◌≤◌, Bool, true, false, cond, not, ◌&&◌, ◌||◌, eqb, ltb, leb, ◌⊎◌, List, [], ◌∷◌, ◌++◌, length, get_or, map, min, is_some, Some, None, Option, sym, refl, ap, ◌∙◌, subst, inl, inr, arith, unwrap_or}
use lib.Arith.{digits_lt}
use Rattle.std.proofs.lemmas.Bool.{le-leb, lt-leb, le-ltb, lt-ltb, eq-eqb, ne_eqb, or_left, or_right, or_from, cond-true, cond-false}
use Rattle.std.proofs.lemmas.Option.{cond_some}
use Rattle.fabric.specs.Layouts.{Lawful}
use Rattle.fabric.specs.Verdicts.{Verdict}
use Rattle.fabric.specs.Verdicts.Verdict.{granted, refused}
use Rattle.batch.specs.Items.{items}
use Rattle.bounds.specs.declared.settings.Settings.{Settings}
use Rattle.bounds.specs.SetUp.{all_tickets}
use Rattle.network.specs.Log.{Log, packet, size, aim, free, received, filled, complete, gathered, all_held, words_of}
use Rattle.network.specs.Log.Happening.{collected}
use Rattle.network.specs.Cycle.{Fabric, State}
use Rattle.network.specs.Runs.{ticket, missing, collection, collect_verdict, with_log, over}
use Rattle.network.specs.Runs.Call.{collect}
use Rattle.network.specs.Runs.Outcome.{collecting}
use Rattle.network.specs.Computed.{decided}
use Rattle.calls.specs.declared.tables.Tables.{Tables}
use Rattle.calls.specs.declared.ticket.Ticket.{Ticket}
use Rattle.calls.specs.Records.{all_in, values, arrived, all_waiting, Frees}
use Rattle.calls.specs.Follow.{Shows, Recorded, Entry, Records, Queued}
use Rattle.calls.proofs.Promising.{Works, nothing_done}
use Rattle.calls.proofs.Setting.{ticket_below}
use Rattle.calls.proofs.Showing.{like, change, logged}

-- what a record says of its packet is what the log says
same_words : (f g : ℕ → Option ℕ) → ((k : ℕ) → k < 4 → f k ≡ g k) → (m : ℕ) → m ≤ 4 → (all_held f m ≡ all_held g m) × (words_of f m ≡ words_of g m)
same_words f g h ℕ.zero q = (refl, refl)
same_words f g h (ℕ.suc m) q =
    let e = same_words f g h m (omega arith) in
    let d = h m (omega arith) in
    (λ i. e.0 i && is_some (d i), λ i. e.1 i ++ (unwrap_or (d i) 0 ∷ []))

module _ (r : Ticket) (t : ℕ) (l : Log) (taken : true ≡ not (free t l)) (h : Recorded r t l) where
  is_complete : all_in r.received (min r.size 4) ≡ complete t l
  is_complete =
      ap (all_in r.received) (let short = h.short in let e : min r.size 4 ≡ r.size = omega arith in e)
      ∙ (same_words (λ k. get_or r.received k None) (λ k. received t k l) h.received r.size h.short).0
      ∙ ap (λ m. filled t m l) h.size
      ∙ ap (λ b. b && filled t (size (packet t l)) l) taken

holds : (r : Ticket) (t : ℕ) (l : Log) → Recorded r t l → values r.received (min r.size 4) ≡ gathered t (size (packet t l)) l
holds r t l h =
    ap (values r.received) (let short = h.short in let e : min r.size 4 ≡ r.size = omega arith in e)
    ∙ (same_words (λ k. get_or r.received k None) (λ k. received t k l) h.received r.size h.short).1 ∙ ap (λ m. gathered t m l) h.size

-- two tests, that both hold or not
not_both : (a b : Bool) → (a && b) ≡ false → (not a || not b) ≡ true
not_both true true e = sym e
not_both true false e = refl
not_both false b e = refl

both : (a b : Bool) → (a && b) ≡ true → (not a || not b) ≡ false
both true true e = refl
both true false e = sym e
both false b e = sym e

-- a packet that the code finds is there, complete, and goes to the node
found : (o : Option Ticket) (r : ℕ) (p : Ticket) → arrived o r ≡ Some p → o ≡ Some p
found None r p e = cc
found (Some q) r p e = ap Some (cond_some _ q p e).1

arrives : (o : Option Ticket) (t r : ℕ) (l : Log) → Entry o t l → is_some (arrived o r) ≡ (complete t l && eqb (aim (packet t l)) r)
arrives None t r l e = sym (ap (λ b. (b && filled t (size (packet t l)) l) && eqb (aim (packet t l)) r) (sym e.opened))
arrives (Some p) t r l e =
    let h = e.recorded p refl in
    is_some_cond (all_in p.received (min p.size 4) && eqb p.destination r) p
    ∙ ap (λ b. b && eqb p.destination r) (is_complete p t l e.opened h)
    ∙ ap (λ d. complete t l && eqb d r) h.destination
  where
    is_some_cond : (b : Bool) (q : Ticket) → is_some (cond b (Some q) None) ≡ b
    is_some_cond true q = refl
    is_some_cond false q = refl

module _ (F : Fabric) (i : Tables) (r n o : ℕ) (memory : List ℕ) where
  abbrev P : Settings
  P = i.settings

  abbrev t : ℕ
  t = ticket P n o

  abbrev its : Option Ticket
  its = get_or i.tickets t None

  abbrev then : State → State
  then s = with_log s (collected t r (collection s t))

  refuses : (k : ℕ) → ((s : State) → Shows F i s → collect_verdict F P s r n o memory ≡ refused k []) → Works F i i (collect r n o memory) (collecting (refused k []) memory)
  refuses k h =
      nothing_done (λ s sh.
      let e = h s sh in (
        ap (λ (v : Verdict ℕ). collecting v (decided v (over (collection s t) memory) memory)) (sym e),
        ap (λ (v : Verdict ℕ). decided v (then s) s) e,
      ))

  pub no_node : (F.plan.nodes ≤ r) ⊎ ((F.plan.nodes ≤ n) ⊎ (P.tickets ≤ o)) → Works F i i (collect r n o memory) (collecting (refused 4 []) memory)
  no_node (inl h) = refuses 4 (λ s sh. cond-true _ _ _ (or_left _ _ (or_left _ _ (le-leb F.plan.nodes r h))))
  no_node (inr (inl h)) = refuses 4 (λ s sh. cond-true _ _ _ (or_left _ _ (or_right _ _ (le-leb F.plan.nodes n h))))
  no_node (inr (inr h)) = refuses 4 (λ s sh. cond-true _ _ _ (or_right _ _ (le-leb P.tickets o h)))

  module _ (hr : r < F.plan.nodes) (hn : n < F.plan.nodes) (ho : o < P.tickets) where
    first : {A : Type 0} (x y : A) → cond (missing F r || missing F n || leb P.tickets o) x y ≡ y
    first x y = cond-false _ _ _ (or_from _ _ (or_from _ _ (lt-leb F.plan.nodes r hr) (lt-leb F.plan.nodes n hn)) (lt-leb P.tickets o ho))

    own : t < all_tickets F.plan P
    own = digits_lt hn ho

    asked : (s : State) → Shows F i s → is_some (arrived its r) ≡ (complete t s.log && eqb (aim (packet t s.log)) r)
    asked s sh = arrives its t r s.log (sh.records t own)

    pub not_complete : arrived its r ≡ None → Works F i i (collect r n o memory) (collecting (refused 8 []) memory)
    not_complete e =
        refuses 8 (λ s sh. first _ _ ∙ cond-true _ _ (cond {A = Verdict ℕ} (ltb (length memory) (size (packet t s.log))) (refused 9 []) (granted (size (packet t s.log)))) (not_both (complete t s.log) (eqb (aim (packet t s.log)) r) (sym (asked s sh) ∙ ap (λ (x : Option Ticket). is_some x) e)))

    module _ (p : Ticket) (there : arrived its r ≡ Some p) where
      recorded : (s : State) → Shows F i s → Recorded p t s.log
      recorded s sh = (sh.records t own).recorded p (found its r p there)

      second : {A : Type 0} (s : State) → Shows F i s → (x y : A) → cond (not (complete t s.log) || not (eqb (aim (packet t s.log)) r)) x y ≡ y
      second s sh x y = cond-false _ x y (both (complete t s.log) (eqb (aim (packet t s.log)) r) (sym (asked s sh) ∙ ap (λ (x : Option Ticket). is_some x) there))

      pub no_memory : length memory < p.size → Works F i i (collect r n o memory) (collecting (refused 9 []) memory)
      no_memory h =
          refuses 9 (λ s sh. first _ _ ∙ second s sh _ _ ∙ cond-true _ _ _ (lt-ltb (length memory) _ (subst (λ (m : ℕ). length memory < m) (recorded s sh).size h)))

      module _ (law : Lawful F.plan) (enough : p.size ≤ length memory) (j : Tables) (f : Frees i j t) (lt : length i.tickets ≡ 512) where
        verdict : (s : State) → Shows F i s → collect_verdict F P s r n o memory ≡ granted p.size
        verdict s sh =
            let z = (recorded s sh).size in
            first _ _ ∙ second s sh _ _ ∙ cond-false _ _ _ (le-ltb (length memory) _ (subst (λ (m : ℕ). m ≤ length memory) z enough)) ∙ ap granted (sym z)

        records : (s : State) → Shows F i s → (ws : List ℕ) → Records (all_tickets F.plan P) j.tickets (collected t r ws ∷ s.log)
        records s sh ws =
            let below = ticket_below F law P i.fits.few in
            let mine = own in
            let then_log : Log = collected t r ws ∷ s.log in
            let is_free : free t then_log ≡ true = cond-true _ _ _ (eq-eqb t t refl) in
            subst (λ (xs : List (Option Ticket)). Records (all_tickets F.plan P) xs then_log) (sym f.tickets)
            (change (all_tickets F.plan P) t i.tickets None s.log then_log (omega arith) sh.records (record { opened = ap not (sym is_free); recorded = λ q e. cc })
            (λ u d. like _ u s.log then_log (cond-false _ _ _ (ne_eqb u t d)) refl refl (λ k. refl)))

        exactly : (after : List ℕ) → after ≡ over (values p.received (min p.size 4)) memory → Works F i j (collect r n o memory) (collecting (granted p.size) after)
        exactly after w =
            record {
              does = λ s led sh.
                  let e = verdict s sh in
                  let ws = collection s t in
                  let queued : Queued F.plan.nodes P.tickets (all_waiting j) s.log = subst (λ (xs : List (List ℕ)). Queued F.plan.nodes P.tickets xs s.log) (sym (ap (map items) f.waits)) sh.queued in
                  let shows : Shows F j (then s) = logged F i j s (collected t r ws) f.keeps sh (records s sh ws) queued in
                  record {
                    exact =
                        ap (collecting (granted p.size)) (w ∙ ap (λ ys. over ys memory) (holds p t s.log (recorded s sh)))
                        ∙ ap (λ (v : Verdict ℕ). collecting v (decided v (over ws memory) memory)) (sym e);
                    same = f.keeps.settings;
                    shows = subst (λ (v : Verdict ℕ). Shows F j (decided v (then s) s)) (sym e) shows;
                  };
            }

        pub grants : (z : ℕ) → z ≡ p.size → (after : List ℕ) → after ≡ over (values p.received (min p.size 4)) memory →
            Works F i j (collect r n o memory) (collecting (granted z) after)
        grants z e after w = subst (λ (y : ℕ). Works F i j (collect r n o memory) (collecting (granted y) after)) (sym e) (exactly after w)
