-- A text has one listing: it is that of one sheet or has one fault, and each part of a run, and so its listing, is computed from the state before it.
use Rattle.std.proofs.Common.{◌≡◌, ℕ, zero, suc, ◌<◌, cond, eqb, List, [], ◌∷◌, ◌++◌, map, take, sym, refl, ap, ◌∙◌, subst, ap₂, inl, inr, append-nil, add-one, arith}
use mathlib.Core.List.{append_cancel_right}
use Rattle.std.specs.List.{AllByRecursion}
use Rattle.std.proofs.lemmas.Bool.{eq-eqb, ne_eqb, cond-true, cond-false}
use Rattle.fabric.specs.Layouts.{Plan, Lawful}
use Rattle.fabric.specs.Verdicts.Verdict.{granted, refused}
use Rattle.line.specs.Queues.{Queue}
use Rattle.bounds.specs.declared.settings.Settings.{Settings}
use Rattle.bounds.specs.SetUp.{all_tickets}
use Rattle.network.specs.declared.event.Event.{Event}
use Rattle.network.specs.Log.{complete, aim, packet}
use Rattle.network.specs.Log.Happening.{collected}
use Rattle.network.specs.Cycle.{Fabric, State, happened}
use Rattle.network.specs.Runs.{Outcome, Serves, collection, with_log, told, fresh}
use Rattle.network.specs.Runs.Call.{cycle}
use Rattle.network.specs.Runs.Outcome.{offering, cycling, collecting, looking}
use Rattle.network.specs.Runs.Serves.{cycle_granted}
use Rattle.network.specs.Promises.{puts}
use Rattle.network.specs.Computed.{done, cycled, next, outcome}
use Rattle.network.proofs.Solving.{cycle_one, served_one}
use Rattle.text.specs.declared.parts.Packet.{Packet}
use Rattle.text.specs.Texts.{Field, text, written}
use Rattle.text.specs.Faults.{fault_fields}
use Rattle.runsheet.specs.Said.{Said}
use Rattle.runsheet.proofs.Single.{one_sheet}
use Rattle.laying.specs.Reports.{Report}
use Rattle.laying.specs.Reports.Report.{answers, faults}
use Rattle.laying.specs.Layings.{settings_of, Judged}
use Rattle.laying.proofs.Single.{one_judgement, judged_law}
use Rattle.writer.specs.Listings.{no_line, done_line, end_line}
use Rattle.runner.specs.Answering.{network_of, ListsSheet, Listing, OneListing, OneListingOfRun}
use Rattle.runner.specs.Listing.{line_of, ins, outs, under_way, mean_of, offer_of, Offers, Collects, Turn, Turns, Lists}
use Rattle.runner.specs.Listing.Offers.{none as none_offered, accepted, declined}
use Rattle.runner.specs.Listing.Collects.{none as none_collected, brought, left}
use Rattle.runner.specs.Listing.Turns.{begun, one_more}
use Rattle.runner.proofs.Steps.{collect_did, collect_taken}

abbrev Lines : Type 0
Lines = List (List Field)

-- The packets due are those of this cycle at the front.

abbrev due_in : ℕ → List Packet → List Packet
due_in c [] = []
due_in c (p ∷ ps) = cond (eqb p.cycle c) (p ∷ due_in c ps) []

abbrev later_in : ℕ → List Packet → List Packet
later_in c [] = []
later_in c (p ∷ ps) = cond (eqb p.cycle c) (later_in c ps) (p ∷ ps)

module _ (c : ℕ) where
  none_due : (later : List Packet) → AllByRecursion (λ p. c < p.cycle) later → (due_in c later ≡ []) × (later_in c later ≡ later)
  none_due [] h = (refl, refl)
  none_due (p ∷ ps) h =
      let e = ne_eqb p.cycle c (λ k. let l = h.0 in omega arith) in
      (cond-false _ _ _ e, cond-false _ _ _ e)

  parted : (due later : List Packet) → AllByRecursion (λ p. p.cycle ≡ c) due → AllByRecursion (λ p. c < p.cycle) later → (due_in c (due ++ later) ≡ due) × (later_in c (due ++ later) ≡ later)
  parted [] later d l = none_due later l
  parted (p ∷ ps) later d l =
      let e = eq-eqb p.cycle c d.0 in
      let h = parted ps later d.1 l in
      (cond-true _ _ _ e ∙ ap (λ (x : List Packet). p ∷ x) h.0, cond-true _ _ _ e ∙ h.1)

module _ (F : Fabric) (P : Settings) where
  -- Offers: the line of a refusal, the state after each, and all in order.

  abbrev refusal : Packet → Outcome → Lines
  refusal p (offering (granted tt)) = []
  refusal p (offering (refused k vs)) = no_line p.cycle k p.node p.own ∷ []
  refusal p (cycling v q) = []
  refusal p (collecting v m) = []
  refusal p (looking v) = []

  abbrev offered_one : Packet → State × Lines → State × Lines
  offered_one p x = (next F P x.0 (offer_of p), x.1 ++ refusal p (outcome F P x.0 (offer_of p)))

  abbrev offered_all : State × Lines → List Packet → State × Lines
  offered_all x [] = x
  offered_all x (p ∷ ps) = offered_all (offered_one p x) ps

  offered_last : (x : State × Lines) (ps : List Packet) (p : Packet) → offered_all x (ps ++ p ∷ []) ≡ offered_one p (offered_all x ps)
  offered_last x [] p = refl
  offered_last x (q ∷ ps) p = offered_last (offered_one q x) ps p

  -- Collections: a ticket that is complete is collected, any other left.

  abbrev collected_one : ℕ → ℕ → State × Lines → State × Lines
  collected_one c g x =
      let r = x.0 in
      let ws = collection r g in
      cond (complete g r.log) (with_log r (collected g (aim (packet g r.log)) ws), x.1 ++ done_line c g ws ∷ []) x

  abbrev collected_all : ℕ → State → ℕ → State × Lines
  collected_all c s zero = (s, [])
  collected_all c s (suc g) = collected_one c g (collected_all c s g)

  -- Cycles.

  abbrev events_of : State → List Event
  events_of s = told (done F P s F.plan.nodes)

  -- what follows the offers
  abbrev closed : ℕ → State × Lines → State × Lines × List Event
  closed c x =
      let y = collected_all c (cycled F P x.0) (all_tickets F.plan P) in
      (y.0, x.1 ++ (map line_of (events_of x.0) ++ y.1), events_of x.0)

  abbrev turned : ℕ → List Packet → State → State × Lines × List Event
  turned c due s = closed c (offered_all (s, []) due)

  -- the packets not due yet, the state, the lines and the events
  abbrev Stage : Type 0
  Stage = List Packet × State × Lines × List Event

  abbrev turned_on : ℕ → Stage → Stage
  turned_on c x =
      let y = turned c (due_in c x.0) x.1 in
      (later_in c x.0, y.0, x.2 ++ y.1, x.3 ++ y.2)

  abbrev stage : List Packet → ℕ → Stage
  stage ps zero = (ps, fresh, [], [])
  stage ps (suc c) = turned_on c (stage ps c)

  abbrev listing_of : Stage → List ℕ
  listing_of x = text (x.2 ++ end_line (ins x.3) (outs x.3) (mean_of (under_way x.3) (outs x.3)) ∷ [])

  -- Each relation has the computed one as its only solution.

  module _ (law : Lawful F.plan) where
    offers_are : {s r : State} {ps : List Packet} {ls : Lines} → Offers F P s ps r ls → ◌≡◌ {A = State × Lines} (r, ls) (offered_all (s, []) ps)
    offers_are none_offered = refl
    offers_are {s} (accepted {ps} {r} {t} {ls} h p v) =
        let one = served_one F P law r v in
        let step : ◌≡◌ {A = State × Lines} (t, ls) (offered_one p (r, ls)) = λ i. (one.1 i, (sym (append-nil ls) ∙ ap (λ (o : Outcome). ls ++ refusal p o) one.0) i) in
        step ∙ ap (offered_one p) (offers_are h) ∙ sym (offered_last (s, []) ps p)
    offers_are {s} (declined {ps} {r} {t} {ls} h p v) =
        let one = served_one F P law r v in
        let step : ◌≡◌ {A = State × Lines} (t, ls ++ no_line p.cycle _ p.node p.own ∷ []) (offered_one p (r, ls)) = λ i. (one.1 i, ls ++ refusal p (one.0 i)) in
        step ∙ ap (offered_one p) (offers_are h) ∙ sym (offered_last (s, []) ps p)

    -- the words that a collection brings depend neither on the memory nor on how its ticket is told
    collects_are : {c : ℕ} {s : State} {g : ℕ} {r : State} {ls : Lines} → Collects F P c s g r ls → ◌≡◌ {A = State × Lines} (r, ls) (collected_all c s g)
    collects_are none_collected = refl
    collects_are {c} {s} (brought {g} {n} {o} {k} {r} {t} {ls} h whole e v) =
        let log_of = λ (u : ℕ). with_log r (collected u (aim (packet g r.log)) (collection r u)) in
        let line_after = λ (ws : List ℕ). ls ++ done_line c g ws ∷ [] in
        let step : ◌≡◌ {A = State × Lines} (t, line_after (take k _)) (log_of g, line_after (collection r g)) =
        λ i. (((collect_did F P v).1.1 ∙ ap log_of e) i, line_after ((collect_taken F P v ∙ ap (collection r) e) i)) in
        step ∙ sym (cond-true _ _ _ whole) ∙ ap (collected_one c g) (collects_are h) ∙ ap (collected_all c s) (sym (add-one g))
    collects_are {c} {s} (left {g} {r} {ls} h part) =
        sym (cond-false _ _ _ part) ∙ ap (collected_one c g) (collects_are h) ∙ ap (collected_all c s) (sym (add-one g))

    -- nor the events of a cycle on the caller's line
    cycle_does : {s r : State} {q q' : Queue Event} {k : ℕ} (v : Serves F P s (cycle q) (cycling (granted k) q') r) → (r ≡ cycled F P s) × (puts v ≡ events_of s)
    cycle_does {s} {r} (cycle_granted e c) =
        let one = cycle_one F P s law r c in
        (one, ap told (append_cancel_right (happened c) (done F P s F.plan.nodes) s.log (sym c.logged ∙ ap (λ (x : State). x.log) one)))

    turn_is : {c : ℕ} {due : List Packet} {s r : State} {ls : Lines} {es : List Event} → Turn F P c due s r ls es → ◌≡◌ {A = State × Lines × List Event} (r, ls, es) (turned c due s)
    turn_is {c} {due} {s} {r} {ls} {es} t =
        let went = cycle_does t.cycles in
        let news : es ≡ events_of t.ready = t.told ∙ went.1 in
        let ends : ◌≡◌ {A = State × Lines} (r, t.collections) (collected_all c (cycled F P t.ready) (all_tickets F.plan P)) =
        collects_are t.collects ∙ ap (λ (x : State). collected_all c x (all_tickets F.plan P)) went.0 in
        let lines = t.lines ∙ ap₂ (λ (e : List Event) (x : State × Lines). t.refusals ++ (map line_of e ++ x.1)) news ends in
        let closes : ◌≡◌ {A = State × Lines × List Event} (r, ls, es) (closed c (t.ready, t.refusals)) = λ i. ((ends i).0, lines i, news i) in
        closes ∙ ap (closed c) (offers_are t.offers)

    turns_are : {ps later : List Packet} {c : ℕ} {s : State} {ls : Lines} {es : List Event} → Turns F P ps c later s ls es → ◌≡◌ {A = Stage} (later, s, ls, es) (stage ps c)
    turns_are begun = refl
    turns_are {ps} (one_more {c} due {later} {s} {r} {ls} {more} {es} {news} h t l) =
        let part = parted c due later t.each_due l in
        let turn = turn_is t ∙ ap (λ (d : List Packet). turned c d s) (sym part.0) in
        let step : ◌≡◌ {A = Stage} (later, r, ls ++ more, es ++ news) (turned_on c (due ++ later, s, ls, es)) =
        λ i. (sym part.1 i, (turn i).0, ls ++ (turn i).1, es ++ (turn i).2) in
        step ∙ ap (turned_on c) (turns_are h) ∙ ap (stage ps) (sym (add-one c))

    listing_is : {ps : List Packet} {cycles : ℕ} {bs : List ℕ} → Lists F P ps cycles bs → bs ≡ listing_of (stage ps cycles)
    listing_is l = l.bytes ∙ ap listing_of (turns_are l.turns)

-- a run has one listing: whatever lines of events its cycles are called with
pub one_run : OneListingOfRun
one_run F P law ps cycles bs bs' l l' = listing_is F P law l ∙ sym (listing_is F P law l')

-- the sheet is answered so, but for its packets
abbrev Judges : Said → Report Plan → Type 0
Judges s r = Judged s.shape s.cables s.run r

-- and so has a sheet
one_answer : (s : Said) (r : Report Plan) (bs bs' : List ℕ) → Judges s r → ListsSheet s r bs → ListsSheet s r bs' → bs ≡ bs'
one_answer s (answers p) bs bs' j l l' = one_run (network_of p s) (settings_of s.run) (judged_law s.shape s.cables s.run p j) s.packets s.run.cycles bs bs' l l'
one_answer s (faults x) bs bs' j l l' = l ∙ sym l'

one_judged : (s : Said) (r r' : Report Plan) (bs bs' : List ℕ) → Judges s r → Judges s r' → ListsSheet s r bs → ListsSheet s r' bs' → bs ≡ bs'
one_judged s r r' bs bs' j j' l l' =
    one_answer s r bs bs' j l (subst (λ (q : Report Plan). ListsSheet s q bs') (one_judgement s.shape s.cables s.run r' r j' j) l')

same_listing : (text bs bs' : List ℕ) → Listing text bs → Listing text bs' → bs ≡ bs'
same_listing text bs bs' (inl (s, read, (r, j, l))) (inl (t, read', (r', j', l'))) =
    let k = subst (λ (u : Said). Judges u r' × ListsSheet u r' bs') ((one_sheet text).sheet t s read' read) (j', l') in
    one_judged s r r' bs bs' j k.0 l k.1
same_listing text bs bs' (inl (s, read, h)) (inr (f, h', e)) = absurd ((one_sheet text).none s f read h')
same_listing text bs bs' (inr (f, h', e)) (inl (s, read, h)) = absurd ((one_sheet text).none s f read h')
same_listing text bs bs' (inr (f, h, e)) (inr (g, k, i)) = e ∙ ap (λ x. written (fault_fields x)) ((one_sheet text).fault f g h k) ∙ sym i

pub one_listing : (text : List ℕ) → OneListing text
one_listing text = record { listing = same_listing text }
