-- The calls of a session, by what the network's own calls bring.
use Rattle.std.proofs.Common.{◌≡◌, ℕ, ◌+◌, ◌*◌, ◌/◌, ◌%◌, ◌^◌, ◌<◌, ◌≤◌, Bool, true, false, cond, eqb, List, [], ◌∷◌, ◌++◌, map, length, get_or, take, set, IfSome, Some, None, Ok, Result, sym, refl, ap, ◌∙◌, subst, ap₂, subst₂, append-nil, div-le_self, arith}
use Rattle.std.specs.List.{AllByRecursion}
use Rattle.std.proofs.lemmas.List.{length-take-le}
use Rattle.fabric.specs.declared.refusal.Refusal.{Refusal}
use Rattle.fabric.specs.Refusals.{shown}
use Rattle.fabric.specs.Layouts.{Lawful}
use Rattle.fabric.specs.Verdicts.Verdict.{granted, refused}
use Rattle.line.specs.Queues.{Queue, Sound, empty, contents, free_places}
use Rattle.bounds.specs.SetUp.{all_tickets}
use Rattle.bounds.specs.declared.settings.Settings.{Settings}
use Rattle.network.specs.declared.event.Event.{Event}
use Rattle.network.specs.Cycle.{Fabric, State}
use Rattle.network.specs.Runs.{Serves}
use Rattle.network.specs.Runs.Call.{cycle, collect}
use Rattle.network.specs.Promises.{puts}
use Rattle.network.specs.Runs.Outcome.{offering, cycling, collecting}
use Rattle.calls.specs.declared.tables.Tables.{Tables}
use Rattle.calls.specs.Follow.{Promised}
use Rattle.text.specs.declared.parts.Packet.{Packet}
use Rattle.text.specs.Texts.{Field, Fits, number, written, text}
use Rattle.text.specs.Lines.{payload}
use Rattle.writer.specs.declared.writer.Writer.{Writer}
use Rattle.writer.specs.Listings.{beyond, LineOut, no_line, done_line, end_line}
use Rattle.writer.proofs.Outcomes.{with_room}
use Rattle.writer.proofs.Lengths.{length_no, length_done, length_end}
use Rattle.runner.specs.declared.tally.Tally.{Tally}
use Rattle.runner.specs.declared.session.Session.{Session}
use Rattle.runner.specs.Listing.{line_of, ins, outs, under_way, mean_of, offer_of, Offers, Collects}
use Rattle.runner.specs.Listing.Offers.{accepted, declined}
use Rattle.runner.specs.Listing.Collects.{brought, left}
use Rattle.runner.specs.Tallies.{Tellable, Told}
use Rattle.runner.specs.Answering.{Holds}
use Rattle.runner.specs.Progress.{At, Stands, Sendable}
use Rattle.runner.proofs.Pages.{line_more}
use Rattle.runner.proofs.Events.{sums_append}
use Rattle.runner.proofs.Steps.{own_below, offered_at, declined_at, lines_few, room_left, tally_few, most_tickets, CarriedOut, carried_out_at, not_refused, Numbered, numbered, busy, not_busy, Brought, brought_at, left_at}
use Rattle.runner.proofs.Telling.{ok_shown}

all_fit : (ws : List ℕ) → AllByRecursion Fits (map number ws) → AllByRecursion (λ v. v < 2 ^ 32) ws
all_fit [] h = tt
all_fit (w ∷ ws) h = (h.0, all_fit ws h.1)

module _ (F : Fabric) (P : Settings) (law : Lawful F.plan) {M : List ℕ} {A B : Type 0} {x : Session A B} {w : Writer} {s : State} {ls : List (List Field)} {es : List Event} {o : ℕ} (st : Stands F P M x w s ls es o) where
  pub place_below : (p : Packet) {j : Tables} → Promised F x.network.inner j (offer_of p) (offering (granted tt)) → p.node * x.tickets + p.own < 512
  place_below p q =
      subst (λ (t : ℕ). p.node * t + p.own < 512) (sym st.tickets) (own_below F P law st.at p.node p.own p.destination (payload p) q)

  -- an accepted packet
  pub record Took (p : Packet) (j : Tables) : Type 0 where
    pub state : State
    pub offers : (s₀ : State) (ps : List Packet) (rs : List (List Field)) → Offers F P s₀ ps s rs → Offers F P s₀ (ps ++ p ∷ []) state (rs ++ [])
    pub counted : state.cycles ≡ s.cycles
    pub at : At F P M j (set x.aims (p.node * x.tickets + p.own) (Some p.destination)) x.tally w state (ls ++ []) es (o + 1)

  pub took : (p : Packet) {j : Tables} → Sendable p → Promised F x.network.inner j (offer_of p) (offering (granted tt)) → o < 256 → Took p j
  took p {j} ok q h =
      let z = offered_at F P law st.at p.node p.own p.destination (payload p) q h
      (let m = ok.sized.most in let n = ok.sized.places in let e = length-take-le p.count p.words (omega arith) in omega arith) (all_fit (payload p) ok.numbers.1.1.1.1.1) in
      record {
        state = z.state;
        offers = λ s₀ ps rs k. subst (λ (l : List (List Field)). Offers F P s₀ (ps ++ p ∷ []) z.state l) (sym (append-nil rs)) (accepted k p z.serves);
        counted = z.counted;
        at =
            subst (λ (l : List (List Field)). At F P M j (set x.aims (p.node * x.tickets + p.own) (Some p.destination)) x.tally w z.state l es (o + 1)) (sym (append-nil ls))
            (subst (λ (t : ℕ). At F P M j (set x.aims (p.node * t + p.own) (Some p.destination)) x.tally w z.state ls es (o + 1)) (sym st.tickets) z.at);
      }

  -- a refused one
  pub record Declined (p : Packet) (j : Tables) (k : ℕ) (v : Writer) : Type 0 where
    pub state : State
    pub offers : (s₀ : State) (ps : List Packet) (rs : List (List Field)) → Offers F P s₀ ps s rs →
        Offers F P s₀ (ps ++ p ∷ []) state (rs ++ no_line p.cycle k p.node p.own ∷ [])
    pub counted : state.cycles ≡ s.cycles
    pub at : At F P M j x.aims x.tally v state (ls ++ no_line p.cycle k p.node p.own ∷ []) es (o + 1)

  pub refuses : (p : Packet) {j : Tables} {v : Writer} (k : ℕ) (vs : List ℕ) (r : Result (Unit {0}) Refusal) → Sendable p → k < 1000 →
      Promised F x.network.inner j (offer_of p) (offering (refused k vs)) → LineOut w (no_line p.cycle k p.node p.own) v (shown r) → (r ≡ Ok tt) × (o < 256 → Declined p j k v)
  refuses p {j} {v} k vs r ok few q out =
      let line = no_line p.cycle k p.node p.own in
      let short : length (written line) ≤ 60 = length_no p.cycle k p.node p.own ok.numbers.0 few ok.numbers.1.0 ok.numbers.1.1.0 in
      let left = room_left F P law st.at in
      let y = with_room (let z : length (written line) ≤ length (beyond w) = omega arith in z) out in (
        ok_shown r y.0,
        λ h.
            let z = declined_at F P law st.at p.node p.own p.destination k (payload p) vs line q h short y.1 in
            record {
              state = z.state;
              offers = λ s₀ ps rs m. declined m p z.serves;
              counted = z.counted;
              at = z.at;
            },
      )

  -- a cycle with an empty line of 128 places
  module _ (ms : List Event) (long : length ms ≡ 128) {j : Tables} {q q' : Queue Event} (e : q ≡ empty ms) (early : s.cycles < 65536) where
    pub not_declined : {k : ℕ} {vs : List ℕ} → Promised F x.network.inner j (cycle q) (cycling (refused k vs) q') → ⊥
    not_declined p = not_refused F P law st.at early (subst (λ (z : Queue Event). 128 ≤ free_places z) (sym e) (omega arith)) p

    pub carried_out : {k : ℕ} → Promised F x.network.inner j (cycle q) (cycling (granted k) q') → CarriedOut F P law st.at j q q' k
    carried_out p =
        carried_out_at F P law st.at early (subst (λ (z : Queue Event). Sound z) (sym e) (omega arith, λ h. h)) (ap contents e) p

    module _ {k : ℕ} (y : CarriedOut F P law st.at j q q' k) where
      pub tellable : Tellable x.tally w (contents q')
      tellable =
          subst (λ (es' : List Event). Tellable x.tally w es') (sym y.held)
          (record {
            small = y.small;
            room = y.fits;
            few_in = let a = y.ins_few in let b = st.at.tallied.entered in omega arith;
            few_out = let a = y.outs_few in let b = st.at.tallied.off in omega arith;
            waited = st.at.tallied.short;
          })

      pub told_of : {t' : Tally} {v : Writer} → Told x.tally w (contents q') t' v → At F P M j x.aims t' v y.state (ls ++ map line_of (puts y.serves)) (es ++ puts y.serves) o
      told_of {t'} {v} h =
          let m = subst (λ (es' : List Event). Told x.tally w es' t' v) y.held h in
          let fresh = puts y.serves in
          let t = st.at.tallied in
          y.then
          (record {
            entered = let a = m.counts.entered in let b = t.entered in let c = (sums_append es fresh).ins in omega arith;
            off = let a = m.counts.off in let b = t.off in let c = (sums_append es fresh).outs in omega arith;
            waited = let a = m.counts.waited in let b = t.waited in let c = (sums_append es fresh).under_way in omega arith;
            short = m.waited;
          })
          m.appends

  -- a ticket that is tried
  module _ (g : ℕ) (exists : g < x.nodes * x.tickets) where
    pub among : g < all_tickets F.plan P
    among = let a = st.nodes in let b = st.tickets in subst₂ (λ (m n : ℕ). g < m * n) a b exists

    pub in_table : g < 512
    in_table = let h = among in let m = most_tickets F P law st.at in omega arith

    split_ticket : Numbered F P law st.at g (g / x.tickets) (g % x.tickets)
    split_ticket = subst (λ (t : ℕ). Numbered F P law st.at g (g / t) (g % t)) (sym st.tickets) (numbered F P law st.at g among)

    pub uncollected : (c : ℕ) → get_or x.aims g None ≡ None → (s₀ : State) (rs : List (List Field)) → Collects F P c s₀ g s rs → Collects F P c s₀ (g + 1) s (rs ++ [])
    uncollected c e s₀ rs k =
        subst (λ (l : List (List Field)). Collects F P c s₀ (g + 1) s l) (sym (append-nil rs)) (left k (not_busy F P law st.at g among e))

    pub not_yet : (c d k : ℕ) {j : Tables} (memory m' vs : List ℕ) → get_or x.aims g None ≡ Some d → length memory ≡ 4 →
        Promised F x.network.inner j (collect d (g / x.tickets) (g % x.tickets) memory) (collecting (refused k vs) m') →
        ((s₀ : State) (rs : List (List Field)) → Collects F P c s₀ g s rs → Collects F P c s₀ (g + 1) s (rs ++ [])) × At F P M j x.aims x.tally w s (ls ++ []) es o
    not_yet c d k {j} memory m' vs e four p =
        let z = left_at F P law st.at g d (g / x.tickets) (g % x.tickets) k memory m' vs split_ticket (busy F P law st.at g d among e) four p in (
          λ s₀ rs m. subst (λ (l : List (List Field)). Collects F P c s₀ (g + 1) s l) (sym (append-nil rs)) (left m z.0),
          subst (λ (l : List (List Field)). At F P M j x.aims x.tally w s l es o) (sym (append-nil ls)) z.1,
        )

    pub brings : (d k : ℕ) {j : Tables} (memory m' : List ℕ) → Promised F x.network.inner j (collect d (g / x.tickets) (g % x.tickets) memory) (collecting (granted k) m') →
        Brought F P law st.at j g d (g / x.tickets) (g % x.tickets) k memory m'
    brings d k memory m' p = brought_at F P law st.at g d (g / x.tickets) (g % x.tickets) k memory m' split_ticket p

    -- the words lie in the memory
    pub in_memory : (d k : ℕ) {j : Tables} (memory m' : List ℕ) → Promised F x.network.inner j (collect d (g / x.tickets) (g % x.tickets) memory) (collecting (granted k) m') → k ≤ length m'
    in_memory d k memory m' p = (brings d k memory m' p).in_memory

    -- a collected packet, and its line
    module _ (c d k : ℕ) {j : Tables} (memory m' : List ℕ) (e : get_or x.aims g None ≡ Some d) (early : c < 65536)
        (y : Brought F P law st.at j g d (g / x.tickets) (g % x.tickets) k memory m') where
      pub line_fits : length (written (done_line c g (take k m'))) ≤ 60
      line_fits = length_done c g (take k m') early (let h = in_table in omega arith) y.short y.narrow

      pub written_of : {v : Writer} (r : Result (Unit {0}) Refusal) → LineOut w (done_line c g (take k m')) v (shown r) →
          (r ≡ Ok tt) × At F P M j (set x.aims g None) x.tally v y.state (ls ++ done_line c g (take k m') ∷ []) es o
      written_of r out =
          let left = room_left F P law st.at in
          let short = line_fits in
          let z = with_room (let n : length (written (done_line c g (take k m'))) ≤ length (beyond w) = omega arith in n) out in
          (ok_shown r z.0, y.then (done_line c g (take k m')) short z.1)

      pub one_more : (s₀ : State) (rs : List (List Field)) → Collects F P c s₀ g s rs → Collects F P c s₀ (g + 1) y.state (rs ++ done_line c g (take k m') ∷ [])
      one_more s₀ rs m =
          brought m y.whole split_ticket.ticket
          (subst (λ (n : ℕ). Serves F P s (collect n (g / x.tickets) (g % x.tickets) memory) (collecting (granted k) m') y.state) (sym (busy F P law st.at g d among e).goes) y.serves)

  -- the mean has 32 bits
  pub mean_small : (x n : ℕ) → x ≤ 100000000 → IfSome (mean_of x n) (λ t. t < 2 ^ 32)
  mean_small x n h = go (eqb n 0) refl
    where
      go : (b : Bool) → eqb n 0 ≡ b → IfSome (cond b None (Some (10 * x / n))) (λ t. t < 2 ^ 32)
      go true e = tt
      go false e = let d = div-le_self (10 * x) n in omega arith

  -- the last line
  pub ends : {v : Writer} (r : Result (Unit {0}) Refusal) → LineOut w (end_line x.tally.entered x.tally.off (mean_of x.tally.waited x.tally.off)) v (shown r) →
      (r ≡ Ok tt) × Holds M v (text (ls ++ end_line (ins es) (outs es) (mean_of (under_way es) (outs es)) ∷ [])) 65536
  ends {v} r out =
      let t = x.tally in
      let k = st.at.tallied in
      let few = tally_few F P law st.at in
      let line = end_line t.entered t.off (mean_of t.waited t.off) in
      let short : length (written line) ≤ 64 =
      length_end t.entered t.off (mean_of t.waited t.off) (let h = few.entered in omega arith) (let h = few.off in omega arith) (mean_small t.waited t.off few.waited) in
      let left = room_left F P law st.at in
      let z = with_room (let n : length (written line) ≤ length (beyond w) = omega arith in n) out in (
        ok_shown r z.0,
        subst (λ (l : List Field). Holds M v (text (ls ++ l ∷ [])) 65536)
            (ap₂ (λ (a b : ℕ). end_line a b (mean_of t.waited b)) k.entered k.off ∙ ap (λ (c : ℕ). end_line (ins es) (outs es) (mean_of c (outs es))) k.waited)
            (line_more ls line st.at.spent.holds (omega (arith, lines_few F P law st.at, short)) z.1),
      )
