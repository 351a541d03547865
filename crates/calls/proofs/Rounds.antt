-- The loop over the nodes, and the whole cycle.
use Rattle.std.proofs.Common.{◌≡◌, ℕ, ◌+◌, ◌-◌, ◌*◌, ◌<◌, ◌≤◌, cond, leb, List, [], ◌++◌, length, get_or, map, None, Option, sym, refl, ap, ◌∙◌, subst, subst₂, add-zero, add-mul, one-mul, arith}
use Rattle.std.proofs.lemmas.Bool.{cond-true, cond-false, le-leb, lt-leb, lt-ltb, le-ltb}
use Rattle.fabric.specs.declared.parts.Port.{Port}
use Rattle.fabric.specs.declared.parts.Slot.{Slot}
use Rattle.fabric.specs.declared.parts.Flit.{Flit}
use Rattle.fabric.specs.Layouts.{Lawful}
use Rattle.fabric.specs.Ports.{place_of}
use Rattle.fabric.specs.Verdicts.{Verdict, granting}
use Rattle.fabric.specs.Verdicts.Verdict.{granted, refused}
use Rattle.fabric.specs.Places.{place_below}
use Rattle.fabric.proofs.Following.{far_exists}
use Rattle.line.specs.Queues.{Queue}
use Rattle.batch.specs.Items.{items}
use Rattle.bounds.specs.declared.settings.Settings.{Settings}
use Rattle.bounds.specs.SetUp.{all_tickets}
use Rattle.clock.specs.Draws.{register}
use Rattle.network.specs.declared.event.Event.{Event}
use Rattle.network.specs.Cycle.{Fabric, State, golden_in}
use Rattle.network.specs.Runs.{Outcome, put_all, told, count_off, cycle_verdict}
use Rattle.network.specs.Runs.Call.{cycle}
use Rattle.network.specs.Runs.Outcome.{cycling}
use Rattle.network.specs.Computed.{leaving, arriving, done, cycled, decided}
use Rattle.calls.specs.declared.ticket.Ticket.{Ticket}
use Rattle.calls.specs.declared.tables.Tables.{Tables}
use Rattle.calls.specs.Records.{Advances}
use Rattle.calls.specs.Steps.{far_place}
use Rattle.calls.specs.Follow.{slot_of, Records, Queued, Shows}
use Rattle.calls.specs.Midway.{Reached, Midway, NodeWorks}
use Rattle.calls.proofs.Promising.{Works, nothing_done}
use Rattle.calls.proofs.Putting.{put_length}
use Rattle.calls.proofs.Working.{told_few}

-- the loop over the nodes, from the tables i
pub record Round (F : Fabric) (i j : Tables) (n g : ℕ) (arrived : List (Option Flit)) (q r : Queue Event) (off : ℕ) : Type 0 where
  pub same : j.settings ≡ i.settings
  pub cycles : j.cycles ≡ i.cycles
  pub few : off ≤ n
  pub midway : (s : State) → Reached F i.settings s → g ≡ golden_in F i.settings s.cycles → q.held + 2 * F.plan.nodes ≤ length q.memory → Shows F i s →
      Midway F i.settings s n j arrived q r off

module _ (F : Fabric) (i : Tables) where
  abbrev P : Settings
  P = i.settings

  -- before the first node
  midway_none : (s : State) (arrived : List (Option Flit)) (q : Queue Event) → Shows F i s → Midway F P s 0 i arrived q q 0
  unfolding done
  midway_none s arrived q sh =
      record {
        settings = refl;
        shows = record { cycles = sh.cycles; slots = sh.slots; records = sh.records; queued = sh.queued };
        drawn = sh.drawn ∙ ap (register P.seed) (sym (add-zero (s.cycles * F.plan.nodes)));
        sent = λ m p h. absurd (omega arith);
        line = refl;
        count = refl;
      }

  pub round_none : (g : ℕ) (arrived : List (Option Flit)) (q : Queue Event) → Round F i i 0 g arrived q q 0
  round_none g arrived q = record { same = refl; cycles = refl; few = omega arith; midway = λ s led gold room sh. midway_none s arrived q sh }

  -- one node more
  pub round_more : (j k : Tables) (n g : ℕ) (arrived then : List (Option Flit)) (q r u : Queue Event) (off more : ℕ) → n < F.plan.nodes →
      Round F i j n g arrived q r off → NodeWorks F j k n g arrived then r u more → Round F i k (n + 1) g then q u (off + more)
  round_more j k n g arrived then q r u off more h R w =
      record {
        same = w.same ∙ R.same;
        cycles = w.cycles ∙ R.cycles;
        few = let a = R.few in let b = w.few in omega arith;
        midway = λ s led gold room sh.
            let m = R.midway s led gold room sh in
            let l = put_length q (told (done F P s n)) in
            let a : length r.memory ≡ length q.memory = ap (λ (x : Queue Event). length x.memory) m.line ∙ l.0 in
            let b : r.held ≡ q.held + length (told (done F P s n)) = ap (λ (x : Queue Event). x.held) m.line ∙ l.1 in
            let c = told_few F P s n in
            let e = R.same in
            let m' : Midway F j.settings s n j arrived q r off = subst (λ (Q : Settings). Midway F Q s n j arrived q r off) (sym e) m in
            subst (λ (Q : Settings). Midway F Q s (n + 1) k then q u (off + more)) e
            (w.works s q off (subst (λ (Q : Settings). Reached F Q s) (sym e) led) (subst (λ (Q : Settings). g ≡ golden_in F Q s.cycles) (sym e) gold) (omega arith) m');
      }

  -- what arrived in each slot
  all_arrived : Lawful F.plan → (s : State) (arrived : List (Option Flit)) →
      ((m : ℕ) (p : Port) → m < F.plan.nodes → get_or arrived (far_place F.plan m p) None ≡ leaving F P s m p) →
      (n : ℕ) (q : Port) → n < F.plan.nodes → slot_of arrived n q ≡ arriving F P s n q
  unfolding arriving
  all_arrived law s arrived h n q l =
      ap (λ (x : Slot). get_or arrived (4 * x.node + place_of x.port) None) (sym (law.back n q l))
      ∙ h (F.plan.far n q).node (F.plan.far n q).port (far_exists F.plan law n q l)
      ∙ sym (cond-true _ _ _ (lt-ltb n F.plan.nodes l))

  module _ (law : Lawful F.plan) (q : Queue Event) where
    -- what a cycle answers by its verdict
    abbrev answer : State → Verdict (Unit {0}) → Outcome
    answer s v = cycling (granting (λ _. count_off (done F P s F.plan.nodes)) v) (decided v (put_all q (told (done F P s F.plan.nodes))) q)

    refuses : (k : ℕ) → ((s : State) → Shows F i s → cycle_verdict F P s q ≡ refused k []) → Works F i i (cycle q) (cycling (refused k []) q)
    refuses k h =
        nothing_done (λ s sh. let e = h s sh in (ap (answer s) (sym e), ap (λ (v : Verdict (Unit {0})). decided v (cycled F P s) s) e))

    pub no_cycle : 1073741823 ≤ i.cycles → Works F i i (cycle q) (cycling (refused 10 []) q)
    no_cycle h = refuses 10 (λ s sh. cond-true _ _ _ (le-leb 1073741823 s.cycles (subst (λ (c : ℕ). 1073741823 ≤ c) sh.cycles h)))

    module _ (few : i.cycles < 1073741823) where
      first : {A : Type 0} (s : State) → Shows F i s → (x y : A) → cond (leb 1073741823 s.cycles) x y ≡ y
      first s sh x y = cond-false _ _ _ (lt-leb 1073741823 s.cycles (subst (λ (c : ℕ). c < 1073741823) sh.cycles few))

      pub no_room : length q.memory - q.held < 2 * F.plan.nodes → Works F i i (cycle q) (cycling (refused 11 []) q)
      no_room h = refuses 11 (λ s sh. first s sh _ _ ∙ cond-true _ _ _ (lt-ltb (length q.memory - q.held) (2 * F.plan.nodes) h))

      pub cycles_on : 2 * F.plan.nodes ≤ length q.memory - q.held → q.held ≤ length q.memory → (j k : Tables) (g : ℕ) (arrived : List (Option Flit)) (r : Queue Event) (off n : ℕ) →
          g ≡ golden_in F P i.cycles → n ≡ F.plan.nodes → Round F i j n g arrived q r off →
          Advances j k (4 * F.plan.nodes) arrived →
          Works F i k (cycle q) (cycling (granted off) r)
      cycles_on room fits j k g arrived r off n gold all R a =
          record {
            does = λ s led sh.
                let N = F.plan.nodes in
                let v : cycle_verdict F P s q ≡ granted tt =
                first s sh _ _ ∙ cond-false _ _ _ (le-ltb (length q.memory - q.held) (2 * N) room) in
                let gold_s : g ≡ golden_in F P s.cycles = gold ∙ ap (golden_in F P) sh.cycles in
                let m : Midway F P s N j arrived q r off = subst (λ (x : ℕ). Midway F P s x j arrived q r off) all (R.midway s led gold_s (omega arith) sh) in
                let b = m.shows in
                let e : k.settings ≡ P = a.settings ∙ R.same in
                let turns : s.cycles * N + N ≡ (s.cycles + 1) * N = sym (add-mul s.cycles 1 N ∙ ap (λ x. s.cycles * N + x) (one-mul N)) in
                let shows : Shows F k (cycled F P s) = record {
                  cycles = a.cycles ∙ ap (λ x. x + 1) b.cycles;
                  drawn = a.register ∙ m.drawn ∙ ap (register P.seed) turns ∙ ap (λ (Q : Settings). register Q.seed ((s.cycles + 1) * N)) (sym e);
                  slots = λ x p h.
                      let b = place_below p in
                      a.slots (4 * x + place_of p) (omega arith) ∙ all_arrived law s arrived (λ y t l. m.sent y t l) x p h;
                  records = subst₂ (λ (Q : Settings) (ts : List (Option Ticket)). Records (all_tickets F.plan Q) ts (done F P s N ++ s.log)) (sym a.settings) (sym a.tickets) b.records;
                  queued = subst₂ (λ (Q : Settings) (ws : List (List ℕ)). Queued N Q.tickets ws (done F P s N ++ s.log)) (sym a.settings) (sym (ap (map items) a.waits)) b.queued;
                } in
                record {
                  exact =
                      ap (λ x. cycling (granted x) r) m.count
                      ∙ ap (λ (x : Queue Event). cycling (granted (count_off (done F P s N))) x) m.line
                      ∙ ap (answer s) (sym v);
                  same = e;
                  shows = subst (λ (w : Verdict (Unit {0})). Shows F k (decided w (cycled F P s) s)) (sym v) shows;
                };
          }
