-- One node's work in a cycle.
use Rattle.std.proofs.Common.{◌≡◌, ℕ, suc, ◌+◌, ◌*◌, ◌<◌, ◌≤◌, Bool, ◌⊎◌, List, [], ◌∷◌, ◌++◌, length, get_or, map, Some, None, Option, sym, refl, ap, ◌∙◌, subst, subst₂, inl, inr, add-zero, add-one, arith}
use mathlib.Core.Path.{fun_ext}
use Rattle.std.proofs.lemmas.Bool.{cases_eq}
use Rattle.fabric.specs.declared.parts.Port.{Port}
use Rattle.fabric.specs.declared.parts.Flit.{Flit}
use Rattle.fabric.specs.Layouts.{Lawful}
use Rattle.switch.specs.Switches.{Handing, at, turned}
use Rattle.line.specs.Queues.{Queue}
use Rattle.batch.specs.Items.{items}
use Rattle.bounds.specs.declared.settings.Settings.{Settings}
use Rattle.bounds.specs.SetUp.{all_tickets}
use Rattle.clock.specs.Draws.{register, shifted, draw_bits}
use Rattle.network.specs.declared.event.Event.{Event}
use Rattle.network.specs.Log.{Log, free}
use Rattle.network.specs.Log.Happening.{offered, entered, off, collected}
use Rattle.network.specs.Cycle.{Fabric, State, golden_in, wish_of, off_at, entered_at, in_slot_order}
use Rattle.network.specs.Runs.{put_all, told, count_off}
use Rattle.network.specs.Computed.{taken, left, entering, ready, handing, leaving, done}
use Rattle.network.proofs.Invariant.{Inv}
use Rattle.network.proofs.Cycling.{off_packet, off_waiting, off_sent, keeps_packet, keeps_waiting, keeps_sent, grown, half_log, grown_none, grown_more}
use Rattle.network.proofs.Places.{at_ordered}
use Rattle.network.proofs.Solving.{news_done, told_both}
use Rattle.network.proofs.Seen.{few_told}
use Rattle.network.proofs.Choosing.{computed}
use Rattle.calls.specs.declared.ticket.Ticket.{Ticket}
use Rattle.calls.specs.declared.tables.Tables.{Tables}
use Rattle.calls.specs.Records.{Draws}
use Rattle.calls.specs.Steps.{far_place}
use Rattle.calls.specs.Follow.{slot_of, Records, Queued}
use Rattle.calls.specs.Midway.{Reached, Between, Took, TakesOff, Own, Let, Enters, Sent, NodeWorks}
use Rattle.calls.proofs.Putting.{put_length, put_more}
use Rattle.calls.proofs.Stepping.{far_same}
use Rattle.calls.proofs.Showing.{invariant}

-- the count of happenings
count_append : (xs ys : Log) → count_off (xs ++ ys) ≡ count_off ys + count_off xs
count_append [] ys = sym (add-zero (count_off ys))
count_append (offered t p ∷ xs) ys = count_append xs ys
count_append (entered f n ∷ xs) ys = count_append xs ys
count_append (off f n d ∷ xs) ys = let e = count_append xs ys in let z : count_off (xs ++ ys) + 1 ≡ count_off ys + (count_off xs + 1) = omega arith in z
count_append (collected t r ws ∷ xs) ys = count_append xs ys

-- the tables after a draw
between_same : (F : Fabric) (s : State) (l : Log) (i j : Tables) {ds : List Bool} → Draws i j ds → Between F s l i → Between F s l j
between_same F s l i j d b =
    record {
      cycles = d.cycles ∙ b.cycles;
      slots = λ n p h. ap (λ xs. slot_of xs n p) d.slots ∙ b.slots n p h;
      records = subst₂ (λ (P : Settings) (ts : List (Option Ticket)). Records (all_tickets F.plan P) ts l) (sym d.settings) (sym d.tickets) b.records;
      queued = subst₂ (λ (P : Settings) (ws : List (List ℕ)). Queued F.plan.nodes P.tickets ws l) (sym d.settings) (sym (ap (map items) d.waits)) b.queued;
    }

module _ (F : Fabric) (P : Settings) (s : State) where
  off_few : (n : ℕ) (o : Option (Port × Flit)) → length (told (off_at s.cycles n o)) ≤ 1
  off_few n None = omega arith
  off_few n (Some b) = omega arith

  count_entered : (n : ℕ) (o : Option (Port × Flit)) → count_off (entered_at n o) ≡ 0
  count_entered n None = refl
  count_entered n (Some b) = refl

  -- what the first nodes did, and then one more
  done_more : (n : ℕ) → done F P s (n + 1) ≡ entered_at n (entering F P s n) ++ (off_at s.cycles n (taken F P s n) ++ done F P s n)
  unfolding done
  done_more n = ap (done F P s) (add-one n)

  told_more : (n : ℕ) → told (done F P s (n + 1)) ≡
      (told (done F P s n) ++ told (off_at s.cycles n (taken F P s n))) ++ told (entered_at n (entering F P s n))
  told_more n =
      ap told (done_more n)
      ∙ told_both (entered_at n (entering F P s n)) _
      ∙ ap (λ (e : List Event). e ++ told (entered_at n (entering F P s n))) (told_both (off_at s.cycles n (taken F P s n)) (done F P s n))

  pub told_few : (n : ℕ) → length (told (done F P s n)) ≤ 2 * n
  told_few n = subst (λ (l : Log). length (told l) ≤ 2 * n) (news_done F P s (computed F P s) n (λ m h. refl)) (few_told s.cycles (computed F P s) n)

  count_more : (n : ℕ) → count_off (done F P s (n + 1)) ≡ count_off (done F P s n) + count_off (off_at s.cycles n (taken F P s n))
  count_more n =
      let a = ap count_off (done_more n) in
      let b = count_append (entered_at n (entering F P s n)) (off_at s.cycles n (taken F P s n) ++ done F P s n) in
      let c = count_append (off_at s.cycles n (taken F P s n)) (done F P s n) in
      let d = count_entered n (entering F P s n) in
      omega arith

  -- no ticket is taken or freed within a cycle
  off_free : (t n : ℕ) (o : Option (Port × Flit)) (l : Log) → free t (off_at s.cycles n o ++ l) ≡ free t l
  off_free t n None l = refl
  off_free t n (Some b) l = refl

  entered_free : (t n : ℕ) (o : Option (Port × Flit)) (l : Log) → free t (entered_at n o ++ l) ≡ free t l
  entered_free t n None l = refl
  entered_free t n (Some b) l = refl

  keeps_free : (n t : ℕ) → free t (grown F P s n) ≡ free t s.log
  keeps_free ℕ.zero t = ap (free t) (grown_none F P s)
  keeps_free (ℕ.suc n) t =
      ap (free t) (grown_more F P s n) ∙ entered_free t n (entering F P s n) (half_log F P s n) ∙ off_free t n (taken F P s n) (grown F P s n) ∙ keeps_free n t

  own_log : Inv F P s 0 → (n : ℕ) → Own P s n (half_log F P s n)
  own_log inv n =
      record {
        taken = λ t. off_free t n (taken F P s n) (grown F P s n) ∙ keeps_free n t;
        waits = off_waiting F P s n n (taken F P s n) (grown F P s n) ∙ keeps_waiting F P s n n (omega arith);
        packets = λ t. off_packet F P s t n (taken F P s n) (grown F P s n) ∙ keeps_packet F P s n t;
        flits = λ t e. off_sent F P s t n (taken F P s n) (grown F P s n) ∙ keeps_sent F P s inv n t (omega arith);
      }

  -- what the code hands to the switch
  handed : (n g : ℕ) (r : ℕ) (places : List (Option Flit)) (wishes : List (Option Port)) (ds : List Bool) → g ≡ golden_in F P s.cycles →
      places ≡ in_slot_order (ready F P s n) →
      wishes ≡ in_slot_order (λ p. wish_of F.plan n (at places p)) →
      r ≡ register P.seed (s.cycles * F.plan.nodes + n + 1) → ds ≡ draw_bits r →
      ◌≡◌ {A = Handing} (record { places = places; wishes = wishes; golden = g; draws = ds }) (handing F P s n)
  unfolding handing
  handed n g r places wishes ds eg ep ew er ed =
      let w : wishes ≡ in_slot_order (λ p. wish_of F.plan n (ready F P s n p)) =
      ew
      ∙ ap (λ (xs : List (Option Flit)). in_slot_order (λ p. wish_of F.plan n (at xs p))) ep
      ∙ ap (λ (x : Port → Option Port). in_slot_order x) (fun_ext (λ p. ap (wish_of F.plan n) (at_ordered (ready F P s n) p))) in
      let d = ed ∙ ap draw_bits er in
      λ k. record { places = ep k; wishes = w k; golden = eg k; draws = d k }

module _ (F : Fabric) (law : Lawful F.plan) (i i₁ i₂ i₃ : Tables) (n g : ℕ) (hn : n < F.plan.nodes) (before after : List (Option Flit)) (u u₁ u₂ : Queue Event) (off : ℕ)
    (left_places places : List (Option Flit)) (ds : List Bool)
    (takes : TakesOff i i₁ n g u u₁ left_places off) (enters : Enters i₁ i₂ n u₁ u₂ left_places places)
    (drew : Draws i₂ i₃ ds) (sent : Sent F n places g ds before after) where
  abbrev P : Settings
  P = i.settings

  same_1 : i₁.settings ≡ P
  same_1 = takes.keeps.settings

  same_2 : i₂.settings ≡ P
  same_2 = enters.keeps.settings ∙ same_1

  pub node_works : NodeWorks F i i₃ n g before after u u₂ off
  node_works =
      record {
        same = drew.settings ∙ same_2;
        cycles = drew.cycles ∙ enters.keeps.cycles ∙ takes.keeps.cycles;
        few = takes.few;
        works = λ s q count led gold room m.
            let took : Took F P s n (grown F P s n) i₁ u u₁ left_places off = takes.took F s (grown F P s n) law led hn gold m.shows (omega arith) in
            let more = put_length u (told (off_at s.cycles n (taken F P s n))) in
            let l1 : length u₁.memory ≡ length u.memory = ap (λ (x : Queue Event). length x.memory) took.line ∙ more.0 in
            let h1 : u₁.held ≡ u.held + length (told (off_at s.cycles n (taken F P s n))) = ap (λ (x : Queue Event). x.held) took.line ∙ more.1 in
            let one = off_few F P s n (taken F P s n) in
            let room_1 : u₁.held < length u₁.memory = omega arith in
            let let_in : Let F P s n (half_log F P s n) i₂ u₁ u₂ places =
            subst (λ (Q : Settings). Let F Q s n (half_log F P s n) i₂ u₁ u₂ places) same_1
            (enters.lets F s (half_log F P s n) law (subst (λ (Q : Settings). Reached F Q s) (sym same_1) led) hn
            (subst (λ (Q : Settings). Own Q s n (half_log F P s n)) (sym same_1) (own_log F P s (invariant F P law s led) n)) took.shows
            (subst (λ (Q : Settings). left_places ≡ in_slot_order (left F Q s n)) (sym same_1) took.gives) room_1) in
            let drawn : i₃.register ≡ register P.seed (suc (s.cycles * F.plan.nodes + n)) =
            drew.register ∙ ap shifted (enters.keeps.register ∙ takes.keeps.register ∙ m.drawn) in
            let e1 : suc (s.cycles * F.plan.nodes + n) ≡ s.cycles * F.plan.nodes + n + 1 = omega arith in
            let e2 : suc (s.cycles * F.plan.nodes + n) ≡ s.cycles * F.plan.nodes + (n + 1) = omega arith in
            let handed_is = handed F P s n g i₃.register places _ ds gold let_in.gives refl (drawn ∙ ap (register P.seed) e1) drew.bits in
            let leaves = ap (λ (h : Handing). turned (F.turn h) h.places) handed_is in
            let log_is : entered_at n (entering F P s n) ++ half_log F P s n ≡ grown F P s (n + 1) = sym (ap (grown F P s) (add-one n) ∙ grown_more F P s n) in
            let sent_now : (k : ℕ) (p : Port) → k < n + 1 → (k ≡ n) ⊎ (k ≡ n → ⊥) →
            get_or after (far_place F.plan k p) None ≡ leaving F P s k p =
            λ k p h. elim [
              | inl e ↦
                  subst (λ (x : ℕ). get_or after (far_place F.plan x p) None ≡ leaving F P s x p) (sym e)
                  (sent.sent p ∙ ap (λ xs. at xs p) leaves)
              | inr d ↦
                  let lt : k < n = omega arith in
                  sent.rest (far_place F.plan k p) (λ r z. d (far_same F.plan law k n p r (let y : k < F.plan.nodes = omega arith in y) hn z).0) ∙ m.sent k p lt
            ] in
            record {
              settings = drew.settings ∙ same_2;
              shows = between_same F s (done F P s (n + 1) ++ s.log) i₂ i₃ drew (subst (λ (l : Log). Between F s l i₂) log_is let_in.shows);
              drawn = drawn ∙ ap (register P.seed) e2;
              sent = λ k p h. sent_now k p h (cases_eq k n);
              line =
                  let_in.line
                  ∙ ap (λ (x : Queue Event). put_all x (told (entered_at n (entering F P s n))))
                  (took.line ∙ ap (λ (x : Queue Event). put_all x (told (off_at s.cycles n (taken F P s n)))) m.line ∙ put_more q (told (done F P s n)) (told (off_at s.cycles n (taken F P s n))))
                  ∙ put_more q (told (done F P s n) ++ told (off_at s.cycles n (taken F P s n))) (told (entered_at n (entering F P s n))) ∙ ap (put_all q) (sym (told_more F P s n));
              count = let a = m.count in let b = took.count in let c = count_more F P s n in omega arith;
            };
      }
