-- The computed cycle, outcome and run are the one solution of the relations.
use Rattle.std.proofs.Common.{◌≡◌, ℕ, zero, suc, ◌<◌, ◌⊎◌, List, [], ◌∷◌, ◌++◌, sym, refl, ap, ◌∙◌, subst, ap₂, inl, inr, append_assoc, append-nil, arith}
use Rattle.std.proofs.lemmas.Bool.{cases_lt}
use Rattle.fabric.specs.declared.parts.Port.{Port}
use Rattle.fabric.specs.declared.parts.Slot.{Slot}
use Rattle.fabric.specs.Layouts.{Exists, Missing, Lawful}
use Rattle.fabric.specs.Verdicts.{Verdict, granting}
use Rattle.fabric.specs.Verdicts.Verdict.{granted, refused}
use Rattle.fabric.proofs.Following.{far_exists}
use Rattle.switch.specs.Switches.{at, turned}
use Rattle.line.specs.Queues.{Queue}
use Rattle.bounds.specs.declared.settings.Settings.{Settings}
use Rattle.network.specs.declared.event.Event.{Event}
use Rattle.network.specs.Log.{Log}
use Rattle.network.specs.Log.Happening.{offered, entered, off, collected}
use Rattle.network.specs.Cycle.{Fabric, State, Work, off_at, entered_at, news, Cycle, happened}
use Rattle.network.specs.Runs.{Call, Outcome, ticket, offer_verdict, cycle_verdict, collection, collect_verdict, with_log, told, count_off, put_all, over, Serves, Leads}
use Rattle.network.specs.Runs.Call.{offer, cycle, collect, look}
use Rattle.network.specs.Runs.Outcome.{offering, cycling, collecting}
use Rattle.network.specs.Runs.Serves.{offer_granted, offer_refused, cycle_granted, cycle_refused, collect_granted, collect_refused, looks}
use Rattle.network.specs.Runs.Leads.{set_up, one_more}
use Rattle.network.specs.Promises.{puts, story, Answered}
use Rattle.network.specs.Computed.{leaving, arriving, done, cycled, decided, next, outcome, after}
use Rattle.network.proofs.Choosing.{computed, work_is, work_one}
use Rattle.network.proofs.Nodes.{arriving_is, arriving_none}

-- what is told of two logs
one_later : (a b c d : List Event) → a ≡ b ++ c → a ++ d ≡ b ++ (c ++ d)
one_later a b c d e = ap (λ (x : List Event). x ++ d) e ∙ append_assoc b c d

pub told_both : (l m : Log) → told (l ++ m) ≡ told m ++ told l
told_both [] m = sym (append-nil (told m))
told_both (offered t p ∷ l) m = told_both l m
told_both (entered f n ∷ l) m = one_later (told (l ++ m)) (told m) (told l) _ (told_both l m)
told_both (off f n d ∷ l) m = one_later (told (l ++ m)) (told m) (told l) _ (told_both l m)
told_both (collected t r ws ∷ l) m = told_both l m

module _ (F : Fabric) (P : Settings) where
  module _ (s : State) where
    pub news_done : (work : ℕ → Work) (m : ℕ) → ((n : ℕ) → n < m → work n ≡ computed F P s n) → news s.cycles work m ≡ done F P s m
    unfolding done
    news_done work zero h = refl
    news_done work (suc m) h =
        ap₂ (λ (w : Work) (l : Log). entered_at m w.entry ++ (off_at s.cycles m w.off ++ l)) (h m (omega arith)) (news_done work m (λ n k. h n (omega arith)))

    module _ (law : Lawful F.plan) where
      pub cycle_is : Cycle F P s (cycled F P s)
      cycle_is = record {
        work = computed F P s;
        works = λ n h. work_is F P s n;
        arrives = λ n p h.
            arriving_is F P s (F.plan.far n p).node (F.plan.far n p).port (far_exists F.plan law n p h)
            ∙ ap (λ (x : Slot). leaving F P s x.node x.port) (law.back n p h);
        nothing_else = arriving_none F P s;
        counted = refl;
        logged = ap (λ (l : Log). l ++ s.log) (sym (news_done (computed F P s) F.plan.nodes (λ n h. refl)));
      }

      happened_is : (r : State) (c : Cycle F P s r) → happened c ≡ done F P s F.plan.nodes
      happened_is r c = news_done c.work F.plan.nodes (λ n h. work_one F P s n (c.work n) (c.works n h))

      pub cycle_one : (r : State) → Cycle F P s r → r ≡ cycled F P s
      cycle_one r c = λ i. record { cycles = c.counted i; slot = λ m q. same m q (cases_lt m F.plan.nodes) i; log = logged i }
        where
          logged : r.log ≡ done F P s F.plan.nodes ++ s.log
          logged = c.logged ∙ ap (λ (l : Log). l ++ s.log) (happened_is r c)

          same : (m : ℕ) (q : Port) → Exists F.plan m ⊎ Missing F.plan m → r.slot m q ≡ arriving F P s m q
          same m q (inl h) =
              let x : Slot = F.plan.far m q in
              let k = far_exists F.plan law m q h in
              sym (ap (λ (y : Slot). r.slot y.node y.port) (law.back m q h))
              ∙ (c.arrives x.node x.port k
              ∙ (ap (λ (w : Work). at (turned (F.turn w.handing) w.handing.places) x.port) (work_one F P s x.node (c.work x.node) (c.works x.node k))
              ∙ sym (arriving_is F P s m q h)))
          same m q (inr h) = c.nothing_else m q h ∙ sym (arriving_none F P s m q h)

  -- a call has one outcome and leads to one state
  module _ (law : Lawful F.plan) (s : State) where
    abbrev did : Log
    did = done F P s F.plan.nodes

    abbrev offer_leads : ℕ → ℕ → ℕ → List ℕ → Verdict (Unit {0}) → State
    offer_leads n o d ws v = decided v (with_log s (offered (ticket P n o) (record { destination = d; words = ws }))) s

    abbrev cycle_answers : Queue Event → Verdict (Unit {0}) → Outcome
    cycle_answers q v = cycling (granting (λ _. count_off did) v) (decided v (put_all q (told did)) q)

    abbrev cycle_leads : Verdict (Unit {0}) → State
    cycle_leads v = decided v (cycled F P s) s

    abbrev collect_answers : ℕ → ℕ → List ℕ → Verdict ℕ → Outcome
    collect_answers n o memory v = collecting v (decided v (over (collection s (ticket P n o)) memory) memory)

    abbrev collect_leads : ℕ → ℕ → ℕ → Verdict ℕ → State
    collect_leads r n o v = decided v (with_log s (collected (ticket P n o) r (collection s (ticket P n o)))) s

    pub served : (k : Call) → Serves F P s k (outcome F P s k) (next F P s k)
    served (offer n o d ws) = go (offer_verdict F P s n o d ws) refl
      where
        go : (v : Verdict (Unit {0})) → offer_verdict F P s n o d ws ≡ v → Serves F P s (offer n o d ws) (offering v) (offer_leads n o d ws v)
        go (granted tt) e = offer_granted e
        go (refused k vs) e = offer_refused e
    served (cycle q) = go (cycle_verdict F P s q) refl
      where
        go : (v : Verdict (Unit {0})) → cycle_verdict F P s q ≡ v → Serves F P s (cycle q) (cycle_answers q v) (cycle_leads v)
        go (granted tt) e =
            subst (λ (l : Log). Serves F P s (cycle q) (cycling (granted (count_off l)) (put_all q (told l))) (cycled F P s))
            (happened_is s law (cycled F P s) (cycle_is s law)) (cycle_granted e (cycle_is s law))
        go (refused k vs) e = cycle_refused e
    served (collect r n o memory) = go (collect_verdict F P s r n o memory) refl
      where
        go : (v : Verdict ℕ) → collect_verdict F P s r n o memory ≡ v → Serves F P s (collect r n o memory) (collect_answers n o memory v) (collect_leads r n o v)
        go (granted k) e = collect_granted e
        go (refused k vs) e = collect_refused e
    served (look n p) = looks

    pub served_one : {k : Call} {o : Outcome} {r : State} → Serves F P s k o r → (o ≡ outcome F P s k) × (r ≡ next F P s k)
    served_one (offer_granted {n} {o} {d} {ws} e) = (ap offering (sym e), ap (offer_leads n o d ws) (sym e))
    served_one (offer_refused {n} {o} {d} {k} {ws} {vs} e) = (ap offering (sym e), ap (offer_leads n o d ws) (sym e))
    served_one (cycle_granted {q} {r} e c) = (
      ap (λ (l : Log). cycling (granted (count_off l)) (put_all q (told l))) (happened_is s law r c) ∙ ap (cycle_answers q) (sym e),
      cycle_one s law r c ∙ ap cycle_leads (sym e),
    )
    served_one (cycle_refused {q} {k} {vs} e) = (ap (cycle_answers q) (sym e), ap cycle_leads (sym e))
    served_one (collect_granted {r} {n} {o} {k} {memory} e) = (ap (collect_answers n o memory) (sym e), ap (collect_leads r n o) (sym e))
    served_one (collect_refused {r} {n} {o} {k} {memory} {vs} e) = (ap (collect_answers n o memory) (sym e), ap (collect_leads r n o) (sym e))
    served_one looks = (refl, refl)

    pub answered : (k : Call) → Answered F P s k
    answered k = record { outcome = outcome F P s k; state = next F P s k; served = served k; only = λ o r v. served_one v }

  module _ (law : Lawful F.plan) where
    -- a run leads to one state
    pub led : (run : List Call) → Leads F P run (after F P run)
    led [] = set_up
    led (k ∷ run) = one_more (led run) (served law (after F P run) k)

    pub led_one : {run : List Call} {s : State} → Leads F P run s → s ≡ after F P run
    led_one set_up = refl
    led_one (one_more {run} {s} {r} {k} {o} l v) =
        (served_one law (after F P run) (subst (λ (x : State). Serves F P x k o r) (led_one l) v)).1

  grows : {s : State} {k : Call} {o : Outcome} {r : State} (v : Serves F P s k o r) → told r.log ≡ told s.log ++ puts v
  grows {s} (offer_granted e) = sym (append-nil (told s.log))
  grows {s} (offer_refused e) = sym (append-nil (told s.log))
  grows {s} (cycle_granted e c) = ap told c.logged ∙ told_both (happened c) s.log
  grows {s} (cycle_refused e) = sym (append-nil (told s.log))
  grows {s} (collect_granted e) = sym (append-nil (told s.log))
  grows {s} (collect_refused e) = sym (append-nil (told s.log))
  grows {s} looks = sym (append-nil (told s.log))

  pub all_told : {run : List Call} {s : State} (l : Leads F P run s) → story l ≡ told s.log
  all_told set_up = refl
  all_told (one_more l v) = ap (λ (x : List Event). x ++ puts v) (all_told l) ∙ sym (grows v)
