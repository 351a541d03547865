-- What a call does from any state, it promises of every run.
use Rattle.std.proofs.Common.{◌≡◌, List, [], ◌∷◌, sym, refl, ◌∙◌, subst, ap₂}
use Rattle.fabric.specs.Layouts.{Lawful}
use Rattle.fabric.specs.Verdicts.Verdict.{granted}
use Rattle.switch.specs.Switches.{LawfulSwitch}
use Rattle.bounds.specs.declared.settings.Settings.{Settings}
use Rattle.bounds.specs.SetUp.{set_up_verdict}
use Rattle.network.specs.Cycle.{Fabric, State}
use Rattle.network.specs.Runs.{Call, Outcome, Serves, Leads, fresh}
use Rattle.network.specs.Runs.Leads.{set_up as led_none, one_more as led_more}
use Rattle.network.specs.Promises.{Kept, Answered}
use Rattle.network.specs.Computed.{next, outcome}
use Rattle.network.proofs.Solving.{served, answered}
use Rattle.network.proofs.Kept.{kept}
use Rattle.calls.specs.declared.tables.Tables.{Tables}
use Rattle.calls.specs.Follow.{Shows, Follows, Continues, Refused, Promised, Served, Answers, KeptThroughout, Whole}
use Rattle.calls.specs.Follow.Served.{begun, one_more as served_more}
use Rattle.calls.specs.Follow.Answers.{set_up as no_call, one_more as a_call}
use Rattle.calls.specs.Midway.{Reached}

-- what a call does, from a state that the tables show
pub record Does (F : Fabric) (i j : Tables) (s : State) (k : Call) (o : Outcome) : Type 0 where
  pub exact : o ≡ outcome F i.settings s k
  pub same : j.settings ≡ i.settings
  pub shows : Shows F j (next F i.settings s k)

-- and from every such state to which a run leads
pub record Works (F : Fabric) (i j : Tables) (k : Call) (o : Outcome) : Type 0 where
  pub does : (s : State) → Reached F i.settings s → Shows F i s → Does F i j s k o

-- a call that is answered without a change does nothing
pub nothing_done : {F : Fabric} {i : Tables} {k : Call} {o : Outcome} →
    ((s : State) → Shows F i s → (o ≡ outcome F i.settings s k) × (next F i.settings s k ≡ s)) → Works F i i k o
nothing_done {F} {i} h =
    record { does = λ s led sh. let e = h s sh in record { exact = e.0; same = refl; shows = subst (Shows F i) (sym e.1) sh } }

module _ {F : Fabric} (law : Lawful F.plan) (sw : LawfulSwitch F.turn) where
  pub promised : {i j : Tables} {k : Call} {o : Outcome} → Works F i j k o → (Refused o → j ≡ i) → Promised F i j k o
  promised {i} {j} {k} {o} w u = record { continues = go; unchanged = u }
    where
      go : (run : List Call) (s : State) → Follows F i run s → Continues F i j run s k o
      go run s f =
          let P : Settings = i.settings in
          let d : Does F i j s k o = w.does s (run, f.leads) f.shows in
          let v : Serves F P s k o (next F P s k) = subst (λ (x : Outcome). Serves F P s k x (next F P s k)) (sym d.exact) (served F P law s k) in
          let led : Leads F P (k ∷ run) (next F P s k) = led_more f.leads v in
          record {
            state = next F P s k;
            serves = v;
            same = d.same;
            follows = record {
              lawful = subst (λ (Q : Settings). set_up_verdict F.plan Q ≡ granted tt) (sym d.same) f.lawful;
              leads = subst (λ (Q : Settings). Leads F Q (k ∷ run) (next F P s k)) (sym d.same) led;
              shows = d.shows;
            };
            kept = subst (λ (Q : Settings). Kept F Q (k ∷ run) (next F P s k)) (sym d.same) ((kept F P law sw f.lawful (k ∷ run)).kept (next F P s k) led);
          }

  pub refusing : {i : Tables} {k : Call} {o : Outcome} → Works F i i k o → Promised F i i k o
  refusing w = promised w (λ _. refl)

  -- from the promise of each call to the promise of all
  module _ (i : Tables) (ok : set_up_verdict F.plan i.settings ≡ granted tt) where
    abbrev P : Settings
    P = i.settings

    one_way : {ks : List Call} {os us : List Outcome} {s r : State} → Answers F P ks os s → Answers F P ks us r → (us ≡ os) × (r ≡ s)
    one_way no_call no_call = (refl, refl)
    one_way (a_call {ks} {s = s} {k = k} a v) (a_call {r = r} {o = u} b w) =
        let e = one_way a b in
        let n : Answered F P s k = answered F P law s k in
        let x = n.only _ _ v in
        let y = n.only _ _ (subst (λ (z : State). Serves F P z k u r) e.1 w) in
        (ap₂ (λ (o : Outcome) (os : List Outcome). o ∷ os) (y.0 ∙ sym x.0) e.0, y.1 ∙ sym x.1)

    record SoFar (j : Tables) (ks : List Call) (os : List Outcome) : Type 0 where
      same : j.settings ≡ P
      state : State
      answers : Answers F P ks os state
      kept : KeptThroughout answers
      follows : Follows F j ks state

    so_far : Follows F i [] fresh → {ks : List Call} {os : List Outcome} {j : Tables} → Served F i ks os j → SoFar j ks os
    so_far f begun =
        record { same = refl; state = _; answers = no_call; kept = (kept F P law sw ok []).kept _ led_none; follows = f }
    so_far f (served_more {ks} {j = j} {k = k} {o = o} before promise) =
        let h = so_far f before in
        let c : Continues F j _ ks h.state k o = promise.continues ks h.state h.follows in
        let e = h.same in
        record {
          same = c.same ∙ e;
          state = c.state;
          answers = a_call h.answers (subst (λ (Q : Settings). Serves F Q h.state k o c.state) e c.serves);
          kept = (subst (λ (Q : Settings). Kept F Q (k ∷ ks) c.state) (c.same ∙ e) c.kept, h.kept);
          follows = c.follows;
        }

    pub whole : Follows F i [] fresh → Whole F i
    whole f ks os j calls =
        let h = so_far f calls in
        record { state = h.state; answers = h.answers; only = λ us s a. one_way h.answers a; kept = h.kept }
