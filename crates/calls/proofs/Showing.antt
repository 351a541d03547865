-- How the tables show a state when a ticket's record changes, and when one more thing happened.
use Rattle.std.proofs.Common.{◌≡◌, ℕ, ◌*◌, ◌<◌, ◌≤◌, false, not, ◌⊎◌, List, ◌∷◌, length, get_or, set, Some, None, Option, sym, refl, ap, ◌∙◌, subst, inl, inr}
use Rattle.std.proofs.lemmas.List.{get_or-set_same, get_or-set_other, get_or_past}
use Rattle.std.proofs.lemmas.Bool.{cases_eq, cases_lt, both_ways, not-false}
use Rattle.fabric.specs.Layouts.{Lawful}
use Rattle.bounds.specs.declared.settings.Settings.{Settings}
use Rattle.bounds.specs.SetUp.{all_tickets}
use Rattle.clock.specs.Draws.{register}
use Rattle.network.specs.Log.{Happening, Log, packet, size, word, aim, free, sent, received}
use Rattle.network.specs.Cycle.{Fabric, State}
use Rattle.network.specs.Runs.{with_log}
use Rattle.network.proofs.Invariant.{Inv}
use Rattle.network.proofs.Running.{invariant as after_run}
use Rattle.network.proofs.Solving.{led_one}
use Rattle.calls.specs.declared.ticket.Ticket.{Ticket}
use Rattle.calls.specs.declared.tables.Tables.{Tables}
use Rattle.calls.specs.Records.{all_waiting, Keeps}
use Rattle.calls.specs.Follow.{slot_of, Recorded, Entry, Records, Queued, Shows}
use Rattle.calls.specs.Midway.{Reached}

-- an entry that shows one log shows another that says the same of its ticket
pub like : (o : Option Ticket) (t : ℕ) (l m : Log) → free t m ≡ free t l → packet t m ≡ packet t l → sent t m ≡ sent t l →
    ((k : ℕ) → received t k m ≡ received t k l) → Entry o t l → Entry o t m
like o t l m f p s w e =
    record {
      opened = e.opened ∙ ap not (sym f);
      recorded = λ r is.
          let h = e.recorded r is in
          record {
            destination = h.destination ∙ ap aim (sym p);
            size = h.size ∙ ap size (sym p);
            sent = h.sent ∙ sym s;
            short = h.short;
            words = λ k q. h.words k q ∙ ap (λ x. word x k) (sym p);
            received = λ k q. h.received k q ∙ sym (w k);
          };
    }

-- the entry of a ticket that is taken
pub entry_of : (r : Ticket) (t : ℕ) (l : Log) → free t l ≡ false → Recorded r t l → Entry (Some r) t l
entry_of r t l f h =
    record { opened = ap not (sym f); recorded = λ q e. subst (λ (x : Ticket). Recorded x t l) (let z : r ≡ q = cc in z) h }

-- a record is changed under a ticket, which stays taken
pub entry_more : (r q : Ticket) (t : ℕ) (l m : Log) → free t m ≡ free t l → (Recorded r t l → Recorded q t m) → Entry (Some r) t l → Entry (Some q) t m
entry_more r q t l m f h e =
    record { opened = e.opened ∙ ap not (sym f); recorded = λ x is. subst (λ (y : Ticket). Recorded y t m) (let z : q ≡ x = cc in z) (h (e.recorded r refl)) }

-- a free ticket stays free
pub entry_none : (t : ℕ) (l m : Log) → free t m ≡ free t l → Entry None t l → Entry None t m
entry_none t l m f e = record { opened = e.opened ∙ ap not (sym f); recorded = λ r is. cc }

-- a ticket that is taken has a record
pub entered_in : {A : Type 0} (o : Option Ticket) (t : ℕ) (l : Log) → free t l ≡ false → Entry o t l → ((r : Ticket) → o ≡ Some r → A) → A
entered_in None t l f e k = absurd (both_ways (free t l) f (not-false (free t l) (sym e.opened)))
entered_in (Some r) t l f e k = k r refl

-- where there is a record, the table has that place
pub get_or_some : (ts : List (Option Ticket)) (t : ℕ) (r : Ticket) → get_or ts t None ≡ Some r → t < length ts
get_or_some ts t r e = go (cases_lt t (length ts))
  where
    go : (t < length ts) ⊎ (length ts ≤ t) → t < length ts
    go (inl l) = l
    go (inr l) = let z : ◌≡◌ {A = Option Ticket} None (Some r) = sym (get_or_past ts t None l) ∙ e in cc

-- one record of a table changed
pub change : (G t : ℕ) (ts : List (Option Ticket)) (its : Option Ticket) (l m : Log) → t < length ts → Records G ts l →
    Entry its t m → ((u : ℕ) → (u ≡ t → ⊥) → Entry (get_or ts u None) u l → Entry (get_or ts u None) u m) →
    Records G (set ts t its) m
change G t ts its l m h r mine others u g = go (cases_eq u t)
  where
    go : (u ≡ t) ⊎ (u ≡ t → ⊥) → Entry (get_or (set ts t its) u None) u m
    go (inl q) =
        subst (λ (v : ℕ). Entry (get_or (set ts t its) v None) v m) (sym q)
        (subst (λ (x : Option Ticket). Entry x t m) (sym (get_or-set_same ts t its None h)) mine)
    go (inr q) = subst (λ (x : Option Ticket). Entry x u m) (sym (get_or-set_other ts t u its None q)) (others u q (r u g))

-- what holds of every state that a run leads to
pub invariant : (F : Fabric) (P : Settings) → Lawful F.plan → (s : State) → Reached F P s → Inv F P s 0
invariant F P law s r = subst (λ (x : State). Inv F P x 0) (sym (led_one F P law r.1)) (after_run F P law r.0)

-- one more thing happened, of which tickets and queues tell
pub logged : (F : Fabric) (i j : Tables) (s : State) (h : Happening) → Keeps i j → Shows F i s → Records (all_tickets F.plan i.settings) j.tickets (h ∷ s.log) →
    Queued F.plan.nodes i.settings.tickets (all_waiting j) (h ∷ s.log) → Shows F j (with_log s h)
logged F i j s h k sh rs qs =
    record {
      cycles = k.cycles ∙ sh.cycles;
      drawn = k.register ∙ sh.drawn ∙ ap (λ (Q : Settings). register Q.seed (s.cycles * F.plan.nodes)) (sym k.settings);
      slots = λ n p b. ap (λ xs. slot_of xs n p) k.slots ∙ sh.slots n p b;
      records = subst (λ (Q : Settings). Records (all_tickets F.plan Q) j.tickets (h ∷ s.log)) (sym k.settings) rs;
      queued = subst (λ (Q : Settings). Queued F.plan.nodes Q.tickets (all_waiting j) (h ∷ s.log)) (sym k.settings) qs;
    }
