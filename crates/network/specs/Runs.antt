-- The calls that a network receives, what each is answered, and where a run of calls leads.
use Rattle.std.specs.Prelude.{◌≡◌, ℕ, ◌+◌, ◌*◌, Bool, not, ◌||◌, List, [], ◌∷◌, ◌++◌, length, drop, None, Option, ◌==◌, nat_le, nat_lt}
use Rattle.fabric.specs.declared.parts.Flit.{Flit}
use Rattle.fabric.specs.Verdicts.{Verdict, judged}
use Rattle.fabric.specs.Verdicts.Verdict.{granted, refused}
use Rattle.fabric.specs.Ports.{port_of}
use Rattle.line.specs.Queues.{Queue, free_places, put}
use Rattle.bounds.specs.declared.settings.Settings.{Settings}
use Rattle.network.specs.declared.event.Event.{Event}
use Rattle.network.specs.declared.event.Kind.TheVariants.{In, Out}
use Rattle.network.specs.Log.{Happening, Log, packet, size, aim, free, complete, gathered}
use Rattle.network.specs.Log.Happening.{offered, entered, off, collected}
use Rattle.network.specs.Cycle.{Fabric, State, Cycle, happened}
use Rattle.network.specs.declared.event.Kind.{Kind}

pub data Call : Type 0 where
  -- node, own ticket, destination, words
  offer : ℕ → ℕ → ℕ → List ℕ → Call
  -- the caller's event line
  cycle : Queue Event → Call
  -- receiving node, sending node, own ticket, the caller's memory
  collect : ℕ → ℕ → ℕ → List ℕ → Call
  -- node, port number
  look : ℕ → ℕ → Call

-- what a call answers, and what the caller's line or memory then holds
pub data Outcome : Type 0 where
  offering : Verdict (Unit {0}) → Outcome
  cycling : Verdict ℕ → Queue Event → Outcome
  collecting : Verdict ℕ → List ℕ → Outcome
  looking : Verdict (Option Flit) → Outcome

-- what is told of a flit, in a cycle, at a node
abbrev pub event_of : ℕ → Kind → Flit → ℕ → Event
event_of c k f n = record { cycle = c; kind = k; ticket = f.ticket; number = f.number; node = n; entered = f.entered }

abbrev pub event_in : Flit → ℕ → Event
event_in f n = event_of f.entered In f n

abbrev pub event_out : Flit → ℕ → ℕ → Event
event_out f n c = event_of c Out f n

-- what entered and what was taken off, as events, the oldest first
abbrev pub told : Log → List Event
told [] = []
told (offered t p ∷ l) = told l
told (entered f n ∷ l) = told l ++ (event_in f n ∷ [])
told (off f n c ∷ l) = told l ++ (event_out f n c ∷ [])
told (collected t r ws ∷ l) = told l

-- how many flits were taken off
abbrev pub count_off : Log → ℕ
count_off [] = 0
count_off (offered t p ∷ l) = count_off l
count_off (entered f n ∷ l) = count_off l
count_off (off f n c ∷ l) = count_off l + 1
count_off (collected t r ws ∷ l) = count_off l

-- put into a line one after another
abbrev pub put_all : {A : Type 0} → Queue A → List A → Queue A
put_all q [] = q
put_all q (x ∷ xs) = put_all (put q x) xs

-- words written over the front of a memory
abbrev pub over : List ℕ → List ℕ → List ℕ
over ws memory = ws ++ drop (length ws) memory

-- own ticket o of node n
abbrev pub ticket : Settings → ℕ → ℕ → ℕ
ticket P n o = n * P.tickets + o

-- there is no node n
abbrev pub missing : Fabric → ℕ → Bool
missing F n = nat_le F.plan.nodes n

-- the words of a packet as they were taken off
abbrev pub collection : State → ℕ → List ℕ
collection s t = gathered t (size (packet t s.log)) s.log

-- the state with one happening more
abbrev pub with_log : State → Happening → State
with_log s h = record { cycles = s.cycles; slot = s.slot; log = h ∷ s.log }

module _ (F : Fabric) (P : Settings) where
  -- 4: the node or its own ticket does not exist; 5: the destination does not exist or is the node itself;
  -- 6: there are no words, or too many; 7: the ticket is not free
  abbrev pub offer_verdict : State → ℕ → ℕ → ℕ → List ℕ → Verdict (Unit {0})
  offer_verdict s n o d ws =
      judged
      ((4, missing F n || nat_le P.tickets o)
      ∷ (5, missing F d || d == n)
      ∷ (6, (length ws == 0) || nat_lt P.words (length ws))
      ∷ (7, not (free (ticket P n o) s.log))
      ∷ [])
      tt

  -- 10: so many cycles are carried out already; 11: the line lacks room for two events a node
  abbrev pub cycle_verdict : State → Queue Event → Verdict (Unit {0})
  cycle_verdict s q =
      judged
      ((10, nat_le 1073741823 s.cycles)
      ∷ (11, nat_lt (free_places q) (2 * F.plan.nodes))
      ∷ [])
      tt

  -- 4: a node or the own ticket does not exist; 8: the ticket is not complete, or its packet has another destination;
  -- 9: the memory is shorter than the packet
  abbrev pub collect_verdict : State → ℕ → ℕ → ℕ → List ℕ → Verdict ℕ
  collect_verdict s r n o memory =
      let t : ℕ = ticket P n o in
      judged
      ((4, missing F r || missing F n || nat_le P.tickets o)
      ∷ (8, not (complete t s.log) || not (aim (packet t s.log) == r))
      ∷ (9, nat_lt (length memory) (size (packet t s.log)))
      ∷ [])
      (size (packet t s.log))

  -- 4: the node or the port does not exist
  abbrev pub look_verdict : State → ℕ → ℕ → Verdict (Option Flit)
  look_verdict s n p =
      judged ((4, missing F n || nat_le 4 p) ∷ []) (s.slot n (port_of p))

  -- in state s a call has an outcome and leads to a state: where it is refused, nothing changes
  pub data Serves (s : State) : Call → Outcome → State → Type 0 where
    offer_granted : {n o d : ℕ} {ws : List ℕ} → offer_verdict s n o d ws ≡ granted tt →
        Serves s (offer n o d ws) (offering (granted tt)) (with_log s (offered (ticket P n o) (record { destination = d; words = ws })))
    offer_refused : {n o d k : ℕ} {ws vs : List ℕ} → offer_verdict s n o d ws ≡ refused k vs →
        Serves s (offer n o d ws) (offering (refused k vs)) s
    -- the events of the cycle are put into the line, and the flits taken off are counted
    cycle_granted : {q : Queue Event} {r : State} → cycle_verdict s q ≡ granted tt → (c : Cycle F P s r) →
        Serves s (cycle q) (cycling (granted (count_off (happened c))) (put_all q (told (happened c)))) r
    cycle_refused : {q : Queue Event} {k : ℕ} {vs : List ℕ} → cycle_verdict s q ≡ refused k vs →
        Serves s (cycle q) (cycling (refused k vs) q) s
    collect_granted : {r n o k : ℕ} {memory : List ℕ} → collect_verdict s r n o memory ≡ granted k →
        Serves s (collect r n o memory) (collecting (granted k) (over (collection s (ticket P n o)) memory))
        (with_log s (collected (ticket P n o) r (collection s (ticket P n o))))
    collect_refused : {r n o k : ℕ} {memory vs : List ℕ} → collect_verdict s r n o memory ≡ refused k vs →
        Serves s (collect r n o memory) (collecting (refused k vs) memory) s
    looks : {n p : ℕ} → Serves s (look n p) (looking (look_verdict s n p)) s

-- just set up: no cycle is carried out, all slots are empty and all tickets free
abbrev pub fresh : State
fresh = record { cycles = 0; slot = λ n p. None; log = [] }

-- a run of calls, the newest first, leads from set-up to a state
pub data Leads (F : Fabric) (P : Settings) : List Call → State → Type 0 where
  set_up : Leads F P [] fresh
  one_more : {run : List Call} {s r : State} {k : Call} {o : Outcome} → Leads F P run s → Serves F P s k o r → Leads F P (k ∷ run) r
