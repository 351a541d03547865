-- What one cycle, a call and a run come to, computed: the one solution of the relations in Cycle and Runs.
use Rattle.std.specs.Prelude.{ℕ, ◌+◌, Bool, cond, not, ◌&&◌, ◌||◌, List, [], ◌∷◌, ◌++◌, Some, None, Option, ◌==◌, nat_lt}
use Rattle.std.specs.Option.{option_or}
use Rattle.fabric.specs.declared.parts.Flit.{Flit}
use Rattle.fabric.specs.declared.parts.Port.{Port}
use Rattle.fabric.specs.declared.parts.Port.TheVariants.{N, E, S, W}
use Rattle.fabric.specs.Ports.{same}
use Rattle.fabric.specs.Verdicts.{Verdict, granting}
use Rattle.fabric.specs.Verdicts.Verdict.{granted, refused}
use Rattle.switch.specs.Switches.{Handing, at, turned}
use Rattle.bounds.specs.declared.settings.Settings.{Settings}
use Rattle.network.specs.Log.{Log, packet, word, aim, sent, waiting}
use Rattle.network.specs.Log.Happening.{offered, collected}
use Rattle.network.specs.Cycle.{Fabric, Places, State, golden_in, in_slot_order, wish_of, draws_at, off_at, entered_at}
use Rattle.network.specs.Runs.{Call, Outcome, ticket, offer_verdict, cycle_verdict, collection, collect_verdict, look_verdict, with_log, told, count_off, put_all, over, fresh}
use Rattle.network.specs.Runs.Call.{offer, cycle, collect, look}
use Rattle.network.specs.Runs.Outcome.{offering, cycling, collecting, looking}

-- the flit in a place, if it is destined for this node
abbrev pub due : ℕ → Option Flit → Option Flit
due n None = None
due n (Some f) = cond (f.destination == n) (Some f) None

-- a golden flit goes before an ordinary one, and before a golden one of a higher number
abbrev pub ahead : ℕ → Flit → Flit → Bool
ahead g f h = f.ticket == g && (not (h.ticket == g) || nat_lt f.number h.number)

-- the better of what was found so far and what stands at a later side
abbrev pub better : ℕ → Option (Port × Flit) → Port → Option Flit → Option (Port × Flit)
better g None p None = None
better g None p (Some f) = Some (p, f)
better g (Some b) p None = Some b
better g (Some b) p (Some f) = cond (ahead g f b.1) (Some (p, f)) (Some b)

abbrev pub best : ℕ → Places → Option (Port × Flit)
best g here = better g (better g (better g (better g None N (here N)) E (here E)) S (here S)) W (here W)

-- four places with one of them emptied, or filled
abbrev pub without : Option (Port × Flit) → Places → Places
without None here p = here p
without (Some b) here p = cond (same b.0 p) None (here p)

abbrev pub with_flit : Option (Port × Flit) → Places → Places
with_flit None here p = here p
with_flit (Some b) here p = cond (same b.0 p) (Some b.1) (here p)

abbrev pub if_empty : Option Flit → Port → Option Port
if_empty None p = Some p
if_empty (Some f) p = None

-- the first empty place, in slot order
abbrev pub gap : Places → Option Port
gap here = option_or (option_or (option_or (if_empty (here N) N) (if_empty (here E) E)) (if_empty (here S) S)) (if_empty (here W) W)

module _ (F : Fabric) (P : Settings) (s : State) where
  unfoldable pub taken : ℕ → Option (Port × Flit)
  taken n = best (golden_in F P s.cycles) (λ p. due n (s.slot n p))

  unfoldable pub left : ℕ → Places
  left n = without (taken n) (s.slot n)

  abbrev pub next_of : List ℕ → Option Flit
  next_of [] = None
  next_of (t ∷ ts) =
      Some (record {
        ticket = t;
        number = sent t s.log;
        destination = aim (packet t s.log);
        word = word (packet t s.log) (sent t s.log);
        entered = s.cycles;
      })

  abbrev pub placed : Option Port → Option Flit → Option (Port × Flit)
  placed None f = None
  placed (Some p) None = None
  placed (Some p) (Some f) = Some (p, f)

  unfoldable pub entering : ℕ → Option (Port × Flit)
  entering n = placed (gap (left n)) (next_of (waiting P.tickets n s.log))

  unfoldable pub ready : ℕ → Places
  ready n = with_flit (entering n) (left n)

  unfoldable pub handing : ℕ → Handing
  handing n =
      record {
        places = in_slot_order (ready n);
        wishes = in_slot_order (λ p. wish_of F.plan n (ready n p));
        golden = golden_in F P s.cycles;
        draws = draws_at F P s n;
      }

  -- what leaves a node by its ports
  abbrev pub leaving : ℕ → Places
  leaving n p = at (turned (F.turn (handing n)) (handing n).places) p

  -- what leaves the place at its far end, if the node exists
  unfoldable pub arriving : ℕ → Places
  arriving m q = cond (nat_lt m F.plan.nodes) (leaving (F.plan.far m q).node (F.plan.far m q).port) None

  -- what the nodes below n did, newest first
  unfoldable pub done : ℕ → Log
  done ℕ.zero = []
  done (ℕ.suc n) = entered_at n (entering n) ++ (off_at s.cycles n (taken n) ++ done n)

  abbrev pub cycled : State
  cycled = record { cycles = s.cycles + 1; slot = arriving; log = done F.plan.nodes ++ s.log }

-- the one where a verdict grants, the other where it refuses
abbrev pub decided : {A B : Type 0} → Verdict A → B → B → B
decided (granted a) x y = x
decided (refused k vs) x y = y

module _ (F : Fabric) (P : Settings) where
  abbrev pub next : State → Call → State
  next s (offer n o d ws) =
      decided (offer_verdict F P s n o d ws) (with_log s (offered (ticket P n o) (record { destination = d; words = ws }))) s
  next s (cycle q) = decided (cycle_verdict F P s q) (cycled F P s) s
  next s (collect r n o memory) =
      decided (collect_verdict F P s r n o memory) (with_log s (collected (ticket P n o) r (collection s (ticket P n o)))) s
  next s (look n p) = s

  abbrev pub outcome : State → Call → Outcome
  outcome s (offer n o d ws) = offering (offer_verdict F P s n o d ws)
  outcome s (cycle q) =
      cycling (granting (λ _. count_off (done F P s F.plan.nodes)) (cycle_verdict F P s q))
      (decided (cycle_verdict F P s q) (put_all q (told (done F P s F.plan.nodes))) q)
  outcome s (collect r n o memory) =
      collecting (collect_verdict F P s r n o memory)
      (decided (collect_verdict F P s r n o memory) (over (collection s (ticket P n o)) memory) memory)
  outcome s (look n p) = looking (look_verdict F P s n p)

  abbrev pub after : List Call → State
  after [] = fresh
  after (k ∷ ks) = next (after ks) k
