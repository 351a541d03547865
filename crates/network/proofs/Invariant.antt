-- What holds of every state of a network, also between the nodes of one cycle.
use Rattle.std.proofs.Common.{◌≡◌, ℕ, ◌/◌, ◌<◌, ◌≤◌, false, ◌⊎◌, List, [], ◌∷◌, ◌++◌, Some, None}
use Rattle.std.specs.List.{AllByRecursion}
use Rattle.std.proofs.SliceLists.{all_by_recursion_push}
use Rattle.fabric.proofs.Pigeons.{Distinct}
use Rattle.fabric.specs.declared.parts.Flit.{Flit}
use Rattle.fabric.specs.declared.parts.Port.{Port}
use Rattle.network.specs.Log.{Log, packet, size, word, aim, free, sent, received, waiting}
use Rattle.network.specs.Log.Happening.{entered, off, collected}
use Rattle.bounds.specs.declared.settings.Settings.{Settings}
use Rattle.bounds.specs.SetUp.{all_tickets}
use Rattle.network.specs.Cycle.{Fabric, State}
use Rattle.network.specs.Promises.{Same, Stands, OffOnce, NeverOff, InOneSlot, InNoSlot, OfPacket, OfferedLast}

pub all_weaker : (R Q : ℕ → Type 0) → ((x : ℕ) → R x → Q x) → (xs : List ℕ) → AllByRecursion R xs → AllByRecursion Q xs
all_weaker R Q h [] e = tt
all_weaker R Q h (x ∷ xs) e = (h x e.0, all_weaker R Q h xs e.1)

pub all_both : (R Q : ℕ → Type 0) (xs : List ℕ) → AllByRecursion R xs → AllByRecursion Q xs → AllByRecursion (λ x. R x × Q x) xs
all_both R Q [] d e = tt
all_both R Q (x ∷ xs) d e = ((d.0, e.0), all_both R Q xs d.1 e.1)

pub distinct_push : (xs : List ℕ) (y : ℕ) → Distinct xs → AllByRecursion (λ x. x ≡ y → ⊥) xs → Distinct (xs ++ (y ∷ []))
distinct_push [] y d e = (tt, tt)
distinct_push (x ∷ xs) y d e = (all_by_recursion_push (λ z. x ≡ z → ⊥) xs y d.0 e.0, distinct_push xs y d.1 e.1)

-- a flit in a slot
pub record Sits (F : Fabric) (P : Settings) (l : Log) (n : ℕ) (f : Flit) : Type 0 where
  pub exists : n < F.plan.nodes
  pub open_ticket : free f.ticket l ≡ false
  pub was_sent : f.number < sent f.ticket l
  pub in_size : f.number < size (packet f.ticket l)
  pub word_is : f.word ≡ word (packet f.ticket l) f.number
  pub unreceived : received f.ticket f.number l ≡ None
  pub goes : f.destination < F.plan.nodes
  pub from : ℕ
  pub was_entered : Stands (entered f from) l

-- an open ticket
pub record Opened (F : Fabric) (P : Settings) (l : Log) (t : ℕ) : Type 0 where
  pub ticket : t < all_tickets F.plan P
  pub goes : aim (packet t l) < F.plan.nodes
  pub short : size (packet t l) ≤ P.words

-- a ticket that waits at a node
pub record Waits (P : Settings) (l : Log) (n u : ℕ) : Type 0 where
  pub node : u / P.tickets ≡ n
  pub open_ticket : free u l ≡ false
  pub more : sent u l < size (packet u l)

-- N nodes have entered flits in this cycle
pub record Inv (F : Fabric) (P : Settings) (s : State) (N : ℕ) : Type 0 where
  pub sits : (n : ℕ) (p : Port) (f : Flit) → s.slot n p ≡ Some f → Sits F P s.log n f
  pub alone : (n m : ℕ) (p q : Port) (f g : Flit) → s.slot n p ≡ Some f → s.slot m q ≡ Some g → f.ticket ≡ g.ticket → f.number ≡ g.number →
      (n ≡ m) × (p ≡ q)
  pub in_turn : (n m : ℕ) (p q : Port) (f g : Flit) → s.slot n p ≡ Some f → s.slot m q ≡ Some g → f.ticket ≡ g.ticket → f.number < g.number →
      f.entered ≤ g.entered
  pub opens : (t : ℕ) → free t s.log ≡ false → Opened F P s.log t
  pub right_words : (t k w : ℕ) → free t s.log ≡ false → received t k s.log ≡ Some w → w ≡ word (packet t s.log) k
  pub unsent : (t k : ℕ) → free t s.log ≡ false → sent t s.log ≤ k → received t k s.log ≡ None
  pub queue : (n : ℕ) → AllByRecursion (Waits P s.log n) (waiting P.tickets n s.log)
  pub queue_apart : (n : ℕ) → Distinct (waiting P.tickets n s.log)
  pub timely : (f : Flit) (m : ℕ) → Stands (entered f m) s.log → (f.entered ≤ s.cycles) × (f.entered ≡ s.cycles → f.ticket / P.tickets < N)
  pub apart : (f g : Flit) (n m : ℕ) (e : Stands (entered f n) s.log) → Stands (entered g m) e.older → Same g f → ⊥
  pub offs : (f : Flit) (n d : ℕ) → Stands (off f n d) s.log → (m : ℕ) × Stands (entered f m) s.log
  pub accounted : (f : Flit) (n : ℕ) → Stands (entered f n) s.log → (OffOnce f s.log × InNoSlot f s) ⊎ (NeverOff f s.log × InOneSlot f s)
  pub carries : (f : Flit) (n : ℕ) (e : Stands (entered f n) s.log) → OfPacket f e.older
  pub collections : (t r : ℕ) (ws : List ℕ) (e : Stands (collected t r ws) s.log) → OfferedLast t (record { destination = r; words = ws }) e.older
