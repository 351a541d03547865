-- What has happened in a network, newest first, and what that says of its tickets.
-- Ticket number t is one of node t / T, where each node has T tickets.
use Rattle.std.specs.Prelude.{ℕ, ◌+◌, ◌/◌, Bool, true, false, cond, not, ◌&&◌, List, [], ◌∷◌, ◌++◌, length, drop, Some, None, Option, is_some, ◌==◌, slice_index}
use Rattle.std.specs.Option.{unwrap_or}
use Rattle.fabric.specs.declared.parts.Flit.{Flit}

pub record Packet : Type 0 where
  pub destination : ℕ
  pub words : List ℕ

pub data Happening : Type 0 where
  -- an accepted offer under this ticket
  offered : ℕ → Packet → Happening
  -- a flit enters at a node (in the field: is injected)
  entered : Flit → ℕ → Happening
  -- a flit is taken off at a node, in a cycle (in the field: is ejected)
  off : Flit → ℕ → ℕ → Happening
  -- under this ticket a node collects a packet, as these words
  collected : ℕ → ℕ → List ℕ → Happening

abbrev pub Log : Type 0
Log = List Happening

-- the packet last accepted under a ticket
abbrev pub packet : ℕ → Log → Option Packet
packet t [] = None
packet t (offered u p ∷ l) = cond (t == u) (Some p) (packet t l)
packet t (entered f n ∷ l) = packet t l
packet t (off f n c ∷ l) = packet t l
packet t (collected u r ws ∷ l) = packet t l

abbrev pub size : Option Packet → ℕ
size None = 0
size (Some p) = length p.words

abbrev pub word : Option Packet → ℕ → ℕ
word None k = 0
word (Some p) k = slice_index p.words k

abbrev pub aim : Option Packet → ℕ
aim None = 0
aim (Some p) = p.destination

-- a ticket is free until an offer is accepted, and again from its collection on
abbrev pub free : ℕ → Log → Bool
free t [] = true
free t (offered u p ∷ l) = cond (t == u) false (free t l)
free t (entered f n ∷ l) = free t l
free t (off f n c ∷ l) = free t l
free t (collected u r ws ∷ l) = cond (t == u) true (free t l)

-- how many flits of its packet have entered
abbrev pub sent : ℕ → Log → ℕ
sent t [] = 0
sent t (offered u p ∷ l) = cond (t == u) 0 (sent t l)
sent t (entered f n ∷ l) = cond (t == f.ticket) (sent t l + 1) (sent t l)
sent t (off f n c ∷ l) = sent t l
sent t (collected u r ws ∷ l) = sent t l

-- the record of a ticket: the word that came off at each place of its packet, if one did
abbrev pub received : ℕ → ℕ → Log → Option ℕ
received t k [] = None
received t k (offered u p ∷ l) = cond (t == u) None (received t k l)
received t k (entered f n ∷ l) = received t k l
received t k (off f n c ∷ l) = cond (t == f.ticket && k == f.number) (Some f.word) (received t k l)
received t k (collected u r ws ∷ l) = received t k l

-- of numbered places, the first m all hold a word
abbrev pub all_held : (ℕ → Option ℕ) → ℕ → Bool
all_held w ℕ.zero = true
all_held w (ℕ.suc m) = all_held w m && is_some (w m)

-- the words of the first m places
abbrev pub words_of : (ℕ → Option ℕ) → ℕ → List ℕ
words_of w ℕ.zero = []
words_of w (ℕ.suc m) = words_of w m ++ (unwrap_or (w m) 0 ∷ [])

-- the first m places of a ticket's record all hold a word
abbrev pub filled : ℕ → ℕ → Log → Bool
filled t m l = all_held (λ k. received t k l) m

-- all flits of its packet are taken off
abbrev pub complete : ℕ → Log → Bool
complete t l = not (free t l) && filled t (size (packet t l)) l

-- the words of the first m places of a ticket's record
abbrev pub gathered : ℕ → ℕ → Log → List ℕ
gathered t m l = words_of (λ k. received t k l) m

-- the tickets of a node whose packets wait, in the order of their offers; a packet waits until its last flit enters
abbrev pub waiting : (T n : ℕ) → Log → List ℕ
waiting T n [] = []
waiting T n (offered u p ∷ l) = cond (u / T == n) (waiting T n l ++ (u ∷ [])) (waiting T n l)
waiting T n (entered f m ∷ l) = cond (m == n && f.number + 1 == size (packet f.ticket l)) (drop 1 (waiting T n l)) (waiting T n l)
waiting T n (off f m c ∷ l) = waiting T n l
waiting T n (collected u r ws ∷ l) = waiting T n l
