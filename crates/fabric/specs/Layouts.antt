-- What a layout means, and the laws that every layout keeps.
use Rattle.std.specs.Prelude.{◌≡◌, ℕ, ◌+◌, ◌<◌, ◌≤◌, Bool, ◌&&◌, ◌⊎◌, Some, None, Option, ◌≢◌, nat_lt}
use Rattle.fabric.specs.declared.parts.Port.{Port}
use Rattle.fabric.specs.declared.parts.Slot.{Slot}

pub record Plan : Type 0 where
  pub nodes : ℕ
  -- the slot in which a flit arrives that leaves a node by a port
  pub far : ℕ → Port → Slot
  pub distance : ℕ → ℕ → ℕ
  -- the port by which a flit at the first node wants to leave for the second
  pub wish : ℕ → ℕ → Option Port
  pub reach : ℕ

abbrev pub Exists : Plan → ℕ → Type 0
Exists p n = n < p.nodes

abbrev pub Missing : Plan → ℕ → Type 0
Missing p n = p.nodes ≤ n

-- a port of node m leads to a node that is one nearer to n
abbrev pub LeadsNearer : Plan → ℕ → ℕ → Port → Type 0
LeadsNearer p m n w = Exists p (p.far m w).node × (p.distance (p.far m w).node n + 1 ≡ p.distance m n)

-- of k nodes both exist
abbrev pub both : ℕ → ℕ → ℕ → Bool
both k m n = nat_lt m k && nat_lt n k

pub record Lawful (p : Plan) : Type 0 where
  pub some_node : 1 ≤ p.nodes
  pub few_nodes : p.nodes ≤ 64
  -- the far end of a far end is the place one began with
  pub back : (n : ℕ) (s : Port) → Exists p n → p.far (p.far n s).node (p.far n s).port ≡ record { node = n; port = s }
  -- the distance is 0 exactly from a node to itself, and never above the reach, which is at most 63
  pub itself : (n : ℕ) → Exists p n → p.distance n n ≡ 0
  pub apart : (m n : ℕ) → Exists p m → Exists p n → p.distance m n ≡ 0 → m ≡ n
  pub within : (m n : ℕ) → Exists p m → Exists p n → p.distance m n ≤ p.reach
  pub near : p.reach ≤ 63
  -- the wish is absent exactly at distance 0, and otherwise a port that leads one nearer
  pub absent : (m n : ℕ) → Exists p m → Exists p n → p.distance m n ≡ 0 → p.wish m n ≡ None
  pub nearer : (m n : ℕ) → Exists p m → Exists p n → (p.distance m n ≢ 0) → (w : Port) × (p.wish m n ≡ Some w) × LeadsNearer p m n w
  -- of a missing node: distance 0, no wish, and as far end the place asked
  pub missing_distance : (m n : ℕ) → Missing p m ⊎ Missing p n → p.distance m n ≡ 0
  pub missing_wish : (m n : ℕ) → Missing p m ⊎ Missing p n → p.wish m n ≡ None
  pub missing_far : (n : ℕ) (s : Port) → Missing p n → p.far n s ≡ record { node = n; port = s }
