-- Cables between the ports of nodes: which lists of them make a layout, and what that layout is.
use Rattle.std.specs.Prelude.{◌≡◌, ℕ, suc, ◌<◌, ◌≤◌, ◌⊎◌, List, [], ◌∷◌, length, Some, None, Option, slice_index_or}
use Rattle.fabric.specs.declared.parts.Cable.{Cable}
use Rattle.fabric.specs.declared.parts.Port.{Port}
use Rattle.fabric.specs.declared.parts.Port.TheVariants.{N}
use Rattle.fabric.specs.declared.parts.Slot.{Slot}
use Rattle.fabric.specs.Layouts.{Plan, LeadsNearer}
use Rattle.fabric.specs.Verdicts.{Verdict}
use Rattle.fabric.specs.Verdicts.Verdict.{granted, refused}
use Rattle.fabric.specs.Ports.{looked_at}

-- a cable by its place in the list
abbrev pub cable_at : List Cable → ℕ → Cable
cable_at cs i = slice_index_or cs i (record { one = record { node = 0; port = N }; other = record { node = 0; port = N } })

-- the cable runs from one port to another
abbrev pub Runs : Cable → Slot → Slot → Type 0
Runs c s t = ((c.one ≡ s) × (c.other ≡ t)) ⊎ ((c.other ≡ s) × (c.one ≡ t))

-- one of the first n cables runs from one port to another
abbrev pub Joined : List Cable → ℕ → Slot → Slot → Type 0
Joined cs n s t = (i : ℕ) × (i < n) × Runs (cable_at cs i) s t

-- a walk over so many cables, from one node to another
pub data Walk (cs : List Cable) : ℕ → ℕ → ℕ → Type 0 where
  stay : {n : ℕ} → Walk cs 0 n n
  cross : {s t : Slot} {k n : ℕ} → Joined cs (length cs) s t → Walk cs k t.node n → Walk cs (suc k) s.node n

-- the fewest cables of any walk from one node to another
abbrev pub Least : List Cable → ℕ → ℕ → ℕ → Type 0
Least cs m n d = Walk cs d m n × ((k : ℕ) → Walk cs k m n → d ≤ k)

-- the first port that leads one nearer, and none where the flit has arrived
abbrev pub Wished : Plan → ℕ → ℕ → Option Port → Type 0
Wished p m n (Some w) = LeadsNearer p m n w × ((v : Port) → looked_at v < looked_at w → LeadsNearer p m n v → ⊥)
Wished p m n None = p.distance m n ≡ 0

-- the layout of k nodes that the cables make
pub record Means (k : ℕ) (cs : List Cable) (p : Plan) : Type 0 where
  pub nodes : p.nodes ≡ k
  -- a port leads to the other end of its cable, and without a cable to its own slot
  pub plugged : (s t : Slot) → Joined cs (length cs) s t → p.far s.node s.port ≡ t
  pub bare : (s : Slot) → ((t : Slot) → Joined cs (length cs) s t → ⊥) → p.far s.node s.port ≡ s
  pub distance : (m n : ℕ) → m < k → n < k → Least cs m n (p.distance m n)
  -- the reach is the greatest distance
  pub within : (m n : ℕ) → m < k → n < k → p.distance m n ≤ p.reach
  pub met : (m : ℕ) × (n : ℕ) × (m < k) × (n < k) × (p.distance m n ≡ p.reach)
  pub wish : (m n : ℕ) → m < k → n < k → Wished p m n (p.wish m n)

-- one node without cables
abbrev pub lone : Plan
lone = record {
  nodes = 1;
  far = λ n p. record { node = n; port = p };
  distance = λ m n. 0;
  wish = λ m n. None;
  reach = 0;
}

-- the counts of nodes that a layout may have
abbrev pub Fair : ℕ → Type 0
Fair k = (0 < k) × (k ≤ 64)

-- cable i fits between the k nodes and the cables before it
pub record Good (k : ℕ) (cs : List Cable) (i : ℕ) : Type 0 where
  -- both ends are at nodes that exist, and they are two ports
  pub there : (s t : Slot) → Runs (cable_at cs i) s t → s.node < k
  pub two : (cable_at cs i).one ≡ (cable_at cs i).other → ⊥
  -- no earlier cable uses either port
  pub fresh : (s t u : Slot) → Runs (cable_at cs i) s t → Joined cs i s u → ⊥

-- the first n cables are good
abbrev pub AllGood : ℕ → List Cable → ℕ → Type 0
AllGood k cs n = (i : ℕ) → i < n → Good k cs i

-- node n has no way over cables from node 0
abbrev pub CutOff : List Cable → ℕ → Type 0
CutOff cs n = (j : ℕ) → Walk cs j 0 n → ⊥

-- what the call that cables k nodes makes of a layout, and what it answers: of the three refusals the first that holds
pub data Cabling {A : Type 0} (plan : A → Plan) (k : ℕ) (cs : List Cable) (before : A) : A → Verdict Unit → Type 0 where
  unfair : (Fair k → ⊥) → Cabling plan k cs before before (refused 12 [])
  -- cable i is the first that is not good
  bad : Fair k → (i : ℕ) → i < length cs → AllGood k cs i → (Good k cs i → ⊥) → Cabling plan k cs before before (refused 13 (i ∷ []))
  -- any node that is cut off may be named
  unreached : Fair k → AllGood k cs (length cs) → (n : ℕ) → n < k → CutOff cs n → Cabling plan k cs before before (refused 14 (n ∷ []))
  cabled : {after : A} → Fair k → AllGood k cs (length cs) → ((n : ℕ) → n < k → CutOff cs n → ⊥) → Means k cs (plan after) → Cabling plan k cs before after (granted tt)
