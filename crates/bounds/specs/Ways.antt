-- The way of a lone flit, and the nodes that are farthest apart.
use Rattle.std.specs.Prelude.{◌≡◌, ℕ, ◌<◌, ◌≤◌, ◌⊎◌, List, [], ◌∷◌, length, Some, None}
use Rattle.fabric.specs.Layouts.{Plan, Exists}
use Rattle.bounds.specs.declared.path.Hop.{Hop}

-- a flit that meets no other leaves each node by its wish, and stops where it has none
abbrev pub Goes : Plan → ℕ → ℕ → List Hop → Type 0
Goes p from to [] = p.wish from to ≡ None
Goes p from to (h ∷ hs) = (h.node ≡ from) × (p.wish from to ≡ Some h.port) × Goes p (p.far from h.port).node to hs

pub record Way (p : Plan) (from to : ℕ) (hops : List Hop) : Type 0 where
  pub goes : Goes p from to hops
  pub long : length hops ≡ p.distance from to

-- no node is farther from m than n, and each before n is nearer
pub record FarthestFrom (p : Plan) (m n : ℕ) : Type 0 where
  pub there : Exists p n
  pub most : (b : ℕ) → Exists p b → p.distance m b ≤ p.distance m n
  pub first : (b : ℕ) → b < n → p.distance m b < p.distance m n

-- no two nodes are farther apart than m and n, and each pair before them is nearer
pub record Farthest (p : Plan) (m n : ℕ) : Type 0 where
  pub there : Exists p m × Exists p n
  pub most : (a b : ℕ) → Exists p a → Exists p b → p.distance a b ≤ p.distance m n
  pub first : (a b : ℕ) → Exists p b → (a < m) ⊎ ((a ≡ m) × (b < n)) → p.distance a b < p.distance m n
