-- How many steps each node is from one, found in rounds. A step leaves a node by a port, so by one without a cable it stays.
use Rattle.std.specs.Prelude.{◌≡◌, ℕ, zero, suc, ◌+◌, ◌<◌, ◌≤◌, Bool, false, Some, None, Option, List, [], ◌∷◌, ◌==◌, slice_index}
use Rattle.std.specs.Bool.{then_some}
use Rattle.std.specs.List.{list_any}
use Rattle.std.specs.Option.{option_or}
use Rattle.fabric.specs.declared.parts.Port.{Port}
use Rattle.fabric.specs.declared.parts.Port.TheVariants.{N, E, S, W}
use Rattle.fabric.specs.declared.refusal.Refusal.{Refusal}
use Rattle.fabric.specs.declared.refusal.Refusal.TheVariants.{Unreached}

abbrev pub any : (Port → Bool) → Bool
any f = list_any f (N ∷ E ∷ S ∷ W ∷ [])

-- the level is l
abbrev pub at : ℕ → Option ℕ → Bool
at l (Some d) = d == l
at l None = false

-- one round more: a node without a level beside one of level l has the level l + 1
abbrev pub again : (ℕ → Port → ℕ) → (ℕ → Option ℕ) → ℕ → ℕ → Option ℕ
again next f l u = option_or (f u) (then_some (any (λ p. at l (f (next u p)))) (l + 1))

-- a way of k steps from u to t
abbrev pub Way : (ℕ → Port → ℕ) → ℕ → ℕ → ℕ → Type 0
Way next t zero u = u ≡ t
Way next t (suc k) u = (p : Port) × Way next t k (next u p)

-- the fewest steps from u to t
abbrev pub Nearest : (ℕ → Port → ℕ) → ℕ → ℕ → ℕ → Type 0
Nearest next t u d = Way next t d u × ((k : ℕ) → Way next t k u → d ≤ k)

abbrev pub NoWay : (ℕ → Port → ℕ) → ℕ → ℕ → Type 0
NoWay next t u = (k : ℕ) → Way next t k u → ⊥

-- the fewest steps from u to t, which are few
abbrev pub Steps : (ℕ → Port → ℕ) → ℕ → ℕ → ℕ → Type 0
Steps next t u d = (d < 64) × Nearest next t u d

-- the fewest steps to t of each of the k nodes
abbrev pub AllSteps : (ℕ → Port → ℕ) → ℕ → ℕ → List ℕ → Type 0
AllSteps next t k row = (u : ℕ) → u < k → Steps next t u (slice_index row u)

-- the refusal names one of the k nodes that has no way to t
pub record NamesUnreached (next : ℕ → Port → ℕ) (t k : ℕ) (e : Refusal) : Type 0 where
  pub node : ℕ
  pub named : e ≡ Unreached node
  pub there : node < k
  pub no_way : NoWay next t node

-- the level of node u: the fewest steps to t, or nothing where there is no way
abbrev pub Level : (ℕ → Port → ℕ) → ℕ → ℕ → Option ℕ → Type 0
Level next t u (Some d) = Steps next t u d
Level next t u None = NoWay next t u
