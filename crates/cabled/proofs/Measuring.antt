-- How far the table of distances is filled.
use Rattle.std.specs.Prelude.{◌≡◌, ℕ, ◌<◌, ◌≤◌, List, [], length, Option, slice_index_or}
use Rattle.fabric.specs.declared.parts.Slot.{Slot}
use Rattle.cabled.specs.Levels.{AllSteps}
use Rattle.cabled.specs.Tables.{next_at, distance_at}

-- the rows of the nodes below t have the fewest steps, and r is the greatest of them
pub record MeasuredUpto (k : ℕ) (ts : List (Option Slot)) (ds : List (List ℕ)) (r t : ℕ) : Type 0 where
  pub rows : length ds ≡ 64
  pub exact : (n : ℕ) → n < t → AllSteps (next_at ts) n k (slice_index_or ds n [])
  pub within : (n : ℕ) → n < t → (m : ℕ) → m < k → distance_at ds m n ≤ r
  pub begun : t ≡ 0 → r ≡ 0
  pub met : 0 < t → (n : ℕ) × (n < t) × ((m : ℕ) × (m < k) × (distance_at ds m n ≡ r))
