-- What the tables of a cabled layout mean.
use Rattle.std.specs.Prelude.{◌≡◌, ℕ, ◌+◌, ◌<◌, ◌≤◌, Bool, true, cond, List, [], length, is_some, Some, None, Option, ◌==◌, ◌≢◌, nat_lt, slice_index, slice_index_or, slice_set}
use Rattle.std.specs.Option.{unwrap_or}
use Rattle.fabric.specs.declared.parts.Cable.{Cable}
use Rattle.fabric.specs.declared.parts.Port.{Port}
use Rattle.fabric.specs.declared.parts.Slot.{Slot}
use Rattle.fabric.specs.declared.refusal.Refusal.{Refusal}
use Rattle.fabric.specs.declared.refusal.Refusal.TheVariants.{Cable as bad_cable}
use Rattle.fabric.specs.Layouts.{Plan, both}
use Rattle.fabric.specs.Ports.{slot_number, first}
use Rattle.cabled.specs.Cables.{Good, AllGood, Joined}
use Rattle.cabled.specs.Levels.{Steps}

-- a table has a place for each slot: the other end of the cable in a port, if there is one
abbrev pub end_at : List (Option Slot) → Slot → Option Slot
end_at ts s = slice_index_or ts (slot_number s) None

-- where a port leads
abbrev pub far_at : List (Option Slot) → Slot → Slot
far_at ts s = unwrap_or (end_at ts s) s

abbrev pub next_at : List (Option Slot) → ℕ → Port → ℕ
next_at ts m p = (far_at ts (record { node = m; port = p })).node

-- the table has a row for each node with the distances to it
abbrev pub distance_at : List (List ℕ) → ℕ → ℕ → ℕ
distance_at ds m n = slice_index (slice_index_or ds n []) m

-- a port of m leads one nearer to n
abbrev pub leads : List (Option Slot) → List (List ℕ) → ℕ → ℕ → Port → Bool
leads ts ds m n p = distance_at ds (next_at ts m p) n + 1 == distance_at ds m n

abbrev pub wish_at : List (Option Slot) → List (List ℕ) → ℕ → ℕ → Option Port
wish_at ts ds m n = first (leads ts ds m n)

abbrev pub cabled_plan : ℕ → List (Option Slot) → List (List ℕ) → ℕ → Plan
cabled_plan k ts ds r = record {
  nodes = k;
  far = λ n p. cond (nat_lt n k) (far_at ts (record { node = n; port = p })) (record { node = n; port = p });
  distance = λ m n. cond (both k m n) (distance_at ds m n) 0;
  wish = λ m n. cond (both k m n) (wish_at ts ds m n) None;
  reach = r;
}

-- each port of the k nodes leads to one of them, and that port leads back
abbrev pub Paired : ℕ → List (Option Slot) → Type 0
Paired k ts = (s : Slot) → s.node < k → ((far_at ts s).node < k) × (far_at ts (far_at ts s) ≡ s)

-- each distance of the k nodes is at most r
abbrev pub Within : ℕ → List (List ℕ) → ℕ → Type 0
Within k ds r = (m n : ℕ) → (m < k) × (n < k) → distance_at ds m n ≤ r

-- a node has distance 0 to itself, and to any other of the k nodes a port leads one nearer
abbrev pub Nearing : ℕ → List (Option Slot) → List (List ℕ) → Type 0
Nearing k ts ds = (m n : ℕ) → (m < k) × (n < k) → cond (m == n) (distance_at ds m n == 0) (is_some (wish_at ts ds m n)) ≡ true

-- the distances between all k nodes are the fewest steps, and r is the greatest of them
pub record Measured (k : ℕ) (ts : List (Option Slot)) (ds : List (List ℕ)) (r : ℕ) : Type 0 where
  pub exact : (m n : ℕ) → (m < k) × (n < k) → Steps (next_at ts) n m (distance_at ds m n)
  pub within : Within k ds r
  pub met : (m n : ℕ) × (m < k) × (n < k) × (distance_at ds m n ≡ r)

-- a port of the k nodes is without a cable
abbrev pub Free : ℕ → List (Option Slot) → Slot → Type 0
Free k ts s = (s.node < k) × (end_at ts s ≡ None)

-- the cable has two ends, both at free ports
abbrev pub Fits : ℕ → List (Option Slot) → Cable → Type 0
Fits k ts c = (c.one ≢ c.other) × Free k ts c.one × Free k ts c.other

-- one cable more
abbrev pub plugged : List (Option Slot) → Cable → List (Option Slot)
plugged ts c = slice_set (slice_set ts (slot_number c.one) (Some c.other)) (slot_number c.other) (Some c.one)

-- the table has the first n of the cables, which are good, and no others
pub record Wired (k n : ℕ) (cs : List Cable) (ts : List (Option Slot)) : Type 0 where
  pub good : AllGood k cs n
  pub has : (s t : Slot) → Joined cs n s t → end_at ts s ≡ Some t
  pub only : (s t : Slot) → s.node < 64 → end_at ts s ≡ Some t → Joined cs n s t

-- a wiring of so many nodes, with the table ts, is one of k nodes with the first n of the cables
pub record Plugged (k n : ℕ) (cs : List Cable) (nodes : ℕ) (ts : List (Option Slot)) : Type 0 where
  pub same : nodes ≡ k
  pub wired : Wired nodes n cs ts

-- the refusal names the first cable that is not good
pub record NamesBad (k : ℕ) (cs : List Cable) (e : Refusal) : Type 0 where
  pub place : ℕ
  pub named : e ≡ bad_cable place
  pub there : place < length cs
  pub before : AllGood k cs place
  pub bad : Good k cs place → ⊥
