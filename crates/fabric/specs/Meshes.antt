-- A mesh of w columns and h rows: node y * w + x is in column x and row y, and row 0 is the northmost.
use Rattle.std.specs.Prelude.{ℕ, ◌+◌, ◌-◌, ◌*◌, ◌/◌, ◌%◌, ◌<◌, ◌≤◌, cond, ◌||◌, [], ◌∷◌, Some, None, Option, ◌==◌, nat_lt}
use Rattle.std.specs.Int.{abs_diff}
use Rattle.fabric.specs.declared.parts.Port.{Port}
use Rattle.fabric.specs.declared.parts.Port.TheVariants.{N, E, S, W}
use Rattle.fabric.specs.declared.parts.Slot.{Slot}
use Rattle.fabric.specs.Layouts.{Plan, both}
use Rattle.fabric.specs.Verdicts.{Verdict, judged}

-- the widths and heights that a mesh may have
abbrev pub Fair : ℕ → ℕ → Type 0
Fair w h = (0 < w) × (0 < h) × (w * h ≤ 64)

-- a slot of the node in column x and row y
abbrev pub spot : ℕ → ℕ → ℕ → Port → Slot
spot w x y p = record { node = y * w + x; port = p }

-- where a port of the node in column x and row y leads: to the next node's slot on the other side, and at the rim to its own slot
abbrev pub across : ℕ → ℕ → ℕ → ℕ → Port → Slot
across w h x y N = cond (nat_lt 0 y) (spot w x (y - 1) S) (spot w x y N)
across w h x y E = cond (nat_lt (x + 1) w) (spot w (x + 1) y W) (spot w x y E)
across w h x y S = cond (nat_lt (y + 1) h) (spot w x (y + 1) N) (spot w x y S)
across w h x y W = cond (nat_lt 0 x) (spot w (x - 1) y E) (spot w x y W)

-- E or W while the columns differ, then N or S, from column x and row y to column u and row v
abbrev pub towards : ℕ → ℕ → ℕ → ℕ → Option Port
towards x y u v = cond (nat_lt x u) (Some E) (cond (nat_lt u x) (Some W) (cond (nat_lt y v) (Some S) (cond (nat_lt v y) (Some N) None)))

abbrev pub mesh_plan : ℕ → ℕ → Plan
mesh_plan w h = record {
  nodes = w * h;
  far = λ n p. cond (nat_lt n (w * h)) (across w h (n % w) (n / w) p) (record { node = n; port = p });
  distance = λ m n. cond (both (w * h) m n) (abs_diff (m % w) (n % w) + abs_diff (m / w) (n / w)) 0;
  wish = λ m n. cond (both (w * h) m n) (towards (m % w) (m / w) (n % w) (n / w)) None;
  reach = w + h - 2;
}

-- refused by 12 where a side is 0 or there are more than 64 nodes
abbrev pub mesh_verdict : ℕ → ℕ → Verdict Plan
mesh_verdict w h = judged ((12, (w == 0) || h == 0 || nat_lt 64 (w * h)) ∷ []) (mesh_plan w h)
