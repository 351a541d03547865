-- A queue over a memory, of which the places are used in turn and round again.
use Rattle.std.specs.Prelude.{◌≡◌, ℕ, ◌+◌, ◌-◌, ◌%◌, ◌<◌, ◌≤◌, Bool, List, [], ◌∷◌, ◌++◌, length, take as front, drop, Option, ◌==◌, slice_get, slice_index_or, slice_set}
use Rattle.fabric.specs.Verdicts.{Verdict, judged}

-- as many values as are held lie in turn from the place `first` on
pub record Queue (A : Type 0) : Type 0 where
  pub memory : List A
  pub first : ℕ
  pub held : ℕ

module _ {A : Type 0} where
  -- nothing is held
  abbrev pub empty : List A → Queue A
  empty ms = record { memory = ms; first = 0; held = 0 }

  -- no more is held than there are places, and the first place exists if any does
  abbrev pub Sound : Queue A → Type 0
  Sound q = (q.held ≤ length q.memory) × (0 < length q.memory → q.first < length q.memory)

  -- the place that lies i places after the first
  abbrev pub place : Queue A → ℕ → ℕ
  place q i = (q.first + i) % length q.memory

  -- what is held, the oldest first
  abbrev pub contents : Queue A → List A
  contents q = front q.held (drop q.first q.memory ++ q.memory)

  -- the same place by place: the value i of what is held lies i places after the first
  pub record InTurn (q : Queue A) : Type 0 where
    pub count : length (contents q) ≡ q.held
    pub each : (i : ℕ) (d : A) → i < q.held → slice_index_or (contents q) i d ≡ slice_index_or q.memory (place q i) d

  abbrev pub oldest : Queue A → Option A
  oldest q = slice_get (contents q) 0

  abbrev pub free_places : Queue A → ℕ
  free_places q = length q.memory - q.held

  -- no place is free
  abbrev pub full : Queue A → Bool
  full q = free_places q == 0

  -- into a queue that is not full: only the next place in turn changes
  abbrev pub put : Queue A → A → Queue A
  put q x = record { memory = slice_set q.memory (place q q.held) x; first = q.first; held = q.held + 1 }

  -- out of a queue that holds something: the memory stays
  abbrev pub take : Queue A → Queue A
  take q = record { memory = q.memory; first = place q 1; held = q.held - 1 }

  -- a put is refused by 18 where no place is free
  abbrev pub put_verdict : Queue A → Verdict (Unit {0})
  put_verdict q = judged ((18, full q) ∷ []) tt
