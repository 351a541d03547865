-- What a program that links the library is answered.
use Rattle.std.specs.Prelude.{ℕ, ◌≡◌, List}
use Rattle.fabric.specs.Verdicts.{Verdict, value_or}
use Rattle.runner.specs.Answering.{WrittenOut}

-- the length of the listing, or 0 where none is written
abbrev pub Answered : List ℕ → List ℕ → ℕ → List ℕ → Type 0
Answered text memory n after = (v : Verdict ℕ) × WrittenOut text memory v after × (n ≡ value_or 0 v)
