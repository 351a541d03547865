-- The steps in which a line is written, and the room that they take.
use Rattle.std.specs.Prelude.{◌≡◌, ℕ, ◌+◌, ◌<◌, List, [], ◌∷◌, length, Option, MatchOption}
use Rattle.writer.specs.Listings.{beyond, SameLender, Appends}
use Rattle.writer.specs.declared.writer.Writer.{Writer}

-- how many bytes words take, each with one that parts it from the next or ends the line
abbrev pub bytes_taken : List (List ℕ) → ℕ
bytes_taken [] = 0
bytes_taken (w ∷ ws) = 1 + length w + bytes_taken ws

-- what is left of the room once so many bytes are taken, if it has them
abbrev pub Leaves : ℕ → ℕ → Option ℕ → Type 0
Leaves room taken r = MatchOption r (room < taken) (λ left. left + taken ≡ room)

-- a step writes bs, in the same memory
pub record Puts (w : Writer) (bs : List ℕ) (w' : Writer) : Type 0 where
  pub appends : Appends w bs w'
  pub lender : SameLender w w'
  pub room : length (beyond w) ≡ length bs + length (beyond w')
