-- The lines of a listing, and what a writer has written.
use Rattle.std.specs.Prelude.{◌≡◌, ℕ, ◌/◌, ◌%◌, ◌<◌, ◌≤◌, List, [], ◌∷◌, ◌++◌, map, length, take, drop, Some, None, codes, decimal, Option}
use Rattle.fabric.specs.Verdicts.{Verdict}
use Rattle.fabric.specs.Verdicts.Verdict.{granted, refused}
use Rattle.text.specs.Texts.{Field, word, number, written}
use Rattle.writer.specs.declared.writer.Writer.{Writer}

-- a line that begins with its cycle and a word, and goes on in numbers
abbrev pub stamped_line : ℕ → List ℕ → List ℕ → List Field
stamped_line c kind ns = number c ∷ word kind ∷ map number ns

-- a flit that enters or is taken off: cycle, kind, ticket, flit number and node
abbrev pub event_line : ℕ → List ℕ → ℕ → ℕ → ℕ → List Field
event_line c kind t k n = stamped_line c kind (t ∷ k ∷ n ∷ [])

-- a packet that is collected
abbrev pub done_line : ℕ → ℕ → List ℕ → List Field
done_line c t ws = stamped_line c (codes "done") (t ∷ ws)

-- a packet that is refused by r
abbrev pub no_line : ℕ → ℕ → ℕ → ℕ → List Field
no_line c r n o = stamped_line c (codes "no") (r ∷ n ∷ o ∷ [])

-- a mean in tenths, or none
abbrev pub mean_word : Option ℕ → List ℕ
mean_word None = codes "-"
mean_word (Some t) = decimal (t / 10) ++ codes "." ++ decimal (t % 10)

-- flits entered, flits taken off, and their mean
abbrev pub end_line : ℕ → ℕ → Option ℕ → List Field
end_line a b m = word (codes "end") ∷ number a ∷ number b ∷ word (mean_word m) ∷ []

-- what is written, and the memory beyond it
abbrev pub listed : Writer → List ℕ
listed w = take w.len w.memory.now

abbrev pub beyond : Writer → List ℕ
beyond w = drop w.len w.memory.now

-- both stand in the same memory of the caller
abbrev pub SameLender : Writer → Writer → Type 0
SameLender w w' = w'.memory.ghost_name ≡ w.memory.ghost_name

-- bs is written at the end, and nothing beyond it
pub record Appends (w : Writer) (bs : List ℕ) (w' : Writer) : Type 0 where
  pub listed : listed w' ≡ listed w ++ bs
  pub beyond : beyond w' ≡ drop (length bs) (beyond w)

-- the line is written, or there is no room for it and nothing changes
pub data LineOut (w : Writer) (line : List Field) : Writer → Verdict (Unit {0}) → Type 0 where
  added : {w' : Writer} → length (written line) ≤ length (beyond w) → Appends w (written line) w' → LineOut w line w' (granted tt)
  short : length (beyond w) < length (written line) → LineOut w line w (refused 9 [])
