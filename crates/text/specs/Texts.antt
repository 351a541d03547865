-- How numbers, words and lines are written as bytes.
use Rattle.std.specs.Prelude.{◌≡◌, ℕ, ◌^◌, ◌<◌, List, [], ◌∷◌, ◌++◌, map, decimal, ◌==◌, ◌≢◌}
use Rattle.std.specs.List.{AllByRecursion, flat_map, slice_split}

-- a field of a line: a word as it stands, or a number
pub data Field : Type 0 where
  word : List ℕ → Field
  number : ℕ → Field

-- a number is written in decimal, without leading zeros
abbrev pub shown : Field → List ℕ
shown (word w) = w
shown (number n) = decimal n

-- a number fits 32 bits
abbrev pub Fits : Field → Type 0
Fits (word w) = Unit {0}
Fits (number n) = n < 2 ^ 32

-- numbers as words
abbrev pub figures : List ℕ → List (List ℕ)
figures ns = map shown (map number ns)

-- words, each after a space
abbrev pub after_spaces : List (List ℕ) → List ℕ
after_spaces ws = flat_map (λ v. 32 ∷ v) ws

-- words parted by one space
abbrev pub spaced : List (List ℕ) → List ℕ
spaced [] = []
spaced (w ∷ ws) = w ++ after_spaces ws

-- a line's bytes, and those with the byte 10 that ends it
abbrev pub row : List Field → List ℕ
row fs = spaced (map shown fs)

abbrev pub written : List Field → List ℕ
written fs = row fs ++ 10 ∷ []

-- lines one after another
abbrev pub text : List (List Field) → List ℕ
text ls = flat_map written ls

-- the parts of a text between the places where b stands
abbrev pub parted : ℕ → List ℕ → List (List ℕ)
parted b t = slice_split (λ x. x == b) t

-- b does not stand in w
abbrev pub Free : ℕ → List ℕ → Type 0
Free b w = AllByRecursion (λ x. x ≢ b) w

-- the text begins with a line, of which these are the words, and `more` follows it
abbrev pub Lined : List ℕ → List (List ℕ) → List ℕ → Type 0
Lined t ws more = (l : List ℕ) × (t ≡ l ++ 10 ∷ more) × Free 10 l × (ws ≡ parted 32 l)

-- for kinds of lines that are bound by nothing but their form
abbrev pub Any : {X : Type 0} → X → Type 0
Any x = Unit {0}
