-- The fields that are left of a line, and what reading them as a line of some kind answers.
use Rattle.std.specs.Prelude.{◌≡◌, ℕ, ◌^◌, ◌<◌, List, [], ◌∷◌, ◌++◌, map, decimal, Option, Result, MatchResult, ◌≢◌}
use Rattle.std.specs.Borrow.{Bor}
use Rattle.std.specs.List.{AllByRecursion}
use Rattle.std.specs.Option.{option_map_or}
use Rattle.text.specs.Texts.{Field, Fits, shown, parted}
use Rattle.text.specs.Faults.{told, ill_formed}
use Rattle.text.specs.declared.fault.Fault.{Fault}
use Rattle.text.specs.declared.field.Fields.{Fields}

-- the parts of what is left of a line
abbrev pub left : Option (Bor (List ℕ)) → List (List ℕ)
left r = option_map_or (λ x. parted 32 x.now) r []

-- the fields that are left, as they stand
abbrev pub words : Fields → List (List ℕ)
words f = left f.rest

-- which line they are of, counted from 1
abbrev pub line_number : Fields → ℕ
line_number f = f.line

-- a word that no number of 32 bits writes
abbrev pub Unwritten : List ℕ → Type 0
Unwritten w = (n : ℕ) → n < 2 ^ 32 → w ≢ decimal n

-- the number that a word of line k writes, or that none writes it
abbrev pub ReadsNumber : List ℕ → ℕ → Result ℕ Fault → Type 0
ReadsNumber w k r = MatchResult r (λ n. w ≡ decimal n) (λ f. (told f ≡ ill_formed k) × Unwritten w)

-- the next word, which is taken off; or none is left, and nothing changes
abbrev pub NextWord : Fields → Fields → Result (Bor (List ℕ)) Fault → Type 0
NextWord old new r =
    MatchResult r
    (λ w. words old ≡ w.now ∷ words new)
    (λ f. (told f ≡ ill_formed (line_number old)) × (words old ≡ []) × (new ≡ old))

-- no field is left, or one too many
abbrev pub AtEnd : Fields → Result (Unit {0}) Fault → Type 0
AtEnd x r = MatchResult r (λ _. words x ≡ []) (λ f. (told f ≡ ill_formed (line_number x)) × (words x ≢ []))

-- no value that P holds of has the words
abbrev pub Unlike : {A : Type 0} → (A → List Field) → (A → Type 0) → List (List ℕ) → Type 0
Unlike {A} line P ws = (x : A) → AllByRecursion Fits (line x) → P x → ws ≢ map shown (line x)

-- the words ws of line k are those of the value, or of no value that P holds of
abbrev pub Reads : {A : Type 0} → (A → List Field) → (A → Type 0) → List (List ℕ) → ℕ → Result A Fault → Type 0
Reads {A} line P ws k r = MatchResult r (λ x. (ws ≡ map shown (line x)) × AllByRecursion Fits (line x) × P x) (λ f. (told f ≡ ill_formed k) × Unlike line P ws)

-- the words begin with those of the value, and the new ones follow; or with those of no value that P holds of. The line stays
abbrev pub Begins : {A : Type 0} → (A → List Field) → (A → Type 0) → Fields → Fields → Result A Fault → Type 0
Begins {A} part P old new r =
    MatchResult r
    (λ x. (words old ≡ map shown (part x) ++ words new) × AllByRecursion Fits (part x) × P x)
    (λ f. (told f ≡ ill_formed (line_number old)) × ((x : A) (vs : List (List ℕ)) → AllByRecursion Fits (part x) → P x → words old ≢ map shown (part x) ++ vs))
    × (line_number new ≡ line_number old)
