-- Refusals by their numbers, with what they name.
use Rattle.std.specs.Prelude.{ℕ, List, [], ◌∷◌, Ok, Err, Result}
use Rattle.fabric.specs.declared.refusal.Refusal.{Refusal}
use Rattle.fabric.specs.declared.refusal.Refusal.TheVariants.{Limits, Epoch, Seed, Missing, Destination, Words, NotFree, NotComplete, Memory, Cycles, Room, Nodes, Cable, Unreached, Length, Form, Count, Full}
use Rattle.fabric.specs.Verdicts.{Verdict}
use Rattle.fabric.specs.Verdicts.Verdict.{granted, refused}

-- a refusal's number, and what it names: 13 a cable by its place, 14 a node
abbrev pub numbered : Refusal → ℕ × List ℕ
numbered Limits = (1, [])
numbered Epoch = (2, [])
numbered Seed = (3, [])
numbered Missing = (4, [])
numbered Destination = (5, [])
numbered Words = (6, [])
numbered NotFree = (7, [])
numbered NotComplete = (8, [])
numbered Memory = (9, [])
numbered Cycles = (10, [])
numbered Room = (11, [])
numbered Nodes = (12, [])
numbered (Cable i) = (13, i ∷ [])
numbered (Unreached n) = (14, n ∷ [])
numbered Length = (15, [])
numbered Form = (16, [])
numbered Count = (17, [])
numbered Full = (18, [])

abbrev pub number : Refusal → ℕ
number e = (numbered e).0

-- what the result of a call says
abbrev pub shown : {A : Type 0} → Result A Refusal → Verdict A
shown (Ok a) = granted a
shown (Err e) = refused (numbered e).0 (numbered e).1
