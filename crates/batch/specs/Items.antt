-- What a batch holds, and what the calls on it make of that.
use Rattle.std.specs.Prelude.{ℕ, List, [], ◌∷◌, ◌++◌, length, take, Ok, Err, Result, nat_lt, if◌then◌else◌}
use Rattle.batch.specs.declared.batch.Batch.{Batch}

-- the values of a batch, in the order in which they were put
abbrev pub items : {T : Type 0} {N : ℕ} → Batch T N → List T
items b = take b.held b.places

-- a batch for n values takes one more while it holds fewer
abbrev pub joined : {T : Type 0} → ℕ → List T → T → List T
joined n xs x = if nat_lt (length xs) n then xs ++ x ∷ [] else xs

abbrev pub put_answer : {T : Type 0} → ℕ → List T → T → Result Unit T
put_answer n xs x = if nat_lt (length xs) n then Ok tt else Err x
