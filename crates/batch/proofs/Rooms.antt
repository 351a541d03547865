-- How a batch with room takes one more.
use Rattle.std.proofs.Common.{◌≡◌, ℕ, ◌<◌, List, [], ◌∷◌, ◌++◌, length}
use Rattle.std.proofs.lemmas.Bool.{lt-ltb, cond-true}
use Rattle.std.specs.Prelude.{nat_lt}
use Rattle.batch.specs.Items.{joined}

pub joined_room : {T : Type 0} (n : ℕ) (xs : List T) (x : T) → length xs < n → joined n xs x ≡ xs ++ x ∷ []
joined_room n xs x l = cond-true (nat_lt (length xs) n) _ _ (lt-ltb _ _ l)
