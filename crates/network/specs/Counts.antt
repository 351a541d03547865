-- How often things happened.
use Rattle.std.specs.Prelude.{ℕ, ◌+◌, [], ◌∷◌}
use Rattle.network.specs.Log.{Log}
use Rattle.network.specs.Log.Happening.{offered, entered, off, collected}

-- how many offers were accepted
abbrev pub offers : Log → ℕ
offers [] = 0
offers (offered t p ∷ l) = offers l + 1
offers (entered f n ∷ l) = offers l
offers (off f n c ∷ l) = offers l
offers (collected t r ws ∷ l) = offers l

-- how many flits entered
abbrev pub entries : Log → ℕ
entries [] = 0
entries (offered t p ∷ l) = entries l
entries (entered f n ∷ l) = entries l + 1
entries (off f n c ∷ l) = entries l
entries (collected t r ws ∷ l) = entries l

-- how many packets were collected
abbrev pub collections : Log → ℕ
collections [] = 0
collections (offered t p ∷ l) = collections l
collections (entered f n ∷ l) = collections l
collections (off f n c ∷ l) = collections l
collections (collected t r ws ∷ l) = collections l + 1
