-- What a call answers: its value, or a refusal.
use Rattle.std.specs.Prelude.{ℕ, Bool, cond, List, [], ◌∷◌}

pub data Verdict (A : Type 0) : Type 0 where
  granted : A → Verdict A
  -- by its number, with what it names: a cable or a node, or nothing
  refused : ℕ → List ℕ → Verdict A

-- of the numbers with their conditions, the first whose condition holds refuses
abbrev pub judged : {A : Type 0} → List (ℕ × Bool) → A → Verdict A
judged [] a = granted a
judged (r ∷ rs) a = cond r.1 (refused r.0 []) (judged rs a)

-- a verdict seen through what its value means
abbrev pub granting : {A B : Type 0} → (A → B) → Verdict A → Verdict B
granting f (granted a) = granted (f a)
granting f (refused k vs) = refused k vs

-- the value that is granted, or another where it is refused
abbrev pub value_or : {A : Type 0} → A → Verdict A → A
value_or a (granted b) = b
value_or a (refused k vs) = a
