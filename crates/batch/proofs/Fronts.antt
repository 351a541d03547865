-- A list whose first value has left.
use Rattle.std.proofs.Common.{◌≡◌, ℕ, ◌+◌, ◌-◌, ◌≤◌, ◌<◌, List, ◌++◌, length, take, drop, sym, ap, ◌∙◌, arith, length-drop}
use Rattle.std.proofs.lemmas.List.{take-append-le, drop-take}
use Rattle.std.specs.Prelude.{Some, slice_get}

-- after a turn to the left, the places before the last that was filled hold the other values
pub front_leaves : {T : Type 0} (xs : List T) (n : ℕ) → 0 < n → n ≤ length xs → take (n - 1) (drop 1 xs ++ take 1 xs) ≡ drop 1 (take n xs)
front_leaves xs n p l =
    let e : 1 + (n - 1) ≡ n = omega arith in
    take-append-le (n - 1) (drop 1 xs) (take 1 xs) (omega (arith, length-drop 1 xs))
    ∙ sym (drop-take 1 (n - 1) xs)
    ∙ ap (λ k. drop 1 (take k xs)) e

-- a batch with a first value holds one
pub some_held : {T : Type 0} (xs : List T) (n : ℕ) (x : T) → slice_get (take n xs) 0 ≡ Some x → 0 < n
some_held xs ℕ.zero x e = cc
some_held xs (ℕ.suc n) x e = omega arith
