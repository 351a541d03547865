-- Sets of slots or ports.
use Rattle.std.specs.Prelude.{◌≡◌, ℕ, suc, ◌+◌, Bool, true, false, cond, List, slice_index_or, refl}
use Rattle.std.proofs.Common.{ap, arith}
use Rattle.std.proofs.lemmas.Bool.{false≢true}
use Rattle.fabric.specs.declared.parts.Port.{Port}
use Rattle.fabric.specs.declared.parts.Port.TheVariants.{N, E, S, W}
use Rattle.fabric.specs.Ports.{place_of, same}

abbrev pub Sides : Type 0
Sides = Port → Bool

abbrev pub every : Sides
every p = true

-- by four flags in slot order
abbrev pub held : List Bool → Sides
held xs p = slice_index_or xs (place_of p) false

abbrev pub without : Sides → Port → Sides
without xs q p = cond (same p q) false (xs p)

abbrev pub bit : Bool → ℕ
bit true = 1
bit false = 0

abbrev pub size : Sides → ℕ
size xs = bit (xs N) + bit (xs E) + bit (xs S) + bit (xs W)

pub without_has : (xs : Sides) (q p : Port) → without xs q p ≡ true → (same p q ≡ false) × (xs p ≡ true)
without_has xs q p = go (same p q)
  where
    go : (b : Bool) → cond b false (xs p) ≡ true → (b ≡ false) × (xs p ≡ true)
    go true e = absurd (false≢true e)
    go false e = (refl, e)

bit_zero : (b : Bool) → bit b ≡ 0 → b ≡ false
bit_zero true e = absurd (omega arith)
bit_zero false e = refl

pub none_left : (xs : Sides) → size xs ≡ 0 → (p : Port) → xs p ≡ false
none_left xs z N = bit_zero (xs N) (omega arith)
none_left xs z E = bit_zero (xs E) (omega arith)
none_left xs z S = bit_zero (xs S) (omega arith)
none_left xs z W = bit_zero (xs W) (omega arith)

pub one_less : (xs : Sides) (n : ℕ) (p : Port) → xs p ≡ true → size xs ≡ suc n → size (without xs p) ≡ n
one_less xs n N e z = omega (arith, ap bit e)
one_less xs n E e z = omega (arith, ap bit e)
one_less xs n S e z = omega (arith, ap bit e)
one_less xs n W e z = omega (arith, ap bit e)
