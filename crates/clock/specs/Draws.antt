-- The draw register (an LFSR of 16 bits), from which the switches have their draw bits.
use Rattle.std.specs.Prelude.{ℕ, ◌/◌, ◌%◌, ◌^◌, Bool, cond, List, [], ◌∷◌, ◌==◌, bit_xor}

-- shifted right by one, and combined by exclusive or with B400h if the bit shifted out was 1
abbrev pub shifted : ℕ → ℕ
shifted r = cond (r % 2 == 1) (bit_xor (r / 2) 0xB400) (r / 2)

-- the register after so many shifts from the seed
abbrev pub register : ℕ → ℕ → ℕ
register seed ℕ.zero = seed
register seed (ℕ.suc k) = shifted (register seed k)

abbrev pub bit : ℕ → ℕ → Bool
bit r k = (r / 2 ^ k) % 2 == 1

-- bits 0 to 3
abbrev pub draw_bits : ℕ → List Bool
draw_bits r = bit r 0 ∷ bit r 1 ∷ bit r 2 ∷ bit r 3 ∷ []
