-- What decimal writes: digits, without a leading zero.
use Rattle.std.proofs.Common.{◌≡◌, ℕ, ◌+◌, ◌-◌, ◌*◌, ◌^◌, ◌<◌, ◌≤◌, ◌⊎◌, List, length, get_or, take, decimal, sym, ap, ◌∙◌, subst, ⊎_elim, pow-suc, add-one, arith, Ok, Err, Result, MatchResult}
use Rattle.std.specs.Result.{OkIff}
use Rattle.std.specs.Str.Parse.{digits_value, AllDigits}
use Rattle.std.specs.Char.{digit_value}
use Rattle.std.proofs.lemmas.Int.Digits.{digits_value_more, digits_more}
use Rattle.std.proofs.lemmas.Str.Parse.{IsNumeralModel, numerals_by_value, tells_digits, digit_at}
use Rattle.std.proofs.lemmas.Fmt.{digits_decimal, digits_value-decimal, decimal_nonempty, length-decimal-le, first_decimal, decimal_digit, decimal-digits_value}
use Rattle.std.proofs.lemmas.Str.{digit_value_digit}
use Rattle.std.proofs.lemmas.Bool.{cases_lt}
use Rattle.text.specs.Fields.{Unwritten}

pub own : IsNumeralModel (AllDigits 10) (digits_value 10)
own = numerals_by_value (AllDigits 10) tells_digits

-- the word ds writes n
pub record Writes (ds : List ℕ) (n : ℕ) : Type 0 where
  pub digits : AllDigits 10 ds
  pub same : digits_value 10 ds ≡ n
  pub some : 0 < length ds
  pub short : length ds ≤ 10
  pub first : get_or ds 0 0 ≡ 48 → length ds ≡ 1

leads : (n : ℕ) → n < 2 ^ 32 → get_or (decimal n) 0 0 ≡ 48 → length (decimal n) ≡ 1
leads n h e =
    ⊎_elim
    (λ k. absurd (let z : ⊥ = omega (arith, first_decimal n k (omega arith)) in z))
    (λ k. ap length (ap decimal (let z : n ≡ 0 = omega arith in z) ∙ decimal_digit 0 (omega arith)))
    (cases_lt 0 n)

pub writes : (n : ℕ) → n < 2 ^ 32 → Writes (decimal n) n
writes n h =
    record {
      digits = digits_decimal own n (omega arith);
      same = digits_value-decimal own n (omega arith);
      some = decimal_nonempty n (omega arith);
      short = length-decimal-le 10 n (omega arith) (omega arith) (omega arith);
      first = leads n h;
    }

-- a word that no number writes
pub unwritten : (ds : List ℕ) → ((n : ℕ) → n < 2 ^ 32 → Writes ds n → ⊥) → Unwritten ds
unwritten ds f n h e = f n h (subst (λ x. Writes x n) (sym e) (writes n h))

-- a word that writes its value
pub written : (ds : List ℕ) → AllDigits 10 ds → 0 < length ds → (get_or ds 0 0 ≡ 48 → length ds ≡ 1) → digits_value 10 ds < 2 ^ 64 → ds ≡ decimal (digits_value 10 ds)
written ds d s f v = sym (decimal-digits_value own ds d s f v)

digit_of : (c : ℕ) → 48 ≤ c → c ≤ 57 → c - 48 ≡ digit_value c
digit_of c a b = let h = digit_value_digit c (a, b) in omega arith

-- one digit more
pub value_step : (ds : List ℕ) (i n : ℕ) → i < length ds → 48 ≤ get_or ds i 0 → get_or ds i 0 ≤ 57 → n ≡ digits_value 10 (take i ds) → n * 10 + (get_or ds i 0 - 48) ≡ digits_value 10 (take (i + 1) ds)
value_step ds i n l a b e = ap (λ x. x * 10 + (get_or ds i 0 - 48)) e ∙ ap (λ x. digits_value 10 (take i ds) * 10 + x) (digit_of (get_or ds i 0) a b) ∙ sym (digits_value_more 10 ds i l)

pub digits_step : (ds : List ℕ) (i : ℕ) → i < length ds → 48 ≤ get_or ds i 0 → get_or ds i 0 ≤ 57 → AllDigits 10 (take i ds) → AllDigits 10 (take (i + 1) ds)
digits_step ds i l a b h = digits_more 10 ds i l h (let e = digit_of (get_or ds i 0) a b in omega arith)

pub power_step : (n i d : ℕ) → n < 10 ^ i → d ≤ 9 → n * 10 + d < 10 ^ (i + 1)
power_step n i d h k = rw (add-one, pow-suc) (omega arith)

-- where a byte is no digit
pub no_digit : (ds : List ℕ) (i : ℕ) → i < length ds → (get_or ds i 0 < 48) ⊎ (57 < get_or ds i 0) → (n : ℕ) → n < 2 ^ 32 → Writes ds n → ⊥
no_digit ds i l o n h w = let k = digit_at ds i w.digits l in omega (arith, k.0, k.1)

-- what the value of a word's digits is as a number of 32 bits
pub judged : {E : Type 0} (ds : List ℕ) (n : ℕ) (r : Result ℕ E) → n ≡ digits_value 10 ds → ds ≡ decimal n → OkIff r (n < 2 ^ 32) n → MatchResult r (λ m. ds ≡ decimal m) (λ e. Unwritten ds)
judged ds n (Ok m) v d g = d ∙ ap decimal (sym g.1)
judged ds n (Err e) v d g = unwritten ds (λ m h w. g (omega (arith, w.same)))
