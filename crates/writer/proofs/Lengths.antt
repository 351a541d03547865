-- How long the lines of a listing are at most.
use Rattle.std.proofs.Common.{ℕ, ◌*◌, ◌/◌, ◌^◌, ◌<◌, ◌≤◌, List, [], ◌∷◌, map, length, IfSome, Some, None, codes, Option, arith}
use Rattle.std.specs.List.{AllByRecursion}
use Rattle.std.proofs.lemmas.Fmt.{length-decimal-le}
use Rattle.text.specs.Texts.{word, number, figures, written}
use Rattle.writer.specs.Listings.{event_line, done_line, no_line, end_line, mean_word}
use Rattle.writer.specs.Steps.{bytes_taken}
use Rattle.writer.proofs.Written.{digits_ten, length_mean, length_written}

pub length_event : (c t k n : ℕ) (kind : List ℕ) → c < 65536 → length kind ≤ 3 → t < 1000 → k < 10 → n < 100 → length (written (event_line c kind t k n)) ≤ 20
length_event c t k n kind hc hw ht hk hn =
    omega (
      arith,
      length_written (number c) (word kind ∷ number t ∷ number k ∷ number n ∷ []),
      length-decimal-le 5 c (omega arith) (omega arith) (omega arith),
      length-decimal-le 3 t (omega arith) (omega arith) (omega arith),
      length-decimal-le 1 k (omega arith) (omega arith) (omega arith),
      length-decimal-le 2 n (omega arith) (omega arith) (omega arith),
    )

pub length_no : (c r n o : ℕ) → c < 2 ^ 32 → r < 1000 → n < 2 ^ 32 → o < 2 ^ 32 → length (written (no_line c r n o)) ≤ 60
length_no c r n o hc hr hn ho =
    omega (
      arith,
      length_written (number c) (word (codes "no") ∷ number r ∷ number n ∷ number o ∷ []),
      length-decimal-le 3 r (omega arith) (omega arith) (omega arith),
      digits_ten c hc,
      digits_ten n hn,
      digits_ten o ho,
    )

taken_words : (ws : List ℕ) → AllByRecursion (λ w. w < 2 ^ 32) ws → bytes_taken (figures ws) ≤ 11 * length ws
taken_words [] h = omega arith
taken_words (w ∷ ws) h = let a = taken_words ws h.1 in let b = digits_ten w h.0 in omega arith

pub length_done : (c t : ℕ) (ws : List ℕ) → c < 65536 → t < 1000 → length ws ≤ 4 → AllByRecursion (λ w. w < 2 ^ 32) ws → length (written (done_line c t ws)) ≤ 60
length_done c t ws hc ht l h =
    omega (
      arith,
      length_written (number c) (word (codes "done") ∷ number t ∷ map number ws),
      length-decimal-le 5 c (omega arith) (omega arith) (omega arith),
      length-decimal-le 3 t (omega arith) (omega arith) (omega arith),
      taken_words ws h,
    )

-- the last line has at most 64 bytes
pub length_end : (a b : ℕ) (m : Option ℕ) → a < 2 ^ 32 → b < 2 ^ 32 → IfSome m (λ t. t < 2 ^ 32) → length (written (end_line a b m)) ≤ 64
length_end a b m ha hb hm = omega (arith, length_written (word (codes "end")) (number a ∷ number b ∷ word (mean_word m) ∷ []), digits_ten a ha, digits_ten b hb, length_mean_le m hm)
  where
    length_mean_le : (m : Option ℕ) → IfSome m (λ t. t < 2 ^ 32) → length (mean_word m) ≤ 12
    length_mean_le None h = omega arith
    length_mean_le (Some t) h = omega (arith, length_mean t, digits_ten (t / 10) (omega arith))
