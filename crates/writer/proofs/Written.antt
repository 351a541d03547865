-- One text written after another.
use Rattle.std.proofs.Common.{◌≡◌, ℕ, zero, suc, ◌+◌, ◌*◌, ◌/◌, ◌%◌, ◌^◌, ◌<◌, ◌≤◌, true, false, List, [], ◌∷◌, ◌++◌, map, length, get_or, take, drop, is_some, IfSome, IfNone, unwrap_or, Some, None, Err, Result, codes, decimal, Option, sym, refl, ap, ◌∙◌, subst, append_assoc, arith}
use Rattle.std.specs.Option.{ok_or}
use Rattle.std.proofs.Math.Nat.{pow-succ'}
use Rattle.std.proofs.lemmas.Fmt.{decimal_step, decimal_digit, length-decimal-le}
use Rattle.std.proofs.lemmas.List.{append-nil, length-append, length_push, length-drop, drop-drop, take_more, map_push, flat_map_more}
use Rattle.fabric.specs.declared.refusal.Refusal.{Refusal}
use Rattle.fabric.specs.declared.refusal.Refusal.TheVariants.{Memory}
use Rattle.text.specs.Texts.{Field, word, number, shown, figures, after_spaces, row, written}
use Rattle.text.specs.Faults.{layer_word, fault_fields}
use Rattle.text.specs.declared.fault.Layer.{Layer}
use Rattle.writer.specs.Listings.{listed, beyond, Appends, mean_word}
use Rattle.writer.specs.Steps.{Puts, bytes_taken, Leaves}
use Rattle.writer.specs.declared.writer.Writer.{Writer}

pub appends_both : (w v u : Writer) (a b : List ℕ) → Appends w a v → Appends v b u → Appends w (a ++ b) u
appends_both w v u a b f g =
    record {
      listed = g.listed ∙ ap (λ x. x ++ b) f.listed ∙ append_assoc (listed w) a b;
      beyond = g.beyond ∙ ap (drop (length b)) f.beyond ∙ drop-drop (length b) (length a) (beyond w) ∙ ap (λ k. drop k (beyond w)) (sym (length-append a b));
    }

pub puts_both : (w v u : Writer) (a b : List ℕ) → Puts w a v → Puts v b u → Puts w (a ++ b) u
puts_both w v u a b f g =
    record { appends = appends_both w v u a b f.appends g.appends; lender = g.lender ∙ f.lender; room = omega (arith, length-append a b) }

pub at_room : (w : Writer) → 1 ≤ length (beyond w) → w.len < length w.memory.now
at_room w h = omega (arith, length-drop w.len w.memory.now)

-- a number has one digit more than its tenth
pub length_step : (n : ℕ) → 10 ≤ n → n < 2 ^ 32 → length (decimal n) ≡ length (decimal (n / 10)) + 1
length_step n h k = ap length (decimal_step n h (omega arith)) ∙ length_push (decimal (n / 10)) (48 + n % 10)

pub length_digit : (n : ℕ) → n < 10 → length (decimal n) ≡ 1
length_digit n h = ap length (decimal_digit n h)

-- as many as a power of ten that the number reaches, and one more
pub length_power : (k n : ℕ) → 10 ^ k ≤ n → n < 10 * 10 ^ k → n < 2 ^ 32 → length (decimal n) ≡ k + 1
length_power zero n l h m = length_digit n (omega arith)
length_power (suc k) n l h m =
    let e = pow-succ' 10 k in
    let p = one_le_pow k in
    let i = length_power k (n / 10) (omega arith) (omega arith) (omega arith) in
    omega (arith, length_step n (omega arith) m)
  where
    one_le_pow : (k : ℕ) → 1 ≤ 10 ^ k
    one_le_pow zero = omega arith
    one_le_pow (suc k) = let e = pow-succ' 10 k in let i = one_le_pow k in omega arith

pub by_powers : (r : Option ℕ) (n : ℕ) → IfNone r (n ≡ 0) → IfSome r (λ k. 10 ^ k ≤ n) → IfSome r (λ k. n < 10 * 10 ^ k) → n < 2 ^ 32 → length (decimal n) ≡ unwrap_or r 0 + 1
by_powers None n e l h m = length_digit n (omega arith)
by_powers (Some k) n e l h m = length_power k n l h m

-- a number of 32 bits has at most ten digits
pub digits_ten : (n : ℕ) → n < 2 ^ 32 → length (decimal n) ≤ 10
digits_ten n h = length-decimal-le 10 n (omega arith) (omega arith) (omega arith)

-- a mean's last digit and its point
pub length_mean : (t : ℕ) → length (mean_word (Some t)) ≡ length (decimal (t / 10)) + 2
length_mean t =
    omega (arith, length-append (decimal (t / 10) ++ codes ".") (decimal (t % 10)), length-append (decimal (t / 10)) (codes "."), length_digit (t % 10) (omega arith))

-- numbers, each after a space
pub figures_step : (ns : List ℕ) (i : ℕ) → i < length ns → after_spaces (figures (take i ns)) ++ (32 ∷ decimal (get_or ns i 0)) ≡ after_spaces (figures (take (i + 1) ns))
figures_step ns i l =
    flat_map_more (λ v. 32 ∷ v) [] (figures (take i ns)) (decimal (get_or ns i 0))
    ∙ ap after_spaces (figures_push (take i ns) (get_or ns i 0) ∙ ap figures (sym (take_more ns i 0 l)))
  where
    figures_push : (ms : List ℕ) (n : ℕ) → figures ms ++ (decimal n ∷ []) ≡ figures (ms ++ (n ∷ []))
    figures_push ms n = sym (map_push shown (map number ms) (number n)) ∙ ap (map shown) (sym (map_push number ms n))

-- the parts of a line, and its end
pub lined : (w u v x y z : Writer) (a b c d : List ℕ) → Puts w a u → Puts u b v → Puts v c x → Puts x d y → Puts y (10 ∷ []) z →
    Puts w ((a ++ (b ++ (c ++ d))) ++ (10 ∷ [])) z
lined w u v x y z a b c d f g h i j =
    subst (λ s. Puts w s z) (regroup (10 ∷ []))
    (puts_both w y z (((a ++ b) ++ c) ++ d) (10 ∷ [])
    (puts_both w x y ((a ++ b) ++ c) d (puts_both w v x (a ++ b) c (puts_both w u v a b f g) h) i) j)
  where
    regroup : (t : List ℕ) → (((a ++ b) ++ c) ++ d) ++ t ≡ (a ++ (b ++ (c ++ d))) ++ t
    regroup t = simp append_assoc

-- the same where the last part is a field
pub lined_last : (w u v x y z : Writer) (a b c d : List ℕ) → Puts w a u → Puts u b v → Puts v c x → Puts x d y → Puts y (10 ∷ []) z →
    Puts w ((a ++ (b ++ (c ++ (d ++ [])))) ++ (10 ∷ [])) z
lined_last w u v x y z a b c d f g h i j = lined w u v x y z a b c (d ++ []) f g h (subst (λ s. Puts x s y) (sym (append-nil d)) i) j

pub length_after_spaces : (ws : List (List ℕ)) → length (after_spaces ws) ≡ bytes_taken ws
length_after_spaces [] = refl
length_after_spaces (w ∷ ws) = let e = length-append (32 ∷ w) (after_spaces ws) in let h = length_after_spaces ws in omega arith

-- a line's length is that of its fields, each with a byte after it
pub length_written : (f : Field) (fs : List Field) → length (written (f ∷ fs)) ≡ bytes_taken (map shown (f ∷ fs))
length_written f fs =
    let a = length-append (row (f ∷ fs)) (10 ∷ []) in
    let b = length-append (shown f) (after_spaces (map shown fs)) in
    let c = length_after_spaces (map shown fs) in
    omega arith

pub length_fault : (x : ℕ × Layer × ℕ) → length (written (fault_fields x)) ≡ 9 + length (layer_word x.1) + length (decimal x.0) + length (decimal x.2)
length_fault x = omega (arith, length_written (word (codes "fault")) (word (layer_word x.1) ∷ number x.0 ∷ number x.2 ∷ []))

-- one number more
pub taken_more : (ns : List ℕ) (i : ℕ) → i < length ns → bytes_taken (figures (take (i + 1) ns)) ≡ bytes_taken (figures (take i ns)) + (length (decimal (get_or ns i 0)) + 1)
taken_more ns i l =
    let a = length_after_spaces (figures (take (i + 1) ns)) in
    let b = length_after_spaces (figures (take i ns)) in
    omega (arith, ap length (figures_step ns i l), length-append (after_spaces (figures (take i ns))) (32 ∷ decimal (get_or ns i 0)))

-- the numbers that came so far take no more than all
pub taken_first : (ns : List ℕ) (i : ℕ) → bytes_taken (figures (take i ns)) ≤ bytes_taken (figures ns)
taken_first [] i = elim i as (λ k. bytes_taken (figures (take k [])) ≤ 0) [ zero ↦ omega arith | suc k ↦ omega arith ]
taken_first (n ∷ ns) zero = omega arith
taken_first (n ∷ ns) (suc i) = let h = taken_first ns i in omega arith

-- whether the room has so many bytes
pub too_few : {room taken : ℕ} (r : Option ℕ) → is_some r ≡ false → Leaves room taken r → room < taken
too_few None e h = h
too_few (Some x) e h = cc

pub enough : {room taken : ℕ} (r : Option ℕ) → is_some r ≡ true → Leaves room taken r → taken ≤ room
enough None e h = cc
enough (Some x) e h = omega arith

pub no_memory : (r : Option ℕ) (x : Refusal) → ◌≡◌ {A = Result ℕ Refusal} (Err x) (ok_or r Memory) → false ≡ is_some r → x ≡ Memory
no_memory None x e h = cc
no_memory (Some n) x e h = cc
