-- What a queue holds, place by place, after a put, and after a take.
use Rattle.std.proofs.Common.{◌≡◌, ℕ, zero, suc, ◌+◌, ◌-◌, ◌%◌, ◌<◌, ◌≤◌, List, [], ◌∷◌, ◌++◌, length, get_or, take as front, drop, set, sym, refl, ap, ◌∙◌, ⊎_elim, mod-eq_of_lt, arith}
use native.Mathlib.Nat.{mod-eq-sub-mod}
use Rattle.std.proofs.lemmas.List.{length-drop, length-set, length-append, length-take-le, drop-set-add, drop-set-lt, take-append-le, take_more_set, set-append_right, drop_more, drop_all, get_or-take, get_or-drop, get_or_append_left, get_or-append_right}
use Rattle.std.proofs.lemmas.Bool.{cases_lt}
use Rattle.line.specs.Queues.{Queue, Sound, InTurn, contents, put, take}

-- n places after the place f of c places: before the end, and round it
pub ahead : (f n c : ℕ) → f + n < c → (f + n) % c ≡ f + n
ahead f n c h = mod-eq_of_lt h

pub around : (f n c : ℕ) → f < c → n ≤ c → c ≤ f + n → (f + n) % c ≡ f + n - c
around f n c h k l = mod-eq-sub-mod l ∙ mod-eq_of_lt (omega arith)

-- n values from the place f on, and round
abbrev laid : {A : Type 0} → List A → ℕ → ℕ → List A
laid ms f n = front n (drop f ms ++ ms)

laid_length : {A : Type 0} (ms : List A) (f n : ℕ) → n ≤ length ms → length (laid ms f n) ≡ n
laid_length ms f n h = length-take-le n (drop f ms ++ ms) (omega (arith, length-append (drop f ms) ms))

module _ {A : Type 0} (ms : List A) (f : ℕ) (l : f < length ms) where
  laid_each : (n i : ℕ) (d : A) → i < n → n ≤ length ms → get_or (laid ms f n) i d ≡ get_or ms ((f + i) % length ms) d
  laid_each n i d h k =
      get_or-take n (drop f ms ++ ms) i d h
      ∙ ⊎_elim
      (λ j.
      get_or_append_left (drop f ms) ms d i (omega (arith, length-drop f ms))
      ∙ get_or-drop f ms i d
      ∙ ap (λ p. get_or ms p d) (sym (ahead f i (length ms) j)))
      (λ j.
      let e : i - (length ms - f) ≡ f + i - length ms = omega arith in
      get_or-append_right (drop f ms) ms (length ms - f) i d (length-drop f ms) (omega arith)
      ∙ ap (λ p. get_or ms p d) (e ∙ sym (around f i (length ms) l (omega arith) j)))
      (cases_lt (f + i) (length ms))

  -- a value more: before the memory's end, and round it
  put_ahead : (n : ℕ) (x : A) → f + n < length ms → laid (set ms (f + n) x) f (n + 1) ≡ laid ms f n ++ x ∷ []
  put_ahead n x h =
      ap (λ d. front (n + 1) (d ++ set ms (f + n) x)) (drop-set-add f ms n x)
      ∙ take-append-le (n + 1) (set (drop f ms) n x) (set ms (f + n) x) (omega (arith, length-drop f ms, length-set (drop f ms) n x))
      ∙ take_more_set (drop f ms) n x (omega (arith, length-drop f ms))
      ∙ ap (λ d. d ++ x ∷ []) (sym (take-append-le n (drop f ms) ms (omega (arith, length-drop f ms))))

  put_around : (n : ℕ) (x : A) → n < length ms → length ms ≤ f + n → laid (set ms (f + n - length ms) x) f (n + 1) ≡ laid ms f n ++ x ∷ []
  put_around n x h k =
      let e : f + n - length ms ≡ n - length (drop f ms) = omega (arith, length-drop f ms) in
      ap (λ d. front (n + 1) (d ++ set ms (f + n - length ms) x)) (drop-set-lt f ms (f + n - length ms) x (omega arith))
      ∙ ap (λ i. front (n + 1) (drop f ms ++ set ms i x)) e
      ∙ ap (front (n + 1)) (sym (set-append_right (drop f ms) ms (length (drop f ms)) n x refl (omega (arith, length-drop f ms))))
      ∙ take_more_set (drop f ms ++ ms) n x (omega (arith, length-drop f ms, length-append (drop f ms) ms))

  laid_put : (n : ℕ) (x : A) → n < length ms → laid (set ms ((f + n) % length ms) x) f (n + 1) ≡ laid ms f n ++ x ∷ []
  laid_put n x h =
      ⊎_elim
      (λ k. ap (λ i. laid (set ms i x) f (n + 1)) (ahead f n (length ms) k) ∙ put_ahead n x k)
      (λ k. ap (λ i. laid (set ms i x) f (n + 1)) (around f n (length ms) l (omega arith) k) ∙ put_around n x h k)
      (cases_lt (f + n) (length ms))

  -- n values from the place after f on
  laid_next : (n : ℕ) → n < length ms → front n (drop (f + 1) ms ++ ms) ≡ laid ms ((f + 1) % length ms) n
  laid_next n h =
      ⊎_elim
      (λ k. ap (λ i. laid ms i n) (sym (ahead f 1 (length ms) k)))
      (λ k.
      let e : f + 1 - length ms ≡ 0 = omega arith in
      ap (λ d. front n (d ++ ms)) (drop_all (f + 1) ms k)
      ∙ sym (take-append-le n ms ms (omega arith))
      ∙ ap (λ i. laid ms i n) (sym (around f 1 (length ms) l (omega arith) k ∙ e)))
      (cases_lt (f + 1) (length ms))

  laid_take : (n : ℕ) (d : A) → 0 < n → n ≤ length ms → laid ms f n ≡ get_or ms f d ∷ laid ms ((f + 1) % length ms) (n - 1)
  laid_take zero d p h = absurd (let z : ⊥ = omega arith in z)
  laid_take (suc n) d p h =
      let e : n ≡ suc n - 1 = omega arith in
      ap (λ r. front (suc n) (r ++ ms)) (drop_more ms f d l)
      ∙ ap (λ r. get_or ms f d ∷ r) (laid_next n (omega arith))
      ∙ ap (λ k. get_or ms f d ∷ laid ms ((f + 1) % length ms) k) e

pub nothing_held : {A : Type 0} (q : Queue A) → q.held ≡ 0 → contents q ≡ []
nothing_held q e = ap (laid q.memory q.first) e

module _ {A : Type 0} (q : Queue A) (s : Sound q) where
  pub in_turn : InTurn q
  in_turn = record {
    count = laid_length q.memory q.first q.held s.0;
    each = λ i d h. laid_each q.memory q.first (s.1 (omega arith)) q.held i d h s.0;
  }

  pub put_contents : (x : A) → q.held < length q.memory → contents (put q x) ≡ contents q ++ x ∷ []
  put_contents x h = laid_put q.memory q.first (s.1 (omega arith)) q.held x h

  pub take_contents : (d : A) → 0 < q.held → contents q ≡ get_or q.memory q.first d ∷ contents (take q)
  take_contents d h = laid_take q.memory q.first (s.1 (omega arith)) q.held d h s.0
