-- Every run of uses is first in, first out.
use Rattle.std.proofs.Common.{◌≡◌, ◌+◌, ◌<◌, Bool, true, false, cond, eqb, List, [], ◌∷◌, ◌++◌, length, sym, refl, ap, ◌∙◌, append_assoc, append-nil, zero-le, mod-lt, arith}
use Rattle.std.proofs.lemmas.List.{length-set}
use Rattle.std.proofs.lemmas.Bool.{cond_both, eqb-true, eqb-false}
use Rattle.std.specs.Option.{option_to_list}
use Rattle.std.specs.Prelude.{slice_get}
use Rattle.line.specs.Queues.{Queue, Sound, contents, oldest, free_places, full, place, put, take}
use Rattle.line.specs.Runs.{Use, used, goes_in, comes_out, after, taken, FirstOut, Continues}
use Rattle.line.specs.Runs.Use.{puts, takes}
use Rattle.line.proofs.Contents.{nothing_held, put_contents, take_contents}

module _ {A : Type 0} where
  pub sound_used : (q : Queue A) → Sound q → (u : Use A) → Sound (used q u)
  sound_used q s (puts x) =
      cond_both (full q) q (put q x) Sound (λ _. s)
      (λ e.
      let same = length-set q.memory (place q q.held) x in
      (omega (arith, eqb-false (free_places q) 0 e), λ h. omega (arith, s.1 (omega arith))))
  sound_used q s takes =
      cond_both (eqb q.held 0) q (take q) Sound (λ _. s)
      (λ _. (omega arith, λ h. mod-lt (q.first + 1) h))

  -- a value of a memory that has a place
  any : (ms : List A) → 0 < length ms → A
  any [] h = absurd (let z : ⊥ = omega arith in z)
  any (m ∷ ms) h = m

  -- what a use brings in comes last, and what it takes out was first
  pub in_order : (q : Queue A) → Sound q → (u : Use A) → contents q ++ goes_in q u ≡ comes_out q u ++ contents (used q u)
  in_order q s (puts x) = go (full q) refl
    where
      go : (b : Bool) → full q ≡ b → contents q ++ cond b [] (x ∷ []) ≡ contents (cond b q (put q x))
      go true e = append-nil (contents q)
      go false e = sym (put_contents q s x (omega (arith, eqb-false (free_places q) 0 e)))
  in_order q s takes = append-nil (contents q) ∙ go (eqb q.held 0) refl
    where
      go : (b : Bool) → eqb q.held 0 ≡ b → contents q ≡ option_to_list (oldest q) ++ contents (cond b q (take q))
      go true e = let n = nothing_held q (eqb-true q.held 0 e) in n ∙ sym (ap (λ xs. option_to_list (slice_get xs 0) ++ xs) n)
      go false e =
          let some : 0 < q.held = omega (arith, eqb-false q.held 0 e) in
          let x = take_contents q s (any q.memory (omega arith)) some in
          x ∙ sym (ap (λ xs. option_to_list (slice_get xs 0) ++ contents (take q)) x)

  pub sound_after : (ms : List A) (run : List (Use A)) → Sound (after ms run)
  sound_after ms [] = (zero-le, λ h. h)
  sound_after ms (u ∷ run) = sound_used (after ms run) (sound_after ms run) u

  pub first_out : (ms : List A) (run : List (Use A)) → FirstOut ms run
  first_out ms [] = refl
  first_out ms (u ∷ run) =
      let q = after ms run in
      ap (λ l. l ++ goes_in q u) (first_out ms run)
      ∙ append_assoc (taken ms run) (contents q) (goes_in q u)
      ∙ ap (λ l. taken ms run ++ l) (in_order q (sound_after ms run) u)
      ∙ sym (append_assoc (taken ms run) (comes_out q u) (contents (used q u)))

  pub continues : (q : Queue A) (u : Use A) (r : Queue A) → r ≡ used q u → Continues q u r
  continues q u r e ms run f = (e ∙ ap (λ p. used p u) f, first_out ms (u ∷ run))
