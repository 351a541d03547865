-- A round of the bless switch's loop.
use Rattle.std.proofs.Common.{◌≡◌, ℕ, zero, suc, ◌+◌, ◌<◌, ◌≤◌, Bool, true, false, cond, List, [], ◌∷◌, length, get_or, set, None, Option, sym, refl, ap, ◌∙◌, subst, subst₂, arith, length-set, get_or-set_other, get_or-set_same}
use mathlib.Core.Path.{fun_ext}
use borrow.Author.Tests.{eqb-false}
use Rattle.fabric.specs.declared.parts.Port.{Port}
use Rattle.fabric.specs.declared.parts.Port.TheVariants.{N, E, S, W}
use Rattle.fabric.specs.declared.parts.Flit.{Flit}
use Rattle.fabric.specs.Ports.{place_of, same}
use Rattle.fabric.specs.Places.{place_below, same_true}
use Rattle.switch.specs.Switches.{at}
use Rattle.switch.specs.Sides.{Sides, every, held, without, size, none_left, one_less}
use Rattle.switch.specs.Pairings.{look, flipped}
use Rattle.switch.specs.Blesses.{best, chosen, chosen_free, served}

-- four places, and one of them written
four : {A : Type 0} (d : A) (xs : List A) → length xs ≡ 4 → xs ≡ get_or xs 0 d ∷ get_or xs 1 d ∷ get_or xs 2 d ∷ get_or xs 3 d ∷ []
four d [] e = absurd (omega arith)
four d (a ∷ []) e = absurd (omega arith)
four d (a ∷ b ∷ []) e = absurd (omega arith)
four d (a ∷ b ∷ c ∷ []) e = absurd (omega arith)
four d (a ∷ b ∷ c ∷ f ∷ []) e = refl
four d (a ∷ b ∷ c ∷ f ∷ g ∷ xs) e = absurd (omega arith)

written : {A : Type 0} (d v : A) (xs : List A) (q p : Port) → length xs ≡ 4 → get_or (set xs (place_of q) v) (place_of p) d ≡ cond (same p q) v (get_or xs (place_of p) d)
written d v xs q p e = go (same p q) refl
  where
    go : (b : Bool) → same p q ≡ b → get_or (set xs (place_of q) v) (place_of p) d ≡ cond b v (get_or xs (place_of p) d)
    go true r = rw (same_true p q r) (get_or-set_same xs (place_of q) v d (rw e (place_below q)))
    go false r = get_or-set_other xs (place_of q) (place_of p) v d (eqb-false (place_of p) (place_of q) r)

held_set : (xs : List Bool) (q : Port) → length xs ≡ 4 → held (set xs (place_of q) false) ≡ without (held xs) q
held_set xs q e = fun_ext (λ p. written false false xs q p e)

module _ (golden : ℕ) (places : List (Option Flit)) (wishes : List (Option Port)) where
  abbrev pub source : ℕ → Sides → Sides → Port → Option Flit
  source n waiting free p = at places (look (flipped (served golden places wishes n waiting free)) p)

  -- after i rounds: what comes to a taken port stands there, and what comes to a free one is for the rounds that are left
  pub record Going (i : ℕ) (out : List (Option Flit)) (waiting free : List Bool) : Type 0 where
    pub left : ℕ
    pub rounds : left + i ≡ 4
    pub wide_out : length out ≡ 4
    pub wide_waiting : length waiting ≡ 4
    pub wide_free : length free ≡ 4
    pub some_free : size (held free) ≡ left
    pub due : (p : Port) → source 4 every every p ≡ cond (held free p) (source left (held waiting) (held free) p) (at out p)

  all_held : held (true ∷ true ∷ true ∷ true ∷ []) ≡ every
  all_held = fun_ext go
    where
      go : (p : Port) → held (true ∷ true ∷ true ∷ true ∷ []) p ≡ true
      go N = refl
      go E = refl
      go S = refl
      go W = refl

  pub begins : Going 0 (None ∷ None ∷ None ∷ None ∷ []) (true ∷ true ∷ true ∷ true ∷ []) (true ∷ true ∷ true ∷ true ∷ [])
  begins = record {
    left = 4;
    rounds = refl;
    wide_out = refl;
    wide_waiting = refl;
    wide_free = refl;
    some_free = refl;
    due = λ p. subst (λ (x : Sides). source 4 every every p ≡ cond (x p) (source 4 x x p) (at (None ∷ None ∷ None ∷ None ∷ []) p)) (sym all_held) refl;
  }

  -- one more is served
  due_next : (n : ℕ) (w f : Sides) (all out : Port → Option Flit) → let s : Port = best golden places w in let q : Port = chosen f (at wishes s) in
      f q ≡ true → ((p : Port) → all p ≡ cond (f p) (source (suc n) w f p) (out p))
      → (p : Port) → all p ≡ cond (without f q p) (source n (without w s) (without f q) p) (cond (same p q) (at places s) (out p))
  due_next n w f all out here due p = go (same p q) refl
    where
      s : Port
      s = best golden places w

      q : Port
      q = chosen f (at wishes s)

      go : (x : Bool) → same p q ≡ x → all p ≡ cond (cond x false (f p)) (source n (without w s) (without f q) p) (cond x (at places s) (out p))
      go true e = let taken : f p ≡ true = ap f (same_true p q e) ∙ here in rw (taken, e) at (due p)
      go false e = rw e at (due p)

  goes_on : (n i : ℕ) (out : List (Option Flit)) (waiting free : List Bool) → (g : Going i out waiting free) → g.left ≡ suc n →
      let s : Port = best golden places (held waiting) in let q : Port = chosen (held free) (at wishes s) in
      Going (i + 1) (set out (place_of q) (at places s)) (set waiting (place_of s) false) (set free (place_of q) false)
  goes_on n i out waiting free g more =
      let s = best golden places (held waiting) in
      let q = chosen (held free) (at wishes s) in
      let many : size (held free) ≡ suc n = g.some_free ∙ more in
      let here : held free q ≡ true = chosen_free (held free) (at wishes s) (omega arith) in
      let fs = sym (held_set free q g.wide_free) in
      let ws = sym (held_set waiting s g.wide_waiting) in
      let new = set out (place_of q) (at places s) in
      let due : (p : Port) → source 4 every every p ≡ cond (held free p) (source (suc n) (held waiting) (held free) p) (at out p) =
      λ p. subst (λ (m : ℕ). source 4 every every p ≡ cond (held free p) (source m (held waiting) (held free) p) (at out p)) more (g.due p) in
      record {
        left = n;
        rounds = omega (arith, g.rounds, more);
        wide_out = length-set out (place_of q) (at places s) ∙ g.wide_out;
        wide_waiting = length-set waiting (place_of s) false ∙ g.wide_waiting;
        wide_free = length-set free (place_of q) false ∙ g.wide_free;
        some_free = subst (λ (f : Sides). size f ≡ n) fs (one_less (held free) n q here many);
        due = λ p. subst₂ (λ (w f : Sides). source 4 every every p ≡ cond (f p) (source n w f p) (at new p)) ws fs
            (rw (written None (at places s) out q p g.wide_out) (due_next n (held waiting) (held free) (source 4 every every) (at out) here due p));
      }

  pub round : (i : ℕ) (out : List (Option Flit)) (waiting free : List Bool) → Going i out waiting free → i < 4
      → (a b : ℕ) → a ≡ place_of (best golden places (held waiting)) → b ≡ place_of (chosen (held free) (get_or wishes a None))
      → Going (i + 1) (set out b (get_or places a None)) (set waiting a false) (set free b false)
  round i out waiting free g lt a b ea eb =
      let eq : b ≡ place_of (chosen (held free) (at wishes (best golden places (held waiting)))) = eb ∙ ap (λ x. place_of (chosen (held free) (get_or wishes x None))) ea in
      rw (eq, ea) (go g.left refl)
    where
      go : (n : ℕ) → g.left ≡ n → let s : Port = best golden places (held waiting) in let q : Port = chosen (held free) (at wishes s) in
          Going (i + 1) (set out (place_of q) (at places s)) (set waiting (place_of s) false) (set free (place_of q) false)
      go zero e = absurd (omega (arith, g.rounds))
      go (suc n) e = goes_on n i out waiting free g e

  pub ends : (i : ℕ) (out : List (Option Flit)) (waiting free : List Bool) → Going i out waiting free → 4 ≤ i
      → out ≡ source 4 every every N ∷ source 4 every every E ∷ source 4 every every S ∷ source 4 every every W ∷ []
  ends i out waiting free g ge =
      let none : size (held free) ≡ 0 = omega (arith, g.rounds, g.some_free) in
      let stands : (p : Port) → at out p ≡ source 4 every every p = λ p. sym (rw (none_left (held free) none p) at (g.due p)) in
      four None out g.wide_out ∙ (λ i. stands N i ∷ stands E i ∷ stands S i ∷ stands W i ∷ [])
