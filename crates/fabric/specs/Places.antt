-- No two ports have the same place in an order, and what the first port that passes a test says of the others.
use Rattle.std.specs.Prelude.{◌≡◌, ℕ, zero, suc, ◌<◌, Bool, true, false, cond, ◌⊎◌, Some, None, Option, ◌≢◌, refl}
use Rattle.std.proofs.Common.{sym, ◌∙◌, ap, inl, inr, ⊎_elim, arith, eqb-true}
use Rattle.std.proofs.lemmas.Bool.{cases_eq, ne_eqb}
use Rattle.fabric.specs.declared.parts.Port.{Port}
use Rattle.fabric.specs.declared.parts.Port.TheVariants.{N, E, S, W}
use Rattle.fabric.specs.Ports.{place_of, port_of, same, looked_at, first}

pub place_below : (p : Port) → place_of p < 4
place_below N = omega arith
place_below E = omega arith
place_below S = omega arith
place_below W = omega arith

pub port_of_place : (p : Port) → port_of (place_of p) ≡ p
port_of_place N = refl
port_of_place E = refl
port_of_place S = refl
port_of_place W = refl

pub place_same : (p q : Port) → place_of p ≡ place_of q → p ≡ q
place_same p q e = sym (port_of_place p) ∙ ap port_of e ∙ port_of_place q

-- the port by its place in the order in which ports are tried
tried : ℕ → Port
tried zero = E
tried (suc zero) = W
tried (suc (suc zero)) = N
tried (suc (suc (suc k))) = S

tried_looked_at : (p : Port) → tried (looked_at p) ≡ p
unfolding tried
tried_looked_at N = refl
tried_looked_at E = refl
tried_looked_at S = refl
tried_looked_at W = refl

pub looked_at_same : (p q : Port) → looked_at p ≡ looked_at q → p ≡ q
looked_at_same p q e = sym (tried_looked_at p) ∙ ap tried e ∙ tried_looked_at q

pub same_true : (p q : Port) → same p q ≡ true → p ≡ q
same_true p q e = place_same p q (eqb-true (place_of p) (place_of q) e)

pub same_self : (p : Port) → same p p ≡ true
same_self N = refl
same_self E = refl
same_self S = refl
same_self W = refl

pub port_cases : (p q : Port) → (p ≡ q) ⊎ (p ≢ q)
port_cases p q = ⊎_elim (λ e. inl (place_same p q e)) (λ h. inr (λ e. h (ap place_of e))) (cases_eq (place_of p) (place_of q))

pub same_or_not : (p q : Port) → (p ≡ q) ⊎ ((same p q ≡ false) × (p ≢ q))
same_or_not p q = ⊎_elim inl (λ h. inr (ne_eqb (place_of p) (place_of q) (λ e. h (place_same p q e)), h)) (port_cases p q)

-- what the first port that passes a test says of the ports
abbrev pub Pick : (Port → Bool) → Option Port → Type 0
Pick f (Some w) = (f w ≡ true) × ((v : Port) → looked_at v < looked_at w → f v ≡ false)
Pick f None = (v : Port) → f v ≡ false

pub pick : (f : Port → Bool) → Pick f (first f)
pick f = go (f E) (f W) (f N) (f S) refl refl refl refl
  where
    go : (e w n s : Bool) → f E ≡ e → f W ≡ w → f N ≡ n → f S ≡ s → Pick f (cond e (Some E) (cond w (Some W) (cond n (Some N) (cond s (Some S) None))))
    go true w n s a b c d = (a, λ v l. absurd (omega arith))
    go false true n s a b c d = (b, elim [ N ↦ λ l. absurd (omega arith) | E ↦ λ l. a | S ↦ λ l. absurd (omega arith) | W ↦ λ l. absurd (omega arith) ])
    go false false true s a b c d = (c, elim [ N ↦ λ l. absurd (omega arith) | E ↦ λ l. a | S ↦ λ l. absurd (omega arith) | W ↦ λ l. b ])
    go false false false true a b c d = (d, elim [ N ↦ λ l. c | E ↦ λ l. a | S ↦ λ l. absurd (omega arith) | W ↦ λ l. b ])
    go false false false false a b c d = elim [ N ↦ c | E ↦ a | S ↦ d | W ↦ b ]
