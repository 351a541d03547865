-- Three nodes and the cable 0 E 1 W.
use Rattle.std.proofs.Common.{◌≡◌, ℕ, zero, suc, ◌<◌, List, [], ◌∷◌, refl, ap, inl, inr, arith}
use Rattle.fabric.specs.declared.parts.Cable.{Cable}
use Rattle.fabric.specs.declared.parts.Port.TheVariants.{E, W}
use Rattle.fabric.specs.declared.parts.Slot.{Slot}
use Rattle.fabric.specs.Layouts.{Plan}
use Rattle.fabric.specs.Verdicts.{Verdict}
use Rattle.fabric.specs.Verdicts.Verdict.{refused}
use Rattle.cabled.specs.Cables.{cable_at, Runs, Walk, Good, CutOff, Cabling}
use Rattle.cabled.specs.Cables.Walk.{stay, cross}
use Rattle.cabled.specs.Cables.Cabling.{unfair, bad, unreached, cabled}

abbrev near : Slot
near = record { node = 0; port = E }

abbrev far : Slot
far = record { node = 1; port = W }

abbrev one : List Cable
one = record { one = near; other = far } ∷ []

low : (s t : Slot) → Runs (record { one = near; other = far }) s t → s.node < 2
low s t (inl h) = omega (arith, ap (λ (x : Slot). x.node) h.0)
low s t (inr h) = omega (arith, ap (λ (x : Slot). x.node) h.0)

good : (i : ℕ) → i < 1 → Good 3 one i
good zero l = record {
  there = λ s t r. omega (arith, low s t r);
  two = λ e. omega (arith, ap (λ (x : Slot). x.node) e);
  fresh = λ s t u r j. omega (arith, j.1);
}
good (suc i) l = absurd (omega arith)

-- a walk that begins below node 2 stays below it
ends : {k m n : ℕ} → Walk one k m n → m < 2 → n < 2
ends stay l = l
ends (cross {s = s} {t = t} j w) l = ends w (beyond s t j.0 j.1 j.2)
  where
    beyond : (s t : Slot) (i : ℕ) → i < 1 → Runs (cable_at one i) s t → t.node < 2
    beyond s t zero q (inl h) = omega (arith, ap (λ (x : Slot). x.node) h.1)
    beyond s t zero q (inr h) = omega (arith, ap (λ (x : Slot). x.node) h.1)
    beyond s t (suc i) q r = absurd (omega arith)

cut : CutOff one 2
cut k w = omega (arith, ends w (omega arith))

only : (n : ℕ) → n < 3 → CutOff one n → n ≡ 2
only zero l c = absurd (c 0 stay)
only (suc zero) l c = absurd (c 1 (cross {s = near} {t = far} (0, omega arith, inl (refl, refl)) stay))
only (suc (suc zero)) l c = refl
only (suc (suc (suc n))) l c = absurd (omega arith)

pub right : (p : Plan) → Cabling (λ q. q) 3 one p p (refused 14 (2 ∷ [])) × ((q : Plan) (u : Verdict Unit) → Cabling (λ r. r) 3 one p q u → u ≡ refused 14 (2 ∷ []))
right p = (unreached (omega arith, omega arith) good 2 (omega arith) cut, other)
  where
    other : (q : Plan) (u : Verdict Unit) → Cabling (λ r. r) 3 one p q u → u ≡ refused 14 (2 ∷ [])
    other q u (unfair f) = absurd (f (omega arith, omega arith))
    other q u (bad f i l h no_good) = absurd (no_good (good i l))
    other q u (unreached f h n l c) = ap (λ x. refused 14 (x ∷ [])) (only n l c)
    other q u (cabled f h none m) = absurd (none 2 (omega arith) cut)
