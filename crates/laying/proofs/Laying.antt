-- What the verdicts on a sheet's lines make of a report.
use Rattle.std.proofs.Common.{◌≡◌, ℕ, ◌<◌, ◌≤◌, List, get_or, Err, Result, sym, refl, subst, subst₂, inl, arith}
use Rattle.fabric.specs.declared.parts.Cable.{Cable}
use Rattle.fabric.specs.Layouts.{Plan}
use Rattle.fabric.specs.Verdicts.{Verdict}
use Rattle.fabric.specs.Verdicts.Verdict.{granted, refused}
use Rattle.fabric.proofs.Numbers.{slot_below, slot_same}
use Rattle.fabric.proofs.Pigeons.{apiece}
use Rattle.cabled.specs.Cables.{Cabling, lone, cable_at, Fair, AllGood}
use Rattle.cabled.specs.Cables.Cabling.{unfair, bad, unreached, cabled}
use Rattle.fabric.specs.Ports.{slot_number}
use Rattle.text.specs.declared.fault.Fault.{Fault}
use Rattle.text.specs.declared.parts.Shape.{Shape}
use Rattle.text.specs.Faults.{told}
use Rattle.laying.specs.Reports.{Report, reported}
use Rattle.laying.specs.Reports.Report.{faults}
use Rattle.laying.specs.Layings.{Laid}

-- what is cabled, seen as plans
pub as_plans : {A : Type 0} (plan : A → Plan) {k : ℕ} {cs : List Cable} {x y : A} {v : Verdict Unit} → plan x ≡ lone →
    Cabling plan k cs x y v → Cabling (λ q. q) k cs lone (plan y) v
as_plans plan {k} {cs} {x} e = go
  where
    same : {v : Verdict Unit} → Cabling (λ q. q) k cs lone lone v → Cabling (λ q. q) k cs lone (plan x) v
    same {v} = subst (λ (p : Plan). Cabling (λ q. q) k cs lone p v) (sym e)

    go : {y : _} {v : Verdict Unit} → Cabling plan k cs x y v → Cabling (λ q. q) k cs lone (plan y) v
    go (unfair h) = same (unfair h)
    go (bad f i l g h) = same (bad f i l g h)
    go (unreached f g n l h) = same (unreached f g n l h)
    go (cabled f g h m) = cabled f g h m

-- what is refused leaves one node without cables as it is
pub refused_alone : {A : Type 0} {plan : A → Plan} {k : ℕ} {cs : List Cable} {x y : A} {n : ℕ} {named : List ℕ} → Cabling plan k cs x y (refused n named) →
    Cabling (λ q. q) k cs lone lone (refused n named)
refused_alone (unfair h) = unfair h
refused_alone (bad f i l g h) = bad f i l g h
refused_alone (unreached f g n l h) = unreached f g n l h

module _ (k : ℕ) (cs : List Cable) (f : Fair k) where
  -- the number of the slot that a cable begins at
  abbrev head : ℕ → ℕ
  head i = slot_number (cable_at cs i).one

  -- good cables begin at slots that are apart, and there are 256 slots
  few_good : (n : ℕ) → AllGood k cs n → n ≤ 256
  few_good n g = apiece head n 256 inside differ
    where
      inside : (i : ℕ) → i < n → head i < 256
      inside i l =
          let c = cable_at cs i in
          let there : c.one.node < k = (g i l).there c.one c.other (inl (refl, refl)) in
          slot_below c.one (omega (arith, f.1))

      differ : (i j : ℕ) → j < i → i < n → head i ≡ head j → ⊥
      differ i j l h e =
          let c = cable_at cs i in
          let d = cable_at cs j in
          (g i h).fresh c.one c.other d.other (inl (refl, refl)) (j, l, inl (sym (slot_same c.one d.one e), refl))

abbrev pub NamedBelow : Verdict Unit → Type 0
NamedBelow (granted a) = Unit {0}
NamedBelow (refused n named) = get_or named 0 0 ≤ 256

-- a refusal names a cable that only good ones stand before, or a node
pub named_below : {A : Type 0} {plan : A → Plan} {k : ℕ} {cs : List Cable} {x y : A} {v : Verdict Unit} → Cabling plan k cs x y v → NamedBelow v
named_below (unfair h) = omega arith
named_below {k} {cs} (bad f i l g h) = few_good k cs f i g
named_below (unreached f g n l h) = let most = f.1 in omega arith
named_below (cabled f g h m) = tt

-- the layout's lines of a sheet, by what was read of them
pub as_read : (s : Shape) {t : Shape} (cs : List Cable) {ds : List Cable} (r : Report Plan) → s ≡ t → ds ≡ cs → Laid t ds r → Laid s cs r
as_read s cs r e d h = subst₂ (λ (u : Shape) (es : List Cable). Laid u es r) (sym e) d h

-- what the exit of a `?` reports
pub reported_err : {A B : Type 0} (seen : A → B) (P : Report B → Type 0) (f : Fault) (r : Result A Fault) → (y : Fault) × (r ≡ Err y) × (y ≡ f) →
    P (faults (told f)) → P (reported seen r)
reported_err seen P f r (y, e, i) h = subst (λ x. P (reported seen x)) (sym e) (subst (λ x. P (faults (told x))) (sym i) h)
