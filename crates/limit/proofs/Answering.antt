-- From the verdicts on a sheet's lines to what it is answered.
use Rattle.std.proofs.Common.{◌≡◌, ℕ, List, sym, refl, ap, ap₂, ◌∙◌, subst, subst₂, inl, inr}
use Rattle.fabric.specs.declared.parts.Cable.{Cable}
use Rattle.fabric.specs.Layouts.{Plan, Lawful}
use Rattle.fabric.specs.Verdicts.{Verdict, granting, value_or}
use Rattle.fabric.specs.Verdicts.Verdict.{granted, refused}
use Rattle.bounds.specs.declared.limits.Limits.{Limits}
use Rattle.bounds.specs.SetUp.{set_up_verdict}
use Rattle.bounds.specs.Lateness.{limits_of}
use Rattle.network.specs.Promises.{InTime}
use Rattle.network.proofs.Kept.{kept}
use Rattle.text.specs.declared.fault.Fault.{Fault}
use Rattle.text.specs.declared.fault.Layer.{Layer}
use Rattle.text.specs.declared.fault.Layer.TheVariants.{Layout, Network}
use Rattle.text.specs.declared.parts.Run.{Run}
use Rattle.text.specs.declared.parts.Shape.{Shape}
use Rattle.text.specs.Faults.{told}
use Rattle.runsheet.specs.Said.{Said}
use Rattle.runsheet.specs.Sheets.{SheetText, Refused}
use Rattle.runsheet.proofs.Single.{one_sheet}
use Rattle.laying.specs.Layings.{Laid, RefusedBy, Judged, settings_of, settled}
use Rattle.laying.specs.Reports.{Report, by_layer, then}
use Rattle.laying.proofs.Single.{one_judgement}
use Rattle.laying.specs.Reports.Report.{answers, faults}
use Rattle.limit.specs.Answers.{AlwaysInTime, Answered, Named, OneAnswer}

-- where limits are answered, set-up accepts the settings
pub accepted : {A : Type 0} (f : Unit {0} → A) (v : Verdict (Unit {0})) (a : A) → granted a ≡ granting f v → (v ≡ granted tt) × (a ≡ f tt)
accepted f (granted x) a e = (refl, ap (value_or a) e)
accepted f (refused k vs) a e = cc

pub still_refused : {A B : Type 0} (f : Unit {0} → A) (g : Unit {0} → B) (v : Verdict (Unit {0})) (k : ℕ) (vs : List ℕ) → refused k vs ≡ granting f v → refused k vs ≡ granting g v
still_refused f g (granted x) k vs e = cc
still_refused f g (refused n ws) k vs e = cc

-- the limit is that of the promise on runs
pub in_time : (p : Plan) (r : Run) (l : Limits) → Lawful p → set_up_verdict p (settings_of r) ≡ granted tt → l ≡ limits_of p (settings_of r) → AlwaysInTime p (settings_of r) l.latest
in_time p r l law v e turn sw run s led =
    subst (λ (m : Limits). InTime m.latest s) (sym e) ((kept (record { plan = p; turn = turn }) (settings_of r) law sw v run).kept s led).delivered

-- what is no sheet's text names nothing
pub none_named : (bs : List ℕ) (f : Fault) → Refused bs f → Named bs f
none_named bs f h layer s read = absurd ((one_sheet bs).none s f read h)

-- nor do settings that are refused
unnamed : (v : Verdict (Unit {0})) {A : Type 0} (f : Fault) (g : Unit {0} → A) → faults (told f) ≡ by_layer Network (λ _ _. 3) (granting g v) → f.layer ≡ Layout → ⊥
unnamed (granted x) f g e l = cc
unnamed (refused k vs) f g e l =
    let t : told f ≡ (k, Network, 3) = cc in
    let other : Layout ≡ Network = sym l ∙ ap (λ x. x.1) t in
    cc

module _ (bs : List ℕ) (s : Said) (read : SheetText bs s) where
  pub named_as : (f : Fault) {x : Shape} {cs : List Cable} → s.shape ≡ x → cs ≡ s.cables → RefusedBy x cs f.refusal → Named bs f
  named_as f e d h layer t read' =
      subst (λ (y : Said). RefusedBy y.shape y.cables f.refusal) ((one_sheet bs).sheet s t read read')
      (subst₂ (λ (x : Shape) (cs : List Cable). RefusedBy x cs f.refusal) (sym e) d h)

  pub not_named : (p : Plan) (f : Fault) → faults (told f) ≡ settled s.run p → Named bs f
  not_named p f e layer = absurd (unnamed (set_up_verdict p (settings_of s.run)) f (λ _. p) e layer)

  pub no_layout : (x : ℕ × Layer × ℕ) → Laid s.shape s.cables (faults x) → Answered bs (faults x)
  no_layout x h = inl (s, read, (faults x, (faults x, h, refl), refl), tt)

  module _ (p : Plan) (laid : Laid s.shape s.cables (answers p)) where
    pub no_limits : (x : ℕ × Layer × ℕ) → faults x ≡ settled s.run p → Answered bs (faults x)
    no_limits x e = inl (s, read, (faults x, (answers p, laid, e), refl), tt)

    pub all : (l : Limits) → answers p ≡ settled s.run p → l ≡ limits_of p (settings_of s.run) → AlwaysInTime p (settings_of s.run) l.latest → Answered bs (answers (p, l))
    all l e limits off = inl (s, read, (answers p, (answers p, laid, e), ap (λ m. answers (p, m)) limits), off)

-- sheet, fault and report are one each, and so is the answer
same_answer : (bs : List ℕ) (r r' : Report (Plan × Limits)) → Answered bs r → Answered bs r' → r ≡ r'
same_answer bs r r' (inl (s, read, (v, j, e), w)) (inl (t, read', (u, k, f), x)) =
    let same = (one_sheet bs).sheet s t read read' in
    let one = one_judgement t.shape t.cables t.run v u (subst (λ (y : Said). Judged y.shape y.cables y.run v) same j) k in
    e ∙ ap₂ (λ (y : Said) (z : Report Plan). then z (λ p. answers (p, limits_of p (settings_of y.run)))) same one ∙ sym f
same_answer bs r r' (inl (s, read, a, w)) (inr (f, h', e)) = absurd ((one_sheet bs).none s f read h')
same_answer bs r r' (inr (f, h, e)) (inl (s, read, a, w)) = absurd ((one_sheet bs).none s f read h)
same_answer bs r r' (inr (f, h, e)) (inr (g, h', e')) = e ∙ ap faults ((one_sheet bs).fault f g h h') ∙ sym e'

pub one_answer : (bs : List ℕ) → OneAnswer bs
one_answer bs = record { answer = same_answer bs }
