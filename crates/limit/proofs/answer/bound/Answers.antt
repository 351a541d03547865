use Rattle.std.proofs.Common.{◌≡◌, Ok, Err, Result, rules, sym, ap, ◌∙◌, subst}
use Rattle.bounds.specs.declared.settings.Settings.{Settings}
use Rattle.bounds.specs.declared.limits.Limits.{Limits}
use Rattle.bounds.specs.SetUp.{set_up_verdict}
use Rattle.bounds.specs.Lateness.{limits_of}
use Rattle.fabric.specs.declared.refusal.Refusal.{Refusal}
use Rattle.fabric.specs.Refusals.{shown, number}
use Rattle.fabric.specs.Layouts.{Plan, Lawful}
use Rattle.fabric.specs.Verdicts.{Verdict, granting}
use Rattle.std.specs.Result.{MatchResult, IsErrAnd, IfOk}
use Rattle.text.specs.declared.fault.Fault.{Fault}
use Rattle.text.specs.declared.fault.Layer.TheVariants.{Network}
use Rattle.text.specs.declared.parts.Run.{Run}
use Rattle.text.specs.Faults.{told}
use Rattle.laying.specs.Layings.{settled, settings_of}
use Rattle.laying.specs.Reports.{reported, by_layer}
use Rattle.laying.specs.Reports.Report.{faults}
use Rattle.limit.specs.Answers.{AlwaysInTime}
use Rattle.limit.proofs.Answering.{accepted, still_refused, in_time}
use Rattle.limit.proofs.answer.bound.Goals as goal

record Bounded (p : Plan) (r : Run) (m : Result Limits Fault) : Type 0 where
  pub judged : reported (λ _. p) m ≡ settled r p
  pub exact : IfOk m (λ l. l ≡ limits_of p (settings_of r))
  pub kept : IfOk m (λ l. AlwaysInTime p (settings_of r) l.latest)

-- the verdict of set-up, handed on with a refusal's line
handed_on : (p : Plan) (r : Run) (post : Refusal → Fault → Type 0) → Lawful p → ((e : Refusal) (f : Fault) → post e f → told f ≡ (number e, Network, 3)) →
    (o : Result Limits Refusal) (m : Result Limits Fault) → MatchResult o (λ l. m ≡ Ok l) (λ e. IsErrAnd m (post e)) →
    shown o ≡ granting (λ _. limits_of p (settings_of r)) (set_up_verdict p (settings_of r)) → Bounded p r m
handed_on p r post lawful says (Ok l) m h e =
    let a = accepted _ (set_up_verdict p (settings_of r)) l e in
    subst (Bounded p r) (sym h)
    (record {
      judged = ap (λ (v : Verdict (Unit {0})). by_layer Network (λ _ _. 3) (granting (λ _. p) v)) (sym a.0);
      exact = a.1;
      kept = in_time p r l lawful a.0 a.1;
    })
handed_on p r post lawful says (Err f) (Ok l) h e = absurd h
handed_on p r post lawful says (Err f) (Err x) h e =
    record {
      judged = ap faults (says f x h) ∙ ap (by_layer Network (λ _ _. 3)) (still_refused _ (λ _. p) (set_up_verdict p (settings_of r)) _ _ e);
      exact = tt;
      kept = tt;
    }

pub returns : goal.returns
returns g c =
    let p = g.L.Layout.plan c.args.layout.now in
    let e = subst (λ (P : Settings). shown c.of.result ≡ granting (λ _. limits_of p P) (set_up_verdict p P)) c.settings.ensures c.of.ensures.exact in
    let b = handed_on p c.args.run _ (g.met.L.Layout.lawful c.args.layout.now) (λ e f h. search rules) c.of.result c.map_err.result c.map_err.ensures.cases e in
    record { judged = b.judged; exact = b.exact; kept = b.kept }
