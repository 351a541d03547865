-- The run by computing; each fault against the one state or outcome that there is.
use Rattle.std.proofs.Common.{◌≡◌, [], length, Some, None, sym, refl, ap, ◌∙◌, subst, arith}
use Rattle.fabric.specs.declared.parts.Port.TheVariants.{E, W}
use Rattle.fabric.specs.declared.parts.Flit.{Flit}
use Rattle.fabric.specs.Layouts.{Lawful}
use Rattle.fabric.specs.Meshes.{mesh_plan}
use Rattle.fabric.specs.Verdicts.Verdict.{granted}
use Rattle.fabric.specs.Grid.{mesh_lawful}
use Rattle.switch.specs.Chippers.{chipper_turn}
use Rattle.switch.specs.Blesses.{bless_turn}
use Rattle.network.specs.Log.{Log}
use Rattle.network.specs.Cycle.{Fabric, State, Cycle}
use Rattle.network.specs.Runs.{Outcome, fresh}
use Rattle.network.specs.Runs.Outcome.{looking}
use Rattle.network.specs.Computed.{taken, left, entering, ready, handing, arriving, done, cycled, after}
use Rattle.network.proofs.Solving.{cycle_one, led, led_one, served_one}
use Rattle.worked.specs.Example.{row, settings, first_offer, both_sent, whole, seven, nine, Example, Excluded}

abbrev net : Fabric
net = row chipper_turn

abbrev offered_one : State
offered_one = after net settings first_offer

law : Lawful (mesh_plan 3 1)
law = mesh_lawful 3 1 (omega arith, omega arith, omega arith)

pub example : Example
unfolding taken left entering ready handing arriving done
example = record {
  last = after net settings whole;
  leads = led net settings law whole;
  all = refl;
  near = λ s l. ap (λ (x : State). x.slot 1 W) (led_one net settings law l);
  deflected = λ s l. ap (λ (x : State). x.slot 0 E) (led_one net settings law l);
}

same_word : (f g : Flit) → Some f ≡ Some g → f.word ≡ g.word
same_word f g e = let d : f ≡ g = cc in ap (λ (x : Flit). x.word) d

one_answer : (f : Flit) (o : Outcome) → o ≡ looking (granted None) → o ≡ looking (granted (Some f)) → ⊥
one_answer f o a b = cc

pub excluded : Excluded
unfolding taken left entering ready handing arriving done
excluded = record {
  counts_only = λ s r l _ stays c.
      let e : s ≡ offered_one = led_one net settings law l in
      let d : r ≡ cycled net settings offered_one =
      cycle_one net settings offered_one law r (subst (λ (x : State). Cycle net settings x r) e c) in
      let z : 2 ≡ 1 = ap (λ (x : Log). length x) (sym (ap (λ (x : State). x.log) d) ∙ (stays ∙ ap (λ (x : State). x.log) e)) in
      omega arith;
  refuses_all = λ k vs r v.
      let e = (served_one net settings law fresh v).0 in
      cc;
  looks_alike = λ o h.
      one_answer seven o
      (served_one net settings law fresh (h [] fresh (led net settings law []))).0
      (served_one net settings law (after net settings both_sent) (h both_sent (after net settings both_sent) (led net settings law both_sent))).0;
  no_switch = λ s l m.
      let a : Some nine ≡ s.slot 2 W = ap (λ (x : State). x.slot 2 W) (sym (led_one net settings law l)) in
      let b : s.slot 2 W ≡ Some seven = ap (λ (x : State). x.slot 2 W) (led_one (row bless_turn) settings law m) in
      let z : 9 ≡ 7 = same_word nine seven (a ∙ b) in
      omega arith;
}
