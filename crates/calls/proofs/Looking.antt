-- What a look answers.
use Rattle.std.proofs.Common.{◌≡◌, ℕ, ◌<◌, ◌≤◌, ◌⊎◌, [], ◌∷◌, get_or, arith, Option, sym, refl, ap, ◌∙◌, inl, inr}
use Rattle.std.proofs.lemmas.Bool.{le-leb, lt-leb, or_left, or_right, or_from, cond-true, cond-false}
use Rattle.fabric.specs.declared.parts.Flit.{Flit}
use Rattle.fabric.specs.declared.parts.Port.TheVariants.{N, E, S, W}
use Rattle.fabric.specs.Ports.{port_of}
use Rattle.fabric.specs.Verdicts.{Verdict}
use Rattle.fabric.specs.Verdicts.Verdict.{granted, refused}
use Rattle.network.specs.Cycle.{Fabric, State}
use Rattle.network.specs.Runs.{look_verdict}
use Rattle.network.specs.Runs.Call.{look}
use Rattle.network.specs.Runs.Outcome.{looking}
use Rattle.calls.specs.declared.tables.Tables.{Tables}
use Rattle.calls.specs.Follow.{Shows, slot_of}
use Rattle.calls.proofs.Promising.{Works, nothing_done}

pub port_at : (k : ℕ) → k < 4 → get_or (N ∷ E ∷ S ∷ W ∷ []) k N ≡ port_of k
port_at ℕ.zero l = refl
port_at (ℕ.suc ℕ.zero) l = refl
port_at (ℕ.suc (ℕ.suc ℕ.zero)) l = refl
port_at (ℕ.suc (ℕ.suc (ℕ.suc ℕ.zero))) l = refl
port_at (ℕ.suc (ℕ.suc (ℕ.suc (ℕ.suc k)))) l = absurd (omega arith)

module _ (F : Fabric) (i : Tables) (n k : ℕ) where
  looked : (v : Verdict _) → ((s : State) → Shows F i s → v ≡ look_verdict F i.settings s n k) → Works F i i (look n k) (looking v)
  looked v h = nothing_done (λ s sh. (ap looking (h s sh), refl))

  pub no_look : (F.plan.nodes ≤ n) ⊎ (4 ≤ k) → Works F i i (look n k) (looking (refused 4 []))
  no_look (inl h) = looked _ (λ s sh. sym (cond-true _ _ _ (or_left _ _ (le-leb F.plan.nodes n h))))
  no_look (inr h) = looked _ (λ s sh. sym (cond-true _ _ _ (or_right _ _ (le-leb 4 k h))))

  pub a_look : (o : Option Flit) → o ≡ slot_of i.slots n (port_of k) → n < F.plan.nodes → k < 4 → Works F i i (look n k) (looking (granted o))
  a_look o e h l =
      looked _ (λ s sh.
      ap granted (e ∙ sh.slots n (port_of k) h)
      ∙ sym (cond-false _ _ _ (or_from _ _ (lt-leb F.plan.nodes n h) (lt-leb 4 k l))))
