-- The outcomes of the calls by which a packet of two words passes.
use Rattle.std.proofs.Common.{◌≡◌, ℕ, List, [], ◌∷◌, refl, ap, ◌∙◌, subst, ap₂, arith}
use Rattle.fabric.specs.declared.mesh.Mesh.{Mesh}
use Rattle.fabric.specs.Layouts.{Plan, Lawful}
use Rattle.fabric.specs.Meshes.{mesh_plan}
use Rattle.fabric.specs.Verdicts.{Verdict, value_or}
use Rattle.fabric.specs.Verdicts.Verdict.{granted}
use Rattle.fabric.specs.Grid.{mesh_lawful}
use Rattle.switch.specs.Chippers.{chipper_turn}
use Rattle.line.specs.Queues.{Queue, empty}
use Rattle.bounds.specs.declared.settings.Settings.{Settings}
use Rattle.network.specs.declared.event.Event.{Event}
use Rattle.network.specs.declared.event.Kind.TheVariants.{In}
use Rattle.network.specs.Cycle.{Fabric, State}
use Rattle.network.specs.Runs.{Call, Outcome, Serves}
use Rattle.network.specs.Runs.Call.{cycle}
use Rattle.network.specs.Runs.Outcome.{offering, cycling, collecting, looking}
use Rattle.network.specs.Computed.{outcome, after}
use Rattle.network.proofs.Solving.{served_one}
use Rattle.calls.specs.declared.calls.Network.{Network}
use Rattle.calls.specs.Networks.{SameParts}
use Rattle.calls.specs.declared.tables.Tables.{Tables}
use Rattle.calls.specs.Follow.{Promised, Served, Answers, Exactly, Begins}
use Rattle.calls.specs.Follow.Served.{begun, one_more as served_more}
use Rattle.calls.specs.Follow.Answers.{set_up, one_more as a_call}

abbrev over : Plan → Fabric
over p = record { plan = p; turn = chipper_turn }

abbrev net : Fabric
net = over (mesh_plan 2 1)

abbrev small : Settings
small = record { tickets = 1; words = 2; epoch = 4; seed = 1 }

law : Lawful (mesh_plan 2 1)
law = mesh_lawful 2 1 (omega arith, omega arith, omega arith)

-- what a run is answered, by computing
abbrev outcomes : List Call → List Outcome
outcomes [] = []
outcomes (k ∷ ks) = outcome net small (after net small ks) k ∷ outcomes ks

as_computed : {ks : List Call} {os : List Outcome} {s : State} → Answers net small ks os s → (os ≡ outcomes ks) × (s ≡ after net small ks)
as_computed set_up = (refl, refl)
as_computed (a_call {ks} {os} {s} {r} {k} {o} a v) =
    let e = as_computed a in
    let x = served_one net small law (after net small ks) (subst (λ (y : State). Serves net small y k o r) e.1 v) in
    (ap₂ (λ (y : Outcome) (ys : List Outcome). y ∷ ys) x.0 e.0, x.1)

-- the outcomes of calls each of which kept its promise
the_outcomes : (i j : Tables) → Begins net small i → (ks : List Call) (os : List Outcome) → Served net i ks os j → os ≡ outcomes ks
the_outcomes i j b ks os v = (as_computed (subst (λ (P : Settings). Exactly net P ks os) b.settings (b.whole ks os j v)).answers).0

abbrev no_event : Event
no_event = record { cycle = 0; kind = In; ticket = 0; number = 0; node = 0; entered = 0 }

abbrev pub blanks : Event → Queue Event
blanks e = empty (e ∷ e ∷ e ∷ e ∷ e ∷ e ∷ e ∷ e ∷ [])

abbrev line_0 : Queue Event
line_0 = blanks no_event

-- the caller's line after the newest call
abbrev line_in : List Outcome → Queue Event
line_in [] = line_0
line_in (offering v ∷ os) = line_0
line_in (cycling v q ∷ os) = q
line_in (collecting v m ∷ os) = line_0
line_in (looking v ∷ os) = line_0

-- the answer to a collection, and the caller's memory after it
abbrev brought : List Outcome → Verdict ℕ × List ℕ
brought [] = (granted 0, [])
brought (offering v ∷ os) = (granted 0, [])
brought (cycling v q ∷ os) = (granted 0, [])
brought (collecting v m ∷ os) = (v, m)
brought (looking v ∷ os) = (granted 0, [])

-- an offer and the cycles after it, the newest first
module _ (k : Call) where
  abbrev run_1 : List Call
  run_1 = cycle line_0 ∷ k ∷ []

  abbrev run_2 : List Call
  run_2 = cycle (line_in (outcomes run_1)) ∷ run_1

  abbrev run_3 : List Call
  run_3 = cycle (line_in (outcomes run_2)) ∷ run_2

abbrev pub words : Verdict ℕ × List ℕ
words = (granted 2, 7 ∷ 9 ∷ [])

-- an offer k and a collection h, with the cycles between them, bring the words by computing
abbrev pub Brings : Call → Call → Type 0
Brings k h = brought (outcomes (h ∷ run_3 k)) ≡ words

brings_so : (i a b c d j : Tables) (k h : Call) (q r s t : Queue Event) (o : Outcome) (v w x y : Verdict ℕ) (m : List ℕ) →
    Begins net small i → q ≡ line_0 → Promised net i a k o →
    Promised net a b (cycle q) (cycling v r) → Promised net b c (cycle r) (cycling w s) → Promised net c d (cycle s) (cycling x t) →
    Promised net d j h (collecting y m) → Brings k h → (y, m) ≡ words
brings_so i a b c d j k h q r s t o v w x y m set e offers one two three collects last =
    let done_1 : Served net i (run_1 k) (cycling v r ∷ o ∷ []) b =
    served_more (served_more begun offers) (subst (λ (z : Queue Event). Promised net a b (cycle z) (cycling v r)) e one) in
    let e_1 : r ≡ line_in (outcomes (run_1 k)) = ap line_in (the_outcomes i b set (run_1 k) _ done_1) in
    let done_2 : Served net i (run_2 k) (cycling w s ∷ cycling v r ∷ o ∷ []) c =
    served_more done_1 (subst (λ (z : Queue Event). Promised net b c (cycle z) (cycling w s)) e_1 two) in
    let e_2 : s ≡ line_in (outcomes (run_2 k)) = ap line_in (the_outcomes i c set (run_2 k) _ done_2) in
    let done_3 : Served net i (run_3 k) (cycling x t ∷ cycling w s ∷ cycling v r ∷ o ∷ []) d =
    served_more done_2 (subst (λ (z : Queue Event). Promised net c d (cycle z) (cycling x t)) e_2 three) in
    ap brought (the_outcomes i j set (h ∷ run_3 k) _ (served_more done_3 collects)) ∙ last

module _ {C : Type 0} where
  abbrev plan_of : Network Mesh C → Plan
  plan_of n = mesh_plan n.layout.width n.layout.height

  -- a call takes one network to another
  abbrev pub Moves : Network Mesh C → Network Mesh C → Call → Outcome → Type 0
  Moves n m k o = Promised (over (plan_of n)) n.inner m.inner k o × SameParts n m

  -- the calls of a network of two nodes bring these words
  pub brings : (mesh : Mesh) (z n a b c d j : Network Mesh C) {k h : Call} {q r s t : Queue Event} {o : Outcome} {v w x y : Verdict ℕ} {m : List ℕ} →
      granted (mesh_plan mesh.width mesh.height) ≡ granted (mesh_plan 2 1) → z.layout ≡ mesh →
      Begins (over (plan_of z)) small n.inner → n.layout ≡ z.layout → q ≡ line_0 →
      Moves n a k o → Moves a b (cycle q) (cycling v r) → Moves b c (cycle r) (cycling w s) → Moves c d (cycle s) (cycling x t) →
      Moves d j h (collecting y m) → Brings k h → (y, m) ≡ words
  brings mesh z n a b c d j {k} {h} {q} {r} {s} {t} {o} {v} {w} {x} {y} {m} two_nodes its set same l offers one two three collects last =
      let at_a : a.layout ≡ z.layout = offers.1.0 ∙ same in
      let at_b : b.layout ≡ z.layout = one.1.0 ∙ at_a in
      let at_c : c.layout ≡ z.layout = two.1.0 ∙ at_b in
      let at_d : d.layout ≡ z.layout = three.1.0 ∙ at_c in
      brings_so n.inner a.inner b.inner c.inner d.inner j.inner k h q r s t o v w x y m
      (subst (λ (p : Plan). Begins (over p) small n.inner) e set) l
      (here n a same offers) (here a b at_a one) (here b c at_b two) (here c d at_c three) (here d j at_d collects) last
    where
      e : plan_of z ≡ mesh_plan 2 1
      e = ap (λ (x : Mesh). mesh_plan x.width x.height) its ∙ ap (value_or (mesh_plan 2 1)) two_nodes

      here : (f g : Network Mesh C) {k : Call} {o : Outcome} → f.layout ≡ z.layout → Moves f g k o → Promised net f.inner g.inner k o
      here f g {k} {o} at moves =
          subst (λ (p : Plan). Promised (over p) f.inner g.inner k o) (ap (λ (x : Mesh). mesh_plan x.width x.height) at ∙ e) moves.0
