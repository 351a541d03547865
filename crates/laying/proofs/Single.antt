-- The lines of a layout and its settings have one report, and a plan that it answers is lawful.
use Rattle.std.proofs.Common.{◌≡◌, ℕ, ◌<◌, ◌≤◌, ◌⊎◌, List, [], ◌∷◌, length, Some, None, Option, sym, refl, ap, ◌∙◌, subst, inl, inr, ⊎_elim, arith}
use Rattle.std.proofs.lemmas.Bool.{cases_lt, cond_both}
use Rattle.fabric.specs.declared.parts.Cable.{Cable}
use Rattle.fabric.specs.declared.parts.Port.{Port}
use Rattle.fabric.specs.declared.parts.Slot.{Slot}
use Rattle.fabric.specs.Layouts.{Plan, Lawful, LeadsNearer, Missing}
use Rattle.fabric.specs.Meshes.{mesh_plan, mesh_verdict}
use Rattle.fabric.specs.Grid.{mesh_lawful}
use Rattle.fabric.specs.Verdicts.{Verdict, granting}
use Rattle.fabric.specs.Verdicts.Verdict.{granted, refused}
use Rattle.bounds.specs.SetUp.{set_up_verdict}
use Rattle.cabled.specs.Cables.{Cabling, Joined, Means, Wished, Good, AllGood, lone}
use Rattle.cabled.specs.Cables.Cabling.{unfair, bad, unreached, cabled}
use Rattle.text.specs.declared.fault.Layer.TheVariants.{Layout, Network}
use Rattle.text.specs.declared.parts.Run.{Run}
use Rattle.text.specs.declared.parts.Shape.{Shape}
use Rattle.text.specs.declared.parts.Shape.TheVariants.{Mesh, Cabled}
use Rattle.laying.specs.Reports.{Report, by_layer, then}
use Rattle.laying.specs.Reports.Report.{answers, faults}
use Rattle.laying.specs.Layings.{Laid, Judged, settings_of, settled, layout_line}
use Rattle.fabric.specs.Ports.{looked_at}
use Rattle.fabric.specs.Places.{looked_at_same}
use Rattle.fabric.proofs.Numbers.{slot_cases}
use Rattle.fabric.proofs.Refused.{unfit, fair}

-- two plans of one list of cables: distances are fewest cables, and the rest follows
module _ {k : ℕ} {cs : List Cable} {p q : Plan} (a : Means k cs p) (b : Means k cs q) (law : Lawful p) (law' : Lawful q) where
  same_far : (n : ℕ) (s : Port) → p.far n s ≡ q.far n s
  same_far n s =
      let t : Slot = record { node = n; port = s } in
      ⊎_elim
      (λ e. e)
      (λ other.
      let none : (u : Slot) → Joined cs (length cs) t u → ⊥ = λ u j. other (a.plugged t u j ∙ sym (b.plugged t u j)) in
      absurd (other (a.bare t none ∙ sym (b.bare t none))))
      (slot_cases (p.far n s) (q.far n s))

  -- of a node that is missing, all say the same
  same_of : {A : Type 0} (f : Plan → ℕ → ℕ → A) (x : A) →
      ((m n : ℕ) → Missing p m ⊎ Missing p n → f p m n ≡ x) → ((m n : ℕ) → Missing q m ⊎ Missing q n → f q m n ≡ x) →
      ((m n : ℕ) → m < k → n < k → f p m n ≡ f q m n) → (m n : ℕ) → f p m n ≡ f q m n
  same_of f x h h' same m n = ⊎_elim (λ l. ⊎_elim (λ i. same m n l i) (λ i. out (inr i)) (cases_lt n k)) (λ l. out (inl l)) (cases_lt m k)
    where
      out : (k ≤ m) ⊎ (k ≤ n) → f p m n ≡ f q m n
      out o = h m n (subst (λ j. (j ≤ m) ⊎ (j ≤ n)) (sym a.nodes) o) ∙ sym (h' m n (subst (λ j. (j ≤ m) ⊎ (j ≤ n)) (sym b.nodes) o))

  same_distance : (m n : ℕ) → p.distance m n ≡ q.distance m n
  same_distance =
      same_of (λ r. r.distance) 0 law.missing_distance law'.missing_distance
      (λ m n l i. let x = a.distance m n l i in let y = b.distance m n l i in omega (arith, x.1 (q.distance m n) y.0, y.1 (p.distance m n) x.0))

  same_reach : p.reach ≡ q.reach
  same_reach =
      let x = a.met in
      let y = b.met in
      omega (arith, x.4, y.4, b.within x.0 x.1 x.2 x.3, a.within y.0 y.1 y.2 y.3, same_distance x.0 x.1, same_distance y.0 y.1)

  same_leads : (m n : ℕ) (w : Port) → LeadsNearer p m n w → LeadsNearer q m n w
  same_leads m n w h =
      let e = same_far m w in (
        omega (arith, h.0, ap (λ (s : Slot). s.node) e, a.nodes, b.nodes),
        omega (arith, h.1, ap (λ (s : Slot). p.distance s.node n) e, same_distance (q.far m w).node n, same_distance m n),
      )

module _ {k : ℕ} {cs : List Cable} {p q : Plan} (a : Means k cs p) (b : Means k cs q) (law : Lawful p) (law' : Lawful q) where
  wished : (m n : ℕ) (o o' : Option Port) → Wished p m n o → Wished q m n o' → o ≡ o'
  wished m n (Some w) (Some v) h h' =
      ap Some
      (looked_at_same w v
      (omega (
        arith,
        ⊎_elim (λ l. absurd (h'.1 w l (same_leads a b law law' m n w h.0))) (λ l. l) (cases_lt (looked_at w) (looked_at v)),
        ⊎_elim (λ l. absurd (h.1 v l (same_leads b a law' law m n v h'.0))) (λ l. l) (cases_lt (looked_at v) (looked_at w)),
      )))
  wished m n (Some w) None h h' = absurd (omega (arith, h.0.1, same_distance a b law law' m n, h'))
  wished m n None (Some v) h h' = absurd (omega (arith, h, h'.0.1, same_distance a b law law' m n))
  wished m n None None h h' = refl

  same_wish : (m n : ℕ) → p.wish m n ≡ q.wish m n
  same_wish =
      same_of a b law law' (λ r. r.wish) None law.missing_wish law'.missing_wish
      (λ m n l i. wished m n (p.wish m n) (q.wish m n) (a.wish m n l i) (b.wish m n l i))

  same_plan : p ≡ q
  same_plan = λ i. record {
    nodes = (a.nodes ∙ sym b.nodes) i;
    far = λ n s. same_far a b law law' n s i;
    distance = λ m n. same_distance a b law law' m n i;
    wish = λ m n. same_wish m n i;
    reach = same_reach a b law law' i;
  }

module _ (k : ℕ) (cs : List Cable) where
  -- the first cable that is not good is one
  not_before : (i j : ℕ) → AllGood k cs j → (Good k cs i → ⊥) → j ≤ i
  not_before i j g h = ⊎_elim (λ l. absurd (h (g i l))) (λ l. l) (cases_lt i j)

  -- what the layout's lines are answered, by the plan and the verdict
  abbrev report : Plan → Verdict Unit → Report Plan
  report p v = by_layer Layout layout_line (granting (λ _. p) v)

  -- no two kinds of verdict hold of one list
  one_cabling : {p q : Plan} {v u : Verdict Unit} → Lawful p → Lawful q → Cabling (λ r. r) k cs lone p v → Cabling (λ r. r) k cs lone q u → report p v ≡ report q u
  one_cabling l m (unfair h) (unfair h') = refl
  one_cabling l m (unfair h) (bad f' i' l' g' h') = absurd (h f')
  one_cabling l m (unfair h) (unreached f' g' n' l' h') = absurd (h f')
  one_cabling l m (unfair h) (cabled f' g' h' m') = absurd (h f')
  one_cabling l m (bad f i b g h) (unfair h') = absurd (h' f)
  one_cabling l m (bad f i b g h) (bad f' i' b' g' h') =
      let e : i ≡ i' = omega (arith, not_before i i' g' h, not_before i' i g h') in
      ap (λ (x : ℕ). report lone (refused 13 (x ∷ []))) e
  one_cabling l m (bad f i b g h) (unreached f' g' n' l' h') = absurd (h (g' i b))
  one_cabling l m (bad f i b g h) (cabled f' g' h' m') = absurd (h (g' i b))
  one_cabling l m (unreached f g n b h) (unfair h') = absurd (h' f)
  one_cabling l m (unreached f g n b h) (bad f' i' b' g' h') = absurd (h' (g i' b'))
  one_cabling l m (unreached f g n b h) (unreached f' g' n' b' h') = refl
  one_cabling l m (unreached f g n b h) (cabled f' g' h' m') = absurd (h' n b h)
  one_cabling l m (cabled f g h p) (unfair h') = absurd (h' f)
  one_cabling l m (cabled f g h p) (bad f' i' b' g' h') = absurd (h' (g i' b'))
  one_cabling l m (cabled f g h p) (unreached f' g' n' b' h') = absurd (h n' b' h')
  one_cabling {p} {q} l m (cabled f g h a) (cabled f' g' h' b) = ap answers (same_plan a b l m)

-- the layout's lines have one report
pub one_layout : (x : Shape) (cs : List Cable) (r s : Report Plan) → Laid x cs r → Laid x cs s → r ≡ s
one_layout (Mesh w h) cs r s a b = a ∙ sym b
one_layout (Cabled k) cs r s (p, l, v, a, e) (q, m, u, b, f) = e ∙ one_cabling k cs l m a b ∙ sym f

-- and so have those of the settings
pub one_judgement : (x : Shape) (cs : List Cable) (run : Run) (r s : Report Plan) → Judged x cs run r → Judged x cs run s → r ≡ s
one_judgement x cs run r s a b = a.2 ∙ ap (λ l. then l (settled run)) (one_layout x cs a.0 b.0 a.1 b.1) ∙ sym b.2

-- the plan that is answered is lawful
mesh_law : (w h : ℕ) (p : Plan) → answers p ≡ by_layer Layout layout_line (mesh_verdict w h) → Lawful p
mesh_law w h p =
    cond_both (unfit w h) (refused 12 []) (granted (mesh_plan w h)) (λ v. answers p ≡ by_layer Layout layout_line v → Lawful p)
    (λ t e. cc)
    (λ t e. let s : mesh_plan w h ≡ p = cc in subst Lawful s (mesh_lawful w h (fair w h t)))

laid_law : (x : Shape) (cs : List Cable) (p : Plan) → Laid x cs (answers p) → Lawful p
laid_law (Mesh w h) cs p e = mesh_law w h p e
laid_law (Cabled k) cs p (q, l, granted t, a, e) = let s : q ≡ p = cc in subst Lawful s l
laid_law (Cabled k) cs p (q, l, refused n vs, a, e) = cc

pub judged_law : (x : Shape) (cs : List Cable) (run : Run) (p : Plan) → Judged x cs run (answers p) → Lawful p
judged_law x cs run p (answers q, laid, e) = go (set_up_verdict q (settings_of run)) e
  where
    go : (v : Verdict (Unit {0})) → answers p ≡ by_layer Network (λ _ _. 3) (granting (λ _. q) v) → Lawful p
    go (granted t) f = let s : q ≡ p = cc in subst Lawful s (laid_law x cs q laid)
    go (refused n vs) f = cc
judged_law x cs run p (faults y, laid, e) = cc
