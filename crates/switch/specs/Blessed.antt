-- The laws of a switch, for the bless switch from its own law.
use Rattle.std.specs.Prelude.{◌≡◌, ℕ, zero, suc, ◌+◌, ◌*◌, ◌<◌, ◌⊎◌, List, [], ◌∷◌, Some, None, Option, ◌≢◌, refl}
use Rattle.std.proofs.Common.{sym, ◌∙◌, ap, subst, subst₂, inl, inr, arith, eq-eqb, ne_eqb}
use Rattle.std.proofs.lemmas.Bool.{cases_lt}
use Rattle.std.proofs.lemmas.Option.{same_Some}
use Rattle.fabric.specs.declared.parts.Port.{Port}
use Rattle.fabric.specs.declared.parts.Flit.{Flit}
use Rattle.fabric.specs.Ports.{place_of, looked_at}
use Rattle.fabric.specs.Places.{place_below, looked_at_same, same_or_not}
use Rattle.switch.specs.Switches.{Handing, Golden, Carried, at}
use Rattle.switch.specs.Blesses.{standing, Lower, Before, Taken, Leaves, later, bless_turn}
use Rattle.switch.specs.Ranked.{Best, best_passes, golden_or_plain}
use Rattle.switch.specs.Ordered.{before_irr, before_trans, rises, leaves_same, bless_lawful}

-- nothing ranks before the lowest golden flit
pub bless_leads : (h : Handing) (s : Port) (f : Flit) → Best h s f → (w : Port) → at h.wishes s ≡ Some w → (bless_turn h).to s ≡ w
bless_leads h s f best w e = (bless_lawful h s f best.golden.0).wished w e (λ t. none_before t.0 t.1)
  where
    none_before : (r : Port) → Before h r s → ⊥
    none_before r b = elim (same_or_not r s) [
      | inl e ↦ before_irr h s (subst (λ x. Before h x s) e b)
      | inr n ↦ before_irr h s (before_trans h s r s
          (rises h r s _ _ refl refl b.one b.in_one (best_passes h s f best (later (at h.places r) (at h.places s)) r n.1)) b)
    ]

-- a golden flit with this number in this slot
abbrev golden_at : ℕ → Port → List ℕ
golden_at n s = 0 ∷ n ∷ place_of s ∷ []

standing_golden : (h : Handing) (f : Flit) (s : Port) → f.ticket ≡ h.golden → standing h f s ≡ golden_at f.number s
standing_golden h f s e = rw (eq-eqb f.ticket h.golden e)

before_golden : (h : Handing) (r s : Port) (g f : Flit) → Golden h r g → Golden h s f → Lower (golden_at g.number r) (golden_at f.number s) → Before h r s
before_golden h r s g f G F l = record {
  one = g;
  other = f;
  in_one = G.0;
  in_other = F.0;
  lower = subst₂ Lower (sym (standing_golden h g r G.1)) (sym (standing_golden h f s F.1)) l;
}

-- only golden flits rank before a golden one
golden_before : (h : Handing) (r s : Port) (f : Flit) → Golden h s f → Before h r s → (g : Flit) × Golden h r g × Lower (golden_at g.number r) (golden_at f.number s)
golden_before h r s f F b =
    let l : Lower (standing h b.one r) (golden_at f.number s) =
    subst (Lower (standing h b.one r)) (ap (λ (x : Flit). standing h x s) (same_Some b.other f (sym b.in_other ∙ F.0)) ∙ standing_golden h f s F.1) b.lower in
    elim (golden_or_plain h r) [
      | inl G ↦ (
        G.0,
        G.1,
        subst (λ (xs : List ℕ). Lower xs (golden_at f.number s))
            (ap (λ (x : Flit). standing h x r) (same_Some b.one G.0 (sym b.in_one ∙ G.1.0)) ∙ standing_golden h G.0 r G.1.1) l,
      )
      | inr p ↦ absurd (last (rw (ne_eqb b.one.ticket h.golden (λ e. p b.one (b.in_one, e))) at l))
    ]
  where
    last : (1 < 0) ⊎ (◌≡◌ {A = ℕ} 1 0 × Lower (b.one.entered ∷ b.one.ticket ∷ b.one.number ∷ place_of r ∷ []) (f.number ∷ place_of s ∷ [])) → ⊥
    last (inl l) = omega arith
    last (inr e) = let z = e.0 in omega arith

-- so that they rank alike where they are alike
carry : (h k : Handing) → Carried h k → (r s : Port) (f : Flit) → Golden h s f → Before h r s → Before k r s
carry h k there r s f F b =
    let g = golden_before h r s f F b in
    let c = there r g.0 g.1 in
    let d = there s f F in
    before_golden k r s c.0 d.0 c.1 d.1 (subst₂ (λ m n. Lower (golden_at m r) (golden_at n s)) (sym c.2) (sym d.2) g.2)

-- numbers and slots of golden flits as one number
sinks : (m n : ℕ) (r s : Port) → Lower (golden_at m r) (golden_at n s) → m * 4 + place_of r < n * 4 + place_of s
sinks m n r s (inl l) = absurd (omega arith)
sinks m n r s (inr (e, inl l)) = omega (arith, place_below r)
sinks m n r s (inr (e, inr (d, inl l))) = omega (arith, d)
sinks m n r s (inr (e, inr (d, inr x))) = absurd x.1

-- what is taken, and the wish, settle where a flit leaves
settled : (T : Port → Type 0) (wish : Option Port) (p q : Port) → Leaves T wish p → Leaves T wish q → p ≡ q
settled T wish p q a b = elim (same_or_not p q) [ inl e ↦ e | inr n ↦ absurd (go n.1 wish refl) ]
  where
    apart : (p ≢ q) → ((w : Port) → wish ≡ Some w → T w) → ⊥
    apart ne all = elim (cases_lt (looked_at p) (looked_at q)) [
      | inl l ↦ a.free all (b.first all p l)
      | inr l ↦ elim (cases_lt (looked_at q) (looked_at p)) [
        | inl m ↦ b.free all (a.first all q m)
        | inr m ↦ ne (looked_at_same p q (omega arith))
      ]
    ]

    out : (v : Port) → wish ≡ Some v → (p ≢ q) → T v → ⊥
    out v e ne t = apart ne (λ w d. subst T (same_Some v w (sym e ∙ d)) t)

    go : (p ≢ q) → (o : Option Port) → wish ≢ o
    go ne None e = apart ne (λ w d. cc)
    go ne (Some v) e = ne (a.wished v e (out v e ne) ∙ sym (b.wished v e (out v e ne)))

pub bless_steady : (h k : Handing) → Carried h k → Carried k h → (s : Port) (f : Flit) → Golden h s f → (bless_turn h).to s ≡ (bless_turn k).to s
bless_steady h k there back s f F = go (suc (f.number * 4 + place_of s)) s f F (omega arith)
  where
    go : (n : ℕ) (s : Port) (f : Flit) → Golden h s f → f.number * 4 + place_of s < n → (bless_turn h).to s ≡ (bless_turn k).to s
    go zero s f F l = absurd (omega arith)
    go (suc n) s f F l =
        let c = there s f F in
        let same : (r : Port) → Before h r s → (bless_turn h).to r ≡ (bless_turn k).to r =
        λ r b. let g = golden_before h r s f F b in go n r g.0 g.1 (let m = sinks g.0.number f.number r s g.2 in omega arith) in
        settled (Taken k (bless_turn k).to s) (at k.wishes s) _ _
        (leaves_same _ _ (at k.wishes s) ((bless_turn h).to s)
        (λ q t. (t.0, carry h k there t.0 s f F t.1, sym (same t.0 t.1) ∙ t.2))
        (λ q t. let b = carry k h back t.0 s c.0 c.1 t.1 in (t.0, b, same t.0 b ∙ t.2))
        (subst (λ o. Leaves (Taken h (bless_turn h).to s) o ((bless_turn h).to s)) (sym c.4) (bless_lawful h s f F.0)))
        (bless_lawful k s c.0 c.1.0)
