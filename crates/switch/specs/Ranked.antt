-- What golden flits know of one another, and of the others.
use Rattle.std.specs.Prelude.{◌≡◌, ℕ, ◌<◌, Bool, true, false, ltb, ◌⊎◌, Some, None, Option, ◌≢◌, nat_lt, refl}
use Rattle.std.proofs.Common.{sym, ◌∙◌, ap, ap₂, inl, inr, arith, eq-eqb, ne_eqb, lt-ltb, le-ltb}
use Rattle.std.proofs.lemmas.Bool.Decides.{eqb_tells}
use Rattle.fabric.specs.declared.parts.Port.{Port}
use Rattle.fabric.specs.declared.parts.Flit.{Flit}
use Rattle.switch.specs.Ranks.{rank_of, rank_at, gives_way}
use Rattle.switch.specs.Switches.{Handing, Golden, Turn, Apart, Carried, at}

-- no golden flit stands in this slot
abbrev pub Plain : Handing → Port → Type 0
Plain h s = (f : Flit) → Golden h s f → ⊥

-- the same of a place
abbrev Dull : ℕ → Option Flit → Type 0
Dull golden p = (f : Flit) → p ≡ Some f → f.ticket ≢ golden

-- whether the first of two slots gives way
abbrev pub way : Handing → Bool → Port → Port → Bool
way h tie i j = gives_way (rank_at h.golden (at h.places i)) (rank_at h.golden (at h.places j)) tie

over_dull : (golden : ℕ) (f : Flit) (q : Option Flit) (tie : Bool) → f.ticket ≡ golden → Dull golden q → gives_way (Some (rank_of golden f)) (rank_at golden q) tie ≡ false
over_dull golden f None tie t n = refl
over_dull golden f (Some g) tie t n = rw (eq-eqb f.ticket golden t, ne_eqb g.ticket golden (n g refl))

under_golden : (golden : ℕ) (p : Option Flit) (g : Flit) (tie : Bool) → g.ticket ≡ golden → Dull golden p → gives_way (rank_at golden p) (Some (rank_of golden g)) tie ≡ true
under_golden golden None g tie t n = refl
under_golden golden (Some f) g tie t n = rw (eq-eqb g.ticket golden t, ne_eqb f.ticket golden (n f refl))

two_golden : (golden : ℕ) (f g : Flit) (tie : Bool) → f.ticket ≡ golden → g.ticket ≡ golden → gives_way (Some (rank_of golden f)) (Some (rank_of golden g)) tie ≡ nat_lt g.number f.number
two_golden golden f g tie t u = rw (eq-eqb f.ticket golden t, eq-eqb g.ticket golden u)

module _ (h : Handing) where
  pub golden_plain : (tie : Bool) (s r : Port) (f : Flit) → Golden h s f → Plain h r → way h tie s r ≡ false
  golden_plain tie s r f G n = rw G.0 (over_dull h.golden f (at h.places r) tie G.1 (λ g e t. n g (e, t)))

  pub plain_golden : (tie : Bool) (s r : Port) (g : Flit) → Plain h s → Golden h r g → way h tie s r ≡ true
  plain_golden tie s r g n G = rw G.0 (under_golden h.golden (at h.places s) g tie G.1 (λ f e t. n f (e, t)))

  pub golden_golden : (tie : Bool) (s r : Port) (f g : Flit) → Golden h s f → Golden h r g → way h tie s r ≡ nat_lt g.number f.number
  golden_golden tie s r f g F G = rw (F.0, G.0) (two_golden h.golden f g tie F.1 G.1)

  pub golden_or_plain : (s : Port) → ((f : Flit) × Golden h s f) ⊎ Plain h s
  golden_or_plain s = go (at h.places s) refl
    where
      go : (p : Option Flit) → at h.places s ≡ p → ((f : Flit) × Golden h s f) ⊎ Plain h s
      go None e = inr (λ f G. let gone : at h.places s ≡ Some f = G.0 in cc)
      go (Some f) e = elim (eqb_tells f.ticket h.golden) [
        | inl t ↦ inl (f, (e, t.1))
        | inr t ↦ inr (λ g G. let here : at h.places s ≡ Some g = G.0 in let same : f ≡ g = cc in t.1 (ap (λ (x : Flit). x.ticket) same ∙ G.1))
      ]

  -- the lowest golden flit, which meets no equal
  pub record Best (s : Port) (f : Flit) : Type 0 where
    pub golden : Golden h s f
    pub lowest : (r : Port) (g : Flit) → (r ≢ s) → Golden h r g → f.number < g.number

  module _ (s : Port) (f : Flit) (best : Best s f) where
    pub best_stays : (tie : Bool) (r : Port) → (r ≢ s) → way h tie s r ≡ false
    best_stays tie r other = elim (golden_or_plain r) [
      | inl g ↦ golden_golden tie s r f g.0 best.golden g.1 ∙ le-ltb _ _ (let lt = best.lowest r g.0 other g.1 in omega arith)
      | inr n ↦ golden_plain tie s r f best.golden n
    ]

    pub best_passes : (tie : Bool) (r : Port) → (r ≢ s) → way h tie r s ≡ true
    best_passes tie r other = elim (golden_or_plain r) [
      | inl g ↦ golden_golden tie r s g.0 f g.1 best.golden ∙ lt-ltb _ _ (best.lowest r g.0 other g.1)
      | inr n ↦ plain_golden tie r s f n best.golden
    ]

  pub lowest_best : Apart h → (s : Port) (f : Flit) → Golden h s f → ((r : Port) (g : Flit) → Golden h r g → (g.number < f.number) → ⊥) → Best s f
  lowest_best apart s f G low = record {
    golden = G;
    lowest = λ r g other R.
        let n = low r g R in
        let m : f.number ≡ g.number → ⊥ = λ e. other (apart r s g f R G (sym e)) in
        omega arith;
  }

-- the same golden flit, as far as a switch may see, stands in this slot of the one and in that of the other
pub record Shared (h k : Handing) (s r : Port) : Type 0 where
  pub same : s ≡ r
  pub one : Flit
  pub other : Flit
  pub in_one : Golden h s one
  pub in_other : Golden k r other
  pub number : other.number ≡ one.number
  pub wish : at h.wishes s ≡ at k.wishes r

-- two slots are alike: they share a golden flit, or neither has one
abbrev pub Alike : Handing → Handing → Port → Port → Type 0
Alike h k s r = Shared h k s r ⊎ (Plain h s × Plain k r)

module _ (h k : Handing) where
  pub carried_alike : Carried h k → Carried k h → (s : Port) → Alike h k s s
  carried_alike there back s = elim (golden_or_plain h s) [
    | inl g ↦ let c = there s g.0 g.1 in
        inl (record { same = refl; one = g.0; other = c.0; in_one = g.1; in_other = c.1; number = c.2; wish = sym c.4 })
    | inr n ↦ inr (n, λ f G. let c = back s f G in n c.0 c.1)
  ]

  -- where a golden flit is shared, it is settled who gives way
  pub shared_way : (d e : Bool) (i j m n : Port) → Shared h k i j → Shared h k m n → way h d i m ≡ way k e j n
  shared_way d e i j m n a b =
      golden_golden h d i m a.one b.one a.in_one b.in_one
      ∙ ap₂ ltb (sym b.number) (sym a.number)
      ∙ sym (golden_golden k e j n a.other b.other a.in_other b.in_other)

  -- if what turns leave at each port is alike, golden flits go alike
  pub alike_steady : (t u : Turn) → ((p : Port) → Alike h k (t.from p) (u.from p)) → (s : Port) (f : Flit) → Golden h s f → t.to s ≡ u.to s
  alike_steady t u alike s f G = elim (alike (t.to s)) [
    | inl a ↦ sym (u.to_from (t.to s)) ∙ ap u.to (sym a.same ∙ t.from_to s)
    | inr n ↦ absurd (n.0 f (rw (t.from_to s) G))
  ]
