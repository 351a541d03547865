-- The bless switch keeps its law.
use Rattle.std.specs.Prelude.{◌≡◌, ℕ, zero, suc, ◌<◌, Bool, true, false, cond, not, ◌&&◌, ◌||◌, ◌⊎◌, List, [], ◌∷◌, Some, None, Option, ◌==◌, ◌≢◌, nat_lt, refl}
use Rattle.std.proofs.Common.{sym, ◌∙◌, ap, subst, inl, inr, ⊎_elim, true≢false, arith, ltb-true, ltb-false}
use Rattle.std.proofs.lemmas.Bool.{cases_eq, false≢true}
use Rattle.std.proofs.lemmas.Option.{same_Some}
use Rattle.std.proofs.lemmas.Bool.Decides.{eqb_tells}
use Rattle.fabric.specs.declared.parts.Port.{Port}
use Rattle.fabric.specs.declared.parts.Port.TheVariants.{N, E, S, W}
use Rattle.fabric.specs.declared.parts.Flit.{Flit}
use Rattle.fabric.specs.Ports.{place_of, same, looked_at}
use Rattle.fabric.specs.Places.{same_self, same_or_not}
use Rattle.switch.specs.declared.rank.Rank.{Rank}
use Rattle.switch.specs.declared.rank.Rank.TheVariants.{Golden, Ordinary}
use Rattle.switch.specs.Ranks.{rank_of, gives_way}
use Rattle.switch.specs.Switches.{Handing, at}
use Rattle.switch.specs.Sides.{Sides, every, without, size, without_has, none_left, one_less}
use Rattle.switch.specs.Pairings.{look}
use Rattle.switch.specs.Blesses.{standing_as, standing, Lower, Before, Leaves, BlessLaw, sooner, outranked, better, best, first_free, first_frees, chosen, best_waits, chosen_free, served, bless_turn}

-- The order of flits.

lower_irr : (xs : List ℕ) → Lower xs xs → ⊥
lower_irr [] l = l
lower_irr (x ∷ xs) (inl l) = omega arith
lower_irr (x ∷ xs) (inr l) = lower_irr xs l.1

lower_trans : (xs ys zs : List ℕ) → Lower xs ys → Lower ys zs → Lower xs zs
lower_trans [] ys zs l m = l
lower_trans (x ∷ xs) [] zs l m = absurd l
lower_trans (x ∷ xs) (y ∷ ys) [] l m = m
lower_trans (x ∷ xs) (y ∷ ys) (z ∷ zs) (inl l) (inl m) = inl (omega arith)
lower_trans (x ∷ xs) (y ∷ ys) (z ∷ zs) (inl l) (inr m) = inl (omega (arith, m.0))
lower_trans (x ∷ xs) (y ∷ ys) (z ∷ zs) (inr l) (inl m) = inl (omega (arith, l.0))
lower_trans (x ∷ xs) (y ∷ ys) (z ∷ zs) (inr l) (inr m) = inr (l.0 ∙ m.0, lower_trans xs ys zs l.1 m.1)

-- one more number compared
less : (a b : ℕ) (rest : Bool) (R : Type 0) → cond (a == b) rest (nat_lt a b) ≡ true → (rest ≡ true → R) → (a < b) ⊎ ((a ≡ b) × R)
less a b rest R e more = elim (eqb_tells a b) [
  | inl t ↦ inr (t.1, more (rw t.0 at e))
  | inr t ↦ inl (ltb-true a b (rw t.0 at e))
]

not_less : (a b : ℕ) (rest : Bool) (R : Type 0) → cond (a == b) rest (nat_lt a b) ≡ false → (rest ≡ false → R) → (b < a) ⊎ ((b ≡ a) × R)
not_less a b rest R e more = elim (eqb_tells a b) [
  | inl t ↦ inr (sym t.1, more (rw t.0 at e))
  | inr t ↦ inl (let l = ltb-false a b (rw t.0 at e) in let n = t.1 in omega arith)
]

last : (a b : ℕ) (R : Type 0) → nat_lt a b ≡ false → R → (b < a) ⊎ ((b ≡ a) × R)
last a b R e r = elim (cases_eq b a) [
  | inl t ↦ inr (t, r)
  | inr t ↦ inl (let l = ltb-false a b e in omega arith)
]

module _ (f g : Flit) (s r : Port) where
  -- what gives way stands higher
  lower_if : (a b : Rank) → gives_way (Some a) (Some b) (sooner g f) ≡ true → Lower (standing_as b g r) (standing_as a f s)
  lower_if (Golden m) (Golden n) e = inr (refl, inl (ltb-true n m e))
  lower_if (Golden m) Ordinary e = absurd (false≢true e)
  lower_if Ordinary (Golden n) e = inl (omega arith)
  lower_if Ordinary Ordinary e = inr (refl, less g.entered f.entered _ _ e (λ d. less g.ticket f.ticket _ _ d (λ c. inl (ltb-true g.number f.number c))))

  -- what does not stands lower, by slot order at last
  lower_unless : (a b : Rank) → place_of s < place_of r → gives_way (Some a) (Some b) (sooner g f) ≡ false → Lower (standing_as a f s) (standing_as b g r)
  lower_unless (Golden m) (Golden n) l e = inr (refl, last n m _ e (inl l))
  lower_unless (Golden m) Ordinary l e = inl (omega arith)
  lower_unless Ordinary (Golden n) l e = absurd (true≢false e)
  lower_unless Ordinary Ordinary l e =
      inr (refl, not_less g.entered f.entered _ _ e (λ d. not_less g.ticket f.ticket _ _ d (λ c. last g.number f.number _ c (inl l))))

module _ (h : Handing) where
  pub before_irr : (s : Port) → Before h s s → ⊥
  before_irr s b =
      lower_irr (standing h b.one s)
      (subst (λ (f : Flit). Lower (standing h b.one s) (standing h f s)) (same_Some b.other b.one (sym b.in_other ∙ b.in_one)) b.lower)

  pub before_trans : (r s t : Port) → Before h r s → Before h s t → Before h r t
  before_trans r s t b c = record {
    one = b.one;
    other = c.other;
    in_one = b.in_one;
    in_other = c.in_other;
    lower = lower_trans (standing h b.one r) (standing h b.other s) (standing h c.other t) b.lower
        (subst (λ (f : Flit). Lower (standing h f s) (standing h c.other t)) (same_Some c.one b.other (sym c.in_one ∙ b.in_other)) c.lower);
  }

  pub rises : (s r : Port) (p q : Option Flit) → at h.places s ≡ p → at h.places r ≡ q → (g : Flit) → p ≡ Some g → outranked h.golden p q ≡ true → Before h r s
  rises s r p None u v g e o = absurd (false≢true o)
  rises s r None (Some k) u v g e o = cc
  rises s r (Some f) (Some k) u v g e o = record { one = k; other = f; in_one = v; in_other = u; lower = lower_if f k s r (rank_of h.golden f) (rank_of h.golden k) o }

  stands : (s r : Port) (p q : Option Flit) → at h.places s ≡ p → at h.places r ≡ q → place_of s < place_of r → (g : Flit) → q ≡ Some g → outranked h.golden p q ≡ false → Before h s r
  stands s r p None u v l g e o = cc
  stands s r None (Some k) u v l g e o = absurd (true≢false o)
  stands s r (Some f) (Some k) u v l g e o = record { one = f; other = k; in_one = u; in_other = v; lower = lower_unless f k s r (rank_of h.golden f) (rank_of h.golden k) l o }

  module _ (w : Sides) where
    -- no flit that waits in x goes before that in m
    abbrev Leading : Port → Port → Type 0
    Leading m x = (g : Flit) → w x ≡ true → at h.places x ≡ Some g → (m ≡ x) ⊎ ((w m ≡ true) × Before h m x)

    abbrev more : Port → Port → Port
    more = better h.golden h.places w

    leading_trans : (l m x : Port) → Leading l m → Leading m x → Leading l x
    leading_trans l m x a b g e i = go (b g e i)
      where
        go : (m ≡ x) ⊎ ((w m ≡ true) × Before h m x) → (l ≡ x) ⊎ ((w l ≡ true) × Before h l x)
        go (inl p) = subst (λ y. (l ≡ y) ⊎ ((w l ≡ true) × Before h l y)) p (a g (ap w p ∙ e) (ap (at h.places) p ∙ i))
        go (inr p) = elim (a p.1.one p.0 p.1.in_one) [
          | inl q ↦ inr (subst (λ y. (w y ≡ true) × Before h y x) (sym q) p)
          | inr q ↦ inr (q.0, before_trans l m x q.1 p.1)
        ]

    more_leading : (s r : Port) → place_of s < place_of r → Leading (more s r) s × Leading (more s r) r
    more_leading s r l = go (w r) refl (w s) refl (outranked h.golden (at h.places s) (at h.places r)) refl
      where
        go : (a : Bool) → w r ≡ a → (b : Bool) → w s ≡ b → (c : Bool) → outranked h.golden (at h.places s) (at h.places r) ≡ c
            → Leading (cond (a && (not b || c)) r s) s × Leading (cond (a && (not b || c)) r s) r
        go false p b q c o = (λ g e i. inl refl, λ g e i. absurd (false≢true (sym p ∙ e)))
        go true p false q c o = (λ g e i. absurd (false≢true (sym q ∙ e)), λ g e i. inl refl)
        go true p true q true o = (λ g e i. inr (p, rises s r _ _ refl refl g i o), λ g e i. inl refl)
        go true p true q false o = (λ g e i. inl refl, λ g e i. inr (q, stands s r _ _ refl refl l g i o))

    more_below : (k : ℕ) (s r : Port) → place_of s < k → place_of r < k → place_of (more s r) < k
    more_below k s r a b = go (w r && (not (w s) || outranked h.golden (at h.places s) (at h.places r)))
      where
        go : (x : Bool) → place_of (cond x r s) < k
        go true = b
        go false = a

    best_leading : (x : Port) → Leading (best h.golden h.places w) x
    best_leading =
        let two = more N E in
        let three = more two S in
        let in_two = more_leading N E (omega arith) in
        let in_three = more_leading two S (more_below 2 N E (omega arith) (omega arith)) in
        let in_four = more_leading three W (more_below 3 two S (more_below 3 N E (omega arith) (omega arith)) (omega arith)) in
        let of_two : (y : Port) → Leading two y → Leading (more three W) y = λ y l. leading_trans _ three y in_four.0 (leading_trans three two y in_three.0 l) in
        λ x. elim x as (λ y. Leading (more three W) y) [
          | N ↦ of_two N in_two.0
          | E ↦ of_two E in_two.1
          | S ↦ leading_trans _ three S in_four.0 in_three.1
          | W ↦ in_four.1
        ]

-- The port that is chosen.

pub leaves_same : (T U : Port → Type 0) (wish : Option Port) (p : Port) → ((q : Port) → T q → U q) → ((q : Port) → U q → T q) → Leaves T wish p → Leaves U wish p
leaves_same T U wish p there back l = record {
  wished = λ w e no. l.wished w e (λ t. no (there w t));
  free = λ all u. l.free (λ w e. back w (all w e)) (back p u);
  first = λ all q o. there q (l.first (λ w e. back w (all w e)) q o);
}

module _ (f : Sides) where
  spent : (p : Port) → without f p p ≡ false
  spent p = rw (same_self p)

  still_spent : (p q : Port) → f q ≡ false → without f p q ≡ false
  still_spent p q e = go (same q p)
    where
      go : (x : Bool) → cond x false (f q) ≡ false
      go true = refl
      go false = e

  chosen_wish : (w : Port) → (f w ≢ false) → chosen f (Some w) ≡ w
  chosen_wish w unfree = go (f w) refl
    where
      go : (b : Bool) → f w ≡ b → cond b w (first_free f) ≡ w
      go true e = refl
      go false e = absurd (unfree e)

  chosen_else : (wish : Option Port) → ((w : Port) → wish ≡ Some w → f w ≡ false) → chosen f wish ≡ first_free f
  chosen_else None all = refl
  chosen_else (Some w) all = rw (all w refl)

  chosen_leaves : (wish : Option Port) → 0 < size f → Leaves (λ q. f q ≡ false) wish (chosen f wish)
  chosen_leaves wish some = record {
    wished = λ w e no. ap (chosen f) e ∙ chosen_wish w no;
    free = λ all no. true≢false (sym (chosen_free f wish some) ∙ no);
    first = λ all q l. (first_frees f some).1 q (subst (λ x. looked_at q < looked_at x) (chosen_else wish all) l);
  }

-- The law, of the slots that wait and the ports that are free.

module _ (h : Handing) where
  abbrev goes : ℕ → Sides → Sides → Port → Port
  goes n w f = look (served h.golden h.places h.wishes n w f)

  -- a port is taken already, or by a flit that waits and goes before
  abbrev Gone : Sides → Sides → (Port → Port) → Port → Port → Type 0
  Gone w f to s p = (f p ≡ false) ⊎ ((r : Port) × (w r ≡ true) × Before h r s × (to r ≡ p))

  module _ (n : ℕ) (w f : Sides) where
    abbrev b : Port
    b = best h.golden h.places w

    abbrev p : Port
    p = chosen f (at h.wishes b)

    abbrev to : Port → Port
    to = goes (suc n) w f

    abbrev then : Port → Port
    then = goes n (without w b) (without f p)

    to_first : to b ≡ p
    to_first = rw (same_self b)

    to_other : (r : Port) → same r b ≡ false → to r ≡ then r
    to_other r e = rw e

    -- nothing that waits goes before the first
    none_before : (r : Port) → w r ≡ true → Before h r b → ⊥
    none_before r e x = elim (best_leading h w r x.one e x.in_one) [
      | inl q ↦ before_irr h b (subst (λ y. Before h y b) (sym q) x)
      | inr y ↦ before_irr h b (before_trans h b r b y.1 x)
    ]

    first_lawful : 0 < size f → Leaves (Gone w f to b) (at h.wishes b) (to b)
    first_lawful some =
        subst (Leaves (Gone w f to b) (at h.wishes b)) (sym to_first)
        (leaves_same (λ q. f q ≡ false) (Gone w f to b) (at h.wishes b) p (λ q e. inl e)
        (λ q. ⊎_elim (λ e. e) (λ x. absurd (none_before x.0 x.1 x.2))) (chosen_leaves f (at h.wishes b) some))

    module _ (some : 0 < size w) (s : Port) (g : Flit) (e : w s ≡ true) (i : at h.places s ≡ Some g) (d : same s b ≡ false) (ne : s ≡ b → ⊥) where
      there : (q : Port) → Gone (without w b) (without f p) then s q → Gone w f to s q
      there q (inl t) = elim (same_or_not q p) [
        | inl u ↦ elim (best_leading h w s g e i) [
          | inl v ↦ absurd (ne (sym v))
          | inr v ↦ inr (b, best_waits w h.golden h.places some, v.1, to_first ∙ sym u)
        ]
        | inr u ↦ inl (rw u.0 at t)
      ]
      there q (inr t) =
          let k = without_has w b t.0 t.1 in
          inr (t.0, k.1, t.2, to_other t.0 k.0 ∙ t.3)

      back : (q : Port) → Gone w f to s q → Gone (without w b) (without f p) then s q
      back q (inl t) = inl (still_spent f p q t)
      back q (inr t) = elim (same_or_not t.0 b) [
        | inl u ↦ inl (subst (λ x. without f p x ≡ false) (sym to_first ∙ ap to (sym u) ∙ t.3) (spent f p))
        | inr u ↦ inr (t.0, rw u.0 t.1, t.2, sym (to_other t.0 u.0) ∙ t.3)
      ]

      next_lawful : Leaves (Gone (without w b) (without f p) then s) (at h.wishes s) (then s) → Leaves (Gone w f to s) (at h.wishes s) (to s)
      next_lawful l = subst (Leaves (Gone w f to s) (at h.wishes s)) (sym (to_other s d)) (leaves_same _ _ (at h.wishes s) (then s) there back l)

  lawful : (n : ℕ) (w f : Sides) → size w ≡ n → size f ≡ n → (s : Port) (g : Flit) → w s ≡ true → at h.places s ≡ Some g
      → Leaves (Gone w f (goes n w f) s) (at h.wishes s) (goes n w f s)
  lawful zero w f m o s g e i = absurd (true≢false (sym e ∙ none_left w m s))
  lawful (suc n) w f m o s g e i =
      let b = best h.golden h.places w in
      let p = chosen f (at h.wishes b) in
      let bw : w b ≡ true = best_waits w h.golden h.places (omega arith) in
      let pf : f p ≡ true = chosen_free f (at h.wishes b) (omega arith) in
      elim (same_or_not s b) [
        | inl u ↦ subst (λ x. Leaves (Gone w f (goes (suc n) w f) x) (at h.wishes x) (goes (suc n) w f x)) (sym u) (first_lawful n w f (omega arith))
        | inr u ↦ next_lawful n w f (omega arith) s g e i u.0 u.1
            (lawful n (without w b) (without f p) (one_less w n b bw m) (one_less f n p pf o) s g (rw u.0 e) i)
      ]

  pub bless_lawful : BlessLaw h (bless_turn h).to
  bless_lawful s f i =
      leaves_same _ _ (at h.wishes s) ((bless_turn h).to s) (λ q. ⊎_elim (λ e. absurd (true≢false e)) (λ x. (x.0, x.2, x.3))) (λ q x. inr (x.0, refl, x.1, x.2))
      (lawful 4 every every refl refl s f refl i)
