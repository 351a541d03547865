-- The laws of the chipper switch.
use Rattle.std.specs.Prelude.{◌≡◌, ℕ, Bool, true, false, cond, not, Some, ◌≢◌, refl}
use Rattle.std.proofs.Common.{sym, ◌∙◌, ap, subst₂, inl, inr, true≢false}
use Rattle.std.proofs.Math.Bool.{not-not}
use Rattle.std.proofs.lemmas.Bool.{false≢true}
use Rattle.fabric.specs.declared.parts.Port.{Port}
use Rattle.fabric.specs.declared.parts.Port.TheVariants.{N, E, S, W}
use Rattle.fabric.specs.declared.parts.Flit.{Flit}
use Rattle.switch.specs.declared.chipper.Block.{Block}
use Rattle.switch.specs.declared.chipper.Block.TheVariants.{Entry, NorthSouth, EastWest}
use Rattle.switch.specs.Switches.{Handing, Turn, Golden, Carried, at}
use Rattle.switch.specs.Chippers.{by_second, wants_second, draw, crossed, halfway, onward, chipper_turn}
use Rattle.switch.specs.Ranked.{Plain, way, Best, best_stays, best_passes, Alike, carried_alike, shared_way, golden_plain, plain_golden, alike_steady}

-- the ports that an exit block drives
from_north_south : (w : Port) → false ≡ by_second Entry w → cond (by_second NorthSouth w) S N ≡ w
from_north_south N e = refl
from_north_south E e = absurd (false≢true e)
from_north_south S e = refl
from_north_south W e = absurd (false≢true e)

from_east_west : (w : Port) → true ≡ by_second Entry w → cond (by_second EastWest w) W E ≡ w
from_east_west N e = absurd (true≢false e)
from_east_west E e = refl
from_east_west S e = absurd (true≢false e)
from_east_west W e = refl

-- the output that an entry block sends its first or second input to
first_out : (a b : Port) → by_second Entry a ≡ false → by_second Entry b ≡ true → (x : Bool) → by_second Entry (cond x b a) ≡ x
first_out a b p q true = q
first_out a b p q false = p

second_out : (a b : Port) → by_second Entry a ≡ false → by_second Entry b ≡ true → (x : Bool) → by_second Entry (cond x a b) ≡ not x
second_out a b p q true = p
second_out a b p q false = q

cond_not : (x : Bool) (a b : Port) → cond (not x) a b ≡ cond x b a
cond_not true a b = refl
cond_not false a b = refl

-- what a turn does to the one of two that is taken
turn_cond : (f : Port → Port) (x : Bool) (a b : Port) → cond x (f a) (f b) ≡ f (cond x a b)
turn_cond f true a b = refl
turn_cond f false a b = refl

apart_wires : (t : Turn) (s x y : Port) → (x ≢ y) → t.from x ≡ s → t.from y ≢ s
apart_wires t s x y ne p q = ne (sym (t.to_from x) ∙ ap t.to (p ∙ sym q) ∙ t.to_from y)

N≢E : N ≡ E → ⊥
N≢E e = false≢true (ap (by_second Entry) e)

S≢W : S ≡ W → ⊥
S≢W e = false≢true (ap (by_second Entry) e)

N≢S : N ≡ S → ⊥
N≢S e = false≢true (ap (by_second NorthSouth) e)

E≢W : E ≡ W → ⊥
E≢W e = false≢true (ap (by_second EastWest) e)

module _ (h : Handing) where
  module _ (s : Port) (f : Flit) (best : Best h s f) (w : Port) (wish : at h.wishes s ≡ Some w) where
    -- a block sends the best by the output that leads to its wish
    first_in : (b : Block) (i : ℕ) (r : Port) → (r ≢ s) → crossed h b i s r ≡ by_second b w
    first_in b i r other = rw (best_stays h s f best (draw h i) r other, wish)

    second_in : (b : Block) (i : ℕ) (r : Port) → (r ≢ s) → crossed h b i r s ≡ not (by_second b w)
    second_in b i r other = rw (best_passes h s f best (draw h i) r other, wish)

    -- the same of an exit block, if the best came to the wire x
    first_at : (b : Block) (i : ℕ) (x y : Port) → (x ≢ y) → (halfway h).from x ≡ s → crossed h b i ((halfway h).from x) ((halfway h).from y) ≡ by_second b w
    first_at b i x y ne here = rw here (first_in b i ((halfway h).from y) (apart_wires (halfway h) s x y ne here))

    second_at : (b : Block) (i : ℕ) (x y : Port) → (x ≢ y) → (halfway h).from y ≡ s → crossed h b i ((halfway h).from x) ((halfway h).from y) ≡ not (by_second b w)
    second_at b i x y ne here = rw here (second_in b i ((halfway h).from x) (λ e. apart_wires (halfway h) s x y ne e here))

    exit_leads : (x : Port) → (halfway h).from x ≡ s → by_second Entry x ≡ by_second Entry w → (onward h).to x ≡ w
    exit_leads N here side = ap (λ c. cond c S N) (first_at NorthSouth 2 N S N≢S here) ∙ from_north_south w side
    exit_leads S here side = ap (λ c. cond c N S) (second_at NorthSouth 2 N S N≢S here) ∙ cond_not (by_second NorthSouth w) N S ∙ from_north_south w side
    exit_leads E here side = ap (λ c. cond c W E) (first_at EastWest 3 E W E≢W here) ∙ from_east_west w side
    exit_leads W here side = ap (λ c. cond c E W) (second_at EastWest 3 E W E≢W here) ∙ cond_not (by_second EastWest w) E W ∙ from_east_west w side

  entry_leads : (s : Port) (f : Flit) → Best h s f → (w : Port) → at h.wishes s ≡ Some w → by_second Entry ((halfway h).to s) ≡ by_second Entry w
  entry_leads N f best w e = first_out N E refl refl _ ∙ first_in N f best w e Entry 0 E (λ p. N≢E (sym p))
  entry_leads E f best w e = second_out N E refl refl _ ∙ ap not (second_in E f best w e Entry 0 N N≢E) ∙ not-not _
  entry_leads S f best w e = first_out S W refl refl _ ∙ first_in S f best w e Entry 1 W (λ p. S≢W (sym p))
  entry_leads W f best w e = second_out S W refl refl _ ∙ ap not (second_in W f best w e Entry 1 S S≢W) ∙ not-not _

  pub chipper_leads : (s : Port) (f : Flit) → Best h s f → (w : Port) → at h.wishes s ≡ Some w → (chipper_turn h).to s ≡ w
  chipper_leads s f best w e = exit_leads s f best w e ((halfway h).to s) ((halfway h).from_to s) (entry_leads s f best w e)

module _ (h k : Handing) where
  crossed_same : (b : Block) (i : ℕ) (x : Bool) (m n o p : Port)
      → way h (draw h i) m n ≡ x → way k (draw k i) o p ≡ x
      → (x ≡ true → at h.wishes n ≡ at k.wishes p) → (x ≡ false → at h.wishes m ≡ at k.wishes o)
      → crossed h b i m n ≡ crossed k b i o p
  crossed_same b i true m n o p u v won lost = rw (u, v) (ap (λ q. not (wants_second b q)) (won refl))
  crossed_same b i false m n o p u v won lost = rw (u, v) (ap (wants_second b) (lost refl))

  both_out : (x : Bool) (m n o p : Port) → Alike h k m o → Alike h k n p → Alike h k (cond x n m) (cond x p o) × Alike h k (cond x m n) (cond x o p)
  both_out true m n o p a b = (b, a)
  both_out false m n o p a b = (a, b)

  plain_out : (x y : Bool) (m n o p : Port) → Plain h m × Plain k o → Plain h n × Plain k p → Alike h k (cond x n m) (cond y p o) × Alike h k (cond x m n) (cond y o p)
  plain_out true true m n o p a b = (inr b, inr a)
  plain_out true false m n o p a b = (inr (b.0, a.1), inr (a.0, b.1))
  plain_out false true m n o p a b = (inr (a.0, b.1), inr (b.0, a.1))
  plain_out false false m n o p a b = (inr a, inr b)

  -- a block lets out alike what comes in alike
  alike_out : (b : Block) (i : ℕ) (m n o p : Port) → Alike h k m o → Alike h k n p →
      Alike h k (cond (crossed h b i m n) n m) (cond (crossed k b i o p) p o) × Alike h k (cond (crossed h b i m n) m n) (cond (crossed k b i o p) o p)
  alike_out b i m n o p (inl a) (inl c) =
      rw (crossed_same b i (way k (draw k i) o p) m n o p (shared_way h k _ _ m o n p a c) refl (λ _. c.wish) (λ _. a.wish)) (both_out _ m n o p (inl a) (inl c))
  alike_out b i m n o p (inl a) (inr c) =
      rw (crossed_same b i false m n o p (golden_plain h _ m n a.one a.in_one c.0) (golden_plain k _ o p a.other a.in_other c.1) (λ e. absurd (false≢true e)) (λ _. a.wish))
      (both_out _ m n o p (inl a) (inr c))
  alike_out b i m n o p (inr a) (inl c) =
      rw (crossed_same b i true m n o p (plain_golden h _ m n c.one a.0 c.in_one) (plain_golden k _ o p c.other a.1 c.in_other) (λ _. c.wish) (λ e. absurd (true≢false e)))
      (both_out _ m n o p (inr a) (inl c))
  alike_out b i m n o p (inr a) (inr c) = plain_out _ _ m n o p a c

  kept : (x y : Bool) (a b : Port) → Alike h k (cond x ((halfway h).from a) ((halfway h).from b)) (cond y ((halfway k).from a) ((halfway k).from b))
      → Alike h k ((halfway h).from (cond x a b)) ((halfway k).from (cond y a b))
  kept x y a b = subst₂ (Alike h k) (turn_cond (halfway h).from x a b) (turn_cond (halfway k).from y a b)

  module _ (alike : (s : Port) → Alike h k s s) where
    halfway_alike : (x : Port) → Alike h k ((halfway h).from x) ((halfway k).from x)
    halfway_alike N = (alike_out Entry 0 N E N E (alike N) (alike E)).0
    halfway_alike E = (alike_out Entry 0 N E N E (alike N) (alike E)).1
    halfway_alike S = (alike_out Entry 1 S W S W (alike S) (alike W)).0
    halfway_alike W = (alike_out Entry 1 S W S W (alike S) (alike W)).1

    chipper_alike : (x : Port) → Alike h k ((chipper_turn h).from x) ((chipper_turn k).from x)
    chipper_alike N = kept _ _ S N (alike_out NorthSouth 2 _ _ _ _ (halfway_alike N) (halfway_alike S)).0
    chipper_alike E = kept _ _ W E (alike_out EastWest 3 _ _ _ _ (halfway_alike E) (halfway_alike W)).0
    chipper_alike S = kept _ _ N S (alike_out NorthSouth 2 _ _ _ _ (halfway_alike N) (halfway_alike S)).1
    chipper_alike W = kept _ _ E W (alike_out EastWest 3 _ _ _ _ (halfway_alike E) (halfway_alike W)).1

  pub chipper_steady : Carried h k → Carried k h → (s : Port) (f : Flit) → Golden h s f → (chipper_turn h).to s ≡ (chipper_turn k).to s
  chipper_steady there back = alike_steady h k (chipper_turn h) (chipper_turn k) (chipper_alike (carried_alike h k there back))
