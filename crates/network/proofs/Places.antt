-- Options and places.
use Rattle.std.proofs.Common.{◌≡◌, List, Some, None, Option, refl}
use Rattle.fabric.specs.declared.parts.Flit.{Flit}
use Rattle.fabric.specs.declared.parts.Port.{Port}
use Rattle.fabric.specs.declared.parts.Port.TheVariants.{N, E, S, W}
use Rattle.switch.specs.Switches.{Turn, at, turned}
use Rattle.network.specs.Cycle.{in_slot_order}

pub some_none : {A B : Type 0} (o : Option A) (x : A) → o ≡ None → o ≡ Some x → B
some_none o x p q = cc

pub pair_some : (b : Port × Flit) (p : Port) (f : Flit) → b.0 ≡ p → b.1 ≡ f → Some b ≡ Some (p, f)
pair_some b p f u v = λ i. Some (u i, v i)

-- what stands at a side of four places in slot order
pub at_ordered : {A : Type 0} (here : Port → Option A) (p : Port) → at (in_slot_order here) p ≡ here p
at_ordered here N = refl
at_ordered here E = refl
at_ordered here S = refl
at_ordered here W = refl

pub at_turned : {A : Type 0} (t : Turn) (xs : List (Option A)) (q : Port) → at (turned t xs) q ≡ at xs (t.from q)
at_turned t xs = at_ordered (λ p. at xs (t.from p))
