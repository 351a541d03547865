-- A round in place: the row is the old one from the node on that comes next, and before it the new one.
use Rattle.std.proofs.Common.{◌≡◌, ℕ, ◌+◌, ◌<◌, ◌≤◌, Bool, true, false, List, length, get_or, set, is_some, Some, None, Option, refl, ap, ◌∙◌, sym, ⊎_elim, below_more, arith}
use Rattle.std.proofs.lemmas.List.{get_or-set_other}
use Rattle.std.proofs.lemmas.Bool.{ne_eqb, false≢true, cases_lt}
use Rattle.std.specs.Bool.{then_some}
use Rattle.std.specs.Option.{option_or}
use Rattle.fabric.specs.declared.parts.Port.{Port}
use Rattle.cabled.specs.Levels.{any, at, again}
use Rattle.cabled.proofs.Filled.{set_more}

-- a node that is raised has no level that others are raised beside
at_raised : (l : ℕ) (o : Option ℕ) (b : Bool) → at l (option_or o (then_some b (l + 1))) ≡ at l o
at_raised l (Some d) b = refl
at_raised l None true = ne_eqb (l + 1) l (λ e. omega arith)
at_raised l None false = refl

module _ (next : ℕ → Port → ℕ) (f : ℕ → Option ℕ) (l : ℕ) where
  pub record Midway (n : ℕ) (row : List (Option ℕ)) : Type 0 where
    pub raised : (u : ℕ) → u < n → get_or row u None ≡ again next f l u
    pub rest : (u : ℕ) → n ≤ u → get_or row u None ≡ f u

  module _ (n : ℕ) (row : List (Option ℕ)) (m : Midway n row) where
    same_at : (u : ℕ) → at l (get_or row u None) ≡ at l (f u)
    same_at u = ⊎_elim (λ h. ap (at l) (m.raised u h) ∙ at_raised l (f u) (any (λ p. at l (f (next u p))))) (λ h. ap (at l) (m.rest u h)) (cases_lt u n)

    same_again : again next (λ u. get_or row u None) l n ≡ again next f l n
    same_again = λ i. option_or (m.rest n (omega arith) i) (then_some (any (λ p. same_at (next n p) i)) (l + 1))

    -- a node that has no level is raised
    pub one_raised : (r : Option ℕ) → n < length row → r ≡ again next (λ u. get_or row u None) l n → Midway (n + 1) (set row n r)
    one_raised r h e =
        record {
          raised = set_more (λ u x. x ≡ again next f l u) None row n r h m.raised (e ∙ same_again);
          rest = λ u k. get_or-set_other row n u r None (λ z. omega arith) ∙ m.rest u (omega arith);
        }

    -- and one that has a level keeps it
    pub one_kept : is_some (get_or row n None) ≡ true → Midway (n + 1) row
    one_kept e =
        record {
          raised = below_more (λ u. get_or row u None ≡ again next f l u) n m.raised (here (get_or row n None) (f n) e (m.rest n (omega arith)));
          rest = λ u k. m.rest u (omega arith);
        }
      where
        here : (o d : Option ℕ) → is_some o ≡ true → o ≡ d → o ≡ option_or d (then_some (any (λ p. at l (f (next n p)))) (l + 1))
        here o (Some d) e s = s
        here o None e s = absurd (false≢true (sym (ap is_some s) ∙ e))
