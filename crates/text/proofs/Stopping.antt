-- Where reading stops, no document goes on.
use Rattle.std.proofs.Common.{◌≡◌, ◌≢◌, ℕ, ◌+◌, ◌-◌, ◌<◌, eqb, List, [], ◌∷◌, ◌++◌, map, length, take, drop, Some, sym, refl, ap, ◌∙◌, subst, inl, append_assoc, arith}
use Rattle.std.specs.List.{position, AllByRecursion}
use Rattle.std.proofs.lemmas.List.{take-append-drop, take_rest, drop_more, take_at, length-append, flat_map_more}
use Rattle.text.specs.Texts.{Field, Fits, Free, Lined, shown, spaced, row, written, text, parted}
use Rattle.text.specs.Fields.{Unlike}
use Rattle.text.specs.Faults.{told, ill_formed, GoesOn, Stops}
use Rattle.text.specs.declared.fault.Fault.{Fault}
use Rattle.text.proofs.Parting.{first_at, spaced_parted}
use Rattle.text.proofs.Lists.{all_right}
use Rattle.text.proofs.Tidy.{Tidy}
use Rattle.text.proofs.Aligned.{cut, ended, Matched, matched}

-- up to the first byte 10, at index `end`
pub lined : (rest : List ℕ) (end : ℕ) (ws : List (List ℕ)) → position (λ x. eqb x 10) rest ≡ Some end → ws ≡ parted 32 (take end rest) →
    Lined rest ws (take (length rest - (end + 1)) (drop (end + 1) rest))
lined rest end ws h w =
    let f = first_at 10 rest end h in (
      take end rest,
      sym (take-append-drop end rest) ∙ ap (λ r. take end rest ++ r) (drop_more rest end 0 f.0 ∙ ap (λ x. x ∷ drop (end + 1) rest) f.2 ∙ ap (λ r. 10 ∷ r) (sym (take_rest rest (end + 1)))),
      f.1,
      w,
    )

-- the words of a line are those of its fields
pub is_line : (l : List Field) (rest more : List ℕ) (ws : List (List ℕ)) → Lined rest ws more → ws ≡ map shown l → rest ≡ written l ++ more
is_line l rest more ws n e =
    n.1
    ∙ ap (λ x. x ++ 10 ∷ more) (sym (spaced_parted n.0) ∙ ap spaced (sym n.3 ∙ e))
    ∙ sym (ended l more)

-- one line more
pub onward : (A B : List (List Field)) (l : List Field) (bs rest more : List ℕ) → bs ≡ text A ++ rest → B ≡ A ++ l ∷ [] → rest ≡ written l ++ more → bs ≡ text B ++ more
onward A B l bs rest more e g h = e ∙ ap (λ q. text A ++ q) h ∙ sym (append_assoc (text A) (written l) more) ∙ ap (λ q. q ++ more) (flat_map_more written [] A l ∙ ap text (sym g))

pub shorter : (l : List Field) (rest more : List ℕ) → rest ≡ written l ++ more → length more < length rest
shorter l rest more e = omega (arith, ap length (e ∙ ended l more), length-append (row l) (10 ∷ more))

-- the text begins with no line of the kind
abbrev pub Barred : {X : Type 0} → (X → List Field) → (X → Type 0) → List ℕ → Type 0
Barred {X} line P t = (x : X) (more : List ℕ) → AllByRecursion Fits (line x) → P x → t ≢ written (line x) ++ more

module _ {X : Type 0} (line : X → List Field) (P : X → Type 0) (rest : List ℕ) where
  pub no_line : Free 10 rest → Barred line P rest
  no_line f x more h p e = (all_right (λ x. x ≢ 10) (row (line x)) (10 ∷ more) (subst (Free 10) (e ∙ ended (line x) more) f)).0 refl

  pub other_line : ((x : X) → AllByRecursion Fits (line x) → Tidy (line x)) → (ws : List (List ℕ)) (more : List ℕ) → Lined rest ws more → Unlike line P ws → Barred line P rest
  other_line t ws more n none x m h p e =
      let T = t x h in
      let same = (cut n.0 (row (line x)) more m n.2 T.ends (sym n.1 ∙ e ∙ ended (line x) m)).0 in
      none x h p (n.3 ∙ ap (parted 32) same ∙ T.parts)

-- the lines A were read
module _ {D : Type 0} (lines : D → List (List Field)) (A : List (List Field)) (bs rest : List ℕ) (o : bs ≡ text A ++ rest) where
  -- a document that begins with them goes along
  pub along : (P : D → Type 0) (d : D) (Z : List (List Field)) → P d → lines d ≡ A ++ Z → GoesOn lines P (length A) bs
  along P d Z h z = (
    d,
    h,
    (
      rest,
      o ∙ ap (λ q. text q ++ rest) (sym (ap (take (length A)) z ∙ take_at A Z (length A) refl)),
      λ l. absurd (let y : ⊥ = omega (arith, ap length z, length-append A Z) in y),
    ),
  )

  -- one that goes on agrees with them, and goes on with the rest
  pub goes_on : (P : D → Type 0) → ((d : D) → P d → AllByRecursion Tidy (lines d)) → AllByRecursion Tidy A → (g : GoesOn lines P (length A + 1) bs) → Matched A (lines g.0) rest
  goes_on P tidy t g = matched A (lines g.0) rest g.2.0 t (tidy g.0 g.1) (sym o ∙ g.2.1) g.2.2

  -- none goes on
  pub halted : (Lawful Unlimited : D → Type 0) (f : Fault) (d : D) (Z : List (List Field)) → ((d : D) → Lawful d → Unlimited d) → ((d : D) → Unlimited d → AllByRecursion Tidy (lines d)) →
      Lawful d → lines d ≡ A ++ Z → told f ≡ ill_formed (length A + 1) → AllByRecursion Tidy A → ((d : D) → Unlimited d → Matched A (lines d) rest → ⊥) → Stops lines Lawful Unlimited bs (length A) f
  halted Lawful Unlimited f d Z weaker tidy h z at t none =
      let no : GoesOn lines Unlimited (length A + 1) bs → ⊥ = λ g. none g.0 g.1 (goes_on Unlimited tidy t g) in
      record {
        before = along Lawful d Z h z;
        ends = λ g. no (g.0, weaker g.0 g.1, g.2);
        fault = inl (at, no);
      }
