-- A text is that of one list of lines, has one fault, and none where it is a document's.
use Rattle.std.proofs.Common.{◌≡◌, ℕ, ◌+◌, ◌≤◌, List, [], ◌∷◌, ◌++◌, map, length, take, drop, sym, refl, ap, ◌∙◌, subst, ap₂, inl, inr, ⊎_elim, append_assoc, append-nil, drop_of_length-le, arith}
use Rattle.std.specs.List.{AllByRecursion}
use Rattle.std.proofs.lemmas.Bool.{cases_lt}
use Rattle.std.proofs.lemmas.List.{length-take, take-append-drop, take-take, take_all}
use Rattle.std.proofs.lemmas.Grind.{flat_map-append}
use Rattle.text.specs.Texts.{Field, shown, row, written, text}
use Rattle.text.specs.Faults.{told, Along, Stops, Faulty}
use Rattle.text.specs.declared.fault.Fault.{Fault}
use Rattle.text.proofs.Tidy.{Tidy, same_words}
use Rattle.text.proofs.Aligned.{cut, ended}
use Rattle.text.proofs.Stopping.{shorter}

-- the words of tidy lines can be told from their text
pub same_text : (A B : List (List Field)) → AllByRecursion Tidy A → AllByRecursion Tidy B → text A ≡ text B → map (map shown) A ≡ map (map shown) B
same_text [] [] s t e = refl
same_text [] (b ∷ B) s t e = absurd (let z : ⊥ = omega (arith, shorter b [] (text B) e) in z)
same_text (a ∷ A) [] s t e = absurd (let z : ⊥ = omega (arith, shorter a [] (text A) (sym e)) in z)
same_text (a ∷ A) (b ∷ B) s t e =
    let k = cut (row a) (row b) (text A) (text B) s.0.ends t.0.ends (sym (ended a (text A)) ∙ e ∙ ended b (text B)) in
    ap₂ (λ (w : List (List ℕ)) (ws : List (List (List ℕ))). w ∷ ws) (same_words a b s.0 t.0 k.0) (same_text A B s.1 t.1 k.1)

module _ {D : Type 0} (lines : D → List (List Field)) where
  -- who goes along through line k has gone along through each line before
  along_less : (d : D) (j k : ℕ) (bs : List ℕ) → j ≤ k → Along lines k d bs → Along lines j d bs
  along_less d j k bs l (rest, e, none) =
      let T = take k (lines d) in
      let parts : text T ≡ text (take j (lines d)) ++ text (drop j T) =
      ap text (sym (take-append-drop j T)) ∙ flat_map-append written (take j T) (drop j T) ∙ ap (λ A. text A ++ text (drop j T)) (take-take j k (lines d) l) in (
        text (drop j T) ++ rest,
        e ∙ ap (λ q. q ++ rest) parts ∙ append_assoc (text (take j (lines d))) (text (drop j T)) rest,
        λ s. ap (λ q. text (drop j T) ++ q) (none (omega arith)) ∙ append-nil (text (drop j T)) ∙ ap text (drop_of_length-le T (omega (arith, length-take k (lines d)))),
      )

  -- a document goes along with its own text
  along_own : (d : D) (k : ℕ) → Along lines k d (text (lines d))
  along_own d k =
      along_less d k (k + length (lines d)) (text (lines d)) (omega arith)
      ([], ap text (sym (take_all (k + length (lines d)) (lines d) (omega arith))) ∙ sym (append-nil (text (take (k + length (lines d)) (lines d)))), λ l. refl)

  module _ (Lawful Unlimited : D → Type 0) (bs : List ℕ) where
    -- reading stops at one line
    stops_first : {j k : ℕ} {f g : Fault} → Stops lines Lawful Unlimited bs j f → Stops lines Lawful Unlimited bs k g → k ≤ j
    stops_first {j} {k} a b =
        ⊎_elim (λ l. let g = b.before in absurd (a.ends (g.0, g.1, along_less g.0 (j + 1) k bs (omega arith) g.2))) (λ l. l) (cases_lt j k)

    -- by one fault
    stops_by : (k : ℕ) (f g : Fault) → Stops lines Lawful Unlimited bs k f → Stops lines Lawful Unlimited bs k g → told f ≡ told g
    stops_by k f g a b =
        ⊎_elim
        (λ x. ⊎_elim (λ y. x.0 ∙ sym y.0) (λ y. absurd (x.1 y.1)) b.fault)
        (λ x. ⊎_elim (λ y. absurd (y.1 x.1)) (λ y. x.0 ∙ sym y.0) b.fault)
        a.fault

    pub one_fault : (f g : Fault) → Faulty lines Lawful Unlimited bs f → Faulty lines Lawful Unlimited bs g → told f ≡ told g
    one_fault f g (inl a) (inl b) = a.1 ∙ sym b.1
    one_fault f g (inl a) (inr b) = absurd (omega (arith, a.0, b.0))
    one_fault f g (inr a) (inl b) = absurd (omega (arith, a.0, b.0))
    one_fault f g (inr a) (inr b) =
        let same : a.1.0 ≡ b.1.0 = omega (arith, stops_first a.1.1 b.1.1, stops_first b.1.1 a.1.1) in
        stops_by b.1.0 f g (subst (λ k. Stops lines Lawful Unlimited bs k f) same a.1.1) b.1.1

    pub no_fault : (d : D) (f : Fault) → Lawful d → length bs ≤ 65536 → bs ≡ text (lines d) → Faulty lines Lawful Unlimited bs f → ⊥
    no_fault d f h l e (inl a) = omega (arith, a.0)
    no_fault d f h l e (inr a) = let k = a.1.0 in a.1.1.ends (d, h, subst (Along lines (k + 1) d) (sym e) (along_own d (k + 1)))
