-- A way as it is printed, hop by hop.
use Rattle.std.proofs.Common.{◌≡◌, ℕ, ◌+◌, ◌<◌, List, [], ◌∷◌, ◌++◌, map, length, take, get_or, decimal, sym, ap, ◌∙◌}
use Rattle.std.specs.List.{flat_map}
use Rattle.std.proofs.lemmas.List.{take_more, append-nil, map-append}
use Rattle.std.proofs.lemmas.Grind.{flat_map-append}
use Rattle.fabric.specs.Ports.{letter}
use Rattle.bounds.specs.declared.path.Hop.{Hop}
use Rattle.text.specs.Texts.{Field, word, number, shown, after_spaces}

abbrev hop_fields : Hop → List Field
hop_fields h = number h.node ∷ word (letter h.port) ∷ []

-- the bytes of fields, each after a space
abbrev pub fields_after_spaces : List Field → List ℕ
fields_after_spaces fs = after_spaces (map shown fs)

abbrev pub steps : List Hop → List ℕ
steps hops = fields_after_spaces (flat_map hop_fields hops)

after_spaces_both : (a b : List Field) → fields_after_spaces (a ++ b) ≡ fields_after_spaces a ++ fields_after_spaces b
after_spaces_both a b = ap after_spaces (map-append shown a b) ∙ flat_map-append (λ v. 32 ∷ v) (map shown a) (map shown b)

-- one hop more
pub one_more : (hops : List Hop) (i : ℕ) (d : Hop) → i < length hops → steps (take i hops) ++ (32 ∷ decimal (get_or hops i d).node ++ 32 ∷ letter (get_or hops i d).port) ≡ steps (take (i + 1) hops)
one_more hops i d l =
    let h = get_or hops i d in
    ap (λ (bs : List ℕ). steps (take i hops) ++ (32 ∷ decimal h.node ++ 32 ∷ bs)) (sym (append-nil (letter h.port)))
    ∙ sym (after_spaces_both (flat_map hop_fields (take i hops)) (hop_fields h ++ []))
    ∙ ap fields_after_spaces (sym (flat_map-append hop_fields (take i hops) (h ∷ [])))
    ∙ ap steps (sym (take_more hops i d l))

-- the node at which they end
pub at_end : (hops : List Hop) (to : ℕ) → steps hops ++ 32 ∷ decimal to ≡ fields_after_spaces (flat_map hop_fields hops ++ number to ∷ [])
at_end hops to = ap (λ (bs : List ℕ). steps hops ++ 32 ∷ bs) (sym (append-nil (decimal to))) ∙ sym (after_spaces_both (flat_map hop_fields hops) (number to ∷ []))
