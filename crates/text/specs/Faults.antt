-- The faults of a text, and where a text stops being that of a document.
use Rattle.std.specs.Prelude.{◌≡◌, ℕ, ◌+◌, ◌<◌, ◌≤◌, ◌⊎◌, List, [], ◌∷◌, ◌++◌, length, take, codes}
use Rattle.fabric.specs.Refusals.{number}
use Rattle.text.specs.Texts.{Field, word, number as numeral, text}
use Rattle.text.specs.declared.fault.Fault.{Fault}
use Rattle.text.specs.declared.fault.Layer.{Layer}
use Rattle.text.specs.declared.fault.Layer.TheVariants.{Sheet, Layout, Network}

-- what a fault tells: the number of its refusal, its layer and its line
abbrev pub told : Fault → ℕ × Layer × ℕ
told f = (number f.refusal, f.layer, f.line)

abbrev pub too_long : ℕ × Layer × ℕ
too_long = (15, Sheet, 0)

abbrev pub ill_formed : ℕ → ℕ × Layer × ℕ
ill_formed k = (16, Sheet, k)

abbrev pub too_many : ℕ → ℕ × Layer × ℕ
too_many k = (17, Sheet, k)

abbrev pub layer_word : Layer → List ℕ
layer_word Sheet = codes "sheet"
layer_word Layout = codes "layout"
layer_word Network = codes "network"

-- what a fault tells, as the fields of a line
abbrev pub fault_fields : ℕ × Layer × ℕ → List Field
fault_fields x = word (codes "fault") ∷ word (layer_word x.1) ∷ numeral x.0 ∷ numeral x.2 ∷ []

-- Of documents of a kind D, each of which has its lines:
-- the bytes begin with the document's first k lines, and end with the document where it has fewer
abbrev pub Along : {D : Type 0} → (D → List (List Field)) → ℕ → D → List ℕ → Type 0
Along lines k d bs = (rest : List ℕ) × (bs ≡ text (take k (lines d)) ++ rest) × (length (lines d) < k → rest ≡ [])

-- some document that P holds of goes along with the bytes through line k
abbrev pub GoesOn : {D : Type 0} → (D → List (List Field)) → (D → Type 0) → ℕ → List ℕ → Type 0
GoesOn {D} lines P k bs = (d : D) × P d × Along lines k d bs

-- line k + 1 is the first at which no lawful document goes on: by 17 if one would go on but for the limits of counts, else by 16
pub record Stops {D : Type 0} (lines : D → List (List Field)) (Lawful Unlimited : D → Type 0) (bs : List ℕ) (k : ℕ) (f : Fault) : Type 0 where
  pub before : GoesOn lines Lawful k bs
  pub ends : GoesOn lines Lawful (k + 1) bs → ⊥
  pub fault : ((told f ≡ ill_formed (k + 1)) × (GoesOn lines Unlimited (k + 1) bs → ⊥)) ⊎ ((told f ≡ too_many (k + 1)) × GoesOn lines Unlimited (k + 1) bs)

abbrev pub Faulty : {D : Type 0} → (D → List (List Field)) → (D → Type 0) → (D → Type 0) → List ℕ → Fault → Type 0
Faulty lines Lawful Unlimited bs f = ((65536 < length bs) × (told f ≡ too_long)) ⊎ ((length bs ≤ 65536) × ((k : ℕ) × Stops lines Lawful Unlimited bs k f))
