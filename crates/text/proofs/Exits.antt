-- The exit of a `?` in the reading of a line.
use Rattle.std.proofs.Common.{◌≡◌, ℕ, List, ◌++◌, map, Ok, Err, Result, Option, None, Some, sym, refl, ◌∙◌, subst, MatchResult}
use Rattle.std.specs.List.{AllByRecursion}
use Rattle.std.specs.Option.{ok_or}
use Rattle.std.specs.Result.{IsErrAnd}
use Rattle.text.specs.Texts.{Field, Fits, shown}
use Rattle.text.specs.Fields.{words, line_number, Unlike, Reads, Begins}
use Rattle.text.specs.Faults.{told, ill_formed}
use Rattle.text.specs.declared.fault.Fault.{Fault}
use Rattle.text.specs.declared.field.Fields.{Fields}

-- the result is the fault that was met
abbrev pub Passes : {A : Type 0} → Result A Fault → Fault → Type 0
Passes r f = (y : Fault) × (r ≡ Err y) × (y ≡ f)

pub err_at : {A : Type 0} (P : A → Type 0) (Q : Fault → Type 0) (r : Result A Fault) (f : Fault) → Passes r f → Q f → MatchResult r P Q
err_at P Q r f p q = subst (λ x. MatchResult x P Q) (sym p.1) (subst Q (sym p.2) q)

-- where `ok_or` met none
pub missed : {A : Type 0} (o : Option A) (r : Result A Fault) (e f : Fault) → r ≡ ok_or o e → r ≡ Err f → (o ≡ None) × (f ≡ e)
missed {A} None r e f h k = (refl, subst (λ (x : Result A Fault). MatchResult x (λ _. Unit {0}) (λ y. y ≡ e)) (sym h ∙ k) refl)
missed (Some x) r e f h k = absurd (let z : Ok x ≡ Err f = sym h ∙ k in cc)

-- where `map_err` puts a fault in an error's place
pub mapped : {A E : Type 0} {post : E → Fault → Type 0} {N : E → Type 0} (P : A → Type 0) (Q : Fault → Type 0) (o : Result A E) (r : Result A Fault) →
    MatchResult o (λ x. r ≡ Ok x) (λ e. IsErrAnd r (post e)) → MatchResult o P N → ((e : E) (f : Fault) → N e → post e f → Q f) → MatchResult r P Q
mapped P Q (Ok x) r h k g = subst (λ y. MatchResult y P Q) (sym h) k
mapped P Q (Err e) (Ok x) h k g = absurd h
mapped P Q (Err e) (Err f) h k g = g e f k h

-- and no value has the words
pub passed : {A : Type 0} (line : A → List Field) (P : A → Type 0) (ws : List (List ℕ)) (k : ℕ) (r : Result A Fault) (f : Fault) →
    Passes r f → told f ≡ ill_formed k → Unlike line P ws → Reads line P ws k r
passed line P ws k r f p at none = err_at _ _ r f p (at, none)

pub opened : {A : Type 0} (part : A → List Field) (P : A → Type 0) (old new : Fields) (r : Result A Fault) (f : Fault) →
    Passes r f → told f ≡ ill_formed (line_number old) → ((x : A) (vs : List (List ℕ)) → AllByRecursion Fits (part x) → P x → words old ≡ map shown (part x) ++ vs → ⊥) → line_number new ≡ line_number old → Begins part P old new r
opened part P old new r f p at none line = (err_at _ _ r f p (at, none), line)
