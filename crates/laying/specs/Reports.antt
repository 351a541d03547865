-- What a sheet is answered, line by line: an answer, or a fault.
use Rattle.std.specs.Prelude.{ℕ, List, Ok, Err, Result}
use Rattle.fabric.specs.Verdicts.{Verdict}
use Rattle.fabric.specs.Verdicts.Verdict.{granted, refused}
use Rattle.text.specs.declared.fault.Fault.{Fault}
use Rattle.text.specs.declared.fault.Layer.{Layer}
use Rattle.text.specs.Faults.{told}

-- an answer, or a fault by its number, its layer and its line
pub data Report (A : Type 0) : Type 0 where
  answers : A → Report A
  faults : ℕ × Layer × ℕ → Report A

abbrev pub reported : {A B : Type 0} → (A → B) → Result A Fault → Report B
reported seen (Ok a) = answers (seen a)
reported seen (Err f) = faults (told f)

-- a layer's verdict; the line of a refusal goes by its number and what it names
abbrev pub by_layer : {A : Type 0} → Layer → (ℕ → List ℕ → ℕ) → Verdict A → Report A
by_layer l line (granted a) = answers a
by_layer l line (refused k vs) = faults (k, l, line k vs)

-- what comes after an answer; a fault is the whole report
abbrev pub then : {A B : Type 0} → Report A → (A → Report B) → Report B
then (answers a) more = more a
then (faults x) more = faults x
