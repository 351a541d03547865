-- What a caller of a line learns from its answer.
use Rattle.std.proofs.Common.{◌≡◌, ◌≤◌, List, length, refl, arith}
use Rattle.fabric.specs.Verdicts.{Verdict}
use Rattle.fabric.specs.Verdicts.Verdict.{granted}
use Rattle.text.specs.Texts.{Field, written}
use Rattle.writer.specs.Listings.{beyond, Appends, LineOut}
use Rattle.writer.specs.Listings.LineOut.{added, short}
use Rattle.writer.specs.declared.writer.Writer.{Writer}

-- with room for the line it is written
pub with_room : {w w' : Writer} {line : List Field} {v : Verdict (Unit {0})} → length (written line) ≤ length (beyond w) → LineOut w line w' v →
    (v ≡ granted tt) × Appends w (written line) w'
with_room h (added l a) = (refl, a)
with_room h (short l) = absurd (let n : ⊥ = omega arith in n)
