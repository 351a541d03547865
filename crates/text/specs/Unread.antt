-- What is left of a text to read, and what reading its next line answers.
use Rattle.std.specs.Prelude.{◌≡◌, ℕ, ◌+◌, ◌<◌, ◌≤◌, List, length, Result, MatchResult}
use Rattle.text.specs.Texts.{Free, Lined}
use Rattle.text.specs.Fields.{words, line_number}
use Rattle.text.specs.Faults.{told, too_long, ill_formed}
use Rattle.text.specs.declared.fault.Fault.{Fault}
use Rattle.text.specs.declared.field.Fields.{Fields}
use Rattle.text.specs.declared.lines.Lines.{Lines}

-- the bytes that are left
abbrev pub unread : Lines → List ℕ
unread x = x.rest.now

-- how many lines were read
abbrev pub line_count : Lines → ℕ
line_count x = x.read

-- opening a text: nothing of it is read yet, or the fault says that it is too long
abbrev pub Opens : List ℕ → Result Lines Fault → Type 0
Opens t r =
    MatchResult r
    (λ x. (length t ≤ 65536) × (unread x ≡ t) × (line_count x ≡ 0))
    (λ f. (65536 < length t) × (told f ≡ too_long))

-- the fields of the next line, with its number, and what follows it is left; or no line has its end, and nothing changes
abbrev pub NextLine : Lines → Lines → Result Fields Fault → Type 0
NextLine old new r =
    MatchResult r
    (λ x. Lined (unread old) (words x) (unread new) × (line_number x ≡ line_count old + 1) × (line_count new ≡ line_count old + 1))
    (λ f. (told f ≡ ill_formed (line_count old + 1)) × Free 10 (unread old) × (new ≡ old))
