use Rattle.std.proofs.Common.{◌≡◌, ◌+◌, take}
use Rattle.text.specs.Texts.{figures}
use Rattle.writer.specs.Steps.{bytes_taken}
use Rattle.writer.proofs.widths.after_numbers.Given as goal

abbrev pub invariant-loop-n : goal.invariant-loop-n
invariant-loop-n l = l.left + bytes_taken (figures (take l.n-index l.numbers)) ≡ l.initial.left
