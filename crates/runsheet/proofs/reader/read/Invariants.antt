use Rattle.std.proofs.Common.{◌≡◌, ◌++◌, length}
use Rattle.text.specs.Texts.{text}
use Rattle.text.specs.Unread.{unread, line_count}
use Rattle.runsheet.specs.Reading.{draft, lines_read, Valid}
use Rattle.runsheet.proofs.reader.read.Given as goal

abbrev pub invariant-loop-reader : goal.invariant-loop-reader
invariant-loop-reader l =
    let d = draft l.reader in
    record {
      valid : Valid d;
      bytes : l.bytes ≡ text (lines_read d) ++ unread l.lines;
      count : line_count l.lines ≡ length (lines_read d);
    }

abbrev pub decreases-loop-reader : goal.decreases-loop-reader
decreases-loop-reader l = length (unread l.lines)
