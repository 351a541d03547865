use Rattle.std.proofs.Common.{[], ◌∷◌, codes, arith}
use Rattle.text.specs.Texts.{word, number}
use Rattle.writer.specs.Listings.{mean_word}
use Rattle.writer.specs.Listings.LineOut.{added, short}
use Rattle.writer.proofs.Written.{lined_last, length_written}
use Rattle.writer.proofs.writer.Writer.end.Goals as goal

pub returns-then-room-digits-clause-line : goal.returns-then-room-digits-clause-line
returns-then-room-digits-clause-line c =
    short
    (omega (
      arith,
      c.if-room-digits.true,
      c.room.ensures,
      c.digits.ensures.exact,
      c.digits-2.ensures.exact,
      c.mean_width.ensures.exact,
      length_written (word (codes "end")) (number c.args.entered ∷ number c.args.off ∷ word (mean_word c.args.mean) ∷ []),
    ))

pub returns-clause-line : goal.returns-clause-line
returns-clause-line c =
    let p = lined_last c.args.self.now c.bytes.new.self c.next.new.self c.next-2.new.self c.mean.new.self c.byte.new.self _ _ _ _
    c.bytes.ensures c.next.ensures c.next-2.ensures c.mean.ensures c.byte.ensures in
    added (omega (arith, p.room)) p.appends
