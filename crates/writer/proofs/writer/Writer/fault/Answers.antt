use Rattle.std.proofs.Common.{◌∷◌, length, decimal, ap, ◌∙◌, subst, arith}
use Rattle.text.specs.Faults.{told}
use Rattle.writer.specs.Steps.{Puts}
use Rattle.writer.specs.Listings.LineOut.{added, short}
use Rattle.writer.proofs.Written.{lined_last, length_fault}
use Rattle.writer.proofs.writer.Writer.fault.Goals as goal

pub returns-then-room-layer-clause-line : goal.returns-then-room-layer-clause-line
returns-then-room-layer-clause-line c =
    let long = length_fault (told c.args.fault) in
    let layer = ap length c.layer_word-layer.ensures.exact in
    let digits = ap (λ n. length (decimal n)) (c.from-number.ensures ∙ c.number.ensures) in
    short (omega (arith, c.if-room-layer.true, c.room.ensures))

pub returns-clause-line : goal.returns-clause-line
returns-clause-line c =
    let layer = c.layer_word-layer.ensures.exact in
    let number = c.from-number.ensures ∙ c.number.ensures in
    let word_told = subst (λ w. Puts c.bytes.new.self (32 ∷ w) c.word.new.self) layer c.word.ensures in
    let number_told = subst (λ n. Puts c.word.new.self (32 ∷ decimal n) c.next.new.self) number c.next.ensures in
    let p = lined_last c.args.self.now c.bytes.new.self c.word.new.self c.next.new.self c.next-2.new.self c.byte.new.self _ _ _ _
    c.bytes.ensures word_told number_told c.next-2.ensures c.byte.ensures in
    let long = length_fault (told c.args.fault) in
    let letters = ap length layer in
    let digits = ap (λ n. length (decimal n)) number in
    added (omega (arith, p.room)) p.appends
