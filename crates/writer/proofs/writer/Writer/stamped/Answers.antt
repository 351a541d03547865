use Rattle.std.proofs.Common.{◌∷◌, map, Err, Result, sym, ap, ◌∙◌, subst, arith}
use Rattle.std.proofs.lemmas.Result.{err_from_is_err_and}
use Rattle.fabric.specs.declared.refusal.Refusal.{Refusal}
use Rattle.fabric.specs.Refusals.{shown}
use Rattle.text.specs.Texts.{word, number, figures}
use Rattle.writer.specs.Listings.{LineOut, stamped_line}
use Rattle.writer.specs.Listings.LineOut.{added, short}
use Rattle.writer.proofs.Written.{lined, length_written, length_after_spaces, too_few, enough, no_memory}
use Rattle.writer.proofs.writer.Writer.stamped.Goals as goal

pub returns-in_err-ok_or-clause-line : goal.returns-in_err-ok_or-clause-line
returns-in_err-ok_or-clause-line c =
    let w = c.args.self.now in
    let line = stamped_line c.args.cycle c.args.kind.now (c.args.first ∷ c.args.more.now) in
    let e = c.in_err-ok_or.ensures in
    let f = err_from_is_err_and c.from_residual.result c.from_residual.ensures.1 in
    subst (λ (r : Result (Unit {0}) Refusal). LineOut w line w (shown r)) (sym (f.1 ∙ ap Err (f.2 ∙ no_memory c.after_stamped.result _ e.value e.variant)))
    (short
    (omega (
      arith,
      c.room.ensures,
      too_few c.after_stamped.result (sym e.variant) c.after_stamped.ensures,
      length_written (number c.args.cycle) (word c.args.kind.now ∷ number c.args.first ∷ map number c.args.more.now),
    )))

pub byte-requires : goal.byte-requires
byte-requires c =
    omega (
      arith,
      c.room.ensures,
      enough c.after_stamped.result (sym c.in_ok-ok_or.ensures.variant) c.after_stamped.ensures,
      c.number.ensures.room,
      c.word.ensures.room,
      c.next.ensures.room,
      c.all.ensures.room,
      length_after_spaces (figures c.args.more.now),
    )

pub returns-clause-line : goal.returns-clause-line
returns-clause-line c =
    let p = lined c.args.self.now c.number.new.self c.word.new.self c.next.new.self c.all.new.self c.byte.new.self _ _ _ _
    c.number.ensures c.word.ensures c.next.ensures c.all.ensures c.byte.ensures in
    added (omega (arith, p.room)) p.appends
