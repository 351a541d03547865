use Rattle.std.proofs.Common.{◌≡◌, ◌+◌, ◌++◌, map, length, get_or, take, drop, sym, ap, ◌∙◌, arith}
use Rattle.std.proofs.lemmas.Result.{err_from_is_err_and}
use Rattle.text.specs.Faults.{ill_formed}
use Rattle.text.specs.Texts.{number, figures}
use Rattle.text.specs.Lines.{Blank}
use Rattle.text.proofs.Exits.{opened}
use Rattle.text.proofs.Figures.{figures_next, fits_at}
use Rattle.text.proofs.rows.numbers.Goals as goal

pub returns-in_err-numbers : goal.returns-in_err-numbers
returns-in_err-numbers g c =
    let i = c.loop-i.i in
    let k = c.args.count in
    let inv = c.loop-i.invariant in
    opened (λ ns. map number (take k ns)) (λ ns. (length ns ≡ g.row.N) × Blank k ns) c.args.fields.now c.number.new.self _ _ (err_from_is_err_and _ c.from_residual.ensures.1)
    (c.in_err-numbers.ensures.0.0 ∙ ap ill_formed inv.line)
    (λ xs more fits p e.
    c.in_err-numbers.ensures.0.1 (get_or xs i 0) (drop (i + 1) (figures (take k xs) ++ more))
    (fits_at xs k i c.loop-i-test.true (omega arith) fits, tt)
    tt
    (figures_next xs c.loop-i.numbers k i _ more c.loop-i-test.true (omega arith) (omega (arith, inv.places)) (sym inv.read ∙ e)))
    (c.in_err-numbers.ensures.1 ∙ inv.line)
