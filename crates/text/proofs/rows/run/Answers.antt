use Rattle.std.proofs.Common.{[], ◌∷◌, get_or, drop, refl, sym, ap, ◌∙◌, arith}
use Rattle.std.proofs.lemmas.Result.{err_from_is_err_and}
use Rattle.std.proofs.lemmas.Fmt.{decimal_injective}
use Rattle.text.specs.Faults.{ill_formed}
use Rattle.text.specs.Lines.{run_line, Brief}
use Rattle.text.proofs.Exits.{passed}
use Rattle.text.proofs.Figures.{figure_at, blank_at_end}
use Rattle.text.proofs.rows.run.Goals as goal

pub returns-in_err-tickets : goal.returns-in_err-tickets
returns-in_err-tickets c =
    passed run_line Brief _ _ _ _ (err_from_is_err_and _ c.from_residual.ensures.1) c.in_err-tickets.ensures.0.0
    (λ x fits p e.
    let ns = x.tickets ∷ x.words ∷ x.epoch ∷ x.seed ∷ x.cycles ∷ [] in
    c.in_err-tickets.ensures.0.1 ns [] fits.1 (refl, blank_at_end ns) (cc))

-- the last number is read, and too large
pub returns-then-cycles-gt-MOST_RUN_CYCLES : goal.returns-then-cycles-gt-MOST_RUN_CYCLES
returns-then-cycles-gt-MOST_RUN_CYCLES c =
    let read = c.in_ok-tickets.ensures.0 in (
      c.fault.ensures ∙ ap ill_formed c.in_ok-tickets.ensures.1,
      λ x fits p e.
          let same = decimal_injective _ _ (omega arith) (omega (arith, fits.1.1.1.1.1.0)) (sym (figure_at c.in_ok-tickets.field-0 5 4 _ (omega arith) (omega (arith, read.2.0))) ∙ ap (λ ws. get_or ws 4 []) (sym read.0 ∙ ap (drop 1) e)) in
          omega arith,
    )
