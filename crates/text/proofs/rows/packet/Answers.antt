use Rattle.std.proofs.Common.{◌≤◌, [], ◌∷◌, map, take, sym, refl, ap, ◌∙◌, subst, arith}
use Rattle.std.specs.List.{AllByRecursion}
use Rattle.std.proofs.lemmas.Result.{err_from_is_err_and}
use Rattle.text.specs.Faults.{ill_formed}
use Rattle.text.specs.Texts.{Fits, number, figures}
use Rattle.text.specs.Lines.{payload, packet_line, Blank, Sized}
use Rattle.text.proofs.Exits.{passed}
use Rattle.text.proofs.Figures.{figures_only, figures_end, blank_at_end, same_front}
use Rattle.text.proofs.rows.packet.Goals as goal

pub returns-in_err-cycle : goal.returns-in_err-cycle
returns-in_err-cycle c =
    passed packet_line (λ p. Sized p × (c.args.last ≤ p.cycle)) _ _ _ _ (err_from_is_err_and _ c.from_residual.ensures.1) c.in_err-cycle.ensures.0.0
    (λ x fits p e.
    let ns = x.cycle ∷ x.node ∷ x.own ∷ x.destination ∷ x.count ∷ [] in
    c.in_err-cycle.ensures.0.1 ns (figures (payload x)) (fits.0, (fits.1.0, (fits.1.1.0, (fits.1.1.1.0, (fits.1.1.1.1.0, tt))))) (refl, blank_at_end ns) e)

pub returns-then-cycle-last : goal.returns-then-cycle-last
returns-then-cycle-last c =
    let read = c.in_ok-cycle.ensures.0 in (
      c.fault.ensures ∙ ap ill_formed c.in_ok-cycle.ensures.1,
      λ x fits p e.
          let s = same_front _ _ c.in_ok-cycle.field-0 x read.2.0 read.0 read.1 fits e in
          omega (arith, s.0, s.1, c.then-cycle-last.either, p.0.some, p.0.most, p.1),
    )

pub returns-in_err-words : goal.returns-in_err-words
returns-in_err-words c =
    let read = c.in_ok-cycle.ensures.0 in
    passed packet_line (λ p. Sized p × (c.args.last ≤ p.cycle)) _ _ _ _ (err_from_is_err_and _ c.from_residual-in_err-words.ensures.1)
    (c.in_err-words.ensures.0.0 ∙ ap ill_formed c.in_ok-cycle.ensures.1)
    (λ x fits p e.
    let s = same_front _ _ c.in_ok-cycle.field-0 x read.2.0 read.0 read.1 fits e in
    c.in_err-words.ensures.0.1 x.words [] (subst (λ k. AllByRecursion Fits (map number (take k x.words))) (sym s.1) fits.1.1.1.1.1)
    (p.0.places, subst (λ k. Blank k x.words) (sym s.1) p.0.blank)
    (figures_only _ _ s.2))

pub returns-in_err-end : goal.returns-in_err-end
returns-in_err-end c =
    let read = c.in_ok-cycle.ensures.0 in
    passed packet_line (λ p. Sized p × (c.args.last ≤ p.cycle)) _ _ _ _ (err_from_is_err_and _ c.from_residual-in_err-end.ensures.1)
    (c.in_err-end.ensures.0 ∙ ap ill_formed (c.in_ok-words.ensures.1 ∙ c.in_ok-cycle.ensures.1))
    (λ x fits p e.
    let s = same_front _ _ c.in_ok-cycle.field-0 x read.2.0 read.0 read.1 fits e in
    let w = c.in_ok-words.ensures.0 in
    c.in_err-end.ensures.1
    (figures_end x.words c.in_ok-words.words _ _ _ (omega (arith, s.1, p.0.most, p.0.places)) (omega (arith, s.1, p.0.most, w.2.0)) w.0 s.2))
