use Rattle.std.proofs.Common.{◌≡◌, ◌+◌, ap, sym, refl, ◌∙◌}
use Rattle.std.proofs.lemmas.Result.{err_from_is_err_and}
use Rattle.text.specs.Texts.{Free}
use Rattle.text.specs.Unread.{unread, line_count}
use Rattle.text.specs.Faults.{told, ill_formed}
use Rattle.text.proofs.Exits.{err_at, missed}
use Rattle.text.proofs.Parting.{none_at}
use Rattle.text.proofs.Stopping.{lined}
use Rattle.text.proofs.lines.Lines.next_line.Goals as goal

pub returns-in_err-end : goal.returns-in_err-end
returns-in_err-end c =
    let m = missed c.find.result _ _ _ c.ok_or.ensures.value c.in_err-end.was in
    err_at _ (λ f. (told f ≡ ill_formed (line_count c.args.self.now + 1)) × Free 10 (unread c.args.self.now) × (c.args.self.now ≡ c.args.self.now)) _ _ (err_from_is_err_and _ c.from_residual.ensures.1) (ap told m.1 ∙ c.fault.ensures, none_at 10 _ (sym c.find.ensures ∙ m.0), refl)

pub returns : goal.returns
returns c = (lined _ _ _ (sym c.find.ensures ∙ c.in_ok-end.ensures.ok_part) c.new.ensures.words, c.new.ensures.line, refl)
