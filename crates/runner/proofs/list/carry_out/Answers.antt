use Rattle.std.proofs.Common.{refl, inr}
use Rattle.std.proofs.lemmas.Result.{err_from_is_err_and}
use Rattle.runner.proofs.Listing.{faulted}
use Rattle.runner.proofs.list.carry_out.Goals as goal

pub returns-in_err-sheet-clause-carried : goal.returns-in_err-sheet-clause-carried
returns-in_err-sheet-clause-carried c =
    faulted c.args.bytes.now c.args.writer.now _ _ (err_from_is_err_and _ c.from_residual.ensures.1) refl (inr c.in_err-sheet.ensures.read)
