use Rattle.std.proofs.Common.{refl, inr}
use Rattle.std.proofs.lemmas.Result.{err_from_is_err_and}
use Rattle.text.proofs.Exits.{err_at}
use Rattle.limit.specs.Answers.{Answered, Named}
use Rattle.laying.proofs.Laying.{as_read, reported_err}
use Rattle.limit.proofs.Answering.{none_named, named_as, not_named, no_layout, no_limits, all}
use Rattle.limit.proofs.answer.reply.Goals as goal

pub returns-in_err-sheet-clause-answered : goal.returns-in_err-sheet-clause-answered
returns-in_err-sheet-clause-answered c =
    reported_err _ (Answered c.args.bytes.now) _ _ (err_from_is_err_and _ c.from_residual.ensures.1) (inr (_, c.in_err-sheet.ensures.read, refl))

pub returns-in_err-mesh-in-Mesh-clause-answered : goal.returns-in_err-mesh-in-Mesh-clause-answered
returns-in_err-mesh-in-Mesh-clause-answered c =
    reported_err _ (Answered c.args.bytes.now) _ _ (err_from_is_err_and _ c.from_residual-in_err-mesh-in-Mesh.ensures.1)
    (no_layout _ _ c.in_ok-sheet.ensures.read _ (as_read _ _ _ c.in-Mesh.is refl c.in_err-mesh-in-Mesh.ensures.laid))

pub returns-in_err-limits-in-Mesh-clause-answered : goal.returns-in_err-limits-in-Mesh-clause-answered
returns-in_err-limits-in-Mesh-clause-answered c =
    reported_err _ (Answered c.args.bytes.now) _ _ (err_from_is_err_and _ c.from_residual-in_err-limits-in-Mesh.ensures.1)
    (no_limits _ _ c.in_ok-sheet.ensures.read _ (as_read _ _ _ c.in-Mesh.is refl c.in_ok-mesh-in-Mesh.ensures.laid) _ c.in_err-limits-in-Mesh.ensures.judged)

pub returns-in_err-layout-in-Cabled-clause-answered : goal.returns-in_err-layout-in-Cabled-clause-answered
returns-in_err-layout-in-Cabled-clause-answered c =
    reported_err _ (Answered c.args.bytes.now) _ _ (err_from_is_err_and _ c.from_residual-in_err-layout-in-Cabled.ensures.1)
    (no_layout _ _ c.in_ok-sheet.ensures.read _ (as_read _ _ _ c.in-Cabled.is c.cables.ensures c.in_err-layout-in-Cabled.ensures.laid))

pub returns-in_err-limits-in-Cabled-clause-answered : goal.returns-in_err-limits-in-Cabled-clause-answered
returns-in_err-limits-in-Cabled-clause-answered c =
    reported_err _ (Answered c.args.bytes.now) _ _ (err_from_is_err_and _ c.from_residual-in_err-limits-in-Cabled.ensures.1)
    (no_limits _ _ c.in_ok-sheet.ensures.read _ (as_read _ _ _ c.in-Cabled.is c.cables.ensures c.in_ok-layout-in-Cabled.ensures.laid) _ c.in_err-limits-in-Cabled.ensures.judged)

pub returns-in_ok-limits-in-Mesh-clause-answered : goal.returns-in_ok-limits-in-Mesh-clause-answered
returns-in_ok-limits-in-Mesh-clause-answered c =
    all _ _ c.in_ok-sheet.ensures.read _ (as_read _ _ _ c.in-Mesh.is refl c.in_ok-mesh-in-Mesh.ensures.laid) _ c.in_ok-limits-in-Mesh.ensures.judged c.in_ok-limits-in-Mesh.ensures.exact c.in_ok-limits-in-Mesh.ensures.kept

pub returns-in_ok-limits-in-Cabled-clause-answered : goal.returns-in_ok-limits-in-Cabled-clause-answered
returns-in_ok-limits-in-Cabled-clause-answered c =
    all _ _ c.in_ok-sheet.ensures.read _ (as_read _ _ _ c.in-Cabled.is c.cables.ensures c.in_ok-layout-in-Cabled.ensures.laid) _ c.in_ok-limits-in-Cabled.ensures.judged c.in_ok-limits-in-Cabled.ensures.exact c.in_ok-limits-in-Cabled.ensures.kept

-- what a refusal names
pub returns-in_err-sheet-clause-named : goal.returns-in_err-sheet-clause-named
returns-in_err-sheet-clause-named c =
    err_at _ (Named c.args.bytes.now) _ _ (err_from_is_err_and _ c.from_residual.ensures.1) (none_named _ _ c.in_err-sheet.ensures.read)

pub returns-in_err-mesh-in-Mesh-clause-named : goal.returns-in_err-mesh-in-Mesh-clause-named
returns-in_err-mesh-in-Mesh-clause-named c =
    err_at _ (Named c.args.bytes.now) _ _ (err_from_is_err_and _ c.from_residual-in_err-mesh-in-Mesh.ensures.1) (named_as _ _ c.in_ok-sheet.ensures.read c.in_err-mesh-in-Mesh.field-0.0 c.in-Mesh.is refl c.in_err-mesh-in-Mesh.ensures.named)

pub returns-in_err-limits-in-Mesh-clause-named : goal.returns-in_err-limits-in-Mesh-clause-named
returns-in_err-limits-in-Mesh-clause-named c =
    err_at _ (Named c.args.bytes.now) _ _ (err_from_is_err_and _ c.from_residual-in_err-limits-in-Mesh.ensures.1) (not_named _ _ c.in_ok-sheet.ensures.read _ _ c.in_err-limits-in-Mesh.ensures.judged)

pub returns-in_err-layout-in-Cabled-clause-named : goal.returns-in_err-layout-in-Cabled-clause-named
returns-in_err-layout-in-Cabled-clause-named c =
    err_at _ (Named c.args.bytes.now) _ _ (err_from_is_err_and _ c.from_residual-in_err-layout-in-Cabled.ensures.1) (named_as _ _ c.in_ok-sheet.ensures.read c.in_err-layout-in-Cabled.field-0.0 c.in-Cabled.is c.cables.ensures c.in_err-layout-in-Cabled.ensures.named)

pub returns-in_err-limits-in-Cabled-clause-named : goal.returns-in_err-limits-in-Cabled-clause-named
returns-in_err-limits-in-Cabled-clause-named c =
    err_at _ (Named c.args.bytes.now) _ _ (err_from_is_err_and _ c.from_residual-in_err-limits-in-Cabled.ensures.1) (not_named _ _ c.in_ok-sheet.ensures.read _ _ c.in_err-limits-in-Cabled.ensures.judged)
