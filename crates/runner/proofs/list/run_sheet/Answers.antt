use Rattle.std.proofs.Common.{refl, inl}
use Rattle.std.proofs.lemmas.Result.{err_from_is_err_and}
use Rattle.runsheet.specs.Said.{said}
use Rattle.laying.proofs.Laying.{as_read}
use Rattle.runner.proofs.Listing.{faulted, no_layout, on_layout}
use Rattle.runner.proofs.list.run_sheet.Goals as goal

pub returns-in_err-mesh-in-Mesh-clause-carried : goal.returns-in_err-mesh-in-Mesh-clause-carried
returns-in_err-mesh-in-Mesh-clause-carried c text read =
    let s = said c.args.sheet.now in
    faulted text c.args.writer.now _ _ (err_from_is_err_and _ c.from_residual.ensures.1) refl
    (inl (s, read, no_layout s _ (as_read _ _ _ c.in-Mesh.is refl c.in_err-mesh-in-Mesh.ensures.laid)))

pub returns-in_ok-mesh-in-Mesh-clause-carried : goal.returns-in_ok-mesh-in-Mesh-clause-carried
returns-in_ok-mesh-in-Mesh-clause-carried c text read =
    on_layout text _ c.args.writer.now _ read _ (as_read _ _ _ c.in-Mesh.is refl c.in_ok-mesh-in-Mesh.ensures.laid) _ c.run_on.ensures.ended

pub returns-in-Ok-clause-carried : goal.returns-in-Ok-clause-carried
returns-in-Ok-clause-carried c text read =
    on_layout text _ c.args.writer.now _ read _ (as_read _ _ _ c.in-Cabled.is c.cables.ensures c.in-Ok.ensures.laid) _ c.run_on-in-Ok.ensures.ended

pub returns-in-Err-clause-carried : goal.returns-in-Err-clause-carried
returns-in-Err-clause-carried c text read =
    let s = said c.args.sheet.now in
    (inl (s, read, no_layout s _ (as_read _ _ _ c.in-Cabled.is c.cables.ensures c.in-Err.ensures.laid)), refl)
