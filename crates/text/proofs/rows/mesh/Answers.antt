use Rattle.std.proofs.Common.{[], ◌∷◌, refl}
use Rattle.std.proofs.lemmas.Result.{err_from_is_err_and}
use Rattle.text.specs.Texts.{Any}
use Rattle.text.specs.Lines.{shape_line}
use Rattle.text.specs.declared.parts.Shape.TheVariants.{Mesh, Cabled}
use Rattle.text.proofs.Exits.{passed}
use Rattle.text.proofs.Figures.{blank_at_end}
use Rattle.text.proofs.rows.mesh.Goals as goal

pub returns-in_err-width : goal.returns-in_err-width
returns-in_err-width c =
    passed shape_line Any _ _ _ _ (err_from_is_err_and _ c.from_residual.ensures.1) c.in_err-width.ensures.0.0
    (elim [
      | Mesh w h ↦ λ fits p e. c.in_err-width.ensures.0.1 (w ∷ h ∷ []) [] fits.1 (refl, blank_at_end (w ∷ h ∷ [])) (cc)
      | Cabled n ↦ λ fits p e. cc
    ])
