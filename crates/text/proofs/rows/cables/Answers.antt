use Rattle.std.proofs.Common.{◌≡◌, subst, arith}
use Rattle.std.proofs.lemmas.Fmt.{decimal_injective}
use Rattle.text.specs.Lines.{Uncabled}
use Rattle.text.proofs.rows.cables.Goals as goal

pub returns-in-Mesh : goal.returns-in-Mesh
returns-in-Mesh c =
    let n = c.in_ok-count.ensures in (
      c.fault.ensures,
      λ x fits u e.
          let none : x ≡ 0 = subst (λ s. Uncabled s x) c.in-Mesh.is u in
          let same : c.in_ok-count.count ≡ x = decimal_injective _ _ (omega (arith, n.1.0)) (omega (arith, fits.1.0)) (cc) in
          omega arith,
    )
