-- The meshes that are refused are those whose sides are not fair.
use Rattle.std.specs.Prelude.{◌≡◌, ℕ, ◌*◌, Bool, false, ◌||◌, [], ◌==◌, nat_lt, refl}
use Rattle.std.proofs.Common.{arith}
use Rattle.std.proofs.lemmas.Bool.{cond_both}
use Rattle.std.proofs.lemmas.Bool.Decides.{nat_tests}
use Rattle.fabric.specs.Meshes.{Fair, mesh_plan, mesh_verdict}
use Rattle.fabric.specs.Verdicts.Verdict.{granted, refused}

-- the condition of the refusal
abbrev pub unfit : ℕ → ℕ → Bool
unfit w h = (w == 0) || h == 0 || nat_lt 64 (w * h)

pub fair : (w h : ℕ) → unfit w h ≡ false → Fair w h
fair w h e = grind (arith, nat_tests)

pub unfair : (w h : ℕ) → (Fair w h → ⊥) → refused 12 [] ≡ mesh_verdict w h
unfair w h no_mesh = cond_both (unfit w h) (refused 12 []) (granted (mesh_plan w h)) (λ v. refused 12 [] ≡ v) (λ _. refl) (λ e. absurd (no_mesh (fair w h e)))
