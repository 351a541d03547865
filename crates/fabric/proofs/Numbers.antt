-- Ports by their places, and slots by their numbers: no two slots have the same.
use Rattle.std.specs.Prelude.{◌≡◌, ℕ, zero, suc, ◌<◌, ◌⊎◌, ◌≢◌, refl}
use Rattle.std.proofs.Common.{ap, inl, inr, ⊎_elim, arith}
use Rattle.std.proofs.lemmas.Bool.{cases_eq}
use Rattle.fabric.specs.declared.parts.Slot.{Slot}
use Rattle.fabric.specs.Ports.{place_of, port_of, slot_number}
use Rattle.fabric.specs.Places.{place_below, place_same}

pub place_of_port : (k : ℕ) → k < 4 → place_of (port_of k) ≡ k
place_of_port zero l = refl
place_of_port (suc zero) l = refl
place_of_port (suc (suc zero)) l = refl
place_of_port (suc (suc (suc zero))) l = refl
place_of_port (suc (suc (suc (suc k)))) l = absurd (omega arith)

pub slot_below : (s : Slot) → s.node < 64 → slot_number s < 256
slot_below s l = omega (arith, place_below s.port)

pub slot_same : (s t : Slot) → slot_number s ≡ slot_number t → s ≡ t
slot_same s t e =
    let a = place_below s.port in
    let b = place_below t.port in
    let n : s.node ≡ t.node = omega arith in
    let p : s.port ≡ t.port = place_same s.port t.port (omega arith) in
    λ i. record { node = n i; port = p i }

pub slot_cases : (s t : Slot) → (s ≡ t) ⊎ (s ≢ t)
slot_cases s t = ⊎_elim (λ e. inl (slot_same s t e)) (λ h. inr (λ e. h (ap slot_number e))) (cases_eq (slot_number s) (slot_number t))
