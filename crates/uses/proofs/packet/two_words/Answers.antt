use Rattle.std.proofs.Common.{◌≡◌, ℕ, List, Ok, rules, sym, refl, ap, ◌∙◌}
use Rattle.fabric.specs.Refusals.{shown}
use Rattle.fabric.specs.Verdicts.{Verdict}
use Rattle.network.specs.Computed.{taken, left, entering, ready, handing, arriving, done}
use Rattle.uses.proofs.Passing.{brings, blanks, words}
use Rattle.uses.proofs.packet.two_words.Goals.{After-collect}
use Rattle.uses.proofs.packet.two_words.Goals as goal

-- what the collection answers, and what the memory then holds
brought : (c : After-collect) → ◌≡◌ {A = Verdict ℕ × List ℕ} (shown c.collect.result, c.collect.new.memory) words
unfolding taken left entering ready handing arriving done
brought c =
    brings c.in_ok-mesh.mesh c.new-network.result c.set_up.new.self c.offer.new.self c.cycle.new.self c.cycle-2.new.self c.cycle-3.new.self c.collect.new.self
    c.in_ok-mesh.ensures c.new-network.ensures.parts.0 c.in_ok-set_up.ensures.begins c.set_up.ensures.parts.0 (c.new-line.ensures.queue ∙ ap blanks (search rules))
    (c.offer.ensures.promised, c.offer.ensures.parts)
    (c.cycle.ensures.promised, c.cycle.ensures.parts)
    (c.cycle-2.ensures.promised, c.cycle-2.ensures.parts)
    (c.cycle-3.ensures.promised, c.cycle-3.ensures.parts)
    (c.collect.ensures.promised, c.collect.ensures.parts) refl

pub returns : goal.returns
returns c = ap (λ (z : Verdict ℕ × List ℕ). Ok z.1) (brought (goal.at.returns c).After-collect)

pub returns-in_err-collect : goal.returns-in_err-collect
returns-in_err-collect c =
    let e = sym (ap shown c.in_err-collect.was) ∙ ap (λ (z : Verdict ℕ × List ℕ). z.0) (brought (goal.at.returns-in_err-collect c).After-collect) in
    (cc)
