use Rattle.std.proofs.Common.{◌≡◌, ℕ, List, length, sym, ap, ◌∙◌, subst, rules}
use Rattle.fabric.specs.Verdicts.Verdict.{granted}
use Rattle.writer.specs.declared.writer.Writer.{Writer}
use Rattle.writer.specs.Listings.{listed, SameLender}
use Rattle.runner.specs.Answering.{WrittenOut}
use Rattle.runner.specs.Answering.WrittenOut.{short}
use Rattle.runner.proofs.Listing.{ran_through, no_room, fault_out}
use Rattle.runner.proofs.Only.{one_run}
use Rattle.runner.proofs.list.list.Goals as goal
use Rattle.runner.proofs.list.list.Goals.{in-Err+in_ok-fault, in_default}

pub returns-then-memory-lt-MEMORY-clause-out : goal.returns-then-memory-lt-MEMORY-clause-out
returns-then-memory-lt-MEMORY-clause-out c = short c.if-memory-lt-MEMORY.true

pub returns-then-memory-lt-MEMORY-clause-run : goal.returns-then-memory-lt-MEMORY-clause-run
returns-then-memory-lt-MEMORY-clause-run c = one_run

pub returns-in_err-fault : goal.returns-in_err-fault
returns-in_err-fault c =
    let new = c.new-writer.ensures.empty in
    let e = c.fault.ensures in
    absurd (no_room c.args.sheet.now c.args.memory.now c.new-writer.result new.0 new.1 c.if-memory-lt-MEMORY.false c.in-Err.fault c.carry_out.new.writer c.fault.new.self
    c.in-Err.ensures.carried.1 c.fault.result e.few e.line _ c.in_err-fault.was)

-- at the end of either way
moved : (w : Writer) {text memory : List ℕ} {n : ℕ} {v u : Writer} → v ≡ u → SameLender w u → WrittenOut text memory (granted n) u.memory.now → SameLender w v × WrittenOut text memory (granted n) v.memory.now
moved w {text} {memory} {n} e a b = subst (λ (x : Writer). SameLender w x × WrittenOut text memory (granted n) x.memory.now) (sym e) (a, b)

pub returns-clause-out : goal.returns-clause-out
returns-clause-out c =
    let new = c.new-writer.ensures.empty in
    let v = c.match-carry_out.writer in
    let both : SameLender c.new-writer.result v × WrittenOut c.args.sheet.now c.args.memory.now (granted c.len.result) v.memory.now =
    elim c.match-carry_out.branch [
      | in-Err+in_ok-fault w ↦
          let e = w.fault.ensures in
          moved c.new-writer.result w.writer-is (e.lender ∙ c.carry_out.ensures.lender)
          (fault_out c.args.sheet.now c.args.memory.now c.new-writer.result new.0 new.1 c.if-memory-lt-MEMORY.false w.in-Err.fault c.carry_out.new.writer w.fault.new.self
          w.in-Err.ensures.carried.1 w.fault.result e.few e.line c.len.result w.in-Err.ensures.carried.0 (c.len.ensures ∙ ap (λ (u : Writer). length (listed u)) w.writer-is))
      | in_default w ↦
          moved c.new-writer.result w.writer-is c.carry_out.ensures.lender
          (ran_through c.args.sheet.now c.args.memory.now c.new-writer.result new.0 new.1 c.if-memory-lt-MEMORY.false c.carry_out.new.writer c.len.result
          w.in_default.ensures.carried (c.len.ensures ∙ ap (λ (u : Writer). length (listed u)) w.writer-is))
    ] in
    let same = sym (both.0 ∙ c.new-writer.ensures.lender) in
    search (rules, λ (x : List ℕ) (p : x ≡ v.memory.now). subst (λ (m : List ℕ). WrittenOut c.args.sheet.now c.args.memory.now (granted c.len.result) m) (sym p) both.1)

pub returns-clause-run : goal.returns-clause-run
returns-clause-run c = one_run
