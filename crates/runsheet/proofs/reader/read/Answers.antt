use Rattle.std.proofs.Common.{◌+◌, length, sym, refl, ap, subst, ◌∙◌}
use Rattle.std.proofs.lemmas.Bool.{false≢true}
use Rattle.std.proofs.lemmas.List.{length_push}
use Rattle.text.specs.Fields.{words}
use Rattle.text.specs.Unread.{unread, line_count}
use Rattle.std.proofs.lemmas.Result.{err_from_is_err_and}
use Rattle.runsheet.specs.Sheets.{Refused}
use Rattle.runsheet.specs.Reading.{draft, entry_line, lines_read, Refuses}
use Rattle.text.proofs.Exits.{err_at}
use Rattle.text.proofs.Stopping.{is_line, onward}
use Rattle.runsheet.proofs.Stopped.{refused, unended, missing, finished}
use Rattle.runsheet.proofs.reader.read.Goals as goal

pub returns-in_err-next_line-clause-read : goal.returns-in_err-next_line-clause-read
returns-in_err-next_line-clause-read c =
    let bs = c.args.bytes.now in
    let i = c.loop-reader.invariant in
    let h = c.in_err-next_line.ensures in
    err_at _ (Refused bs) _ _ (err_from_is_err_and _ c.from_residual-in_err-next_line.ensures.1)
    (unended (draft c.loop-reader.reader) bs (unread c.loop-reader.lines) i.valid i.bytes c.in_ok-lines.ensures.0 _ (line_count c.loop-reader.lines) i.count h.0 h.1 (λ z. false≢true (sym c.loop-reader-test.true ∙ c.is_empty.ensures.1 z)))

pub loop-reader-preserved : goal.loop-reader-preserved
loop-reader-preserved c =
    let i = c.loop-reader.invariant in
    let n = c.in_ok-next_line.ensures in
    let s = c.in_ok-step.ensures in
    let A = lines_read (draft c.loop-reader.reader) in
    let B = lines_read (draft c.step.new.self) in
    record {
      valid = s.1.valid;
      bytes = onward A B (entry_line s.0) _ _ _ i.bytes s.1.lines (is_line (entry_line s.0) _ _ _ n.0 s.2);
      count = n.2 ∙ ap (λ k. k + 1) i.count ∙ sym (length_push A (entry_line s.0)) ∙ ap length (sym s.1.lines);
    }

pub returns-in_err-step-clause-read : goal.returns-in_err-step-clause-read
returns-in_err-step-clause-read c =
    let bs = c.args.bytes.now in
    let i = c.loop-reader.invariant in
    let n = c.in_ok-next_line.ensures in
    err_at _ (Refused bs) _ _ (err_from_is_err_and _ c.from_residual-in_err-step.ensures.1)
    (refused (draft c.loop-reader.reader) bs (unread c.loop-reader.lines) i.valid i.bytes c.in_ok-lines.ensures.0 _ (line_count c.loop-reader.lines) i.count _ _ n.0 (subst (λ k. Refuses (draft c.loop-reader.reader) k (words c.in_ok-next_line.field-0) c.in_err-step.field-0.0) n.1 c.in_err-step.ensures))

pub returns-in_default-clause-read : goal.returns-in_default-clause-read
returns-in_default-clause-read c =
    let i = c.loop-reader.invariant in
    missing (draft c.loop-reader.reader) c.args.bytes.now (unread c.loop-reader.lines) i.valid i.bytes c.in_ok-lines.ensures.0 _ (line_count c.loop-reader.lines) i.count c.fault.ensures c.in_default.not-End (c.is_empty.ensures.0 c.loop-reader-test.false)

pub returns-in-End-clause-read : goal.returns-in-End-clause-read
returns-in-End-clause-read c =
    let i = c.loop-reader.invariant in
    finished (draft c.loop-reader.reader) c.args.bytes.now (unread c.loop-reader.lines) _ i.valid i.bytes c.in-End.is (c.is_empty.ensures.0 c.loop-reader-test.false) c.in_ok-lines.ensures.0 refl
