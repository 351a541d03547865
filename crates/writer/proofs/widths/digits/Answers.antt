use Rattle.std.proofs.Common.{◌+◌, sym, ap, ◌∙◌}
use Rattle.writer.proofs.Written.{by_powers}
use Rattle.writer.proofs.widths.digits.Goals as goal

pub returns-clause-exact : goal.returns-clause-exact
returns-clause-exact c =
    let e = c.checked_ilog10.ensures in
    ap (λ k. k + 1) c.unwrap_or.ensures ∙ sym (by_powers c.checked_ilog10.result c.args.n e.none e.power_le e.next_power_gt c.ranges.n.fits)
