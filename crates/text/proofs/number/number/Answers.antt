use Rattle.std.proofs.Common.{◌≡◌, ℕ, ◌+◌, ◌*◌, ◌≤◌, ◌<◌, List, length, take, decimal, sym, ap, ◌∙◌, subst, rules, arith}
use Rattle.std.proofs.lemmas.Grind.{common_steps}
use Rattle.std.specs.Str.Parse.{digits_value, AllDigits}
use Rattle.std.proofs.lemmas.List.{take_all}
use Rattle.text.proofs.Exits.{mapped}
use Rattle.text.proofs.Numbers.{unwritten, written, value_step, digits_step, power_step, no_digit, judged}
use Rattle.text.proofs.number.number.Goals as goal
use Rattle.text.proofs.number.number.Goals.{then-is_empty-via-then-is_empty, then-is_empty-via-else-is_empty+then-word-gt-MOST_DIGITS}

pub returns-then-is_empty : goal.returns-then-is_empty
returns-then-is_empty c = (
  c.ill_formed-fault.ensures,
  unwritten c.args.word.now (λ n h w. elim c.then-is_empty.branch [
    | then-is_empty-via-then-is_empty v ↦ (let k = sym c.is_empty.ensures ∙ v.if-is_empty.true in let a = w.some in grind (arith, common_steps))
    | then-is_empty-via-else-is_empty+then-word-gt-MOST_DIGITS v ↦ omega (arith, w.short)
  ]),
)

pub returns-then-word-gt1 : goal.returns-then-word-gt1
returns-then-word-gt1 c = (
  c.ill_formed-fault.ensures,
  unwritten c.args.word.now (λ n h w. omega (arith, w.first c.if-word-eq48.true)),
)

pub returns-then-not-is_ascii_digit : goal.returns-then-not-is_ascii_digit
returns-then-not-is_ascii_digit c = (
  c.ill_formed-fault.ensures,
  unwritten c.args.word.now (no_digit c.args.word.now c.loop-b.b-index c.loop-b-test.true c.if-not-is_ascii_digit.ensures.cases),
)

pub loop-b-preserved : goal.loop-b-preserved
loop-b-preserved c =
    let ds = c.args.word.now in
    let i = c.loop-b.b-index in
    let inv = c.loop-b.invariant in
    let k = c.if-not-is_ascii_digit.ensures.cases in (
      ap (λ d. c.loop-b.n * 10 + d) c.from.ensures ∙ value_step ds i c.loop-b.n c.loop-b-test.true k.0 k.1 inv.0,
      digits_step ds i c.loop-b-test.true k.0 k.1 inv.1,
      power_step c.loop-b.n i _ inv.2 (omega arith),
    )

-- all the digits were read
whole : (ds : List ℕ) (i n : ℕ) → length ds ≤ i → n ≡ digits_value 10 (take i ds) → n ≡ digits_value 10 ds
whole ds i n l e = e ∙ ap (digits_value 10) (take_all i ds l)

pub returns : goal.returns
returns c =
    let ds = c.args.word.now in
    let e = whole ds c.loop-b.b-index c.loop-b.n c.loop-b-test.false c.loop-b.invariant.0 in
    let some : 0 < length ds = (let k = sym c.is_empty.ensures ∙ c.if-is_empty.false in grind (arith, common_steps)) in
    let d = written ds
    (subst (AllDigits 10) (take_all c.loop-b.b-index ds c.loop-b-test.false) c.loop-b.invariant.1)
    some
    (λ z. omega arith)
    (omega arith)
    ∙ ap decimal (sym e) in
    mapped _ _ c.try_from.result _ c.map_err.ensures.cases (judged ds c.loop-b.n c.try_from.result e d c.try_from.ensures) (λ x f n p. (search rules, n))
