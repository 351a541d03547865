use Rattle.std.proofs.Common.{◌≡◌, ◌++◌, map, length, take}
use Rattle.std.specs.List.{AllByRecursion}
use Rattle.text.specs.Texts.{Fits, number, figures}
use Rattle.text.specs.Fields.{words, line_number}
use Rattle.text.specs.Lines.{Blank}
use Rattle.text.proofs.rows.numbers.Given as goal

abbrev pub invariant-loop-i : goal.invariant-loop-i
invariant-loop-i g l =
    record {
      read : words l.initial.fields ≡ figures (take l.i l.numbers) ++ words l.fields;
      fits : AllByRecursion Fits (map number (take l.i l.numbers));
      places : length l.numbers ≡ g.row.N;
      blank : Blank l.i l.numbers;
      line : line_number l.fields ≡ line_number l.initial.fields;
    }
