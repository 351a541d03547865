-- What the last line of a listing sums up, as it is counted.
use Rattle.std.specs.Prelude.{◌≡◌, ℕ, ◌+◌, ◌*◌, ◌<◌, ◌≤◌, List, map, length}
use Rattle.std.specs.List.{AllByRecursion}
use Rattle.network.specs.declared.event.Event.{Event}
use Rattle.text.specs.Texts.{text}
use Rattle.writer.specs.declared.writer.Writer.{Writer}
use Rattle.writer.specs.Listings.{beyond, Appends}
use Rattle.runner.specs.declared.tally.Tally.{Tally}
use Rattle.runner.specs.Listing.{line_of, ins, outs, under_way}

-- an event of a sheet's run
pub record Small (e : Event) : Type 0 where
  pub cycle : e.cycle < 65536
  pub ticket : e.ticket < 512
  pub number : e.number < 4
  pub node : e.node < 64
  pub since : e.entered ≤ e.cycle

pub record Tallied (t : Tally) (es : List Event) : Type 0 where
  pub entered : t.entered ≡ ins es
  pub off : t.off ≡ outs es
  pub waited : t.waited ≡ under_way es
  pub short : t.waited ≤ 65536 * t.off

-- so many entries, takings off and cycles under way are added
pub record Counts (t : Tally) (a b c : ℕ) (t' : Tally) : Type 0 where
  pub entered : t'.entered ≡ t.entered + a
  pub off : t'.off ≡ t.off + b
  pub waited : t'.waited ≡ t.waited + c

-- there is room for the lines of the events, and the counts stay small
pub record Tellable (t : Tally) (w : Writer) (es : List Event) : Type 0 where
  pub small : AllByRecursion Small es
  pub room : length (text (map line_of es)) ≤ length (beyond w)
  pub few_in : t.entered + ins es ≤ 1024
  pub few_out : t.off + outs es ≤ 1024
  pub waited : t.waited ≤ 65536 * t.off

-- the events are counted, and their lines written
pub record Told (t : Tally) (w : Writer) (es : List Event) (t' : Tally) (w' : Writer) : Type 0 where
  pub counts : Counts t (ins es) (outs es) (under_way es) t'
  pub appends : Appends w (text (map line_of es)) w'
  pub waited : t'.waited ≤ 65536 * t'.off
