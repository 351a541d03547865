-- Runs of puts and takes, and what they promise.
use Rattle.std.specs.Prelude.{◌≡◌, cond, List, [], ◌∷◌, ◌++◌, ◌==◌}
use Rattle.std.specs.Option.{option_to_list}
use Rattle.line.specs.Queues.{Queue, empty, contents, oldest, full, put, take}

pub data Use (A : Type 0) : Type 0 where
  puts : A → Use A
  takes : Use A

module _ {A : Type 0} where
  -- where a use leads: a put into a full queue and a take out of one that holds nothing leave it as it is
  abbrev pub used : Queue A → Use A → Queue A
  used q (puts x) = cond (full q) q (put q x)
  used q takes = cond (q.held == 0) q (take q)

  -- what a use brings in, and what it takes out
  abbrev pub goes_in : Queue A → Use A → List A
  goes_in q (puts x) = cond (full q) [] (x ∷ [])
  goes_in q takes = []

  abbrev pub comes_out : Queue A → Use A → List A
  comes_out q (puts x) = []
  comes_out q takes = option_to_list (oldest q)

  module _ (ms : List A) where
    -- where a run of uses, the newest first, leads from the empty queue over the memory
    abbrev pub after : List (Use A) → Queue A
    after [] = empty ms
    after (u ∷ run) = used (after run) u

    -- all that was accepted, and all that was taken, in the order of time
    abbrev pub accepted : List (Use A) → List A
    accepted [] = []
    accepted (u ∷ run) = accepted run ++ goes_in (after run) u

    abbrev pub taken : List (Use A) → List A
    taken [] = []
    taken (u ∷ run) = taken run ++ comes_out (after run) u

    -- first in, first out: what was taken is a front of what was accepted, and what is held is the rest
    abbrev pub FirstOut : List (Use A) → Type 0
    FirstOut run = accepted run ≡ taken run ++ contents (after run)

  -- a queue that was where a run led is where the run with this use leads, and that run is first in, first out
  abbrev pub Continues : Queue A → Use A → Queue A → Type 0
  Continues q u r = (ms : List A) (run : List (Use A)) → q ≡ after ms run → (r ≡ after ms (u ∷ run)) × FirstOut ms (u ∷ run)
