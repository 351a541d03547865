use Rattle.std.proofs.Common.{List, [], sym, refl, subst, append-nil}
use Rattle.std.proofs.lemmas.List.{length-take-le}
use Rattle.calls.specs.Networks.{fabric_of}
use Rattle.text.specs.Texts.{Field}
use Rattle.runner.specs.Progress.{Stands}
use Rattle.runner.proofs.Sessions.{in_memory, uncollected, not_yet, brings, written_of, one_more}
use Rattle.runner.proofs.session.Session.collect.Goals as goal

pub returns-in_default-clause-tried : goal.returns-in_default-clause-tried
returns-in_default-clause-tried g c =
    let n = c.args.self.now.network in
    let F = fabric_of g.L.Layout.plan g.S.Switch.turn n in
    let law = g.met.L.Layout.lawful n.layout in (
      refl,
      λ P M s ls es o st.
          record {
            state = s;
            more = [];
            collects = uncollected F P law st c.args.ticket c.requires.numbers.1 c.args.cycle c.in_default.is;
            counted = refl;
            stands = subst (λ (l : List (List Field)). Stands F P M c.args.self.now c.args.writer.now s l es o) (sym (append-nil ls)) st;
          },
    )

pub slice_bounds-words-end : goal.slice_bounds-words-end
slice_bounds-words-end g c =
    let n = c.args.self.now.network in
    let F = fabric_of g.L.Layout.plan g.S.Switch.turn n in
    let x = c.requires.going in
    in_memory F x.settings (g.met.L.Layout.lawful n.layout) x.stands c.args.ticket c.requires.numbers.1 _ _ _ _ c.in-Ok.ensures.promised

pub slice_bounds-done-end : goal.slice_bounds-done-end
slice_bounds-done-end g c =
    let n = c.args.self.now.network in
    let F = fabric_of g.L.Layout.plan g.S.Switch.turn n in
    let x = c.requires.going in
    sym (length-take-le c.in-Ok.count c.collect.new.memory
    (in_memory F x.settings (g.met.L.Layout.lawful n.layout) x.stands c.args.ticket c.requires.numbers.1 _ _ _ _ c.in-Ok.ensures.promised))

pub returns-clause-tried : goal.returns-clause-tried
returns-clause-tried g c =
    let n = c.args.self.now.network in
    let F = fabric_of g.L.Layout.plan g.S.Switch.turn n in
    let law = g.met.L.Layout.lawful n.layout in
    let t = c.args.ticket in
    let h = c.requires.numbers.1 in
    let e = c.in-Ok.ensures in
    let x = c.requires.going in
    let y = brings F x.settings law x.stands t h _ _ _ _ e.promised in (
      (written_of F x.settings law x.stands t h c.args.cycle _ _ _ _ c.in-Some.is c.requires.numbers.0 y c.done.result c.done.ensures.line).0,
      λ P M s ls es o st.
          let z = brings F P law st t h _ _ _ _ e.promised in
          record {
            state = z.state;
            more = _;
            collects = one_more F P law st t h c.args.cycle _ _ _ _ c.in-Some.is c.requires.numbers.0 z;
            counted = z.counted;
            stands = record {
              at = (written_of F P law st t h c.args.cycle _ _ _ _ c.in-Some.is c.requires.numbers.0 z c.done.result c.done.ensures.line).1;
              nodes = st.nodes;
              tickets = st.tickets;
            };
          },
    )

pub returns-in_default-collect-clause-tried : goal.returns-in_default-collect-clause-tried
returns-in_default-collect-clause-tried g c =
    let n = c.args.self.now.network in
    let F = fabric_of g.L.Layout.plan g.S.Switch.turn n in
    let law = g.met.L.Layout.lawful n.layout in
    let e = c.in_default-collect.ensures in (
      refl,
      λ P M s ls es o st.
          let z = not_yet F P law st c.args.ticket c.requires.numbers.1 c.args.cycle _ _ _ _ _ c.in-Some.is refl e.promised in
          record { state = s; more = []; collects = z.0; counted = refl; stands = record { at = z.1; nodes = st.nodes; tickets = st.tickets } },
    )
