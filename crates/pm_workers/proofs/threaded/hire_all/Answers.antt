use Rattle.std.proofs.Common.{length, sym, ap, ◌∙◌}
use Rattle.pm_workers.proofs.Readying.{new-count, clients-within, hired}
use Rattle.pm_workers.proofs.Unused.{seats-count}
use Rattle.pm_workers.proofs.threaded.hire_all.Goals as goal

pub hand_out-requires : goal.hand_out-requires
hand_out-requires g c = clients-within _ _ _ _ c.args.doc c.args.raw.now c.args.lines.items c.requires.suit

pub hire-requires-clause-seats : goal.hire-requires-clause-seats
hire-requires-clause-seats g c =
    let s = c.in_ok-desk.field-0 in
    s.seats.ok.0 ∙ ap length c.in_ok-desk.ensures.seated.seats_are ∙ seats-count _ s.desk (length c.args.raw.now)
    ∙ sym (s.members.ok.0 ∙ ap length c.in_ok-desk.ensures.seated.members_are ∙ new-count _ _ _ _ c.args.doc c.args.raw.now)

pub hire-requires-clause-lines : goal.hire-requires-clause-lines
hire-requires-clause-lines g c =
    let s = c.in_ok-desk.field-0 in
    c.in_ok-own.ensures.count ∙ sym (s.members.ok.0 ∙ ap length c.in_ok-desk.ensures.seated.members_are ∙ new-count _ _ _ _ c.args.doc c.args.raw.now)

pub returns-clause-hired : goal.returns-clause-hired
returns-clause-hired g c =
    let s = c.in_ok-desk.field-0 in
    hired g.C.Change.means s.desk c.args.doc c.args.raw.now c.args.lines.items s.members.items s.seats.items c.in_ok-own.own.items c.in_ok-workers.workers.items (record {
      seated = c.in_ok-desk.ensures.seated;
      some = c.requires.some;
      suit = c.requires.suit;
      own = c.in_ok-own.ensures.own;
      members_are = c.in_ok-workers.ensures.members;
      seats_are = c.in_ok-workers.ensures.seats;
      lines_are = c.in_ok-workers.ensures.lines;
      none = c.in_ok-workers.ensures.none;
    })
