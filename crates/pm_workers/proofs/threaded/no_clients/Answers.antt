use Rattle.std.proofs.Common.{[], length, map, refl, sym, ap, ap₂, ◌∙◌, subst}
use Rattle.pm_session.specs.Sessions.{opened, session}
use Rattle.pm_workers.specs.Merges.{numbers, IsOrder}
use Rattle.pm_workers.specs.Threads.{by_client, in_order}
use Rattle.pm_workers.proofs.Gathering.{no-lines, none-ordered, none-once, none-listed}
use Rattle.pm_workers.proofs.Readying.{clients-within}
use Rattle.pm_workers.proofs.threaded.no_clients.Goals as goal

pub returns : goal.returns
returns g c makes =
    let raw = c.args.raw.now in
    let lines = c.args.lines.items in
    let none = no-lines (length raw) lines c.requires.none (clients-within _ _ _ _ c.args.doc raw lines c.requires.suit) in
    record {
      rules = refl;
      history = record { log = []; order = c.new-2.ensures.items ∙ none-listed (length raw) lines c.requires.none; authority = ap (λ s. s.authority) c.in_ok-room.ensures.opens };
      order = c.new-2.ensures.items ∙ none-ordered (length raw) lines c.requires.none none;
      once = subst (λ l. IsOrder (map numbers (by_client 0 (length raw) lines)) l) (sym c.new-2.ensures.items) (none-once (length raw) lines c.requires.none);
      lines = none ∙ ap (in_order lines) (sym c.new-2.ensures.items);
      suit = c.requires.suit;
      plays = ap₂ (λ a b. (a, b)) c.new-3.ensures.items c.in_ok-room.ensures.opens ∙ ap (session g.C.Change.means c.args.rules (makes c.args.rules) (opened c.args.doc raw)) (sym none);
      sound = c.in_ok-room.ensures.sound;
    }
