use Rattle.std.specs.Prelude.{IfOk}
use Rattle.std.proofs.Common.{◌<◌, All, length, sym, ap, subst}
use Rattle.pm_workers.specs.Filed.{IsFileOf}
use Rattle.pm_workers.specs.Hired.{HasPlayed}
use Rattle.pm_workers.specs.Orderly.{IsOrderly}
use Rattle.pm_workers.proofs.Readying.{all-ready, clients-within}
use Rattle.pm_workers.proofs.Playing.{workers-played}
use Rattle.pm_workers.proofs.threaded.play_on_threads.Goals as goal

pub returns-then-is_empty : goal.returns-then-is_empty
returns-then-is_empty g c = c.no_clients.ensures (g.K.Maker.makes c.args.crew.now.maker.now)

pub file_of-requires : goal.file_of-requires
file_of-requires g c =
    let n = length c.args.raw.now in
    subst (λ l. All (λ line. line.client < n) l) (sym c.as_slice.ensures.value) (clients-within _ _ _ _ c.args.doc c.args.raw.now c.args.lines.items c.requires.suit)

pub play_all_lines-requires-after_bounds : goal.play_all_lines-requires-after_bounds
play_all_lines-requires-after_bounds g c κs within = all-ready g.C.Change.means _ c.args.doc c.args.raw.now c.args.lines.items _ c.in_ok-desk.ensures.hired

pub close_room-requires : goal.close_room-requires
close_room-requires g c =
    let m = g.C.Change.means in
    let d = c.in_ok-desk.desk in
    let makes = g.K.Maker.makes c.args.crew.now.maker.now in
    let raw = c.args.raw.now in
    let lines = c.args.lines.items in
    record {
      makes = makes;
      doc = c.args.doc;
      raw = raw;
      lines = lines;
      played = workers-played m makes d c.args.doc raw lines c.in_ok-desk.workers.items c.play_all_lines.new.workers.items c.in_ok-desk.ensures.hired c.in_ok-play_all_lines.ensures;
      filed = subst (λ l. IsFileOf (length raw) l c.in_ok-file.file) c.as_slice.ensures.value c.in_ok-file.ensures;
    }

pub returns : goal.returns
returns g c =
    let m = g.C.Change.means in
    let d = c.in_ok-desk.desk in
    let makes = g.K.Maker.makes c.args.crew.now.maker.now in
    let raw = c.args.raw.now in
    let lines = c.args.lines.items in
    let p : HasPlayed m d c.in_ok-file.file c.play_all_lines.new.workers.items = record {
      makes = makes;
      doc = c.args.doc;
      raw = raw;
      lines = lines;
      played = workers-played m makes d c.args.doc raw lines c.in_ok-desk.workers.items c.play_all_lines.new.workers.items c.in_ok-desk.ensures.hired c.in_ok-play_all_lines.ensures;
      filed = subst (λ l. IsFileOf (length raw) l c.in_ok-file.file) c.as_slice.ensures.value c.in_ok-file.ensures;
    } in
    subst (λ r. IfOk c.close_room.result (λ t. IsOrderly m makes r c.args.doc raw lines t)) c.in_ok-desk.ensures.rules (c.close_room.ensures.orderly p)
