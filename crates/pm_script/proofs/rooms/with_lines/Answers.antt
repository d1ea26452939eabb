use Rattle.std.proofs.Common.{sym, ap, ◌∙◌, arith, Ok, ℕ, List}
use Rattle.std.proofs.lemmas.Result.{err_from_is_err_and}
use Rattle.pm_head.specs.Lines.{lines_of}
use Rattle.pm_head.proofs.Missing.{no_lines}
use Rattle.pm_script.specs.Rooms.{rooms_behind}
use Rattle.pm_script.specs.OpenRooms.{rooms_of}
use Rattle.pm_script.proofs.RoomOps.{lines-step, lines-end, fault-lines}
use Rattle.pm_script.proofs.rooms.with_lines.Goals as goal

pub returns-in_err-add_line : goal.returns-in_err-add_line
returns-in_err-add_line c =
    let p = err_from_is_err_and c.from_residual.result c.from_residual.ensures.1 in
    fault-lines {Y = Unit {0}} (λ v. v.items) (λ u. rooms_of c.add_line.new.rooms.items) c.args.last (rooms_of c.loop-line.rooms.items) c.loop-line.number c.in-Some.line.now (lines_of c.loop-line.rest.now) (lines_of c.in-Some.after.now)
    (rooms_behind c.args.last (rooms_of c.args.rooms.items) c.args.first (lines_of c.args.input.now)) c.from_residual.result p.0 c.in_err-add_line.field-0.0
    c.in-Some.ensures.lines p.1 p.2 c.in_err-add_line.ensures.read c.loop-line.invariant.read

pub loop-line-preserved : goal.loop-line-preserved
loop-line-preserved c =
    record {
      number = omega (arith, c.in_ok-add_line.ensures.number);
      few = c.in_ok-add_line.ensures.few;
      read = lines-step c.args.last (rooms_of c.loop-line.rooms.items) (rooms_of c.add_line.new.rooms.items) c.loop-line.number c.in-Some.line.now (lines_of c.loop-line.rest.now) (lines_of c.in-Some.after.now) c.in-Some.ensures.lines
          (rooms_behind c.args.last (rooms_of c.args.rooms.items) c.args.first (lines_of c.args.input.now)) c.in_ok-add_line.ensures.read c.loop-line.invariant.read;
    }

pub returns : goal.returns
returns c =
    lines-end c.args.last (rooms_of c.loop-line.rooms.items) c.loop-line.number (lines_of c.loop-line.rest.now) (rooms_behind c.args.last (rooms_of c.args.rooms.items) c.args.first (lines_of c.args.input.now))
    (no_lines c.loop-line.rest.now c.in_default.ensures.lines) c.loop-line.invariant.read ∙ ap Ok (sym c.in_ok-sessions.ensures)
