use Rattle.std.proofs.Common.{◌+◌, length, ap, arith}
use Rattle.std.specs.Arc.{arc_value}
use Rattle.pm_sized.specs.Pairs.{many_pairs, total_of}
use Rattle.pm_sized.specs.Parts.{many_values, values_of}
use Rattle.pm_sized.proofs.AppendLaws.{total-shorter}
use Rattle.pm_sized.proofs.GrowLaws.{on_err_of}
use Rattle.pm_sized.proofs.PartLaws.{length-values}
use Rattle.pm_sized.proofs.PuttingLaws.{first-none, first-run}
use Rattle.pm_sized.proofs.append.Chunks+Arc+T+Global.append_run.Goals as goal

pub put-requires-clause-room : goal.put-requires-clause-room
put-requires-clause-room g c =
    let r = c.in_ok-chunk.ensures in
    let i = c.args.i in
    omega (arith, c.requires.room, ap total_of r.values, total-shorter i (i + length (arc_value c.in_ok-chunk.chunk).items.items) c.args.to (many_values c.args.source.now) (omega arith) r.within)

pub returns-in_err-put-clause-err : goal.returns-in_err-put-clause-err
returns-in_err-put-clause-err g c =
    let s = c.args.self.now in
    let v = arc_value c.in_ok-chunk.chunk in
    on_err_of c.from_residual-in_err-put.result (first-run (values_of s) (many_values c.args.source.now) (values_of c.put.new.self) c.args.i c.args.to v c.in_ok-chunk.ensures c.in_err-put.ensures.err)

pub left-requires-clause-within : goal.left-requires-clause-within
left-requires-clause-within g c = omega (arith, c.requires.some, c.requires.within, length-values (many_pairs c.args.source.now))

pub append_item-requires-clause-room : goal.append_item-requires-clause-room
append_item-requires-clause-room g c =
    let i = c.args.i in
    omega (arith, c.requires.room, total-shorter i (i + 1) c.args.to (many_values c.args.source.now) (omega arith) (omega (arith, c.requires.some)))

pub returns-in_err-append_item-clause-err : goal.returns-in_err-append_item-clause-err
returns-in_err-append_item-clause-err g c =
    on_err_of c.from_residual.result (first-none (values_of c.args.self.now) (many_values c.args.source.now) (values_of c.append_item.new.self) c.args.i c.args.to (omega (arith, c.requires.some)) c.in_err-append_item.ensures.err)

pub returns-then-takes-clause-ok : goal.returns-then-takes-clause-ok
returns-then-takes-clause-ok g c = record {
  some = omega arith;
  within = omega (arith, c.requires.some);
  values = c.in_ok-append_item.ensures.ok;
}
