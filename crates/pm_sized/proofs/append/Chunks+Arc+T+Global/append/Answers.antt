use Rattle.std.proofs.Common.{arith}
use Rattle.pm_sized.specs.Parts.{values_of}
use Rattle.pm_sized.proofs.AppendLaws.{total-left, values-more}
use Rattle.pm_sized.proofs.GrowLaws.{on_err_of}
use Rattle.pm_sized.proofs.PuttingLaws.{first-further}
use Rattle.pm_sized.proofs.append.Chunks+Arc+T+Global.append.Goals as goal

pub append_next-requires-clause-room : goal.append_next-requires-clause-room
append_next-requires-clause-room g c =
    let l = c.loop-i in
    omega (arith, c.requires.room, total-left (values_of l.self) (values_of c.args.self.now) (values_of c.args.source.now) c.args.from l.i c.args.to l.invariant.values l.invariant.before l.invariant.within)

pub loop-i-preserved : goal.loop-i-preserved
loop-i-preserved g c =
    let l = c.loop-i in
    let a = c.in_ok-i.ensures.ok in
    record {
      laid = c.in_ok-i.ensures.laid;
      before = omega (arith, l.invariant.before);
      within = a.within;
      values = values-more (values_of c.append_next.new.self) (values_of l.self) (values_of c.args.self.now) (values_of c.args.source.now) c.args.from l.i c.args.to c.in_ok-i.field-0 l.invariant.values a l.invariant.before;
    }

pub returns-in_err-i-clause-err : goal.returns-in_err-i-clause-err
returns-in_err-i-clause-err g c =
    let l = c.loop-i in
    on_err_of c.from_residual.result (first-further (values_of c.args.self.now) (values_of l.self) (values_of c.args.source.now) (values_of c.append_next.new.self) c.args.from l.i c.args.to l.invariant.values l.invariant.before c.in_err-i.ensures.err)
