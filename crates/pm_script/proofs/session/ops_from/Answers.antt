use Rattle.std.proofs.Common.{[], arith, rules}
use Rattle.pm_head.specs.Lines.{lines_of}
use Rattle.pm_script.specs.Sessions.{ops_of}
use Rattle.pm_script.proofs.OpLists.{ops-step}
use Rattle.pm_script.proofs.session.ops_from.Goals as goal

pub loop-line-preserved : goal.loop-line-preserved
loop-line-preserved c =
    let s = c.args.schema.now.spec in
    let clients = c.args.clients.now in
    let e = c.loop-line.earlier in
    let op = c.in_ok-op.op in
    let n = c.loop-line.number in
    let inv = c.loop-line.invariant in
    record {
      number = omega (arith, c.in_ok-add.ensures.len, inv.number);
      last = omega (arith, c.in_ok-op.ensures.number);
      composed = search rules;
      answered = search rules;
      cursors = search rules;
      own = search rules;
      read = rw (c.in_ok-add.ensures.ok) (ops-step c.args.form s clients e.lines.items n op c.in-Some.line.now (lines_of c.loop-line.rest.now) (lines_of c.in-Some.after.now) (ops_of c.args.form s clients [] 4 (lines_of c.args.input.now)) c.in-Some.ensures.lines c.in_ok-op.ensures.read inv.read);
    }
