use Rattle.std.proofs.Common.{◌∙◌, ◌-◌, ◌≡◌, ◌≤◌, ◌++◌, ap, take, length, arith, rules}
use Rattle.std.specs.Prelude.{min}
use Rattle.pm_serve.specs.declared.unread.TheConstants.{KEPT}
use Rattle.pm_serve.proofs.Cuts.{add-kept}
use Rattle.pm_serve.proofs.unread.Kept.add.Goals as goal

pub returns : goal.returns
returns c =
    let had = c.self.inside.bytes.items in
    let more = c.args.more.now in
    let n = c.min-n.result in
    let size : c.len-room.result ≡ length had = search rules in
    let fits : c.len-room.result ≤ KEPT = search rules in
    let within : length had ≤ KEPT = omega arith in
    let came : c.extend_from_slice.new.self.items ≡ had ++ take n more = search rules in
    let is : n ≡ min (length more) (KEPT - length had) = search rules in
    came ∙ add-kept had more KEPT n within is ∙ ap (λ xs. take KEPT (xs ++ more)) c.self.view_is
