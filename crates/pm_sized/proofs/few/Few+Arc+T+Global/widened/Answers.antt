use Rattle.std.proofs.Common.{◌≡◌, ◌<◌, ap, ◌∙◌, length, take, get_or, arith}
use Rattle.pm_sized.specs.Pairs.{total_of}
use Rattle.pm_sized.proofs.PartLaws.{total-values}
use Rattle.pm_sized.proofs.FewLaws.{counts-at, total-within}
use Rattle.pm_sized.proofs.few.Few+Arc+T+Global.widened.Goals as goal

pub push-requires-clause-some : goal.push-requires-clause-some
push-requires-clause-some g c =
    let xs = c.args.self.now.items.items in
    let i = c.loop-entry.entry-index in
    let p = c.entry-item.result in
    let v = c.deref-entry-items.ensures.value in
    let lt : i < length xs = omega (arith, c.loop-entry-test.true, ap length v) in
    let is : p ≡ get_or xs i p = c.entry-item.is ∙ ap (λ z. get_or z i p) v in
    counts-at xs i p c.requires.few.counts lt is

pub push-requires-clause-room : goal.push-requires-clause-room
push-requires-clause-room g c =
    let xs = c.args.self.now.items.items in
    let i = c.loop-entry.entry-index in
    let p = c.entry-item.result in
    let v = c.deref-entry-items.ensures.value in
    let lt : i < length xs = omega (arith, c.loop-entry-test.true, ap length v) in
    let is : p ≡ get_or xs i p = c.entry-item.is ∙ ap (λ z. get_or z i p) v in
    let old = c.loop-entry.invariant.values in
    omega (arith, total-within xs i p lt is, total-values (take i xs), ap total_of old, c.requires.few.total, c.requires.few.bound)
