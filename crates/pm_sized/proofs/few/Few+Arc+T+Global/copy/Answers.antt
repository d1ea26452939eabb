use Rattle.std.proofs.Common.{◌≡◌, ◌<◌, refl, ap, ◌∙◌, length, take, get_or, arith, length-take}
use Rattle.pm_sized.specs.Pairs.{total_of}
use Rattle.pm_sized.specs.Parts.{values_in}
use Rattle.pm_sized.proofs.PartLaws.{length-values, total-values}
use Rattle.pm_sized.proofs.FewLaws.{total-within, values-push, values-more-of}
use Rattle.pm_sized.proofs.few.Few+Arc+T+Global.copy.Goals as goal

pub push-requires-clause-fewer : goal.push-requires-clause-fewer
push-requires-clause-fewer g c =
    let xs = c.args.self.now.items.items in
    let i = c.loop-entry.entry-index in
    let p = c.entry-item.result in
    let v = c.deref-entry-items.ensures.value in
    let lt : i < length xs = omega (arith, c.loop-entry-test.true, ap length v) in
    let is : p ≡ get_or xs i p = c.entry-item.is ∙ ap (λ z. get_or z i p) v in
    let old = c.loop-entry.invariant.values in
    omega (arith, ap length old, length-values c.loop-entry.made.items.items, length-values (take i xs), length-take i xs, lt, c.requires.few.most)

pub push-requires-clause-room : goal.push-requires-clause-room
push-requires-clause-room g c =
    let xs = c.args.self.now.items.items in
    let i = c.loop-entry.entry-index in
    let p = c.entry-item.result in
    let v = c.deref-entry-items.ensures.value in
    let lt : i < length xs = omega (arith, c.loop-entry-test.true, ap length v) in
    let is : p ≡ get_or xs i p = c.entry-item.is ∙ ap (λ z. get_or z i p) v in
    let old = c.loop-entry.invariant.values in
    omega (arith, total-within xs i p lt is, total-values c.loop-entry.made.items.items, total-values (take i xs), ap total_of old, c.requires.few.total, c.requires.few.bound)

pub loop-entry-preserved : goal.loop-entry-preserved
loop-entry-preserved g c =
    let xs = c.args.self.now.items.items in
    let i = c.loop-entry.entry-index in
    let p = c.entry-item.result in
    let v = c.deref-entry-items.ensures.value in
    let lt : i < length xs = omega (arith, c.loop-entry-test.true, ap length v) in
    let is : p ≡ get_or xs i p = c.entry-item.is ∙ ap (λ z. get_or z i p) v in
    let old = c.loop-entry.invariant.values in
    let made = c.loop-entry.made.items.items in
    let item = c.in_ok-try_clone.field-0 in
    record {
      few = c.in_ok-push.ensures.few;
      values = values-push made c.push.new.self.items.items item p.1 c.in_ok-push.ensures.ok ∙ values-more-of xs i p item p.1 (values_in made) lt is c.in_ok-try_clone.ensures refl old;
    }
