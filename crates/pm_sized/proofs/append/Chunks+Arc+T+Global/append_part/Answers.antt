use Rattle.std.proofs.Common.{◌≡◌, ◌-◌, ap, sym, ◌∙◌, subst, arith}
use Rattle.std.specs.declared.sync.Arc.{Arc}
use Rattle.std.specs.declared.alloc.Global.{Global}
use Rattle.std.specs.Arc.{arc_value}
use Rattle.std.proofs.lemmas.Result.{IfOk-weaker, on_err_weaker}
use Rattle.pm_sized.specs.declared.many.Many.{Many}
use Rattle.pm_sized.specs.Pairs.{parts_of, part_of, total_of, IsPart}
use Rattle.pm_sized.specs.Parts.{many_values, group_values, values_of, Appended}
use Rattle.pm_sized.proofs.GrowLaws.{on_err_of}
use Rattle.pm_sized.proofs.PuttingLaws.{first-none, not-shared, when-shared}
use Rattle.pm_sized.proofs.TakingLaws.{taken, seen-laid, some-seen, end-within, room-seen, appended-seen, first-seen, room-whole, appended-whole}
use Rattle.pm_sized.proofs.append.Chunks+Arc+T+Global.append_part.Goals as goal
use Rattle.pm_sized.proofs.GroupLaws.{part-among}
use Rattle.pm_sized.proofs.CopyLaws.{length-shared, shared-at}
use Rattle.pm_sized.proofs.append.Chunks+Arc+T+Global.append_part.Goals.{then-at-len+then-from-eq0+then-end-part+in_ok-share+else-branch, else-at-len}

pub share-requires-clause-part : goal.share-requires-clause-part
share-requires-clause-part g c =
    let s = c.args.source.now in
    let at = c.place-at.result in
    let x = arc_value c.index-then-end-part.result.now in
    let x-is : x ≡ part_of s at = shared-at s.parts.items at c.index-then-end-part.result.now s.rest (omega (arith, c.if-at-len.true, c.len.ensures, s.parts.ok.0)) c.index-then-end-part.ensures in
    let P : Many (Arc g.row.T.Denot Global) → Type 0 = IsPart in
    subst P (sym x-is) (part-among (parts_of s) at s.rest c.requires.source.parts (omega (arith, c.if-at-len.true, c.len.ensures, s.parts.ok.0, length-shared s.parts.items)))

pub share-requires-clause-room : goal.share-requires-clause-room
share-requires-clause-room g c =
    let s = c.args.source.now in
    let at = c.place-at.result in
    let from = c.args.i - c.index.result.now in
    let end = c.min-end.result in
    let m = c.part-part.result.now in
    let t = taken s at c.args.i c.args.to c.index.result.now end m c.deref.result.now c.deref.ensures.value c.place-at.ensures.within c.place-at.ensures.at c.place-at.ensures.next
    c.index.ensures c.part-part.ensures c.requires.source c.requires.some c.requires.within c.min-end.ensures in
    let x = arc_value c.index-then-end-part.result.now in
    let x-is : x ≡ part_of s at = shared-at s.parts.items at c.index-then-end-part.result.now s.rest (omega (arith, c.if-at-len.true, c.len.ensures, s.parts.ok.0)) c.index-then-end-part.ensures in
    room-whole s at c.args.i c.args.to from end m t x x-is c.if-from-eq0.true c.if-end-part.true (total_of (values_of c.args.self.now)) c.requires.room

pub returns-in_err-share-clause-err : goal.returns-in_err-share-clause-err
returns-in_err-share-clause-err g c =
    on_err_of c.from_residual.result (first-none (values_of c.args.self.now) (group_values c.args.source.now) (values_of c.share.new.self) c.args.i c.args.to (omega (arith, c.requires.some)) c.in_err-share.ensures.err)

pub returns-then-branch-clause-ok : goal.returns-then-branch-clause-ok
returns-then-branch-clause-ok g c =
    let s = c.args.source.now in
    let at = c.place-at.result in
    let from = c.args.i - c.index.result.now in
    let end = c.min-end.result in
    let m = c.part-part.result.now in
    let t = taken s at c.args.i c.args.to c.index.result.now end m c.deref.result.now c.deref.ensures.value c.place-at.ensures.within c.place-at.ensures.at c.place-at.ensures.next
    c.index.ensures c.part-part.ensures c.requires.source c.requires.some c.requires.within c.min-end.ensures in
    let x = arc_value c.index-then-end-part.result.now in
    let x-is : x ≡ part_of s at = shared-at s.parts.items at c.index-then-end-part.result.now s.rest (omega (arith, c.if-at-len.true, c.len.ensures, s.parts.ok.0)) c.index-then-end-part.ensures in
    appended-whole s at c.args.i c.args.to from end m t x x-is c.if-from-eq0.true c.if-end-part.true (values_of c.args.self.now) (values_of c.share.new.self) (when-shared c.in_ok-share.field-0 _ _ _ c.in_ok-share.ensures.ok c.if-branch.true)

pub append_run-requires-clause-source : goal.append_run-requires-clause-source
append_run-requires-clause-source g c =
    let s = c.args.source.now in
    let at = c.place-at.result in
    let from = c.args.i - c.index.result.now in
    let end = c.min-end.result in
    let m = c.part-part.result.now in
    let t = taken s at c.args.i c.args.to c.index.result.now end m c.deref.result.now c.deref.ensures.value c.place-at.ensures.within c.place-at.ensures.at c.place-at.ensures.next
    c.index.ensures c.part-part.ensures c.requires.source c.requires.some c.requires.within c.min-end.ensures in
    seen-laid s at c.args.i c.args.to from end m t

pub append_run-requires-clause-some : goal.append_run-requires-clause-some
append_run-requires-clause-some g c =
    let s = c.args.source.now in
    let at = c.place-at.result in
    let from = c.args.i - c.index.result.now in
    let end = c.min-end.result in
    let m = c.part-part.result.now in
    let t = taken s at c.args.i c.args.to c.index.result.now end m c.deref.result.now c.deref.ensures.value c.place-at.ensures.within c.place-at.ensures.at c.place-at.ensures.next
    c.index.ensures c.part-part.ensures c.requires.source c.requires.some c.requires.within c.min-end.ensures in
    some-seen s at c.args.i c.args.to from end m t

pub append_run-requires-clause-within : goal.append_run-requires-clause-within
append_run-requires-clause-within g c =
    let s = c.args.source.now in
    let at = c.place-at.result in
    let from = c.args.i - c.index.result.now in
    let end = c.min-end.result in
    let m = c.part-part.result.now in
    let t = taken s at c.args.i c.args.to c.index.result.now end m c.deref.result.now c.deref.ensures.value c.place-at.ensures.within c.place-at.ensures.at c.place-at.ensures.next
    c.index.ensures c.part-part.ensures c.requires.source c.requires.some c.requires.within c.min-end.ensures in
    end-within s at c.args.i c.args.to from end m t

pub append_run-requires-clause-room : goal.append_run-requires-clause-room
append_run-requires-clause-room g c =
    let s = c.args.source.now in
    let at = c.place-at.result in
    let from = c.args.i - c.index.result.now in
    let end = c.min-end.result in
    let m = c.part-part.result.now in
    let t = taken s at c.args.i c.args.to c.index.result.now end m c.deref.result.now c.deref.ensures.value c.place-at.ensures.within c.place-at.ensures.at c.place-at.ensures.next
    c.index.ensures c.part-part.ensures c.requires.source c.requires.some c.requires.within c.min-end.ensures in
    let kept : values_of c.if-at-len.self ≡ values_of c.args.self.now = elim c.if-at-len.branch [
      | then-at-len+then-from-eq0+then-end-part+in_ok-share+else-branch w ↦ ap values_of w.self-is ∙ not-shared w.in_ok-share.field-0 _ _ _ w.in_ok-share.ensures.ok w.if-branch.false
      | else-at-len w ↦ ap values_of w.self-is
    ] in
    room-seen s at c.args.i c.args.to from end m t (total_of (values_of c.if-at-len.self)) (omega (arith, c.requires.room, ap total_of kept))

pub returns-clause-ok : goal.returns-clause-ok
returns-clause-ok g c =
    let s = c.args.source.now in
    let at = c.place-at.result in
    let from = c.args.i - c.index.result.now in
    let end = c.min-end.result in
    let m = c.part-part.result.now in
    let t = taken s at c.args.i c.args.to c.index.result.now end m c.deref.result.now c.deref.ensures.value c.place-at.ensures.within c.place-at.ensures.at c.place-at.ensures.next
    c.index.ensures c.part-part.ensures c.requires.source c.requires.some c.requires.within c.min-end.ensures in
    let kept : values_of c.if-at-len.self ≡ values_of c.args.self.now = elim c.if-at-len.branch [
      | then-at-len+then-from-eq0+then-end-part+in_ok-share+else-branch w ↦ ap values_of w.self-is ∙ not-shared w.in_ok-share.field-0 _ _ _ w.in_ok-share.ensures.ok w.if-branch.false
      | else-at-len w ↦ ap values_of w.self-is
    ] in
    let old = values_of c.args.self.now in
    let now = values_of c.if-at-len.self in
    let new = values_of c.append_run.new.self in
    IfOk-weaker c.append_run.result (λ n. Appended now (many_values m) from end n new) (λ n. Appended old (group_values s) c.args.i c.args.to n new) (λ n. appended-seen s at c.args.i c.args.to from end m t old now new n kept) c.append_run.ensures.ok

pub returns-clause-err : goal.returns-clause-err
returns-clause-err g c =
    let s = c.args.source.now in
    let at = c.place-at.result in
    let from = c.args.i - c.index.result.now in
    let end = c.min-end.result in
    let m = c.part-part.result.now in
    let t = taken s at c.args.i c.args.to c.index.result.now end m c.deref.result.now c.deref.ensures.value c.place-at.ensures.within c.place-at.ensures.at c.place-at.ensures.next
    c.index.ensures c.part-part.ensures c.requires.source c.requires.some c.requires.within c.min-end.ensures in
    let kept : values_of c.if-at-len.self ≡ values_of c.args.self.now = elim c.if-at-len.branch [
      | then-at-len+then-from-eq0+then-end-part+in_ok-share+else-branch w ↦ ap values_of w.self-is ∙ not-shared w.in_ok-share.field-0 _ _ _ w.in_ok-share.ensures.ok w.if-branch.false
      | else-at-len w ↦ ap values_of w.self-is
    ] in
    on_err_weaker c.append_run.result (first-seen s at c.args.i c.args.to from end m t (values_of c.args.self.now) (values_of c.if-at-len.self) (values_of c.append_run.new.self) kept) c.append_run.ensures.err
