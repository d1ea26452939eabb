use Rattle.std.proofs.Common.{◌≡◌, ◌+◌, ◌<◌, ◌^◌, ◌∙◌, ap, sym, subst, suc, arith, drop, length, refl, List}
use Rattle.std.proofs.lemmas.List.{drop_all}
use Rattle.pm_map.specs.declared.mapping.Mirrored.{Mirrored}
use Rattle.pm_map.specs.declared.step_map.Moved.{Moved}
use Rattle.pm_map.specs.declared.step_map.Span.{Span}
use Rattle.pm_map.specs.Moves.{is_before, kept_at, moved, moved_from}
use Rattle.pm_map.specs.Through.{stepped, through_from}
use Rattle.pm_map.proofs.Pairs.{over-room, over-step}
use Rattle.pm_history.specs.Laters.{items_of, entry_at}
use Rattle.pm_history.specs.Pairs.{paired}
use Rattle.pm_history.proofs.Leading.{drop-paired, entry-is, entry-there, paired-length, pairs-fit, step-clean, whole-skip, whole-step}
use Rattle.pm_history.proofs.later.Later.map.Goals as goal

pub loop-i-init : goal.loop-i-init
loop-i-init g c = record {
  within = omega arith;
  clean = refl;
  over = record { same = refl; room = c.requires.room; paired = pairs-fit (items_of c.args.self.now) };
}

pub over-next-requires-clause-room : goal.over-next-requires-clause-room
over-next-requires-clause-room g c =
    let is = items_of c.args.self.now in
    let i = c.loop-i.i in
    let below : i < length is = omega (arith, c.loop-i-test.true, c.len-count.ensures) in
    let e = entry_at is i in
    over-room (paired is) i (is_before c.args.side) c.loop-i.so (kept_at c.args.pos) e (omega (arith, below, paired-length is)) (sym (entry-there is i e below)) c.loop-i.invariant.over.room

pub passed-requires : goal.passed-requires
passed-requires g c =
    let is = items_of c.args.self.now in
    let i = c.loop-i.i in
    let below : i < length is = omega (arith, c.loop-i-test.true, c.len-count.ensures) in
    let e = entry_at is i in
    let same = ap (λ (x : Mirrored). x.map) (entry-is is i c.at.result.now below c.at.ensures) in (
      c.args.side,
      subst (λ (rs : List Span). (moved rs c.loop-i.so.pos c.args.side).pos < 2 ^ 64) same
          (over-room (paired is) i (is_before c.args.side) c.loop-i.so (kept_at c.args.pos) e (omega (arith, below, paired-length is)) (sym (entry-there is i e below)) c.loop-i.invariant.over.room),
    )

pub loop-i-preserved-in-Some : goal.loop-i-preserved-in-Some
loop-i-preserved-in-Some g c =
    let is = items_of c.args.self.now in
    let i = c.loop-i.i in
    let so = c.loop-i.so in
    let below : i < length is = omega (arith, c.loop-i-test.true, c.len-count.ensures) in
    let e = entry_at is i in
    let m = moved_from e.map 0 0 0 so.pos (is_before c.args.side) in
    let to : m ≡ kept_at c.in-Some.pos = ap (λ (x : Mirrored). moved x.map so.pos c.args.side) (entry-is is i c.at.result.now below c.at.ensures) ∙ c.in-Some.ensures c.args.side in
    record {
      within = omega (arith, below);
      clean = c.loop-i.invariant.clean;
      over = over-step (paired is) i (is_before c.args.side) so (kept_at c.args.pos) e (record so { pos = c.in-Some.pos }) 0 (i + 1) (omega (arith, below, paired-length is)) (sym (entry-there is i e below))
          c.loop-i.invariant.over (whole-step so m c.in-Some.pos e.later (drop (suc i) (paired is)) c.loop-i.invariant.clean to) (whole-skip m c.in-Some.pos e.later to) (omega arith);
    }

pub loop-i-preserved : goal.loop-i-preserved
loop-i-preserved g c =
    let is = items_of c.args.self.now in
    let i = c.loop-i.i in
    let b = is_before c.args.side in
    let so = c.loop-i.so in
    let below : i < length is = omega (arith, c.loop-i-test.true, c.len-count.ensures) in
    let e = entry_at is i in
    let m = moved_from e.map 0 0 0 so.pos b in
    let skip = c.over-next.result.skip in
    let one : i + 1 ≡ suc i = omega arith in
    let behind = sym (drop-paired (i + 1) is) ∙ ap (λ k. drop k (paired is)) one in
    record {
      within = omega (arith, c.over-next.ensures.end);
      clean = ap (λ (x : Moved). x.recover) c.over-next.ensures.state ∙ step-clean so m e.later m.recover (paired (drop (i + 1) is));
      over = over-step (paired is) i b so (kept_at c.args.pos) e c.over-next.result.so skip (i + (1 + skip)) (omega (arith, below, paired-length is)) (sym (entry-there is i e below))
          c.loop-i.invariant.over (c.over-next.ensures.state ∙ ap (λ es. stepped so m e.later m.recover es) behind) c.over-next.ensures.skip (omega arith);
    }

pub returns : goal.returns
returns g c =
    let is = items_of c.args.self.now in
    let b = is_before c.args.side in
    ap (λ es. through_from es 0 b c.loop-i.so) (sym (drop_all c.loop-i.i (paired is) (omega (arith, c.loop-i-test.false, c.len-count.ensures, paired-length is)))) ∙ c.loop-i.invariant.over.same
