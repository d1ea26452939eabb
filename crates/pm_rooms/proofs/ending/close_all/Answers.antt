use Rattle.std.proofs.Common.{◌≡◌, ◌+◌, ◌<◌, [], length, take, drop, Some, refl, sym, ap, ◌∙◌, subst, arith, length-drop}
use Rattle.std.proofs.lemmas.Option.{slice_get-get_or}
use Rattle.pm_workers.proofs.Closing.{removed}
use Rattle.pm_workers.proofs.Working.{take-all}
use Rattle.pm_rooms.specs.Handed.{Matched}
use Rattle.pm_rooms.specs.Opened.{all_stands, IsRoomFile, IsDeskOf}
use Rattle.pm_rooms.specs.Played.{StandPlayed, RoomIsOrderly}
use Rattle.pm_rooms.proofs.Closings.{front-drop, has-played, hall-next, orderly-next, fits}
use Rattle.pm_rooms.proofs.Dealt.{matched-length}
use Rattle.pm_rooms.proofs.ending.close_all.Goals as goal

pub loop-file-init : goal.loop-file-init
loop-file-init g c = record {
  desks = refl;
  left = λ p. p.played;
  done = λ p. subst (λ l. Matched (λ room t. RoomIsOrderly g.C.Change.means p.makes room t) [] l) (sym c.new-rooms.ensures.items) tt;
}

pub remove-desk-requires : goal.remove-desk-requires
remove-desk-requires g c =
    let m = g.C.Change.means in
    let k = c.loop-file.file-index in
    let i = c.loop-file.invariant in
    let all = c.args.desks.items in
    let files = c.args.files.now in
    let file = c.file-item.result in
    let at = slice_get-get_or files k file c.loop-file-test.true ∙ ap Some (sym c.file-item.is) in
    let q = c.requires in
    let counts : length files ≡ length all = matched-length (λ room file. IsRoomFile room file) q.rooms files q.filed ∙ sym (matched-length (λ room d. IsDeskOf m room d) q.rooms all q.desks_are) in
    let within : k < length all = omega (arith, c.loop-file-test.true, counts) in
    omega (arith, ap length i.desks, length-drop k all, within, c.loop-file.desks.ok.0)

pub split_off-requires : goal.split_off-requires
split_off-requires g c =
    let m = g.C.Change.means in
    let k = c.loop-file.file-index in
    let i = c.loop-file.invariant in
    let all = c.args.desks.items in
    let files = c.args.files.now in
    let file = c.file-item.result in
    let at = slice_get-get_or files k file c.loop-file-test.true ∙ ap Some (sym c.file-item.is) in
    let q = c.requires in
    let counts : length files ≡ length all = matched-length (λ room file. IsRoomFile room file) q.rooms files q.filed ∙ sym (matched-length (λ room d. IsDeskOf m room d) q.rooms all q.desks_are) in
    let within : k < length all = omega (arith, c.loop-file-test.true, counts) in
    let d = c.remove-desk.result in
    let rest = c.remove-desk.new.self.items in
    let some : 0 < length c.loop-file.desks.items = omega (arith, ap length i.desks, length-drop k all, within) in
    let took = removed c.loop-file.desks.items rest d c.remove-desk.ensures.value c.remove-desk.ensures.items some in
    let front = front-drop all k d rest within (took ∙ i.desks) in
    let left = c.loop-file.workers.items in
    let enough = fits m all files c.args.workers.items q k file at d front.0 left (i.left q) in
    omega (arith, enough, c.len.ensures, file.places.ok.0, c.loop-file.workers.ok.0)

pub close_room-requires : goal.close_room-requires
close_room-requires g c =
    let m = g.C.Change.means in
    let k = c.loop-file.file-index in
    let i = c.loop-file.invariant in
    let all = c.args.desks.items in
    let files = c.args.files.now in
    let file = c.file-item.result in
    let at = slice_get-get_or files k file c.loop-file-test.true ∙ ap Some (sym c.file-item.is) in
    let q = c.requires in
    let counts : length files ≡ length all = matched-length (λ room file. IsRoomFile room file) q.rooms files q.filed ∙ sym (matched-length (λ room d. IsDeskOf m room d) q.rooms all q.desks_are) in
    let within : k < length all = omega (arith, c.loop-file-test.true, counts) in
    let d = c.remove-desk.result in
    let rest = c.remove-desk.new.self.items in
    let some : 0 < length c.loop-file.desks.items = omega (arith, ap length i.desks, length-drop k all, within) in
    let took = removed c.loop-file.desks.items rest d c.remove-desk.ensures.value c.remove-desk.ensures.items some in
    let front = front-drop all k d rest within (took ∙ i.desks) in
    let left = c.loop-file.workers.items in
    let n : c.len.result ≡ length file.places.items = c.len.ensures ∙ file.places.ok.0 in
    let own : c.replace-own.result.items ≡ take (length file.places.items) left = ap (λ v. v.items) c.replace-own.ensures.value ∙ c.in_ok-later.ensures.items ∙ ap (λ j. take j left) n in
    has-played m all files c.args.workers.items q k file at d front.0 left (i.left q) c.replace-own.result.items own

pub loop-file-preserved : goal.loop-file-preserved
loop-file-preserved g c =
    let m = g.C.Change.means in
    let k = c.loop-file.file-index in
    let i = c.loop-file.invariant in
    let all = c.args.desks.items in
    let files = c.args.files.now in
    let file = c.file-item.result in
    let at = slice_get-get_or files k file c.loop-file-test.true ∙ ap Some (sym c.file-item.is) in
    let q = c.requires in
    let counts : length files ≡ length all = matched-length (λ room file. IsRoomFile room file) q.rooms files q.filed ∙ sym (matched-length (λ room d. IsDeskOf m room d) q.rooms all q.desks_are) in
    let within : k < length all = omega (arith, c.loop-file-test.true, counts) in
    let d = c.remove-desk.result in
    let rest = c.remove-desk.new.self.items in
    let some : 0 < length c.loop-file.desks.items = omega (arith, ap length i.desks, length-drop k all, within) in
    let took = removed c.loop-file.desks.items rest d c.remove-desk.ensures.value c.remove-desk.ensures.items some in
    let front = front-drop all k d rest within (took ∙ i.desks) in
    let left = c.loop-file.workers.items in
    let n : c.len.result ≡ length file.places.items = c.len.ensures ∙ file.places.ok.0 in
    let own : c.replace-own.result.items ≡ take (length file.places.items) left = ap (λ v. v.items) c.replace-own.ensures.value ∙ c.in_ok-later.ensures.items ∙ ap (λ j. take j left) n in
    let later : c.replace-own.new.dest.items ≡ drop (length file.places.items) left = ap (λ v. v.items) c.replace-own.ensures.after ∙ c.in_ok-later.ensures.tail ∙ ap (λ j. drop j left) n in
    record {
      desks = front.1;
      left = λ p. subst (λ l. Matched (λ x v. StandPlayed m p.makes p.rooms all x v) (all_stands (k + 1) (drop (k + 1) p.rooms) (drop (k + 1) all)) l) (sym later)
          (hall-next m all files c.args.workers.items p k file at d front.0 left (i.left p));
      done = λ p. orderly-next m all files c.args.workers.items p k file at d front.0 left (i.left p) c.in_ok-close_room.field-0 c.loop-file.rooms.items c.push.new.self.items (i.done p)
          (c.in_ok-close_room.ensures.orderly (has-played m all files c.args.workers.items p k file at d front.0 left (i.left p) c.replace-own.result.items own)) c.in_ok-push.ensures.items;
    }

pub returns : goal.returns
returns g c p =
    let k = c.loop-file.file-index in
    let count = matched-length (λ room file. IsRoomFile room file) p.rooms c.args.files.now p.filed in
    subst (λ l. Matched (λ room t. RoomIsOrderly g.C.Change.means p.makes room t) l c.loop-file.rooms.items) (take-all p.rooms k (omega (arith, count, c.loop-file-test.false))) (c.loop-file.invariant.done p)
