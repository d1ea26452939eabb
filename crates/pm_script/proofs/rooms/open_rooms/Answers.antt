use Rattle.std.proofs.Common.{◌≡◌, ◌<◌, ◌≤◌, ◌+◌, ◌*◌, ℕ, List, [], ◌∷◌, ◌++◌, drop, length, map, vec_len, refl, ap, sym, subst, ◌∙◌, arith, rules, Ok, Err}
use Rattle.std.specs.Prelude.{Result, All}
use Rattle.std.proofs.lemmas.List.{drop-drop, drop_all, map-append, append-nil}
use Rattle.std.proofs.lemmas.List.Elements.{All-push}
use Rattle.std.proofs.lemmas.Result.{err_from_is_err_and}
use Rattle.pm_list.specs.Readings.{with_front}
use Rattle.pm_head.specs.declared.fault.Refusal.{Refusal}
use Rattle.pm_head.specs.Lines.{lines_of}
use Rattle.pm_script.specs.declared.rooms.RoomSession.{RoomSession}
use Rattle.pm_script.specs.declared.open_room.OpenRoom.{OpenRoom}
use Rattle.pm_script.specs.Rooms.{opened, AreOpened}
use Rattle.pm_script.specs.OpenRooms.{room_of, rooms_of}
use Rattle.pm_script.proofs.OpenRooms.{front-drop}
use Rattle.pm_script.proofs.RoomHeads.{opened-more, fault-opened, reads-fault}
use Rattle.pm_script.proofs.rooms.open_rooms.Goals as goal

pub returns-in_err-head-clause-read : goal.returns-in_err-head-clause-read
returns-in_err-head-clause-read c =
    let names = c.args.names.now in
    let i = c.loop-name.name-index in
    let name = c.name-item.result in
    let within : c.loop-name.name-index < length c.args.names.now = search rules in
    let front : drop c.loop-name.name-index c.args.names.now ≡ c.name-item.result ∷ drop (c.loop-name.name-index + 1) c.args.names.now = front-drop names i name within c.name-item.is in
    let P : Result (List RoomSession) Refusal → Type 0 = λ r. AreOpened c.args.names.now 1 (lines_of c.args.input.now) r in
    let so = λ (r : Result (List RoomSession) Refusal) (h : AreOpened (c.name-item.result ∷ drop (c.loop-name.name-index + 1) c.args.names.now) c.loop-name.line (lines_of c.loop-name.rest.now) r).
    c.loop-name.invariant.read r (subst (λ l. AreOpened l c.loop-name.line (lines_of c.loop-name.rest.now) r) (sym front) h) in
    let p = err_from_is_err_and c.from_residual.result c.from_residual.ensures.1 in
    reads-fault P _ c.from_residual.result p.0 c.in_err-head.field-0.0 p.1 p.2
    (fault-opened P (rooms_of c.loop-name.rooms.items) name (drop (i + 1) names) c.loop-name.line (lines_of c.loop-name.rest.now) so c.in_err-head.field-0.0 c.in_err-head.ensures.read)

pub loop-name-preserved : goal.loop-name-preserved
loop-name-preserved c =
    let inv = c.loop-name.invariant in
    let names = c.args.names.now in
    let i = c.loop-name.name-index in
    let name = c.name-item.result in
    let lines = lines_of c.loop-name.rest.now in
    let all = lines_of c.args.input.now in
    let had = c.loop-name.rooms.items in
    let within : c.loop-name.name-index < length c.args.names.now = search rules in
    let front : drop c.loop-name.name-index c.args.names.now ≡ c.name-item.result ∷ drop (c.loop-name.name-index + 1) c.args.names.now = front-drop names i name within c.name-item.is in
    let P : Result (List RoomSession) Refusal → Type 0 = λ r. AreOpened c.args.names.now 1 (lines_of c.args.input.now) r in
    let so = λ (r : Result (List RoomSession) Refusal) (h : AreOpened (c.name-item.result ∷ drop (c.loop-name.name-index + 1) c.args.names.now) c.loop-name.line (lines_of c.loop-name.rest.now) r).
    inv.read r (subst (λ l. AreOpened l c.loop-name.line (lines_of c.loop-name.rest.now) r) (sym front) h) in
    let more : rooms_of c.push.new.self.items ≡ rooms_of c.loop-name.rooms.items ++ opened c.name-item.result c.in_ok-head.head ∷ [] =
    ap (λ (l : List OpenRoom). rooms_of l) c.in_ok-push.ensures.items ∙ map-append room_of had (c.in_ok-new.field-0 ∷ []) ∙ ap (λ x. rooms_of had ++ x ∷ []) c.in_ok-new.ensures.room in
    let three : 3 * i + 3 ≡ 3 * (i + 1) = omega arith in
    let none : vec_len c.in_ok-new.field-0.earlier.lines ≤ 0 = search rules in
    record {
      line = omega (arith, inv.line);
      rest = c.in_ok-head.ensures.rest ∙ ap (drop 3) inv.rest ∙ drop-drop 3 (3 * i) all ∙ ap (λ k. drop k all) three;
      none = subst (λ (l : List OpenRoom). All (λ o. vec_len o.earlier.lines ≤ 0) l) (sym c.in_ok-push.ensures.items) (All-push (λ o. vec_len o.earlier.lines ≤ 0) had c.in_ok-new.field-0 inv.none none);
      read = λ r h.
          let here = subst (λ l. AreOpened (drop (i + 1) names) (c.loop-name.line + 3) l r) c.in_ok-head.ensures.rest h in
          subst (λ l. P (with_front l r)) (sym more) (opened-more P (rooms_of had) name (drop (i + 1) names) c.loop-name.line lines so c.in_ok-head.head c.in_ok-head.ensures.read r here);
    }

pub returns-clause-read : goal.returns-clause-read
returns-clause-read c =
    let names = c.args.names.now in
    let past : length c.args.names.now ≤ c.loop-name.name-index = search rules in
    let none : [] ≡ drop c.loop-name.name-index c.args.names.now = sym (drop_all c.loop-name.name-index names past) in
    let rooms = rooms_of c.loop-name.rooms.items in
    let last = subst (λ l. AreOpened l c.loop-name.line (lines_of c.loop-name.rest.now) (Ok [])) none refl in
    subst (λ l. AreOpened names 1 (lines_of c.args.input.now) (Ok l)) (append-nil rooms) (c.loop-name.invariant.read (Ok []) last)
