use Rattle.std.proofs.Common.{rules, ◌≡◌, ◌<◌, ◌++◌, ℕ, [], All, length, slice_get, slice_set, vec_len, Some, sym, ap, ◌∙◌, subst, arith, append-nil}
use Rattle.std.proofs.lemmas.List.Elements.{All-push}
use Rattle.std.proofs.lemmas.Option.{slice_get_within, slice_get-get_or}
use Rattle.pm_workers.proofs.Interleaved.{member-at}
use Rattle.pm_workers.proofs.MergeLaws.{length-map, length-set}
use Rattle.pm_rooms.specs.Lines.{lines_in}
use Rattle.pm_rooms.proofs.Handings.{popped}
use Rattle.pm_rooms.proofs.Mergings.{none-of, same-view, room-next}
use Rattle.pm_rooms.proofs.Readiness.{all-at}
use Rattle.pm_rooms.proofs.merging.interleave.Goals as goal

pub loop-room-init : goal.loop-room-init
loop-room-init g c =
    let left = c.in_ok-left.left.items in
    let rooms = c.args.rooms.items in
    record {
      count = sym (length-map (λ q. q.items) left) ∙ ap length c.in_ok-left.ensures ∙ length-map (λ l. l.items) rooms;
      rooms = λ r own q own_at q_at. ap (λ l. lines_in r l ++ q.items) c.new-lines.ensures.items ∙ same-view (λ q. q.items) (λ l. l.items) left rooms c.in_ok-left.ensures r q own q_at own_at;
      there = subst (λ l. All (λ line. line.room < vec_len c.args.rooms) l) (sym c.new-lines.ensures.items) (λ k d lt. absurd (omega (arith, lt)));
    }

pub loop-room-preserved : goal.loop-room-preserved
loop-room-preserved g c =
    let i = c.loop-room.invariant in
    let left = c.loop-room.left.items in
    let rooms = c.args.rooms.items in
    let room = c.in-Some.room in
    let within : room < length left = subst (λ l. room < length l) c.as_slice.ensures.value c.in-Some.ensures.there in
    let was = c.index_mut.result.now in
    let at : slice_get left room ≡ Some was = slice_get-get_or left room was within ∙ ap Some (sym c.index_mut.ensures.value) in
    record {
      count = length-set left room c.pop_front.new.self ∙ i.count;
      rooms = subst (λ l. (r : ℕ) (own : _) (q : _) → slice_get rooms r ≡ Some own → slice_get (slice_set left room c.pop_front.new.self) r ≡ Some q → lines_in r l ++ q.items ≡ own.items) (sym c.in_ok-push.ensures.items)
          (room-next (λ l. l.items) (λ q. q.items) rooms left c.loop-room.lines.items room was c.pop_front.new.self _ at (popped was.items c.pop_front.new.self.items c.pop_front.result c.unwrap-line.result c.pop_front.ensures.items c.unwrap-line.ensures) (search rules) i.rooms);
      there = subst (λ l. All (λ line. line.room < vec_len c.args.rooms) l) (sym c.in_ok-push.ensures.items) (All-push (λ line. line.room < vec_len c.args.rooms) c.loop-room.lines.items _ i.there (omega (arith, within, i.count, c.args.rooms.ok.0)));
    }

pub returns-clause-rooms : goal.returns-clause-rooms
returns-clause-rooms g c = λ r own own_at.
    let left = c.loop-room.left.items in
    let e = member-at left r (subst (λ n. r < n) (sym c.loop-room.invariant.count) (slice_get_within c.args.rooms.items r own own_at)) in
    let none : e.0.items ≡ [] = none-of e.0.items (all-at (λ q. length q.items ≡ 0) c.as_slice.result.now c.in_default.ensures.none r e.0 (subst (λ l. slice_get l r ≡ Some e.0) (sym c.as_slice.ensures.value) e.1)) in
    sym (append-nil (lines_in r c.loop-room.lines.items)) ∙ ap (λ l. lines_in r c.loop-room.lines.items ++ l) (sym none) ∙ c.loop-room.invariant.rooms r own e.0 own_at e.1
