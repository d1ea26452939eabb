use Rattle.std.proofs.Common.{◌≡◌, ◌++◌, ◌<◌, [], ◌∷◌, All, length, slice_get, Some, refl, sym, ap, ap₂, ◌∙◌, subst, arith, append-nil, slice_index_or}
use Rattle.std.proofs.lemmas.Option.{slice_get-get_or, slice_get_within}
use Rattle.pm_workers.proofs.MergeLaws.{length-map, length-set}
use Rattle.pm_rooms.specs.Parted.{IsPartSoFar}
use Rattle.pm_rooms.specs.Stands.{HasStand, stand_lines, stand_outcomes}
use Rattle.pm_rooms.proofs.Closings.{front-drop}
use Rattle.pm_rooms.proofs.Handings.{popped}
use Rattle.pm_rooms.proofs.Mergings.{none-of, same-view}
use Rattle.pm_rooms.proofs.Partings.{part-next}
use Rattle.pm_rooms.proofs.Readiness.{all-at}
use Rattle.pm_rooms.proofs.parting.part.Goals as goal

pub loop-place-init : goal.loop-place-init
loop-place-init g c =
    let stands = c.args.person.stands.items in
    let workers = c.in_ok-workers.workers.items in
    record {
      count = sym (length-map (λ w. w.member) workers) ∙ ap length c.in_ok-workers.ensures.members ∙ length-map (λ x. x.member) stands;
      left = omega (arith, ap length c.from-lines.ensures.0);
      told = omega (arith, ap length c.from-outcomes.ensures.0, c.requires.each);
      lines = c.from-lines.ensures.0;
      parts = λ j x w x_at w_at.
          let idle = all-at (λ w. w.lines.items ≡ [] × w.outcomes.items ≡ []) workers c.in_ok-workers.ensures.idle j w w_at in
          record {
            member = same-view (λ w. w.member) (λ x. x.member) workers stands c.in_ok-workers.ensures.members j w x w_at x_at;
            seat = same-view (λ w. w.seat) (λ x. x.seat) workers stands c.in_ok-workers.ensures.seats j w x w_at x_at;
            lines_are = ap₂ (λ a b. a ++ stand_lines x b) idle.0 c.from-lines.ensures.0;
            outcomes_are = ap₂ (λ a b. a ++ stand_outcomes x c.from-lines.result.items b) idle.1 c.from-outcomes.ensures.0 ∙ ap (λ l. stand_outcomes x l c.args.person.outcomes.items) c.from-lines.ensures.0;
          };
    }

pub places_of-requires : goal.places_of-requires
places_of-requires g c =
    let lines = c.as_slice-2.result.now in
    subst (λ s. All (λ line. HasStand s line) lines) (sym c.as_slice.ensures.value) (subst (λ l. All (λ line. HasStand c.args.person.stands.items line) l) (sym c.as_slice-2.ensures.value) c.requires.there)

pub unwrap-line-requires : goal.unwrap-line-requires
unwrap-line-requires g c =
    let i = c.loop-place.invariant in
    let listed : length c.deref-place-items.result.now ≡ length c.args.person.lines.items = ap length c.deref-place-items.ensures.value ∙ c.in_ok-places.ensures.count ∙ ap length c.as_slice-2.ensures.value in
    let some : 0 < length c.loop-place.lines.items = omega (arith, i.left, c.loop-place-test.true, listed) in
    c.pop_front.ensures.variant.1 (omega (arith, some, c.loop-place.lines.ok.0))

pub index_mut-worker-requires : goal.index_mut-worker-requires
index_mut-worker-requires g c =
    let k = c.loop-place.place-index in
    let i = c.loop-place.invariant in
    let lines = c.args.person.lines.items in
    let stands = c.args.person.stands.items in
    let workers = c.loop-place.workers.items in
    let now = c.deref-place-items.result.now in
    let place = slice_index_or now k 0 in
    let line = c.unwrap-line.result in
    let rest = c.pop_front.new.self.items in
    let front = popped c.loop-place.lines.items rest c.pop_front.result line c.pop_front.ensures.items c.unwrap-line.ensures in
    let listed : length now ≡ length lines = ap length c.deref-place-items.ensures.value ∙ c.in_ok-places.ensures.count ∙ ap length c.as_slice-2.ensures.value in
    let drop_is = front-drop lines k line rest (omega (arith, c.loop-place-test.true, listed)) (sym front ∙ i.lines) in
    let place_at = ap (λ l. slice_get l k) (sym c.deref-place-items.ensures.value) ∙ slice_get-get_or now k 0 c.loop-place-test.true in
    let it = c.in_ok-places.ensures.places k line place (ap (λ l. slice_get l k) c.as_slice-2.ensures.value ∙ drop_is.0) place_at in
    let s_at : slice_get stands place ≡ Some it.0 = ap (λ l. slice_get l place) (sym c.as_slice.ensures.value) ∙ it.1 in
    let within : place < length stands = slice_get_within stands place it.0 s_at in
    omega (arith, within, i.count, c.loop-place.workers.ok.0)

pub loop-place-preserved : goal.loop-place-preserved
loop-place-preserved g c =
    let k = c.loop-place.place-index in
    let i = c.loop-place.invariant in
    let lines = c.args.person.lines.items in
    let stands = c.args.person.stands.items in
    let workers = c.loop-place.workers.items in
    let now = c.deref-place-items.result.now in
    let place = slice_index_or now k 0 in
    let line = c.unwrap-line.result in
    let rest = c.pop_front.new.self.items in
    let front = popped c.loop-place.lines.items rest c.pop_front.result line c.pop_front.ensures.items c.unwrap-line.ensures in
    let listed : length now ≡ length lines = ap length c.deref-place-items.ensures.value ∙ c.in_ok-places.ensures.count ∙ ap length c.as_slice-2.ensures.value in
    let drop_is = front-drop lines k line rest (omega (arith, c.loop-place-test.true, listed)) (sym front ∙ i.lines) in
    let place_at = ap (λ l. slice_get l k) (sym c.deref-place-items.ensures.value) ∙ slice_get-get_or now k 0 c.loop-place-test.true in
    let it = c.in_ok-places.ensures.places k line place (ap (λ l. slice_get l k) c.as_slice-2.ensures.value ∙ drop_is.0) place_at in
    let s_at : slice_get stands place ≡ Some it.0 = ap (λ l. slice_get l place) (sym c.as_slice.ensures.value) ∙ it.1 in
    let within : place < length stands = slice_get_within stands place it.0 s_at in
    let told = c.args.person.outcomes.items in
    let o = c.unwrap-outcome.result in
    let later = c.pop_front-in-loop-place.new.self.items in
    let first = popped c.loop-place.outcomes.items later c.pop_front-in-loop-place.result o c.pop_front-in-loop-place.ensures.items c.unwrap-outcome.ensures in
    let was = c.index_mut-worker.result.now in
    let was_at = slice_get-get_or workers place was (omega (arith, within, i.count)) ∙ ap Some (sym c.index_mut-worker.ensures.value) in
    record {
      count = length-set workers place _ ∙ i.count;
      left = omega (arith, i.left, ap length front);
      told = omega (arith, i.told, ap length first);
      lines = drop_is.1;
      parts = part-next lines told stands c.requires.differ line rest o later workers place it.0 was _ s_at it.2 was_at refl refl c.in_ok-push.ensures.items c.in_ok-push-2.ensures.items
          (λ j x w a b. subst (λ l. IsPartSoFar lines l told (o ∷ later) x w) front (subst (λ l. IsPartSoFar lines c.loop-place.lines.items told l x w) first (i.parts j x w a b)));
    }

pub returns : goal.returns
returns g c =
    let i = c.loop-place.invariant in
    let lines = c.args.person.lines.items in
    let listed : length c.deref-place-items.result.now ≡ length lines = ap length c.deref-place-items.ensures.value ∙ c.in_ok-places.ensures.count ∙ ap length c.as_slice-2.ensures.value in
    let none = none-of c.loop-place.lines.items (omega (arith, i.left, listed, c.loop-place-test.false)) in
    record {
      count = i.count;
      parts = λ j x w a b.
          let one = i.parts j x w a b in
          record {
            member = one.member;
            seat = one.seat;
            lines_are = sym (append-nil w.lines.items) ∙ ap (λ l. w.lines.items ++ stand_lines x l) (sym none) ∙ one.lines_are;
            outcomes_are = sym (append-nil w.outcomes.items) ∙ ap (λ l. w.outcomes.items ++ stand_outcomes x l c.loop-place.outcomes.items) (sym none) ∙ one.outcomes_are;
          };
    }
