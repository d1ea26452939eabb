use Rattle.std.proofs.Common.{◌≡◌, ◌<◌, All, length, map, refl, sym, ap, ◌∙◌, subst}
use Rattle.pm_workers.proofs.MergeLaws.{length-map}
use Rattle.pm_rooms.specs.Handed.{handed}
use Rattle.pm_rooms.specs.Opened.{stand_person, line_person}
use Rattle.pm_rooms.proofs.Gatherings.{stands-below, lines-below, shared}
use Rattle.pm_rooms.proofs.sharing.gather.Goals as goal

pub hand_by-requires-clause-turns : goal.hand_by-requires-clause-turns
hand_by-requires-clause-turns g c =
    let people = map (λ l. l.items) c.args.people.now in
    let stands = c.args.stands.items in
    let lines = c.args.lines.items in
    let n = c.count_of-count.result in
    let below = c.count_of-count.ensures in
    let turns : c.in_ok-turns.turns.items ≡ map (λ x. stand_person people x) stands = c.in_ok-turns.ensures ∙ ap (map (λ x. stand_person people x)) c.as_slice.ensures.value in
    let calls : c.in_ok-calls.calls.items ≡ map (λ line. line_person people line) lines = c.in_ok-calls.ensures ∙ ap (map (λ line. line_person people line)) c.as_slice-2.ensures.value in
    subst (λ l. All (λ turn. turn < n) l) (sym (c.as_slice-3.ensures.value ∙ turns)) (stands-below people stands lines n below)

pub hand_by-requires-clause-each : goal.hand_by-requires-clause-each
hand_by-requires-clause-each g c =
    let people = map (λ l. l.items) c.args.people.now in
    let stands = c.args.stands.items in
    let lines = c.args.lines.items in
    let n = c.count_of-count.result in
    let below = c.count_of-count.ensures in
    let turns : c.in_ok-turns.turns.items ≡ map (λ x. stand_person people x) stands = c.in_ok-turns.ensures ∙ ap (map (λ x. stand_person people x)) c.as_slice.ensures.value in
    let calls : c.in_ok-calls.calls.items ≡ map (λ line. line_person people line) lines = c.in_ok-calls.ensures ∙ ap (map (λ line. line_person people line)) c.as_slice-2.ensures.value in
    c.args.stands.ok.0 ∙ sym (ap length (c.as_slice-3.ensures.value ∙ turns) ∙ length-map (λ x. stand_person people x) stands)

pub hand_by-requires-2-clause-turns : goal.hand_by-requires-2-clause-turns
hand_by-requires-2-clause-turns g c =
    let people = map (λ l. l.items) c.args.people.now in
    let stands = c.args.stands.items in
    let lines = c.args.lines.items in
    let n = c.count_of-count.result in
    let below = c.count_of-count.ensures in
    let turns : c.in_ok-turns.turns.items ≡ map (λ x. stand_person people x) stands = c.in_ok-turns.ensures ∙ ap (map (λ x. stand_person people x)) c.as_slice.ensures.value in
    let calls : c.in_ok-calls.calls.items ≡ map (λ line. line_person people line) lines = c.in_ok-calls.ensures ∙ ap (map (λ line. line_person people line)) c.as_slice-2.ensures.value in
    subst (λ l. All (λ turn. turn < n) l) (sym (c.as_slice-4.ensures.value ∙ calls)) (lines-below people stands lines n below)

pub hand_by-requires-2-clause-each : goal.hand_by-requires-2-clause-each
hand_by-requires-2-clause-each g c =
    let people = map (λ l. l.items) c.args.people.now in
    let stands = c.args.stands.items in
    let lines = c.args.lines.items in
    let n = c.count_of-count.result in
    let below = c.count_of-count.ensures in
    let turns : c.in_ok-turns.turns.items ≡ map (λ x. stand_person people x) stands = c.in_ok-turns.ensures ∙ ap (map (λ x. stand_person people x)) c.as_slice.ensures.value in
    let calls : c.in_ok-calls.calls.items ≡ map (λ line. line_person people line) lines = c.in_ok-calls.ensures ∙ ap (map (λ line. line_person people line)) c.as_slice-2.ensures.value in
    c.args.lines.ok.0 ∙ sym (ap length (c.as_slice-4.ensures.value ∙ calls) ∙ length-map (λ line. line_person people line) lines)

pub returns : goal.returns
returns g c =
    let people = map (λ l. l.items) c.args.people.now in
    let stands = c.args.stands.items in
    let lines = c.args.lines.items in
    let n = c.count_of-count.result in
    let below = c.count_of-count.ensures in
    let turns : c.in_ok-turns.turns.items ≡ map (λ x. stand_person people x) stands = c.in_ok-turns.ensures ∙ ap (map (λ x. stand_person people x)) c.as_slice.ensures.value in
    let calls : c.in_ok-calls.calls.items ≡ map (λ line. line_person people line) lines = c.in_ok-calls.ensures ∙ ap (map (λ line. line_person people line)) c.as_slice-2.ensures.value in
    shared people stands lines n below _ c.in_ok-turns.turns.items c.in_ok-calls.calls.items c.in_ok-stands.stands.items c.in_ok-lines.lines.items turns calls
    (sym c.in_ok-stands.stands.ok.0 ∙ c.in_ok-stands.ensures.count)
    (λ i own at. c.in_ok-stands.ensures.handed i own at ∙ ap (λ t. handed i t stands) c.as_slice-3.ensures.value)
    (λ i own at. c.in_ok-lines.ensures.handed i own at ∙ ap (λ t. handed i t lines) c.as_slice-4.ensures.value)
    c.in_ok-people.ensures.stands c.in_ok-people.ensures.lines c.in_ok-people.ensures.none refl
