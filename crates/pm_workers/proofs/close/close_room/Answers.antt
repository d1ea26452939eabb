use Rattle.std.proofs.Common.{◌≡◌, ◌<◌, All, length, map, sym, ap, ap₂, ◌∙◌, subst}
use Rattle.std.proofs.lemmas.Result.{IfOk-from_err}
use Rattle.pm_session.specs.Events.{state_of}
use Rattle.pm_session.specs.Sessions.{opened, session}
use Rattle.pm_session.specs.Sounds.{Sound}
use Rattle.pm_workers.specs.Merges.{numbers, merged, IsOrder}
use Rattle.pm_desk.specs.Histories.{state_at}
use Rattle.pm_workers.specs.Seatings.{AreSeats, IsCovered}
use Rattle.pm_workers.specs.Threads.{after_request, by_client, in_order, dealt}
use Rattle.pm_workers.proofs.Filing.{clients-count}
use Rattle.pm_workers.proofs.Gathering.{order-below, turns-are, gives-lines, gives-order, gives-suit, gives-session}
use Rattle.pm_workers.proofs.MergeLaws.{length-map, map-numbers}
use Rattle.pm_workers.proofs.Playing.{are-seats, left-of, apart-sound}
use Rattle.pm_workers.proofs.close.close_room.Goals as goal

pub close_desk-rules-requires : goal.close_desk-rules-requires
close_desk-rules-requires g c =
    let k = c.requires in
    subst (λ l. AreSeats c.args.desk l) (sym c.in_ok-left.ensures.seats) (are-seats g.C.Change.means k.makes c.args.desk k.doc k.raw k.lines c.args.workers.items k.played)

pub merge-requires : goal.merge-requires
merge-requires g c =
    let m = g.C.Change.means in
    let k = c.requires in
    let d = c.args.desk in
    let n = length k.raw in
    let lines = k.lines in
    let left = c.in_ok-left.left in
    let told = c.in_ok-left.ensures in
    let apart = c.close_desk-rules.result in
    let closed = c.close_desk-rules.ensures in
    let played = left-of m k.makes d k.doc k.raw lines c.args.workers.items k.played left.seats.items told.seats apart.history.items closed.covered closed.callers apart.authority closed.authority
    apart.members.items apart.lines.items apart.outcomes.items
    (ap (λ v. v.items) closed.members ∙ told.members) (ap (λ v. v.items) closed.lines ∙ told.lines) (ap (λ v. v.items) closed.outcomes ∙ told.outcomes) in
    let places = c.args.file.now.places.items in
    let long : length c.as_slice-2.result.now ≡ n =
    ap length c.as_slice-2.ensures.value ∙ sym (length-map (λ l. l.items) places) ∙ ap length k.filed.places ∙ clients-count lines n 0 in
    subst (λ j. All (λ past. past.seat < j) c.as_slice.result.now) (sym long)
    (subst (λ l. All (λ past. past.seat < n) l) (sym c.as_slice.ensures.value) played.calls)

pub pick-requires : goal.pick-requires
pick-requires g c =
    let k = c.requires in
    let n = length k.raw in
    let lines = k.lines in
    let history = c.close_desk-rules.result.history.items in
    let order : c.as_slice-4.result.now ≡ merged (map (λ past. past.seat) history) (by_client 0 n lines) =
    c.as_slice-4.ensures.value ∙ c.in_ok-order.ensures.merges
    ∙ ap₂ (λ h f. merged (map (λ past. past.seat) h) (map (λ l. l.items) f)) c.as_slice.ensures.value c.as_slice-2.ensures.value ∙ ap (merged (map (λ past. past.seat) history)) k.filed.places in
    let long : length c.as_slice-3.result.now ≡ length lines =
    ap length (c.as_slice-3.ensures.value ∙ k.filed.clients) ∙ length-map (λ line. line.client) lines in
    subst (λ j. All (λ i. i < j) c.as_slice-4.result.now) (sym long)
    (subst (λ l. All (λ i. i < length lines) l) (sym order) (order-below n (map (λ past. past.seat) history) lines))

pub deal-requires : goal.deal-requires
deal-requires g c =
    let m = g.C.Change.means in
    let k = c.requires in
    let d = c.args.desk in
    let n = length k.raw in
    let lines = k.lines in
    let left = c.in_ok-left.left in
    let told = c.in_ok-left.ensures in
    let apart = c.close_desk-rules.result in
    let closed = c.close_desk-rules.ensures in
    let played = left-of m k.makes d k.doc k.raw lines c.args.workers.items k.played left.seats.items told.seats apart.history.items closed.covered closed.callers apart.authority closed.authority
    apart.members.items apart.lines.items apart.outcomes.items
    (ap (λ v. v.items) closed.members ∙ told.members) (ap (λ v. v.items) closed.lines ∙ told.lines) (ap (λ v. v.items) closed.outcomes ∙ told.outcomes) in
    let merges : c.in_ok-order.order.items ≡ merged (map (λ past. past.seat) apart.history.items) (map (λ l. l.items) c.args.file.now.places.items) =
    c.in_ok-order.ensures.merges ∙ ap₂ (λ h f. merged (map (λ past. past.seat) h) (map (λ l. l.items) f)) c.as_slice.ensures.value c.as_slice-2.ensures.value in
    let picks : c.in_ok-turns.turns.items ≡ in_order c.args.file.now.clients.items c.in_ok-order.order.items =
    c.in_ok-turns.ensures ∙ ap₂ in_order c.as_slice-3.ensures.value c.as_slice-4.ensures.value in
    let are = turns-are _ _ _ _ _ _ _ _ _ _ played _ _ _ _ k.filed.places merges k.filed.clients picks in
    let long = apart.lines.ok.0 ∙ sym (length-map (λ l. l.items) apart.lines.items) ∙ played.own_each in
    subst (λ j. All (λ turn. turn < j) c.as_slice-5.result.now) (sym long)
    (subst (λ l. All (λ turn. turn < n) l) (sym (c.as_slice-5.ensures.value ∙ are)) played.turns)

pub deal-requires-2 : goal.deal-requires-2
deal-requires-2 g c =
    let m = g.C.Change.means in
    let k = c.requires in
    let d = c.args.desk in
    let n = length k.raw in
    let lines = k.lines in
    let left = c.in_ok-left.left in
    let told = c.in_ok-left.ensures in
    let apart = c.close_desk-rules.result in
    let closed = c.close_desk-rules.ensures in
    let played = left-of m k.makes d k.doc k.raw lines c.args.workers.items k.played left.seats.items told.seats apart.history.items closed.covered closed.callers apart.authority closed.authority
    apart.members.items apart.lines.items apart.outcomes.items
    (ap (λ v. v.items) closed.members ∙ told.members) (ap (λ v. v.items) closed.lines ∙ told.lines) (ap (λ v. v.items) closed.outcomes ∙ told.outcomes) in
    let merges : c.in_ok-order.order.items ≡ merged (map (λ past. past.seat) apart.history.items) (map (λ l. l.items) c.args.file.now.places.items) =
    c.in_ok-order.ensures.merges ∙ ap₂ (λ h f. merged (map (λ past. past.seat) h) (map (λ l. l.items) f)) c.as_slice.ensures.value c.as_slice-2.ensures.value in
    let picks : c.in_ok-turns.turns.items ≡ in_order c.args.file.now.clients.items c.in_ok-order.order.items =
    c.in_ok-turns.ensures ∙ ap₂ in_order c.as_slice-3.ensures.value c.as_slice-4.ensures.value in
    let are = turns-are _ _ _ _ _ _ _ _ _ _ played _ _ _ _ k.filed.places merges k.filed.clients picks in
    let long = apart.outcomes.ok.0 ∙ sym (length-map (λ l. l.items) apart.outcomes.items) ∙ played.outcomes_each in
    subst (λ j. All (λ turn. turn < j) c.as_slice-6.result.now) (sym long)
    (subst (λ l. All (λ turn. turn < n) l) (sym (c.as_slice-6.ensures.value ∙ are)) played.turns)

pub of-requires : goal.of-requires
of-requires g c =
    let m = g.C.Change.means in
    let k = c.requires in
    let d = c.args.desk in
    let n = length k.raw in
    let lines = k.lines in
    let left = c.in_ok-left.left in
    let told = c.in_ok-left.ensures in
    let apart = c.close_desk-rules.result in
    let closed = c.close_desk-rules.ensures in
    let played = left-of m k.makes d k.doc k.raw lines c.args.workers.items k.played left.seats.items told.seats apart.history.items closed.covered closed.callers apart.authority closed.authority
    apart.members.items apart.lines.items apart.outcomes.items
    (ap (λ v. v.items) closed.members ∙ told.members) (ap (λ v. v.items) closed.lines ∙ told.lines) (ap (λ v. v.items) closed.outcomes ∙ told.outcomes) in
    let here = g.met.C.Change in
    let sound = apart-sound m d.opening.rules here.laws (k.makes d.opening.rules) n k.doc k.raw lines apart.history.items _ _ _ k.played.opening.good played in
    λ i x at. (sound.stand i x at).0

pub returns-clause-orderly : goal.returns-clause-orderly
returns-clause-orderly g c k =
    let m = g.C.Change.means in
    let d = c.args.desk in
    let n = length k.raw in
    let lines = k.lines in
    let left = c.in_ok-left.left in
    let told = c.in_ok-left.ensures in
    let apart = c.close_desk-rules.result in
    let closed = c.close_desk-rules.ensures in
    let played = left-of m k.makes d k.doc k.raw lines c.args.workers.items k.played left.seats.items told.seats apart.history.items closed.covered closed.callers apart.authority closed.authority
    apart.members.items apart.lines.items apart.outcomes.items
    (ap (λ v. v.items) closed.members ∙ told.members) (ap (λ v. v.items) closed.lines ∙ told.lines) (ap (λ v. v.items) closed.outcomes ∙ told.outcomes) in
    let merges : c.in_ok-order.order.items ≡ merged (map (λ past. past.seat) apart.history.items) (map (λ l. l.items) c.args.file.now.places.items) =
    c.in_ok-order.ensures.merges ∙ ap₂ (λ h f. merged (map (λ past. past.seat) h) (map (λ l. l.items) f)) c.as_slice.ensures.value c.as_slice-2.ensures.value in
    let picks : c.in_ok-turns.turns.items ≡ in_order c.args.file.now.clients.items c.in_ok-order.order.items =
    c.in_ok-turns.ensures ∙ ap₂ in_order c.as_slice-3.ensures.value c.as_slice-4.ensures.value in
    let by_lines : c.in_ok-deal.field-0.items ≡ dealt c.in_ok-turns.turns.items (map (λ l. l.items) apart.lines.items) =
    c.in_ok-deal.ensures ∙ ap (λ t. dealt t (map (λ l. l.items) apart.lines.items)) c.as_slice-5.ensures.value in
    let by_outcomes : c.in_ok-deal-2.field-0.items ≡ dealt c.in_ok-turns.turns.items (map (λ l. l.items) apart.outcomes.items) =
    c.in_ok-deal-2.ensures ∙ ap (λ t. dealt t (map (λ l. l.items) apart.outcomes.items)) c.as_slice-6.ensures.value in
    let here = g.met.C.Change in
    let sound = apart-sound m d.opening.rules here.laws (k.makes d.opening.rules) n k.doc k.raw lines apart.history.items _ _ _ k.played.opening.good played in
    let outcomes = c.in_ok-deal-2.field-0.items in
    let plays = ap (λ s. (outcomes, s)) c.of.ensures ∙ gives-session _ _ _ _ _ _ _ _ _ _ played _ _ _ _ k.filed.places merges k.filed.clients picks _ _ by_lines by_outcomes in
    let same : apart.rules ≡ d.opening.rules = closed.rules in
    record {
      rules = same;
      history = record {
        log = apart.history.items;
        order = merges ∙ ap (merged (map (λ past. past.seat) apart.history.items)) k.filed.places;
        authority = ap (λ s. s.authority) c.of.ensures ∙ closed.authority ∙ ap (λ a. state_at (after_request m) d.opening.rules a apart.history.items) k.played.opening.machine;
      };
      order = gives-order _ _ _ _ _ _ _ _ _ _ played _ _ _ _ k.filed.places merges k.filed.clients picks _ _ by_lines by_outcomes;
      once = subst (λ l. IsOrder l c.in_ok-order.order.items) (ap (map (λ l. numbers l.items)) c.as_slice-2.ensures.value ∙ sym (map-numbers (λ l. l.items) c.args.file.now.places.items) ∙ ap (map numbers) k.filed.places) c.in_ok-order.ensures.order;
      lines = gives-lines _ _ _ _ _ _ _ _ _ _ played _ _ _ _ k.filed.places merges k.filed.clients picks _ _ by_lines by_outcomes;
      suit = gives-suit _ _ _ _ _ _ _ _ _ _ played _ _ _ _ k.filed.places merges k.filed.clients picks _ _ by_lines by_outcomes;
      plays = subst (λ r. (outcomes, state_of c.of.result) ≡ session m r (k.makes r) (opened k.doc k.raw) c.in_ok-deal.field-0.items) (sym same) plays;
      sound = subst (λ r. Sound m r (state_of c.of.result)) (sym same) (subst (λ s. Sound m d.opening.rules s) (sym c.of.ensures) sound);
    }

pub returns-clause-history : goal.returns-clause-history
returns-clause-history g c k =
    let m = g.C.Change.means in
    let d = c.args.desk in
    let lines = k.lines in
    let left = c.in_ok-left.left in
    let told = c.in_ok-left.ensures in
    let apart = c.close_desk-rules.result in
    let closed = c.close_desk-rules.ensures in
    let log = apart.history.items in
    let played = left-of m k.makes d k.doc k.raw lines c.args.workers.items k.played left.seats.items told.seats log closed.covered closed.callers apart.authority closed.authority
    apart.members.items apart.lines.items apart.outcomes.items
    (ap (λ v. v.items) closed.members ∙ told.members) (ap (λ v. v.items) closed.lines ∙ told.lines) (ap (λ v. v.items) closed.outcomes ∙ told.outcomes) in
    let merges : c.in_ok-order.order.items ≡ merged (map (λ past. past.seat) log) (map (λ l. l.items) c.args.file.now.places.items) =
    c.in_ok-order.ensures.merges ∙ ap₂ (λ h f. merged (map (λ past. past.seat) h) (map (λ l. l.items) f)) c.as_slice.ensures.value c.as_slice-2.ensures.value in
    record {
      made = record {
        log = log;
        order = merges ∙ ap (merged (map (λ past. past.seat) log)) k.filed.places;
        authority = ap (λ s. s.authority) c.of.ensures ∙ closed.authority;
      };
      covered = subst (λ l. All (λ s. IsCovered log s) l) told.seats closed.covered;
      calls = played.calls;
    }

pub returns-in_err-deal-2-clause-history : goal.returns-in_err-deal-2-clause-history
returns-in_err-deal-2-clause-history g c k = IfOk-from_err c.from_residual-in_err-deal-2.result _ c.from_residual-in_err-deal-2.ensures.0
