use Rattle.std.proofs.Common.{◌≡◌, ◌∙◌, ◌<◌, ◌++◌, ◌∷◌, [], true, false, ap, sym, length, get_or, set, length-set, arith}
use Rattle.std.proofs.lemmas.List.{get_or_read}
use Rattle.pm_auto.specs.Table.{some}
use Rattle.pm_auto.specs.Groups.{twin_of}
use Rattle.pm_auto.proofs.SetLaws.{place-below, below-on}
use Rattle.pm_auto.proofs.GroupLaws.{twin-inside, below-end, some-not, lists-on, seen-new, seen-old, heads-new, heads-old}
use Rattle.pm_auto.proofs.groups.group.Goals as goal
use Rattle.pm_auto.proofs.groups.group.Goals.{then-is_empty+in_ok-push, else-is_empty}

pub index-requires : goal.index-requires
index-requires c =
    let inv = c.loop-place.invariant in
    let n = place-below c.args.rows.now c.args.places.now c.loop-place.place-index c.loop-place-test.true inv.below in
    let t = c.requires.twins.twin (get_or c.args.places.now c.loop-place.place-index 0) n in
    let m = twin-inside c.args.rows.now (get_or c.args.places.now c.loop-place.place-index 0) n in
    omega (arith, t, m, inv.full, c.loop-place.lists.ok)

pub put-requires : goal.put-requires
put-requires c =
    let inv = c.loop-place.invariant in
    let n = place-below c.args.rows.now c.args.places.now c.loop-place.place-index c.loop-place-test.true inv.below in
    let t = c.requires.twins.twin (get_or c.args.places.now c.loop-place.place-index 0) n in
    let m = twin-inside c.args.rows.now (get_or c.args.places.now c.loop-place.place-index 0) n in
    omega (arith, t, m, inv.full)

pub loop-place-preserved : goal.loop-place-preserved
loop-place-preserved c =
    let inv = c.loop-place.invariant in
    let n = place-below c.args.rows.now c.args.places.now c.loop-place.place-index c.loop-place-test.true inv.below in
    let t : get_or c.args.twins.now (get_or c.args.places.now c.loop-place.place-index 0) 0 ≡ twin_of c.args.rows.now (get_or c.args.places.now c.loop-place.place-index 0) = c.requires.twins.twin (get_or c.args.places.now c.loop-place.place-index 0) n in
    let m = twin-inside c.args.rows.now (get_or c.args.places.now c.loop-place.place-index 0) n in
    let inside : get_or c.args.twins.now (get_or c.args.places.now c.loop-place.place-index 0) 0 < length c.loop-place.lists.items = omega (arith, t, m, inv.full) in
    let read : c.index.result.now ≡ get_or c.loop-place.lists.items (twin_of c.args.rows.now (get_or c.args.places.now c.loop-place.place-index 0)) [] =
    get_or_read c.loop-place.lists.items (get_or c.args.twins.now (get_or c.args.places.now c.loop-place.place-index 0) 0) _ inside c.index.ensures [] ∙ ap (λ k. get_or c.loop-place.lists.items k []) t in
    let placed : c.put.new.lists.items ≡ set c.loop-place.lists.items (twin_of c.args.rows.now (get_or c.args.places.now c.loop-place.place-index 0)) (get_or c.loop-place.lists.items (twin_of c.args.rows.now (get_or c.args.places.now c.loop-place.place-index 0)) [] ++ get_or c.args.places.now c.loop-place.place-index 0 ∷ []) =
    c.in_ok-put.ensures ∙ ap (λ k. set c.loop-place.lists.items k (get_or c.loop-place.lists.items k [] ++ get_or c.args.places.now c.loop-place.place-index 0 ∷ [])) t in
    let b = below-on c.args.rows.now c.args.places.now c.loop-place.place-index c.loop-place-test.true inv.below in
    let f = length-set c.loop-place.lists.items (twin_of c.args.rows.now (get_or c.args.places.now c.loop-place.place-index 0)) (get_or c.loop-place.lists.items (twin_of c.args.rows.now (get_or c.args.places.now c.loop-place.place-index 0)) [] ++ get_or c.args.places.now c.loop-place.place-index 0 ∷ []) ∙ inv.full in
    elim c.if-is_empty.branch [
      | then-is_empty+in_ok-push w ↦
          let e : get_or c.loop-place.lists.items (twin_of c.args.rows.now (get_or c.args.places.now c.loop-place.place-index 0)) [] ≡ [] = sym read ∙ c.is_empty.ensures.0 w.if-is_empty.true in
          rw (w.heads-is, w.in_ok-push.ensures.ok, placed) record {
            below = b;
            mine = below-end (length c.args.rows.now) c.loop-place.heads (get_or c.args.places.now c.loop-place.place-index 0) inv.mine n;
            full = f;
            heads = heads-new c.args.rows.now c.args.places.now c.loop-place.place-index c.loop-place-test.true inv.below c.loop-place.lists.items inv.full c.loop-place.heads inv.seen _ inv.heads e;
            seen = seen-new c.args.rows.now c.args.places.now c.loop-place.place-index c.loop-place-test.true inv.below c.loop-place.lists.items inv.full c.loop-place.heads inv.seen;
            lists = λ r h. lists-on c.args.rows.now c.args.places.now c.loop-place.place-index c.loop-place-test.true inv.below c.loop-place.lists.items inv.full r h _ (inv.lists r h);
          }
      | else-is_empty w ↦
          let e : some (get_or c.loop-place.lists.items (twin_of c.args.rows.now (get_or c.args.places.now c.loop-place.place-index 0)) []) ≡ true = some-not _ (λ z. absurd (let x : true ≡ false = sym (c.is_empty.ensures.1 (read ∙ z)) ∙ w.if-is_empty.false in cc)) in
          rw (w.heads-is, placed) record {
            below = b;
            mine = inv.mine;
            full = f;
            heads = heads-old c.args.rows.now c.args.places.now c.loop-place.place-index c.loop-place-test.true inv.below c.loop-place.lists.items inv.full c.loop-place.heads inv.seen _ inv.heads e;
            seen = seen-old c.args.rows.now c.args.places.now c.loop-place.place-index c.loop-place-test.true inv.below c.loop-place.lists.items inv.full c.loop-place.heads inv.seen e;
            lists = λ r h. lists-on c.args.rows.now c.args.places.now c.loop-place.place-index c.loop-place-test.true inv.below c.loop-place.lists.items inv.full r h _ (inv.lists r h);
          }
    ]
