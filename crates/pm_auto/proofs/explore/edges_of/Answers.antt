use Rattle.std.proofs.Common.{◌≡◌, ◌<◌, ◌∙◌, sym, ap, subst, length, arith, List, ℕ, [], refl, append-nil}
use Rattle.pm_auto.specs.declared.sets.PlaceSet.{PlaceSet}
use Rattle.pm_auto.specs.Bits.{as_set}
use Rattle.pm_auto.specs.Groups.{Are_groups}
use Rattle.pm_auto.specs.States.{set_at, Below, once, kinds, step, Apart, Too_many}
use Rattle.pm_auto.proofs.SetLaws.{below-on}
use Rattle.pm_auto.proofs.GroupLaws.{heads-below, heads-long, same-below, kind-is, step-is, take-past, take-zero}
use Rattle.pm_auto.proofs.WayLaws.{ways-placed}
use Rattle.pm_auto.proofs.StateLaws.{at-is, below-at, grows-at, grows-length, turn, turn-wide, only-map}
use Rattle.pm_auto.proofs.explore.edges_of.Goals as goal

pub group-requires-clause-places : goal.group-requires-clause-places
group-requires-clause-places c =
    let e0 : c.index-as_slice-at.result ≡ set_at c.args.sets.now c.args.at = at-is c.args.sets.now c.as_slice.result.now c.args.at c.index-as_slice-at.result c.as_slice.ensures c.requires.within c.index-as_slice-at.is in
    let ps : c.as_slice-places.result.now ≡ (set_at c.args.sets.now c.args.at).places = c.as_slice-places.ensures ∙ ap (λ (s : PlaceSet). s.places) (sym c.index-as_slice-at.is ∙ e0) in
    let b : Below (length c.args.rows.now) (set_at c.args.sets.now c.args.at).places = below-at (length c.args.rows.now) c.args.sets.now c.args.at c.requires.within c.requires.found.below in
    subst (Below (length c.args.rows.now)) (sym ps) b

pub loop-head-init : goal.loop-head-init
loop-head-init c =
    let e0 : c.index-as_slice-at.result ≡ set_at c.args.sets.now c.args.at = at-is c.args.sets.now c.as_slice.result.now c.args.at c.index-as_slice-at.result c.as_slice.ensures c.requires.within c.index-as_slice-at.is in
    let ps : c.as_slice-places.result.now ≡ (set_at c.args.sets.now c.args.at).places = c.as_slice-places.ensures ∙ ap (λ (s : PlaceSet). s.places) (sym c.index-as_slice-at.is ∙ e0) in
    let b : Below (length c.args.rows.now) (set_at c.args.sets.now c.args.at).places = below-at (length c.args.rows.now) c.args.sets.now c.args.at c.requires.within c.requires.found.below in
    let d : Are_groups c.args.rows.now (set_at c.args.sets.now c.args.at).places c.in_ok-groups.groups = subst (λ (ns : List ℕ). Are_groups c.args.rows.now ns c.in_ok-groups.groups) ps c.in_ok-groups.ensures in
    let none : c.from_vec-edges.result ≡ [] = grind arith in
    (c.requires.found, ([], sym (append-nil c.args.sets.now)), rw none tt, rw none (sym (take-zero (once [] (kinds c.args.rows.now (set_at c.args.sets.now c.args.at).places)))), c.requires.known, heads-below c.args.rows.now (set_at c.args.sets.now c.args.at).places b c.in_ok-groups.groups d c.as_slice-head-items.result.now c.as_slice-head-items.ensures, c.requires.prints, c.requires.ways)

pub after-requires : goal.after-requires
after-requires c =
    let e0 : c.index-as_slice-at.result ≡ set_at c.args.sets.now c.args.at = at-is c.args.sets.now c.as_slice.result.now c.args.at c.index-as_slice-at.result c.as_slice.ensures c.requires.within c.index-as_slice-at.is in
    let ps : c.as_slice-places.result.now ≡ (set_at c.args.sets.now c.args.at).places = c.as_slice-places.ensures ∙ ap (λ (s : PlaceSet). s.places) (sym c.index-as_slice-at.is ∙ e0) in
    let b : Below (length c.args.rows.now) (set_at c.args.sets.now c.args.at).places = below-at (length c.args.rows.now) c.args.sets.now c.args.at c.requires.within c.requires.found.below in
    let d : Are_groups c.args.rows.now (set_at c.args.sets.now c.args.at).places c.in_ok-groups.groups = subst (λ (ns : List ℕ). Are_groups c.args.rows.now ns c.in_ok-groups.groups) ps c.in_ok-groups.ensures in
    same-below c.args.rows.now (set_at c.args.sets.now c.args.at).places b c.in_ok-groups.groups d c.as_slice-head-items.result.now c.as_slice-head-items.ensures c.args.twins.now c.requires.twins c.loop-head.head-index c.loop-head-test.true c.list_at-same.result.now c.as_slice-in-loop-head.result.now c.as_slice-in-loop-head.ensures c.list_at-same.ensures

pub returns-in-Err-clause-err : goal.returns-in-Err-clause-err
returns-in-Err-clause-err c =
    let inv = c.loop-head.invariant in
    let e0 : c.index-as_slice-at.result ≡ set_at c.args.sets.now c.args.at = at-is c.args.sets.now c.as_slice.result.now c.args.at c.index-as_slice-at.result c.as_slice.ensures c.requires.within c.index-as_slice-at.is in
    let ps : c.as_slice-places.result.now ≡ (set_at c.args.sets.now c.args.at).places = c.as_slice-places.ensures ∙ ap (λ (s : PlaceSet). s.places) (sym c.index-as_slice-at.is ∙ e0) in
    let b : Below (length c.args.rows.now) (set_at c.args.sets.now c.args.at).places = below-at (length c.args.rows.now) c.args.sets.now c.args.at c.requires.within c.requires.found.below in
    let d : Are_groups c.args.rows.now (set_at c.args.sets.now c.args.at).places c.in_ok-groups.groups = subst (λ (ns : List ℕ). Are_groups c.args.rows.now ns c.in_ok-groups.groups) ps c.in_ok-groups.ensures in
    let l : c.args.at < length c.loop-head.sets = let n = grows-length c.args.sets.now c.loop-head.sets inv.1 in omega (arith, n, c.requires.within) in
    let ek = kind-is c.args.rows.now (set_at c.args.sets.now c.args.at).places b c.in_ok-groups.groups d c.as_slice-head-items.result.now c.as_slice-head-items.ensures c.args.twins.now c.requires.twins c.loop-head.head-index c.loop-head-test.true c.index-rows-head.result c.index-rows-head.is in
    let li : c.loop-head.head-index < length (once [] (kinds c.args.rows.now (set_at c.args.sets.now c.args.at).places)) = let h = heads-long c.args.rows.now (set_at c.args.sets.now c.args.at).places b c.in_ok-groups.groups d c.as_slice-head-items.result.now c.as_slice-head-items.ensures in omega (arith, h, c.loop-head-test.true) in
    let n : as_set c.args.rows.now c.in_ok-next.next ≡ step c.args.rows.now c.index-rows-head.result.kind (set_at c.loop-head.sets c.args.at) =
    step-is c.args.rows.now (set_at c.args.sets.now c.args.at).places b c.in_ok-groups.groups d c.as_slice-head-items.result.now c.as_slice-head-items.ensures c.args.twins.now c.requires.twins c.loop-head.head-index c.loop-head-test.true c.index-rows-head.result c.index-rows-head.is (set_at c.loop-head.sets c.args.at) (ap (λ (s : PlaceSet). s.places) (grows-at c.args.sets.now c.loop-head.sets c.args.at inv.1 c.requires.within)) c.list_at-same.result.now c.as_slice-in-loop-head.result.now c.as_slice-in-loop-head.ensures c.list_at-same.ensures (as_set c.args.rows.now c.in_ok-next.next) c.in_ok-next.ensures.is in
    only-map (Apart (as_set c.args.rows.now c.in_ok-next.next) c.loop-head.sets × (999 < length c.loop-head.sets)) (Too_many c.args.rows.now (set_at c.args.sets.now 0)) c.in-Err.error
    (λ h. turn-wide c.args.rows.now c.args.sets.now c.loop-head.sets c.args.at c.loop-head.head-index c.index-rows-head.result.kind (once [] (kinds c.args.rows.now (set_at c.args.sets.now c.args.at).places)) inv.0 inv.1 c.requires.within li refl ek (as_set c.args.rows.now c.in_ok-next.next) n h.0 h.1)
    c.in-Err.ensures.err

pub loop-head-preserved : goal.loop-head-preserved
loop-head-preserved c =
    let inv = c.loop-head.invariant in
    let e0 : c.index-as_slice-at.result ≡ set_at c.args.sets.now c.args.at = at-is c.args.sets.now c.as_slice.result.now c.args.at c.index-as_slice-at.result c.as_slice.ensures c.requires.within c.index-as_slice-at.is in
    let ps : c.as_slice-places.result.now ≡ (set_at c.args.sets.now c.args.at).places = c.as_slice-places.ensures ∙ ap (λ (s : PlaceSet). s.places) (sym c.index-as_slice-at.is ∙ e0) in
    let b : Below (length c.args.rows.now) (set_at c.args.sets.now c.args.at).places = below-at (length c.args.rows.now) c.args.sets.now c.args.at c.requires.within c.requires.found.below in
    let d : Are_groups c.args.rows.now (set_at c.args.sets.now c.args.at).places c.in_ok-groups.groups = subst (λ (ns : List ℕ). Are_groups c.args.rows.now ns c.in_ok-groups.groups) ps c.in_ok-groups.ensures in
    let l : c.args.at < length c.loop-head.sets = let n = grows-length c.args.sets.now c.loop-head.sets inv.1 in omega (arith, n, c.requires.within) in
    let ek = kind-is c.args.rows.now (set_at c.args.sets.now c.args.at).places b c.in_ok-groups.groups d c.as_slice-head-items.result.now c.as_slice-head-items.ensures c.args.twins.now c.requires.twins c.loop-head.head-index c.loop-head-test.true c.index-rows-head.result c.index-rows-head.is in
    let li : c.loop-head.head-index < length (once [] (kinds c.args.rows.now (set_at c.args.sets.now c.args.at).places)) = let h = heads-long c.args.rows.now (set_at c.args.sets.now c.args.at).places b c.in_ok-groups.groups d c.as_slice-head-items.result.now c.as_slice-head-items.ensures in omega (arith, h, c.loop-head-test.true) in
    let n : as_set c.args.rows.now c.in_ok-next.next ≡ step c.args.rows.now c.index-rows-head.result.kind (set_at c.loop-head.sets c.args.at) =
    step-is c.args.rows.now (set_at c.args.sets.now c.args.at).places b c.in_ok-groups.groups d c.as_slice-head-items.result.now c.as_slice-head-items.ensures c.args.twins.now c.requires.twins c.loop-head.head-index c.loop-head-test.true c.index-rows-head.result c.index-rows-head.is (set_at c.loop-head.sets c.args.at) (ap (λ (s : PlaceSet). s.places) (grows-at c.args.sets.now c.loop-head.sets c.args.at inv.1 c.requires.within)) c.list_at-same.result.now c.as_slice-in-loop-head.result.now c.as_slice-in-loop-head.ensures c.list_at-same.ensures (as_set c.args.rows.now c.in_ok-next.next) c.in_ok-next.ensures.is in
    let t = turn c.args.rows.now c.args.sets.now c.loop-head.sets c.args.at c.loop-head.head-index c.index-rows-head.result.kind (once [] (kinds c.args.rows.now (set_at c.args.sets.now c.args.at).places)) inv.0 inv.1 c.requires.within li refl ek
    c.loop-head.edges c.push.new.self (as_set c.args.rows.now c.in_ok-next.next) c.in-Ok.to c.reach.new.sets inv.2 inv.3 n c.in-Ok.ensures.ok c.in_ok-push.ensures.ok in
    let w = ways-placed c.args.rows.now c.loop-head.sets c.reach.new.sets c.loop-head.ways c.add_way.new.ways c.args.at c.index-rows-head.result.kind c.in-Ok.to (as_set c.args.rows.now c.in_ok-next.next) inv.0.some inv.7 n c.in-Ok.ensures.ok c.in_ok-add_way.ensures in
    (t.0, t.1, t.2, t.3, c.in-Ok.ensures.known, below-on c.args.rows.now c.as_slice-head-items.result.now c.loop-head.head-index c.loop-head-test.true inv.5, c.in-Ok.ensures.prints, w)

pub returns-clause-edges : goal.returns-clause-edges
returns-clause-edges c =
    let inv = c.loop-head.invariant in
    let e0 : c.index-as_slice-at.result ≡ set_at c.args.sets.now c.args.at = at-is c.args.sets.now c.as_slice.result.now c.args.at c.index-as_slice-at.result c.as_slice.ensures c.requires.within c.index-as_slice-at.is in
    let ps : c.as_slice-places.result.now ≡ (set_at c.args.sets.now c.args.at).places = c.as_slice-places.ensures ∙ ap (λ (s : PlaceSet). s.places) (sym c.index-as_slice-at.is ∙ e0) in
    let b : Below (length c.args.rows.now) (set_at c.args.sets.now c.args.at).places = below-at (length c.args.rows.now) c.args.sets.now c.args.at c.requires.within c.requires.found.below in
    let d : Are_groups c.args.rows.now (set_at c.args.sets.now c.args.at).places c.in_ok-groups.groups = subst (λ (ns : List ℕ). Are_groups c.args.rows.now ns c.in_ok-groups.groups) ps c.in_ok-groups.ensures in
    let h = heads-long c.args.rows.now (set_at c.args.sets.now c.args.at).places b c.in_ok-groups.groups d c.as_slice-head-items.result.now c.as_slice-head-items.ensures in
    record { types = inv.3 ∙ take-past (once [] (kinds c.args.rows.now (set_at c.args.sets.now c.args.at).places)) c.loop-head.head-index (omega (arith, h, c.loop-head-test.false)); lead = inv.2 }
