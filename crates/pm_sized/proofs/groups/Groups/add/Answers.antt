use Rattle.std.proofs.Common.{◌≡◌, ◌+◌, ◌++◌, ◌∷◌, [], ap, ◌∙◌, arith, length}
use Rattle.std.specs.Arc.{arc_value}
use Rattle.pm_sized.specs.Pairs.{many_pairs, each_pairs, parts_of, total_of, arc_values}
use Rattle.pm_sized.proofs.GroupLaws.{each-push, rest-start, rest-first, grouped-push, parts-count}
use Rattle.pm_sized.proofs.PairLaws.{counts-few}
use Rattle.pm_sized.proofs.PartLaws.{chunks-count}
use Rattle.pm_sized.proofs.CopyLaws.{length-shared, shared-push}
use Rattle.pm_sized.proofs.groups.Groups.add.Goals as goal

pub index-requires : goal.index-requires
index-requires g c =
    let s = c.args.self.now in
    omega (arith, c.len-at.ensures, s.parts.ok.0, s.starts.ok.0, length-shared s.parts.items, c.requires.laid.starts_count)

pub overflow_add-start : goal.overflow_add-start
overflow_add-start g c =
    let s = c.args.self.now in
    let h = c.requires.laid in
    let n : c.len-at.result ≡ length (parts_of s) = omega (arith, c.len-at.ensures, s.parts.ok.0, length-shared s.parts.items) in
    omega (arith, rest-start s h c.len-at.result c.index.result.now n c.index.ensures, c.requires.part.laid.total, ap (λ z. z.total) c.deref.ensures, c.requires.room)

pub index-requires-2 : goal.index-requires-2
index-requires-2 g c =
    let s = c.args.self.now in
    omega (arith, c.len-at.ensures, s.parts.ok.0, s.firsts.ok.0, length-shared s.parts.items, c.requires.laid.firsts_count)

pub overflow_add-first : goal.overflow_add-first
overflow_add-first g c =
    let s = c.args.self.now in
    let h = c.requires.laid in
    let k = c.requires.part in
    let n : c.len-at.result ≡ length (parts_of s) = omega (arith, c.len-at.ensures, s.parts.ok.0, length-shared s.parts.items) in
    omega (
      arith,
      rest-first s h c.len-at.result c.index-2.result.now n c.index-2.ensures,
      k.laid.len,
      ap (λ z. z.len) c.deref-2.ensures,
      c.requires.room,
      counts-few (each_pairs (parts_of s)) (parts-count (parts_of s) h.parts),
      counts-few (many_pairs (arc_value c.args.part)) (chunks-count (arc_value c.args.part).chunks.items k.laid.chunks),
    )

pub returns-clause-laid : goal.returns-clause-laid
returns-clause-laid g c =
    let s = c.args.self.now in
    let h = c.requires.laid in
    let k = c.requires.part in
    let n : c.len-at.result ≡ length (parts_of s) = omega (arith, c.len-at.ensures, s.parts.ok.0, length-shared s.parts.items) in
    let start = c.index.result.now + c.deref.result.now.total in
    let first = c.index-2.result.now + c.deref-2.result.now.len in
    let start-is : start ≡ total_of (each_pairs (parts_of s)) + total_of (many_pairs (arc_value c.args.part)) = omega (arith, rest-start s h c.len-at.result c.index.result.now n c.index.ensures, k.laid.total, ap (λ z. z.total) c.deref.ensures) in
    let first-is : first ≡ length (each_pairs (parts_of s)) + length (many_pairs (arc_value c.args.part)) = omega (arith, rest-first s h c.len-at.result c.index-2.result.now n c.index-2.ensures, k.laid.len, ap (λ z. z.len) c.deref-2.ensures) in
    grouped-push s.parts c.push.new.self s.starts c.push-2.new.self s.firsts c.push-3.new.self s.rest c.new.result c.args.part start first
    c.in_ok-push.ensures.items (c.in_ok-push-2.ensures.items ∙ ap (λ z. z ++ start ∷ []) c.reserve.ensures.items) (c.in_ok-push-3.ensures.items ∙ ap (λ z. z ++ first ∷ []) c.reserve-2.ensures.items)
    h k c.new.ensures.laid c.new.ensures.none start-is first-is (omega (arith, start-is, c.requires.room))

pub returns-clause-parts : goal.returns-clause-parts
returns-clause-parts g c =
    let s = c.args.self.now in
    let p = c.args.part in
    ap (λ z. each_pairs (arc_values z)) c.in_ok-push.ensures.items ∙ (ap each_pairs (shared-push s.parts.items p) ∙ each-push (parts_of s) (arc_value p))

pub returns-clause-rest : goal.returns-clause-rest
returns-clause-rest g c = c.new.ensures.none
