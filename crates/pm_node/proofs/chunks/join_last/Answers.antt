use Rattle.std.proofs.Common.{◌≡◌, ◌+◌, ◌-◌, length, length-append, get_or, arith, refl, ap, sym, ◌∙◌}
use Rattle.std.specs.Arc.{arc_value}
use Rattle.pm_sized.specs.Pairs.{pairs_of}
use Rattle.pm_sized.specs.Parts.{values_in, all_but_last}
use Rattle.pm_sized.proofs.PartLaws.{length-values}
use Rattle.pm_sized.proofs.GrowLaws.{on_err_of}
use Rattle.pm_node.specs.Trees.{node_tokens}
use Rattle.pm_node.specs.Chunks.{nodes_of}
use Rattle.pm_node.proofs.TreeLaws.{joined_as, apart_as}
use Rattle.pm_node.proofs.WalkLaws.{whole-node}
use Rattle.pm_node.proofs.ChunkLaws.{length-items, item-of, tokens-along, kept-values, kept-last, last-tokens, last-room, follows-joined, follows-apart, follows-none}
use Rattle.pm_node.proofs.chunks.join_last.Goals as goal

pub returns-then-len-eq0-clause-ends : goal.returns-then-len-eq0-clause-ends
returns-then-len-eq0-clause-ends c =
    let s = c.args.nodes.now in
    follows-none (nodes_of s) c.args.node.now (omega (arith, c.len-len.ensures, c.if-len-eq0.true, length-items (pairs_of s)))

pub returns-in-None-clause-ends : goal.returns-in-None-clause-ends
returns-in-None-clause-ends c =
    let s = c.args.nodes.now in
    let i = c.len-len.result - 1 in
    let x = c.item.result.now in
    let at : i + 1 ≡ length (nodes_of s) = omega (arith, c.len-len.ensures, c.if-len-eq0.false, length-items (pairs_of s)) in
    let is : x ≡ get_or (nodes_of s) i x = c.item.ensures ∙ item-of (pairs_of s) i x in
    follows-apart (nodes_of s) x c.args.node.now i at is (apart_as c.deref.ensures refl c.in-None.is c.in_ok-joined.ensures)

pub set_last-requires-clause-some : goal.set_last-requires-clause-some
set_last-requires-clause-some c =
    let s = c.args.nodes.now in
    omega (arith, c.len-len.ensures, c.if-len-eq0.false, length-values (pairs_of s))

pub set_last-requires-clause-counts : goal.set_last-requires-clause-counts
set_last-requires-clause-counts c =
    let s = c.args.nodes.now in
    let i = c.len-len.result - 1 in
    let x = c.item.result.now in
    let at : i + 1 ≡ length (nodes_of s) = omega (arith, c.len-len.ensures, c.if-len-eq0.false, length-items (pairs_of s)) in
    let is : x ≡ get_or (nodes_of s) i x = c.item.ensures ∙ item-of (pairs_of s) i x in
    let y = c.in_ok-joined-in-Some.joined in
    let j = joined_as c.deref.ensures refl c.in-Some.is c.in_ok-joined-in-Some.ensures.ok c.in_ok-joined.ensures in
    let size : c.size-size.result ≡ length (node_tokens (arc_value y)) = c.size-size.ensures.size ∙ ap (λ v. length (node_tokens v)) (sym c.in_ok-joined-in-Some.ensures.ok) in
    omega (arith, size, ap length j.0, length-append (node_tokens (arc_value x)) (node_tokens c.args.node.now), c.requires.some)

pub set_last-requires-clause-room : goal.set_last-requires-clause-room
set_last-requires-clause-room c =
    let s = c.args.nodes.now in
    let i = c.len-len.result - 1 in
    let x = c.item.result.now in
    let at : i + 1 ≡ length (nodes_of s) = omega (arith, c.len-len.ensures, c.if-len-eq0.false, length-items (pairs_of s)) in
    let is : x ≡ get_or (nodes_of s) i x = c.item.ensures ∙ item-of (pairs_of s) i x in
    let y = c.in_ok-joined-in-Some.joined in
    let j = joined_as c.deref.ensures refl c.in-Some.is c.in_ok-joined-in-Some.ensures.ok c.in_ok-joined.ensures in
    let size : c.size-size.result ≡ length (node_tokens (arc_value y)) = c.size-size.ensures.size ∙ ap (λ v. length (node_tokens v)) (sym c.in_ok-joined-in-Some.ensures.ok) in
    last-room s x (arc_value y) c.args.node.now i c.size-size.result c.requires.kept at is j size c.requires.room

pub returns-in_err-set_last-in-Some-clause-kept : goal.returns-in_err-set_last-in-Some-clause-kept
returns-in_err-set_last-in-Some-clause-kept c = kept-values c.args.nodes.now c.set_last.new.self c.requires.kept c.in_err-set_last-in-Some.ensures.laid c.in_err-set_last-in-Some.ensures.err

pub returns-in_err-set_last-in-Some-clause-err : goal.returns-in_err-set_last-in-Some-clause-err
returns-in_err-set_last-in-Some-clause-err c = on_err_of c.from_residual-in_err-set_last-in-Some.result (tokens-along (pairs_of c.set_last.new.self) (pairs_of c.args.nodes.now) c.in_err-set_last-in-Some.ensures.err)

pub returns-in_ok-set_last-in-Some-clause-kept : goal.returns-in_ok-set_last-in-Some-clause-kept
returns-in_ok-set_last-in-Some-clause-kept c =
    let s = c.args.nodes.now in
    let i = c.len-len.result - 1 in
    let x = c.item.result.now in
    let at : i + 1 ≡ length (nodes_of s) = omega (arith, c.len-len.ensures, c.if-len-eq0.false, length-items (pairs_of s)) in
    let is : x ≡ get_or (nodes_of s) i x = c.item.ensures ∙ item-of (pairs_of s) i x in
    let y = c.in_ok-joined-in-Some.joined in
    let j = joined_as c.deref.ensures refl c.in-Some.is c.in_ok-joined-in-Some.ensures.ok c.in_ok-joined.ensures in
    let size : c.size-size.result ≡ length (node_tokens (arc_value y)) = c.size-size.ensures.size ∙ ap (λ v. length (node_tokens v)) (sym c.in_ok-joined-in-Some.ensures.ok) in
    let z = c.args.node.now in
    kept-last s c.set_last.new.self x y z i c.size-size.result (length (node_tokens z)) c.requires.kept c.in_ok-set_last-in-Some.ensures.laid c.in_ok-set_last-in-Some.ensures.ok at is j size refl c.requires.some c.requires.room (whole-node z c.requires.whole)

pub returns-in_ok-set_last-in-Some-clause-tokens : goal.returns-in_ok-set_last-in-Some-clause-tokens
returns-in_ok-set_last-in-Some-clause-tokens c =
    let s = c.args.nodes.now in
    let i = c.len-len.result - 1 in
    let x = c.item.result.now in
    let at : i + 1 ≡ length (nodes_of s) = omega (arith, c.len-len.ensures, c.if-len-eq0.false, length-items (pairs_of s)) in
    let is : x ≡ get_or (nodes_of s) i x = c.item.ensures ∙ item-of (pairs_of s) i x in
    let y = c.in_ok-joined-in-Some.joined in
    let j = joined_as c.deref.ensures refl c.in-Some.is c.in_ok-joined-in-Some.ensures.ok c.in_ok-joined.ensures in
    let size : c.size-size.result ≡ length (node_tokens (arc_value y)) = c.size-size.ensures.size ∙ ap (λ v. length (node_tokens v)) (sym c.in_ok-joined-in-Some.ensures.ok) in
    let z = c.args.node.now in
    last-tokens s c.set_last.new.self x y z i c.size-size.result (length (node_tokens z)) c.requires.kept c.in_ok-set_last-in-Some.ensures.laid c.in_ok-set_last-in-Some.ensures.ok at is j size refl c.requires.some c.requires.room (whole-node z c.requires.whole)

pub returns-in_ok-set_last-in-Some-clause-ends : goal.returns-in_ok-set_last-in-Some-clause-ends
returns-in_ok-set_last-in-Some-clause-ends c =
    let s = c.args.nodes.now in
    let i = c.len-len.result - 1 in
    let x = c.item.result.now in
    let at : i + 1 ≡ length (nodes_of s) = omega (arith, c.len-len.ensures, c.if-len-eq0.false, length-items (pairs_of s)) in
    let is : x ≡ get_or (nodes_of s) i x = c.item.ensures ∙ item-of (pairs_of s) i x in
    let y = c.in_ok-joined-in-Some.joined in
    let j = joined_as c.deref.ensures refl c.in-Some.is c.in_ok-joined-in-Some.ensures.ok c.in_ok-joined.ensures in
    let size : c.size-size.result ≡ length (node_tokens (arc_value y)) = c.size-size.ensures.size ∙ ap (λ v. length (node_tokens v)) (sym c.in_ok-joined-in-Some.ensures.ok) in
    follows-joined c.set_last.new.self (all_but_last (values_in (pairs_of s))) (arc_value y) c.args.node.now (arc_value x) c.size-size.result c.in_ok-set_last-in-Some.ensures.ok j
