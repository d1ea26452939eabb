-- A child nests less deep than its parent has tokens.
use Rattle.std.specs.Prelude.{◌≡◌, ℕ, ◌+◌, ◌≤◌, List, [], ◌∷◌, ◌++◌, length}
use Rattle.std.proofs.Common.{refl, ap, ◌∙◌, arith, length-append}
use Rattle.std.specs.declared.sync.Arc.{Arc}
use Rattle.std.specs.declared.alloc.Global.{Global}
use Rattle.std.specs.Arc.{arc_value}
use Rattle.pm_tokens.specs.Tokens.{Attrs, Marks, Close}
use Rattle.pm_sized.specs.declared.chunk.Chunk.{Chunk}
use Rattle.pm_sized.specs.declared.chunks.Chunks.{Chunks}
use Rattle.pm_sized.specs.declared.many.Many.{Many}
use Rattle.pm_sized.specs.declared.chunks.Chunks.TheVariants.{Few as AsFew, Many as AsMany, Groups as AsGroups}
use Rattle.pm_sized.specs.Pairs.{paired, measures, chunk_pairs, all_pairs, many_pairs, arc_values, each_pairs, pairs_of, AreChunks, AreParts, IsLaid}
use Rattle.pm_sized.specs.Parts.{items_in}
use Rattle.pm_sized.proofs.PairLaws.{length-measures}
use Rattle.pm_node.specs.declared.node.Node.{Node}
use Rattle.pm_node.specs.declared.node.Body.{Body}
use Rattle.pm_node.specs.declared.node.Body.TheVariants.{Text, Leaf as Childless, Children}
use Rattle.pm_node.specs.declared.node.Fragment.TheDeep.{deep-Node, deep-Body}
use Rattle.pm_node.specs.declared.node.Fragment.TheShapes.{weighed-Fragment-nodes-at-3, weighed-Fragment-nodes-at-6, weighed-Fragment-nodes-at-13, weighed-Fragment-nodes-at-19, weighed-Fragment-nodes-at-26, weighed-Fragment-nodes-at-33, weighed-Fragment-nodes-at-43, weighed-Fragment-nodes-at-51, split-Fragment-nodes-at-52}
use Rattle.pm_node.specs.Trees.{node_tokens, body_tokens, list_tokens}
use denote.Param.Weighed.{most, or_weight, w_pair, w_or, w_const}

deep_le-body : (k : ℕ) (a : Attrs) (m : Marks) (b : Body) → deep-Body b ≤ length (body_tokens k a m b)
deep_le-body k a m (Text us) = omega arith
deep_le-body k a m Childless = omega arith
deep_le-body k a m (Children ts) = omega (arith, length-append ts (Close ∷ []))

nodes-fall : {Z : Type 0} → (xs : List (Arc Node Z)) → most (λ x. deep-Node (arc_value x)) xs ≤ length (list_tokens xs)
nodes-fall [] = omega arith
nodes-fall (x ∷ xs) =
    let n = arc_value x in
    let h : deep-Body n.body ≤ length (node_tokens n) = deep_le-body n.kind n.attrs n.marks n.body in
    omega (arith, nodes-fall xs, h, length-append (node_tokens n) (list_tokens xs))

length-list : {Z : Type 0} → (xs ys : List (Arc Node Z)) → length (list_tokens (xs ++ ys)) ≡ length (list_tokens xs) + length (list_tokens ys)
length-list [] ys = omega arith
length-list (x ∷ xs) ys =
    let t = node_tokens (arc_value x) in
    omega (arith, length-list xs ys, length-append t (list_tokens (xs ++ ys)), length-append t (list_tokens xs))

-- the items of a chunk are those of its pairs
items-paired : {T : Type 0} (xs : List T) (ms : List ℕ) → length ms ≡ length xs → items_in (paired xs ms) ≡ xs
items-paired [] ms h = refl
items-paired (x ∷ xs) [] h = absurd (omega (arith, h))
items-paired (x ∷ xs) (m ∷ ms) h = let k : length ms ≡ length xs = omega (arith, h) in ap (λ z. x ∷ z) (items-paired xs ms k)

items-append : {T : Type 0} (ps qs : List (T × ℕ)) → items_in (ps ++ qs) ≡ items_in ps ++ items_in qs
items-append [] qs = refl
items-append (p ∷ ps) qs = ap (λ z. p.0 ∷ z) (items-append ps qs)

few-weight : (p : Arc Node Global × ℕ) → (weighed-Fragment-nodes-at-3).weight Node deep-Node p ≤ deep-Node (arc_value p.0)
few-weight p = omega arith

few-fall : (ps : List (Arc Node Global × ℕ)) → most ((weighed-Fragment-nodes-at-3).weight Node deep-Node) ps ≤ length (list_tokens (items_in ps))
few-fall [] = omega arith
few-fall (p ∷ ps) =
    let n = arc_value p.0 in
    let h : deep-Body n.body ≤ length (node_tokens n) = deep_le-body n.kind n.attrs n.marks n.body in
    omega (arith, few-fall ps, few-weight p, h, length-append (node_tokens n) (list_tokens (items_in ps)))

-- chunks, whatever their weights are called
many-fall : (W : Arc (Chunk (Arc Node Global)) Global → ℕ) → ((c : Arc (Chunk (Arc Node Global)) Global) → W c ≤ most (λ x. deep-Node (arc_value x)) (arc_value c).items.items) → (cs : List (Arc (Chunk (Arc Node Global)) Global)) → AreChunks cs → most W cs ≤ length (list_tokens (items_in (all_pairs cs)))
many-fall W w [] h = omega arith
many-fall W w (c ∷ cs) h =
    let v = arc_value c in
    let own = items-paired v.items.items (measures v.starts.items v.size) (length-measures v.starts.items v.size ∙ h.0.counted.same) in
    omega (
      arith,
      many-fall W w cs h.2,
      w c,
      nodes-fall v.items.items,
      ap (λ z. length (list_tokens z)) own,
      ap (λ z. length (list_tokens z)) (items-append (chunk_pairs v) (all_pairs cs)),
      length-list (items_in (chunk_pairs v)) (items_in (all_pairs cs)),
    )

alone-weight : (c : Arc (Chunk (Arc Node Global)) Global) → (weighed-Fragment-nodes-at-13).weight Node deep-Node c ≤ most (λ x. deep-Node (arc_value x)) (arc_value c).items.items
alone-weight c = omega arith

part-weight : (c : Arc (Chunk (Arc Node Global)) Global) → (weighed-Fragment-nodes-at-26).weight Node deep-Node c ≤ most (λ x. deep-Node (arc_value x)) (arc_value c).items.items
part-weight c = omega arith

rest-weight : (c : Arc (Chunk (Arc Node Global)) Global) → (weighed-Fragment-nodes-at-43).weight Node deep-Node c ≤ most (λ x. deep-Node (arc_value x)) (arc_value c).items.items
rest-weight c = omega arith

whole-weight : (p : Arc (Many (Arc Node Global)) Global) → (weighed-Fragment-nodes-at-33).weight Node deep-Node p ≤ most ((weighed-Fragment-nodes-at-26).weight Node deep-Node) (arc_value p).chunks.items
whole-weight p = omega arith

parts-fall : (ps : List (Arc (Many (Arc Node Global)) Global)) → AreParts (arc_values ps) → most ((weighed-Fragment-nodes-at-33).weight Node deep-Node) ps ≤ length (list_tokens (items_in (each_pairs (arc_values ps))))
parts-fall [] h = omega arith
parts-fall (p ∷ ps) h =
    let m = arc_value p in
    omega (
      arith,
      parts-fall ps h.1,
      whole-weight p,
      many-fall ((weighed-Fragment-nodes-at-26).weight Node deep-Node) part-weight m.chunks.items h.0.laid.chunks,
      ap (λ z. length (list_tokens z)) (items-append (many_pairs m) (each_pairs (arc_values ps))),
      length-list (items_in (many_pairs m)) (items_in (each_pairs (arc_values ps))),
    )

-- how deep the deepest of the nodes nests
abbrev pub deepest : Chunks (Arc Node Global) → ℕ
deepest c =
    or_weight (w_pair weighed-Fragment-nodes-at-6 (w_const (Unit {0})))
    (w_or (w_pair weighed-Fragment-nodes-at-19 (w_const (Unit {0}))) (w_or (w_pair weighed-Fragment-nodes-at-51 (w_const (Unit {0}))) (w_const ⊥))) Node deep-Node (split-Fragment-nodes-at-52 Node c)

pub chunks-fall : (c : Chunks (Arc Node Global)) → IsLaid c → deepest c ≤ length (list_tokens (items_in (pairs_of c)))
chunks-fall (AsFew f) h = omega (arith, few-fall f.items.items)
chunks-fall (AsMany m) h = omega (arith, many-fall ((weighed-Fragment-nodes-at-13).weight Node deep-Node) alone-weight m.chunks.items h.chunks)
chunks-fall (AsGroups b) h =
    let g = b.value in
    let parts = each_pairs (arc_values g.parts.items) in
    omega (
      arith,
      parts-fall g.parts.items h.parts,
      many-fall ((weighed-Fragment-nodes-at-43).weight Node deep-Node) rest-weight g.rest.chunks.items h.rest.chunks,
      ap (λ z. length (list_tokens z)) (items-append parts (many_pairs g.rest)),
      length-list (items_in parts) (items_in (many_pairs g.rest)),
    )
