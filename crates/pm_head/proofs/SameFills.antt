-- A type is filled with one and the same content by two schemas that were built of the same types.
use Rattle.std.proofs.Common.{◌≡◌, ◌<◌, ℕ, zero, suc, Bool, true, false, cond, List, [], ◌∷◌, ◌++◌, length, map, refl, ap, ◌∙◌, sym, subst, arith}
use Rattle.std.specs.Prelude.{Option, Some, None, option_map, unwrap_or, slice_index_or}
use Rattle.std.proofs.lemmas.List.{ext_get_or}
use Rattle.pm_auto.specs.declared.auto.Auto.{Auto}
use Rattle.pm_auto.specs.Tree.{tree}
use Rattle.pm_auto.specs.Trim.{trimmed}
use Rattle.pm_auto.specs.Table.{rows}
use Rattle.pm_auto.specs.States.{start_of}
use Rattle.pm_value.specs.Plain.{null}
use Rattle.pm_tokens.specs.Tokens.{Token, Open, Close, Leaf, CodeUnit}
use Rattle.pm_schema.specs.declared.spec.AttrSpec.{AttrSpec}
use Rattle.pm_schema.specs.declared.spec.NodeSpec.{NodeSpec}
use Rattle.pm_schema.specs.declared.spec.SchemaSpec.{SchemaSpec}
use Rattle.pm_schema.specs.declared.schema.Schema.{Schema}
use Rattle.pm_schema.specs.Types.{node_at, is_leaf}
use Rattle.pm_schema.specs.Made.{can_be_made}
use Rattle.pm_schema.specs.Generated.{IsAutoOf}
use Rattle.pm_schema.specs.Built.{IsBuilt}
use Rattle.pm_schema.proofs.SameLaws.{same-auto}
use Rattle.pm_schemajson.specs.Views.{attribute, attributes, node_type, node_types, types_of_spec}
use Rattle.pm_schemajson.proofs.SameTypes.{map-alike, long-alike, node-alike}
use Rattle.pm_schemajson.proofs.SameDocuments.{leaf-alike}
use Rattle.pm_schemajson.proofs.SameEnds.{can-alike}
use Rattle.pm_node.specs.Filled.{IsFill, AreFills, defaults, leaf_tokens, around, joined, filled_tokens, Filling}
use Rattle.pm_head.proofs.TwinFills.{one-fill}

-- ---- the filled node is one where the fills are

defaults-alike : (xs ys : List AttrSpec) → attributes xs ≡ attributes ys → defaults xs ≡ defaults ys
defaults-alike xs ys h = map-alike attribute (λ a. unwrap_or a.default null) xs ys h

pub filled-alike : (s t : SchemaSpec) → types_of_spec s ≡ types_of_spec t → (fills : List (List ℕ)) (n k : ℕ) → filled_tokens s fills n k ≡ filled_tokens t fills n k
unfolding filled_tokens
filled-alike s t h fills zero k =
    let leaf = leaf-alike (node_at s k) (node_at t k) (node-alike s t k h) in
    let attrs = defaults-alike (node_at s k).attrs (node_at t k).attrs (ap (λ x. x.attrs) (node-alike s t k h)) in
    λ i. cond (leaf i) (Some (Leaf k (attrs i) [] ∷ [])) None
filled-alike s t h fills (suc n) k =
    let leaf = leaf-alike (node_at s k) (node_at t k) (node-alike s t k h) in
    let attrs = defaults-alike (node_at s k).attrs (node_at t k).attrs (ap (λ x. x.attrs) (node-alike s t k h)) in
    λ i. cond (leaf i) (Some (Leaf k (attrs i) [] ∷ [])) (option_map (λ ts. Open k (attrs i) [] ∷ (ts ++ (Close ∷ []))) (joined (map (λ j. filled-alike s t h fills n j i) (slice_index_or fills k []))))

-- ---- the fills are one

can-all : (ns ms : List NodeSpec) → node_types ns ≡ node_types ms → map can_be_made ns ≡ map can_be_made ms
can-all [] [] h = refl
can-all [] (m ∷ ms) h = absurd (cc)
can-all (n ∷ ns) [] h = absurd (cc)
can-all (n ∷ ns) (m ∷ ms) h =
    let one : node_type n ≡ node_type m = cc in
    let more : node_types ns ≡ node_types ms = cc in
    λ i. can-alike n m one i ∷ can-all ns ms more i

some-auto : (as' : List Auto) (k : ℕ) → k < length as' → Auto
some-auto [] k l = absurd (omega (arith, l))
some-auto (a ∷ as') k l = a

module _ (s t : Schema) (h : types_of_spec s.spec ≡ types_of_spec t.spec) (bs : IsBuilt s) (bt : IsBuilt t) where
  one-table : s.generatable ≡ t.generatable
  one-table = s.makes ∙ can-all s.spec.nodes t.spec.nodes (ap (λ ts. ts.nodes) h) ∙ sym t.makes

  fills-alike : (f g : List (List ℕ)) → AreFills s f → AreFills t g → f ≡ g
  fills-alike f g hf hg = ext_get_or [] f g (hf.full ∙ n ∙ sym hg.full) at
    where
      n : length s.spec.nodes ≡ length t.spec.nodes
      n = long-alike node_type s.spec.nodes t.spec.nodes (ap (λ ts. ts.nodes) h)

      at : (k : ℕ) → k < length f → slice_index_or f k [] ≡ slice_index_or g k []
      at k l =
          let full = hf.full in
          let inside : k < length s.spec.nodes = omega (arith, l, full) in
          let other : k < length t.spec.nodes = omega (arith, inside, n) in
          let of_s : k < length s.autos = omega (arith, s.full, inside) in
          let of_t : k < length t.autos = omega (arith, t.full, other) in
          let d = some-auto s.autos k of_s in
          let a = slice_index_or s.autos k d in
          let b = slice_index_or t.autos k d in
          let same : tree (node_at t.spec k).content ≡ tree (node_at s.spec k).content = sym (ap (λ x. x.content) (node-alike s.spec t.spec k h)) in
          let ha : IsAutoOf (node_at s.spec k).content a = bs.automata k d of_s in
          let hb : IsAutoOf (node_at s.spec k).content b = same-auto (node_at t.spec k).content (node_at s.spec k).content b same (bt.automata k d of_t) in
          let fb : IsFill s.generatable b (slice_index_or g k []) = subst (λ (can : List Bool). IsFill can b (slice_index_or g k [])) (sym one-table) (hg.shortest k d other) in
          one-fill (rows 0 (trimmed (node_at s.spec k).content)) (start_of (trimmed (node_at s.spec k).content)) s.generatable a b ha hb (slice_index_or f k []) (slice_index_or g k []) (hf.shortest k d inside) fb

  pub fillings-alike : (k : ℕ) (o p : Option (List Token)) → Filling s k o → Filling t k p → o ≡ p
  fillings-alike k o p f g =
      sym f.tokens
      ∙ ap (λ fs. filled_tokens s.spec fs 49 k) (fills-alike f.fills g.fills f.of_types g.of_types)
      ∙ filled-alike s.spec t.spec h g.fills 49 k
      ∙ g.tokens

-- ---- a filled node is no text

abbrev pub IsFront : List Token → Type 0
IsFront [] = ⊥
IsFront (Open k a m ∷ ts) = Unit {0}
IsFront (Close ∷ ts) = ⊥
IsFront (Leaf k a m ∷ ts) = Unit {0}
IsFront (CodeUnit u m ∷ ts) = ⊥

abbrev IsFrontOf : Option (List Token) → Type 0
IsFrontOf None = Unit {0}
IsFrontOf (Some ts) = IsFront ts

front : (s : SchemaSpec) (fills : List (List ℕ)) (n k : ℕ) → IsFrontOf (filled_tokens s fills n k)
unfolding filled_tokens
front s fills zero k = at (is_leaf (node_at s k))
  where
    at : (b : Bool) → IsFrontOf (cond b (Some (leaf_tokens s k)) None)
    at true = tt
    at false = tt
front s fills (suc n) k = at (is_leaf (node_at s k)) (joined (map (filled_tokens s fills n) (slice_index_or fills k [])))
  where
    at : (b : Bool) (o : Option (List Token)) → IsFrontOf (cond b (Some (leaf_tokens s k)) (option_map (around s k) o))
    at true o = tt
    at false None = tt
    at false (Some ts) = tt

pub filling-front : (s : Schema) (k : ℕ) (ts : List Token) → Filling s k (Some ts) → IsFront ts
filling-front s k ts f = subst IsFrontOf f.tokens (front s.spec f.fills 49 k)
