-- The top type of a schema that was built is filled, or there is a cause why not.
use Rattle.std.proofs.Common.{◌≡◌, ◌<◌, ◌≤◌, ◌⊎◌, ℕ, zero, suc, List, [], ◌∷◌, length, map, Bool, true, false, cond, get_or, inl, inr, refl, sym, ◌∙◌, subst, arith}
use Rattle.std.specs.Prelude.{Option, Some, None, option_map, Result, Ok, Err}
use Rattle.std.proofs.lemmas.Bool.{cases_lt}
use Rattle.pm_auto.specs.declared.auto.Auto.{Auto}
use Rattle.pm_auto.specs.Finish.{all_can}
use Rattle.pm_tokens.specs.Tokens.{Token}
use Rattle.pm_tokens.specs.Schemas.{max_size}
use Rattle.pm_schema.specs.declared.spec.SchemaSpec.{SchemaSpec}
use Rattle.pm_schema.specs.declared.schema.Schema.{Schema}
use Rattle.pm_schema.specs.Types.{node_at, is_leaf}
use Rattle.pm_schema.specs.Made.{can_be_made}
use Rattle.pm_schema.specs.Documents.{documents_of}
use Rattle.pm_schema.specs.Built.{IsBuilt}
use Rattle.pm_node.specs.declared.node.Node.{Node}
use Rattle.pm_node.specs.declared.node.Body.TheVariants.{Leaf as Childless, Children}
use Rattle.pm_node.specs.declared.filled.FillError.TheVariants.{NotGeneratable, Deep, Large}
use Rattle.pm_node.specs.Trees.{node_tokens}
use Rattle.pm_node.specs.Filled.{AreFills, CanBeMade, defaults, leaf_tokens, around, joined, filled_tokens, Filling}
use Rattle.pm_node.proofs.FillLaws.{fill-made}
use Rattle.pm_head.specs.declared.code.Code.{Code}
use Rattle.pm_head.specs.declared.code.Code.TheVariants.{InvalidDocument}
use Rattle.pm_head.specs.Documents.{top_of, FilledTop}
use Rattle.pm_laws.proofs.FillsThere.{FillsAre, fills-there}

-- ---- a node for the tokens

record NodeOf (ts : List Token) : Type 0 where
  node : Node
  is : node_tokens node ≡ ts

-- there are no tokens, or those of a node
abbrev IsNodeOf : Option (List Token) → Type 0
IsNodeOf None = Unit {0}
IsNodeOf (Some ts) = NodeOf ts

leaf-node : (s : SchemaSpec) (k : ℕ) → NodeOf (leaf_tokens s k)
leaf-node s k = record { node = record { kind = k; attrs = defaults (node_at s k).attrs; marks = []; body = Childless }; is = refl }

around-node : (s : SchemaSpec) (k : ℕ) (o : Option (List Token)) → IsNodeOf (option_map (around s k) o)
around-node s k None = tt
around-node s k (Some ts) = record { node = record { kind = k; attrs = defaults (node_at s k).attrs; marks = []; body = Children ts }; is = refl }

filled-node : (s : SchemaSpec) (fills : List (List ℕ)) (n k : ℕ) → IsNodeOf (filled_tokens s fills n k)
unfolding filled_tokens
filled-node s fills zero k = at (is_leaf (node_at s k))
  where
    at : (b : Bool) → IsNodeOf (cond b (Some (leaf_tokens s k)) None)
    at true = leaf-node s k
    at false = tt
filled-node s fills (suc n) k = at (is_leaf (node_at s k))
  where
    at : (b : Bool) → IsNodeOf (cond b (Some (leaf_tokens s k)) (option_map (around s k) (joined (map (filled_tokens s fills n) (get_or fills k [])))))
    at true = leaf-node s k
    at false = around-node s k (joined (map (filled_tokens s fills n) (get_or fills k [])))

-- ---- the fills of the types

all-made : (can : List Bool) (autos : List Auto) (fills : List (List ℕ)) → FillsAre can autos fills → (k : ℕ) → k < length autos → all_can can (get_or fills k []) ≡ true
all-made can [] fills f k l = absurd (omega (arith, l))
all-made can (a ∷ as') fills f k l = fill-made can (get_or (a ∷ as') k a) (get_or fills k []) (f.each k a l)

fills-of : (s : Schema) → IsBuilt s → (fills : List (List ℕ)) × AreFills s fills
fills-of s b =
    let f = fills-there s.generatable s.autos (λ k d l. b.live k d l 0 (get_or s.autos k d).some) in (
      f.0,
      record {
        full = f.1.full ∙ s.full;
        shortest = λ k d l. f.1.each k d (omega (arith, l, s.full));
        made = λ k l. all-made s.generatable s.autos f.0 f.1 k (omega (arith, l, s.full));
      },
    )

-- ---- the filled node

module _ (s : Schema) where
  by-size : CanBeMade s (top_of s.spec) → (ts : List Token) → Filling s (top_of s.spec) (Some ts) → NodeOf ts → (length ts ≤ max_size (documents_of s.spec)) ⊎ (max_size (documents_of s.spec) < length ts)
      → (r : Result Node Code) × FilledTop s r
  by-size can ts f n (inl l) = (
    Ok n.node,
    record {
      made = can;
      filled = subst (λ us. Filling s (top_of s.spec) (Some us)) (sym n.is) f;
      small = subst (λ us. length us ≤ max_size (documents_of s.spec)) (sym n.is) l;
    },
  )
  by-size can ts f n (inr l) = (Err InvalidDocument, record { error = Large; fault = (can, record { tokens = ts; filling = f; large = l }); has_code = refl })

  some-size : (m n : ℕ) → (m < n) ⊎ (n ≤ m) → (n ≤ m) ⊎ (m < n)
  some-size m n (inl l) = inr l
  some-size m n (inr l) = inl l

  by-tokens : CanBeMade s (top_of s.spec) → (o : Option (List Token)) → Filling s (top_of s.spec) o → IsNodeOf o → (r : Result Node Code) × FilledTop s r
  by-tokens can None f n = (Err InvalidDocument, record { error = Deep; fault = (can, f); has_code = refl })
  by-tokens can (Some ts) f n = by-size can ts f n (some-size (max_size (documents_of s.spec)) (length ts) (cases_lt (max_size (documents_of s.spec)) (length ts)))

  by-made : IsBuilt s → (b : Bool) → can_be_made (node_at s.spec (top_of s.spec)) ≡ b → (r : Result Node Code) × FilledTop s r
  by-made built false e = (Err InvalidDocument, record { error = NotGeneratable; fault = e; has_code = refl })
  by-made built true e =
      let f = fills-of s built in
      by-tokens e (filled_tokens s.spec f.0 49 (top_of s.spec)) (record { fills = f.0; of_types = f.1; tokens = refl }) (filled-node s.spec f.0 49 (top_of s.spec))

  -- the top type can be filled, or there is a cause why not
  pub top-filled : IsBuilt s → (r : Result Node Code) × FilledTop s r
  top-filled built = by-made built (can_be_made (node_at s.spec (top_of s.spec))) refl
