-- A schema that was built has no dead end, whichever spec of its types tells of one.
use Rattle.std.proofs.Common.{◌≡◌, ◌<◌, ℕ, Bool, ◌||◌, ◌&&◌, List, [], ◌∷◌, length, refl, ap, ◌∙◌, sym, arith}
use Rattle.std.specs.Prelude.{not, Some, None, option_map, is_none, slice_index_or}
use Rattle.std.specs.List.{list_any}
use Rattle.std.specs.Str.{bytes_eq}
use Rattle.std.specs.Prelude.{codes}
use Rattle.pm_auto.specs.declared.auto.Auto.{Auto}
use Rattle.pm_auto.specs.Tree.{tree}
use Rattle.pm_auto.specs.Trim.{trim, trimmed}
use Rattle.pm_auto.specs.Table.{rows}
use Rattle.pm_auto.specs.Runs.{accepts_rows}
use Rattle.pm_auto.specs.States.{start_of}
use Rattle.pm_auto.proofs.TreeLaws.{same-expand}
use Rattle.pm_auto.proofs.TwinLaws.{twin-finishes}
use Rattle.pm_value.specs.Views.{plain}
use Rattle.pm_schema.specs.declared.spec.AttrSpec.{AttrSpec}
use Rattle.pm_schema.specs.declared.spec.NodeSpec.{NodeSpec}
use Rattle.pm_schema.specs.declared.spec.SchemaSpec.{SchemaSpec}
use Rattle.pm_schema.specs.declared.schema.Schema.{Schema}
use Rattle.pm_schema.specs.Types.{node_at, is_required, is_text}
use Rattle.pm_schema.specs.Made.{needs_attrs, can_be_made}
use Rattle.pm_schema.specs.Generated.{Has, IsMade, IsClosed, IsAutoOf, FirstDeadEnd}
use Rattle.pm_schema.specs.Built.{IsBuilt}
use Rattle.pm_schema.proofs.Rounds.{all_can-more}
use Rattle.pm_schema.proofs.SameLaws.{same-auto}
use Rattle.pm_schemajson.specs.Views.{attribute, node_type, types_of_spec}
use Rattle.pm_schemajson.proofs.SameTypes.{any-alike, long-alike, node-alike}

required-is : (a : AttrSpec) → is_required a ≡ is_none (attribute a).default
required-is a = at a.default
  where
    at : (o : _) → is_none o ≡ is_none (option_map plain o)
    at None = refl
    at (Some v) = refl

any-required : (xs : List AttrSpec) → list_any is_required xs ≡ list_any (λ a. is_none (attribute a).default) xs
any-required [] = refl
any-required (a ∷ xs) = ap (λ b. b || list_any is_required xs) (required-is a) ∙ ap (λ b. is_none (attribute a).default || b) (any-required xs)

needs-alike : (n m : NodeSpec) → node_type n ≡ node_type m → needs_attrs n ≡ needs_attrs m
needs-alike n m h = any-required n.attrs ∙ any-alike attribute (λ x. is_none x.default) n.attrs m.attrs (ap (λ x. x.attrs) h) ∙ sym (any-required m.attrs)

pub can-alike : (n m : NodeSpec) → node_type n ≡ node_type m → can_be_made n ≡ can_be_made m
can-alike n m h = ap (λ name. not (bytes_eq (codes "text") name) && not (needs_attrs n)) (ap (λ x. x.name) h) ∙ ap (λ b. not (is_text m) && not b) (needs-alike n m h)

made-alike : (n m : NodeSpec) (table : List Bool) → node_type n ≡ node_type m → IsMade n table → IsMade m table
made-alike n m table h made = record {
  can = sym (can-alike n m h) ∙ made.can;
  list = made.list;
  of_table = made.of_table;
  fit = sym (ap (λ c. accepts_rows (trim c) made.list) (same-expand n.content m.content (ap (λ x. x.content) h))) ∙ made.fit;
}

-- what is true of a built schema and of a dead end of a spec with its types
pub no-dead-end : (s : Schema) (t : SchemaSpec) (k : ℕ) → types_of_spec s.spec ≡ types_of_spec t → IsBuilt s → FirstDeadEnd t.nodes k → ⊥
no-dead-end s t k h b f =
    let n : length s.spec.nodes ≡ length t.nodes = long-alike node_type s.spec.nodes t.nodes (ap (λ ts. ts.nodes) h) in
    let l : k < length s.autos = omega (arith, s.full, n, f.inside) in
    let d = f.dead in
    let a : Auto = slice_index_or s.autos k d.auto in
    let same : tree (node_at t k).content ≡ tree (node_at s.spec k).content = sym (ap (λ x. x.content) (node-alike s.spec t k h)) in
    let of : IsAutoOf (node_at s.spec k).content d.auto = same-auto (node_at t k).content (node_at s.spec k).content d.auto same d.of_content in
    let closed : IsClosed s.spec.nodes f.table = λ j i m. f.generatable.closed j (omega (arith, n, i)) (made-alike (node_at s.spec j) (node_at t j) f.table (node-alike s.spec t j h) m) in
    let more : (j : ℕ) → Has s.generatable j → Has f.table j = b.generatable.least f.table closed in
    let fin = twin-finishes (rows 0 (trimmed (node_at s.spec k).content)) (start_of (trimmed (node_at s.spec k).content)) d.auto a s.generatable of (b.automata k d.auto l) (b.live k d.auto l) d.dead.state d.dead.inside in
    d.dead.stuck (record { list = fin.list; makeable = all_can-more s.generatable f.table more fin.list fin.makeable; ends = fin.ends })
