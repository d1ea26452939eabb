-- The types of the generated schema, as code has them.
use Rattle.std.proofs.Common.{ℕ, ◌<◌, ◌^◌, List, [], ◌∷◌, length, codes, Option, Some, None, Bool, true, false, pos, Vec, Box, Global, refl, arith, le_refl}
use denote.RawPtr.{null_ptr}
use Rattle.pm_auto.specs.declared.expr.Expr.{Expr, Empty, One, Choice', Seq', Plus', Star', more_of-Expr, end_of-Expr}
use Rattle.pm_value.specs.declared.value.Value.TheVariants.{Int}
use Rattle.pm_schema.specs.declared.spec.AttrSpec.{AttrSpec}
use Rattle.pm_schema.specs.declared.spec.NodeSpec.{NodeSpec}
use Rattle.pm_schema.specs.declared.spec.MarkSpec.{MarkSpec}
use Rattle.pm_schema.specs.declared.spec.SchemaSpec.{SchemaSpec}

pub few : (n : ℕ) → n < 8 → n < 2 ^ 63
few n h = omega arith

module _ (g : Global) where
  abbrev listed : (places : List (Unit {0})) → length places < 2 ^ 63 → Vec (Unit {0}) Global
  listed places h = record { ptr = null_ptr; len = length places; cap = length places; alloc = g; items = places; ok = (refl, le_refl (length places)); small = h }

  abbrev boxed : Box (Unit {0}) Global
  boxed = record { ptr = null_ptr; alloc = g; value = tt }

  abbrev pub blocks : Expr
  blocks = Choice' (listed (tt ∷ tt ∷ tt ∷ tt ∷ []) (few 4 (omega arith))) (more_of-Expr (One 1) (more_of-Expr (One 2) (more_of-Expr (One 3) (more_of-Expr (One 4) end_of-Expr))))

  abbrev pub inlines : Expr
  inlines = Choice' (listed (tt ∷ tt ∷ []) (few 2 (omega arith))) (more_of-Expr (One 6) (more_of-Expr (One 7) end_of-Expr))

  abbrev pub some_blocks : Expr
  some_blocks = Plus' boxed blocks

  abbrev pub any_inlines : Expr
  any_inlines = Star' boxed inlines

  abbrev pub items : Expr
  items = Plus' boxed (One 5)

  abbrev pub item_content : Expr
  item_content = Seq' (listed (tt ∷ tt ∷ []) (few 2 (omega arith))) (more_of-Expr (One 1) (more_of-Expr (Star' boxed blocks) end_of-Expr))

  abbrev node : List ℕ → Expr → List (List ℕ) → Bool → List AttrSpec → NodeSpec
  node name content groups inline attrs = record { name = name; content = content; groups = groups; marks = None; inline = inline; atom = false; attrs = attrs }

  abbrev pub nodes : List NodeSpec
  nodes =
      node (codes "doc") some_blocks [] false []
      ∷ node (codes "paragraph") any_inlines (codes "block" ∷ []) false []
      ∷ node (codes "blockquote") some_blocks (codes "block" ∷ []) false []
      ∷ node (codes "heading") any_inlines (codes "block" ∷ []) false (record { name = codes "level"; default = Some (Int (pos 1)); validate = None } ∷ [])
      ∷ node (codes "bullet_list") items (codes "block" ∷ []) false []
      ∷ node (codes "list_item") item_content [] false []
      ∷ node (codes "image") Empty (codes "inline" ∷ []) true (record { name = codes "src"; default = None; validate = None } ∷ [])
      ∷ node (codes "text") Empty (codes "inline" ∷ []) false []
      ∷ []

  abbrev mark : List ℕ → Bool → List AttrSpec → Option (List ℕ) → MarkSpec
  mark name inclusive attrs excludes = record { name = name; attrs = attrs; inclusive = inclusive; excludes = excludes; groups = [] }

  abbrev pub marks : List MarkSpec
  marks =
      mark (codes "link") false (record { name = codes "href"; default = None; validate = None } ∷ []) None
      ∷ mark (codes "em") true [] None
      ∷ mark (codes "strong") true [] None
      ∷ mark (codes "code") true [] (Some (codes "_"))
      ∷ []

  abbrev pub spec : SchemaSpec
  spec = record { nodes = nodes; marks = marks; top = codes "doc"; version = 1 }
