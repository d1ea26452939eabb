-- What documents need of a schema, from its spec.
use Rattle.std.specs.Prelude.{nat_lt, false, if◌then◌else◌, length, map, codes, unwrap_or, slice_index_or, Some, None}
use Rattle.pm_auto.specs.Runs.{fits}
use Rattle.pm_tokens.specs.Schemas as documents
use Rattle.pm_schema.specs.declared.spec.SchemaSpec.{SchemaSpec}
use Rattle.pm_schema.specs.Names.{place_of}
use Rattle.pm_schema.specs.Types.{names_of_nodes, node_at, mark_at, is_leaf, is_inline, is_atom, declared}
use Rattle.pm_schema.specs.Contents.{starts}
use Rattle.pm_schema.specs.MarkTexts.{allowed_row, exclude_table}

-- the schema as documents see it
unfoldable pub documents_of : SchemaSpec → documents.Schema
documents_of s =
    record {
      text = unwrap_or (place_of (codes "text") (names_of_nodes s)) 0;
      accepts = λ k kids. fits (node_at s k).content kids;
      starts = λ k. starts (node_at s k).content;
      is_leaf = λ k. is_leaf (node_at s k);
      is_inline = λ k. is_inline (node_at s k);
      is_atom = λ k. is_atom (node_at s k);
      allows = λ k m. slice_index_or (allowed_row s (node_at s k)) m false;
      excludes = exclude_table s;
      node_declares = λ k. if nat_lt k (length s.nodes) then Some (map declared (node_at s k).attrs) else None;
      mark_declares = λ m. if nat_lt m (length s.marks) then Some (map declared (mark_at s m).attrs) else None;
      version = s.version;
    }
