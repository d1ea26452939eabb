-- What is read can be written.
use Rattle.std.proofs.Common.{◌≡◌, ◌^◌, ◌-◌, List, [], ◌∷◌, length, Bool, true, false, cond, ◌&&◌, not, nat_lt, refl, subst}
use Rattle.std.specs.Prelude.{Ok, Err, None}
use Rattle.serde_json.specs.Data.{Data, Items}
use Rattle.pm_tokens.specs.Tokens.{Token, Open, Close, Leaf, CodeUnit}
use Rattle.pm_tokens.specs.Faults.{first_broken}
use Rattle.pm_schema.specs.declared.spec.SchemaSpec.{SchemaSpec}
use Rattle.pm_schema.specs.Types.{node_at}
use Rattle.pm_schema.specs.Documents.{documents_of}
use Rattle.pm_node.specs.Trees.{node_tokens}
use Rattle.pm_docjson.specs.declared.fault.DocReadError.TheVariants.{Large}
use Rattle.pm_docjson.specs.declared.leaves.LeafContent.TheVariants.{Kept, Refused}
use Rattle.pm_docjson.specs.Laws.{has_no_filled_leaf, ReadNodeComesBack, ReadNodesAreWritable}
use Rattle.pm_docjson.specs.Reading.{bounded, node_list}
use Rattle.pm_docjson.specs.Writable.{type_fits, marks_fit, is_writable, are_writable}
use Rattle.pm_docjson.proofs.ReadAttrs.{first-read, KnownDefaults}
use Rattle.pm_docjson.proofs.ReadNodes.{fits_by, all_by, node-read, list-read}
use Rattle.pm_docjson.proofs.ViewTexts.{HasTexts, EachHasTexts}
use Rattle.std.proofs.lemmas.Bool.{and_parts, and_from}

module _ (s : SchemaSpec) where
  strict : (ts : List Token) → all_by s true ts ≡ true → are_writable s ts ≡ true
  strict [] h = refl
  strict (Open k a m ∷ ts) h = let p = and_parts (is_writable s (Open k a m)) (all_by s true ts) h in and_from (is_writable s (Open k a m)) (are_writable s ts) p.0 (strict ts p.1)
  strict (Close ∷ ts) h = strict ts h
  strict (Leaf k a m ∷ ts) h = let p = and_parts (is_writable s (Leaf k a m)) (all_by s true ts) h in and_from (is_writable s (Leaf k a m)) (are_writable s ts) p.0 (strict ts p.1)
  strict (CodeUnit u m ∷ ts) h = let p = and_parts (marks_fit s m) (all_by s true ts) h in and_from (marks_fit s m) (are_writable s ts) p.0 (strict ts p.1)

  loose : (ts : List Token) → all_by s false ts ≡ true → has_no_filled_leaf s ts ≡ true → are_writable s ts ≡ true
  loose [] h e = refl
  loose (Open k a m ∷ ts) h e =
      let p = and_parts (fits_by s false (Open k a m)) (all_by s false ts) h in
      let q = and_parts (type_fits s k a) (marks_fit s m) p.0 in
      let r = and_parts (not ((documents_of s).is_leaf k)) (has_no_filled_leaf s ts) e in
      and_from (is_writable s (Open k a m)) (are_writable s ts)
      (and_from (type_fits s k a) (not ((documents_of s).is_leaf k) && marks_fit s m) q.0 (and_from (not ((documents_of s).is_leaf k)) (marks_fit s m) r.0 q.1))
      (loose ts p.1 r.1)
  loose (Close ∷ ts) h e = loose ts h e
  loose (Leaf k a m ∷ ts) h e = let p = and_parts (is_writable s (Leaf k a m)) (all_by s false ts) h in and_from (is_writable s (Leaf k a m)) (are_writable s ts) p.0 (loose ts p.1 e)
  loose (CodeUnit u m ∷ ts) h e = let p = and_parts (marks_fit s m) (all_by s false ts) h in and_from (marks_fit s m) (are_writable s ts) p.0 (loose ts p.1 e)

  module _ (sh : KnownDefaults s) (plain : (node_at s (documents_of s).text).attrs ≡ []) where
    pub node-back : (d : Data) → HasTexts d → ReadNodeComesBack s d
    node-back d texts = record {
      refused = λ n h. let w = node-read s Refused sh plain d n texts h in (record { tokens = strict (node_tokens n) w.tokens.fits; pairs = w.tokens.pairs 1; filled = w.some }, w.itself);
      kept = λ n h none. let w = node-read s Kept sh plain d n texts h in (record { tokens = loose (node_tokens n) w.tokens.fits none; pairs = w.tokens.pairs 1; filled = w.some }, w.itself);
    }

    pub nodes-writable : (ds : Items) → EachHasTexts ds → ReadNodesAreWritable s ds
    nodes-writable ds texts ts h =
        let a = first-read (node_list s Refused ds) bounded ts h in
        let w = list-read s Refused sh plain ds a.0 texts a.1.0 in
        let same = kept (nat_lt (2 ^ 32 - 1) (length a.0)) a.0 ts a.1.1 in
        record { tokens = subst (λ x. are_writable s x ≡ true) same (strict a.0 w.fits); pairs = subst (λ x. first_broken 1 None x ≡ None) same (w.pairs 1) }
      where
        kept : (b : Bool) (xs ys : List Token) → cond b (Err Large) (Ok xs) ≡ Ok ys → xs ≡ ys
        kept true xs ys e = absurd (cc)
        kept false xs ys e = cc
