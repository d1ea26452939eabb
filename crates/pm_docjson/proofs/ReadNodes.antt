-- Nodes that are read can be written.
use Rattle.std.proofs.Common.{◌≡◌, ◌<◌, ◌==◌, ℕ, ◌+◌, ◌-◌, ◌++◌, List, [], ◌∷◌, length, Bool, true, false, cond, ◌&&◌, not, nat_lt, refl, ap, sym, subst, arith}
use Rattle.std.proofs.lemmas.Bool.Decides.{nat_tests}
use Rattle.std.specs.Prelude.{codes, Option, Some, None, Result, Ok, Err, ◌^◌}
use Rattle.std.specs.Str.{IsUtf8}
use Rattle.std.specs.Ordering.{nat_cmp, match_ordering}
use Rattle.std.specs.Cmp.Lexicographic.{slice_cmp}
use Rattle.std.specs.declared.cmp.Ordering.{Ordering}
use Rattle.std.specs.declared.cmp.Ordering.TheVariants.{Less, Equal, Greater}
use Rattle.serde_json.specs.Data.{Data, null, boolean, number, string, array, object, Items, no_items, item, Members, no_members, member}
use Rattle.serde_json.specs.Find.{as_array}
use Rattle.pm_list.specs.Readings.{◌>>=◌, or_fault}
use Rattle.pm_text.specs.Units.{utf16}
use Rattle.pm_tokens.specs.Tokens.{Attrs, Marks, Token, Open, Close, Leaf, CodeUnit}
use Rattle.pm_tokens.specs.Kids.{text_tokens}
use Rattle.pm_schema.specs.declared.spec.SchemaSpec.{SchemaSpec}
use Rattle.pm_schema.specs.declared.spec.AttrSpec.{AttrSpec}
use Rattle.pm_schema.specs.Names.{place_of}
use Rattle.pm_schema.specs.Types.{names_of_nodes, node_at, fit_attrs}
use Rattle.pm_schema.specs.Documents.{documents_of}
use Rattle.pm_node.specs.Trees.{node_tokens}
use Rattle.pm_node.specs.declared.node.Node.{Node}
use Rattle.pm_node.specs.declared.node.Body.TheVariants.{Text, Leaf as Childless, Children}
use Rattle.pm_docjson.specs.declared.leaves.LeafContent.{LeafContent}
use Rattle.pm_docjson.specs.declared.fault.DocReadError.{DocReadError}
use Rattle.pm_docjson.specs.declared.fault.DocReadError.TheVariants.{Shape, UnknownType, EmptyText, Large}
use Rattle.pm_docjson.specs.Fields.{field, text_at}
use Rattle.pm_docjson.specs.Reading.{attrs_read, marks_of, filled, refuses, no_nodes, none_at, bounded, text_from, body_of, branch_from, content_for, node_from, node_of, content_in, content_of, node_list}
use Rattle.pm_docjson.specs.Writable.{marks_fit, type_fits, is_writable}
use Rattle.pm_docjson.specs.Writing.{as_read}
use Rattle.pm_docjson.proofs.Pairs.{NoBroken, broken-closed}
use Rattle.pm_docjson.proofs.ReadAttrs.{first-read, there, attrs-fit, node-defaults, node-inside, marks-read-fit, KnownDefaults}
use Rattle.pm_docjson.proofs.ReadPairs.{pairs-append, text-pairs, some-units, some-tokens}
use Rattle.pm_docjson.proofs.ViewTexts.{HasTexts, EachHasTexts, AllHaveTexts, text-found}
use Rattle.std.proofs.lemmas.Bool.{and_parts, and_from}

module _ (s : SchemaSpec) (strict : Bool) where
  -- a token that can be written, where an open may be of a leaf type if the test is not strict
  abbrev pub fits_by : Token → Bool
  fits_by (Open k a m) = type_fits s k a && (cond strict (not ((documents_of s).is_leaf k)) true && marks_fit s m)
  fits_by Close = true
  fits_by (Leaf k a m) = is_writable s (Leaf k a m)
  fits_by (CodeUnit u m) = marks_fit s m

  abbrev pub all_by : List Token → Bool
  all_by [] = true
  all_by (t ∷ ts) = fits_by t && all_by ts

  -- tokens that are read
  pub record AreRead (ts : List Token) : Type 0 where
    pub fits : all_by ts ≡ true
    pub pairs : NoBroken None ts

  -- a node that is read
  pub record IsRead (n : Node) : Type 0 where
    pub tokens : AreRead (node_tokens n)
    pub some : 0 < length (node_tokens n)
    pub itself : as_read s n ≡ n

  all-append : (xs ys : List Token) → all_by xs ≡ true → all_by ys ≡ true → all_by (xs ++ ys) ≡ true
  all-append [] ys h k = k
  all-append (x ∷ xs) ys h k = let p = and_parts (fits_by x) (all_by xs) h in and_from (fits_by x) (all_by (xs ++ ys)) p.0 (all-append xs ys p.1 k)

  none-read : AreRead []
  none-read = record { fits = refl; pairs = λ at. refl }

  both-read : (xs ys : List Token) → AreRead xs → AreRead ys → AreRead (xs ++ ys)
  both-read xs ys f g = record { fits = all-append xs ys f.fits g.fits; pairs = pairs-append xs ys f.pairs g.pairs }

  -- ---- texts

  units-fit : (m : Marks) (us : List ℕ) → marks_fit s m ≡ true → all_by (text_tokens m us) ≡ true
  units-fit m [] h = refl
  units-fit m (u ∷ us) h = and_from (marks_fit s m) (all_by (text_tokens m us)) h (units-fit m us h)

  -- a text with these bytes, of the type of texts, which has no attributes
  text-made : (a : Attrs) (m : Marks) (bytes : List ℕ) → IsUtf8 bytes → (length bytes == 0) ≡ false → a ≡ [] → marks_fit s m ≡ true
      → IsRead (record { kind = (documents_of s).text; attrs = a; marks = m; body = Text (utf16 bytes) })
  text-made a m bytes utf some plain set = record {
    tokens = record { fits = units-fit m (utf16 bytes) set; pairs = text-pairs m bytes utf };
    some = let n = some-units bytes utf some in let same = some-tokens m (utf16 bytes) in omega (arith, n, same);
    itself = ap (λ (x : Attrs). record { kind = (documents_of s).text; attrs = x; marks = m; body = Text (utf16 bytes) }) (sym plain);
  }

  not-empty : (bytes text : List ℕ) → filled bytes ≡ Ok text → (bytes ≡ text) × ((length text == 0) ≡ false)
  not-empty bytes text h = from (length bytes == 0) refl h
    where
      from : (b : Bool) → (length bytes == 0) ≡ b → cond b (Err EmptyText) (Ok bytes) ≡ Ok text → (bytes ≡ text) × ((length text == 0) ≡ false)
      from true is e = absurd (cc)
      from false is e = let same : bytes ≡ text = cc in (same, subst (λ x. (length x == 0) ≡ false) same is)

  no-attrs : (attrs : List AttrSpec) (vs : Attrs) → attrs ≡ [] → fit_attrs attrs vs ≡ true → vs ≡ []
  no-attrs attrs [] is h = refl
  no-attrs attrs (v ∷ vs) is h = absurd (let none : fit_attrs [] (v ∷ vs) ≡ true = subst (λ x. fit_attrs x (v ∷ vs) ≡ true) is h in cc)

  text-read : (d : Data) (n : Node) → KnownDefaults s → (node_at s (documents_of s).text).attrs ≡ [] → HasTexts d → text_from s d ≡ Ok n → IsRead n
  unfolding text_from
  text-read d n sh plain texts h =
      let t = (documents_of s).text in
      let a = first-read (text_at (codes "text") d) (λ text. filled text >>= λ bytes. attrs_read (node_at s t).attrs (field (codes "attrs") d) >>= λ attrs. marks_of s (field (codes "marks") d) >>= λ marks. Ok (record { kind = t; attrs = attrs; marks = marks; body = Text (utf16 bytes) })) n h in
      let b = first-read (filled a.0) (λ bytes. attrs_read (node_at s t).attrs (field (codes "attrs") d) >>= λ attrs. marks_of s (field (codes "marks") d) >>= λ marks. Ok (record { kind = t; attrs = attrs; marks = marks; body = Text (utf16 bytes) })) n a.1.1 in
      let c = first-read (attrs_read (node_at s t).attrs (field (codes "attrs") d)) (λ attrs. marks_of s (field (codes "marks") d) >>= λ marks. Ok (record { kind = t; attrs = attrs; marks = marks; body = Text (utf16 b.0) })) n b.1.1 in
      let e = first-read (marks_of s (field (codes "marks") d)) (λ marks. Ok (record { kind = t; attrs = c.0; marks = marks; body = Text (utf16 b.0) })) n c.1.1 in
      let made : Node = record { kind = t; attrs = c.0; marks = e.0; body = Text (utf16 b.0) } in
      let same : made ≡ n = cc e.1.1 in
      let w = not-empty a.0 b.0 b.1.0 in
      let utf = subst IsUtf8 w.0 (text-found (codes "text") d a.0 texts a.1.0) in
      let fit = attrs-fit (node_at s t).attrs (field (codes "attrs") d) c.0 (node-defaults s t sh) c.1.0 in
      subst IsRead same (text-made c.0 e.0 b.0 utf w.1 (no-attrs (node_at s t).attrs c.0 plain fit) (marks-read-fit s (field (codes "marks") d) e.0 sh e.1.0))

  -- ---- other nodes

  type-is : (k : ℕ) (a : Attrs) → nat_lt k (length s.nodes) ≡ true → (k == (documents_of s).text) ≡ false → fit_attrs (node_at s k).attrs a ≡ true → type_fits s k a ≡ true
  type-is k a inside no_text fits =
      and_from (nat_lt k (length s.nodes)) (not (k == (documents_of s).text) && fit_attrs (node_at s k).attrs a) inside
      (and_from (not (k == (documents_of s).text)) (fit_attrs (node_at s k).attrs a) (ap not no_text) fits)

  leaf-made : (k : ℕ) (a : Attrs) (m : Marks) → type_fits s k a ≡ true → (documents_of s).is_leaf k ≡ true → marks_fit s m ≡ true → IsRead (record { kind = k; attrs = a; marks = m; body = Childless })
  leaf-made k a m fits leaf set = record {
    tokens = record {
      fits = and_from (is_writable s (Leaf k a m)) true (and_from (type_fits s k a) ((documents_of s).is_leaf k && marks_fit s m) fits (and_from ((documents_of s).is_leaf k) (marks_fit s m) leaf set)) refl;
      pairs = λ at. refl;
    };
    some = omega arith;
    itself = refl;
  }

  branch-made : (k : ℕ) (a : Attrs) (m : Marks) (ts : List Token) → type_fits s k a ≡ true → cond strict (not ((documents_of s).is_leaf k)) true ≡ true → marks_fit s m ≡ true → AreRead ts
      → IsRead (record { kind = k; attrs = a; marks = m; body = Children ts })
  branch-made k a m ts fits may set inner = record {
    tokens = record {
      fits = and_from (fits_by (Open k a m)) (all_by (ts ++ (Close ∷ [])))
          (and_from (type_fits s k a) (cond strict (not ((documents_of s).is_leaf k)) true && marks_fit s m) fits (and_from (cond strict (not ((documents_of s).is_leaf k)) true) (marks_fit s m) may set))
          (all-append ts (Close ∷ []) inner.fits refl);
      pairs = λ at. broken-closed ts (at + 1) None (inner.pairs (at + 1));
    };
    some = omega arith;
    itself = refl;
  }

  -- content of a type that is a leaf's is none, where the test is strict
  body-made : (k : ℕ) (a : Attrs) (m : Marks) (ts : List Token) (leaf : Bool) → (documents_of s).is_leaf k ≡ leaf → type_fits s k a ≡ true → marks_fit s m ≡ true → AreRead ts → ((strict && leaf) ≡ true → ts ≡ [])
      → IsRead (record { kind = k; attrs = a; marks = m; body = body_of s k ts })
  body-made k a m [] true is fits set inner none = subst (λ b. IsRead (record { kind = k; attrs = a; marks = m; body = cond b Childless (Children []) })) (sym is) (leaf-made k a m fits is set)
  body-made k a m [] false is fits set inner none =
      subst (λ b. IsRead (record { kind = k; attrs = a; marks = m; body = cond b Childless (Children []) })) (sym is) (branch-made k a m [] fits (subst (λ b. cond strict (not b) true ≡ true) (sym is) (opens strict)) set inner)
    where
      opens : (b : Bool) → cond b true true ≡ true
      opens true = refl
      opens false = refl
  body-made k a m (t ∷ ts) leaf is fits set inner none =
      branch-made k a m (t ∷ ts) fits (subst (λ b. cond strict (not b) true ≡ true) (sym is) (opens strict leaf (λ e. some (none e)))) set inner
    where
      some : (t ∷ ts) ≡ [] → ⊥
      some e = absurd (cc)

      opens : (b l : Bool) → ((b && l) ≡ true → ⊥) → cond b (not l) true ≡ true
      opens true true f = absurd (f refl)
      opens true false f = refl
      opens false l f = refl

module _ (s : SchemaSpec) (l : LeafContent) (sh : KnownDefaults s) (plain : (node_at s (documents_of s).text).attrs ≡ []) where
  -- the tokens, where content of leaf types is refused or kept as l says
  abbrev Tokens : List Token → Type 0
  Tokens = AreRead s (refuses l)

  content-kept : (k : ℕ) (d : Option Data) (content : Result (List Token) DocReadError) (ts : List Token) (strict leaf : Bool) → ((us : List Token) → content ≡ Ok us → Tokens us) → cond (strict && leaf) (none_at d) content ≡ Ok ts → Tokens ts × ((strict && leaf) ≡ true → ts ≡ [])
  content-kept k d content ts strict leaf inner h = from (strict && leaf) h
    where
      nothing : (o : Option Data) → none_at o ≡ Ok ts → [] ≡ ts
      nothing None e = cc
      nothing (Some x) e = let a = first-read (or_fault Shape (as_array x)) no_nodes ts e in empty a.0 a.1.1
        where
          empty : (ds : Items) → no_nodes ds ≡ Ok ts → [] ≡ ts
          empty no_items g = cc
          empty (item y ys) g = absurd (cc)

      from : (b : Bool) → cond b (none_at d) content ≡ Ok ts → Tokens ts × (b ≡ true → ts ≡ [])
      from true e = let same = nothing d e in (subst Tokens same (none-read s (refuses l)), λ g. sym same)
      from false e = (inner ts e, λ g. absurd (cc))

  branch-read : (k : ℕ) (d : Data) (content : Result (List Token) DocReadError) (n : Node) → nat_lt k (length s.nodes) ≡ true → (k == (documents_of s).text) ≡ false → ((us : List Token) → content ≡ Ok us → Tokens us)
      → branch_from s k d (content_for s l k (field (codes "content") d) content) ≡ Ok n → IsRead s (refuses l) n
  unfolding branch_from
  branch-read k d content n inside no_text inner h =
      let all = content_for s l k (field (codes "content") d) content in
      let a = first-read (attrs_read (node_at s k).attrs (field (codes "attrs") d)) (λ attrs. marks_of s (field (codes "marks") d) >>= λ marks. all >>= λ tokens. Ok (record { kind = k; attrs = attrs; marks = marks; body = body_of s k tokens })) n h in
      let b = first-read (marks_of s (field (codes "marks") d)) (λ marks. all >>= λ tokens. Ok (record { kind = k; attrs = a.0; marks = marks; body = body_of s k tokens })) n a.1.1 in
      let c = first-read all (λ tokens. Ok (record { kind = k; attrs = a.0; marks = b.0; body = body_of s k tokens })) n b.1.1 in
      let made : Node = record { kind = k; attrs = a.0; marks = b.0; body = body_of s k c.0 } in
      let same : made ≡ n = cc c.1.1 in
      let w = content-kept k (field (codes "content") d) content c.0 (refuses l) ((documents_of s).is_leaf k) inner c.1.0 in
      let fit = attrs-fit (node_at s k).attrs (field (codes "attrs") d) a.0 (node-defaults s k sh) a.1.0 in
      subst (IsRead s (refuses l)) same
      (body-made s (refuses l) k a.0 b.0 c.0 ((documents_of s).is_leaf k) refl (type-is s (refuses l) k a.0 inside no_text fit) (marks-read-fit s (field (codes "marks") d) b.0 sh b.1.0) w.0 w.1)

  from-read : (d : Data) (content : Result (List Token) DocReadError) (n : Node) → HasTexts d → ((us : List Token) → content ≡ Ok us → Tokens us) → node_from s l d content ≡ Ok n → IsRead s (refuses l) n
  unfolding node_from
  from-read d content n texts inner h =
      let a = first-read (text_at (codes "type") d) (λ name. or_fault UnknownType (place_of name (names_of_nodes s)) >>= λ kind. made kind) n h in
      let b = first-read (or_fault UnknownType (place_of a.0 (names_of_nodes s))) made n a.1.1 in
      let inside = node-inside s a.0 b.0 (there UnknownType (place_of a.0 (names_of_nodes s)) b.0 b.1.0) in
      pick b.0 inside (b.0 == (documents_of s).text) refl b.1.1
    where
      made : ℕ → Result Node DocReadError
      made kind = cond (kind == (documents_of s).text) (text_from s d) (branch_from s kind d (content_for s l kind (field (codes "content") d) content))

      pick : (k : ℕ) → nat_lt k (length s.nodes) ≡ true → (b : Bool) → (k == (documents_of s).text) ≡ b → cond b (text_from s d) (branch_from s k d (content_for s l k (field (codes "content") d) content)) ≡ Ok n → IsRead s (refuses l) n
      pick k inside true is e = text-read s (refuses l) d n sh plain texts e
      pick k inside false is e = branch-read k d content n inside is inner e

  not-large : (ts us : List Token) → bounded ts ≡ Ok us → ts ≡ us
  not-large ts us h = from (nat_lt (2 ^ 32 - 1) (length ts)) h
    where
      from : (b : Bool) → cond b (Err Large) (Ok ts) ≡ Ok us → ts ≡ us
      from true e = absurd (cc)
      from false e = cc

  mutual
    unfolding node_of

    pub node-read : (d : Data) (n : Node) → HasTexts d → node_of s l d ≡ Ok n → IsRead s (refuses l) n
    node-read null n t h = absurd (cc)
    node-read (boolean b) n t h = absurd (cc)
    node-read (number x) n t h = absurd (cc)
    node-read (string bs) n t h = absurd (cc)
    node-read (array ds) n t h = absurd (cc)
    node-read (object ms) n t h = from-read (object ms) (content_in s l ms) n t (λ us e. content-in-read ms us t e) h

    content-in-read : (ms : Members) (ts : List Token) → AllHaveTexts ms → content_in s l ms ≡ Ok ts → Tokens ts
    content-in-read no_members ts t h = let same : [] ≡ ts = cc in subst Tokens same (none-read s (refuses l))
    content-in-read (member k d ms) ts t h = pick (slice_cmp nat_cmp (codes "content") k) (content_of s l d) (content_in s l ms) (λ e. content-of-read d ts t.0 e) (λ e. content-in-read ms ts t.1 e) h
      where
        pick : (o : Ordering) (r q : Result (List Token) DocReadError) → (r ≡ Ok ts → Tokens ts) → (q ≡ Ok ts → Tokens ts) → match_ordering o q r q ≡ Ok ts → Tokens ts
        pick Less r q f g e = g e
        pick Equal r q f g e = f e
        pick Greater r q f g e = g e

    content-of-read : (d : Data) (ts : List Token) → HasTexts d → content_of s l d ≡ Ok ts → Tokens ts
    content-of-read null ts t h = let same : [] ≡ ts = cc in subst Tokens same (none-read s (refuses l))
    content-of-read (boolean b) ts t h = absurd (cc)
    content-of-read (number x) ts t h = absurd (cc)
    content-of-read (string bs) ts t h = absurd (cc)
    content-of-read (array ds) ts t h =
        let a = first-read (node_list s l ds) bounded ts h in
        subst Tokens (not-large a.0 ts a.1.1) (list-read ds a.0 t a.1.0)
    content-of-read (object ms) ts t h = absurd (cc)

    pub list-read : (ds : Items) (ts : List Token) → EachHasTexts ds → node_list s l ds ≡ Ok ts → Tokens ts
    list-read no_items ts t h = let same : [] ≡ ts = cc in subst Tokens same (none-read s (refuses l))
    list-read (item d ds) ts t h =
        let a = first-read (node_of s l d) (λ first. node_list s l ds >>= λ rest. Ok (node_tokens first ++ rest)) ts h in
        let b = first-read (node_list s l ds) (λ rest. Ok (node_tokens a.0 ++ rest)) ts a.1.1 in
        let same : node_tokens a.0 ++ b.0 ≡ ts = cc b.1.1 in
        let first = node-read d a.0 t.0 a.1.0 in
        let rest = list-read ds b.0 t.1 b.1.0 in
        subst Tokens same (both-read s (refuses l) (node_tokens a.0) b.0 first.tokens rest)
