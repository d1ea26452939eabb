-- The types that a value lists make a schema, or there is a first cause why not, which has a code.
use Rattle.std.proofs.Common.{◌≡◌, ◌<◌, ◌≤◌, ◌⊎◌, ℕ, zero, suc, List, [], ◌∷◌, length, map, Bool, true, false, not, ◌&&◌, get_or, inl, inr, refl, ap, sym, ◌∙◌, subst, arith}
use Rattle.std.specs.Prelude.{Option, Some, None, is_some, codes, Result, Ok, Err}
use Rattle.std.specs.Str.{bytes_eq}
use Rattle.std.proofs.lemmas.Bool.{cases_lt}
use Rattle.serde_json.specs.Data.{Data}
use Rattle.pm_auto.specs.declared.expr.Expr.{Expr}
use Rattle.pm_auto.specs.declared.auto.Auto.{Auto}
use Rattle.pm_auto.specs.declared.error.AutoError.TheVariants.{Mixed, TooWide}
use Rattle.pm_auto.specs.Types.{types, one_is, Is_mixed}
use Rattle.pm_auto.specs.Expand.{expand}
use Rattle.pm_auto.specs.Trim.{trimmed}
use Rattle.pm_auto.specs.Table.{width, rows}
use Rattle.pm_auto.specs.States.{start_of, Too_many}
use Rattle.pm_auto.specs.Built.{Is_fault}
use Rattle.pm_schema.specs.declared.spec.NodeSpec.{NodeSpec}
use Rattle.pm_schema.specs.declared.spec.SchemaSpec.{SchemaSpec}
use Rattle.pm_schema.specs.declared.schema.Schema.{Schema}
use Rattle.pm_schema.specs.declared.error.SchemaError.TheVariants as build
use Rattle.pm_schema.specs.Names.{place_of}
use Rattle.pm_schema.specs.Types.{names_of_nodes, names_of_marks, node_at, is_version}
use Rattle.pm_schema.specs.Contents.{All_run}
use Rattle.pm_schema.specs.Made.{can_be_made, can_wrap}
use Rattle.pm_schema.specs.MarkTexts.{allowed_row, exclude_table}
use Rattle.pm_schema.specs.Defaults.{nodes_have_kinds, marks_have_kinds}
use Rattle.pm_schema.specs.Generated.{IsAutoOf, AutosOf, IsGeneratable, Finishing, AllFinishing, DeadState, FirstDeadEnd}
use Rattle.pm_schema.specs.Refusals.{has_top, has_text, is_plain_text, has_types, has_double_name, knows_marks, inline_table, HasAutomata, IsNamed}
use Rattle.pm_schemajson.specs.declared.error.SchemaReadError.TheVariants.{Schema as Unbuilt}
use Rattle.pm_schemajson.specs.Contents.{schema_of}
use Rattle.pm_schemajson.specs.Views.{types_of_spec}
use Rattle.pm_node.proofs.FillLaws.{same-entry}
use Rattle.pm_head.specs.declared.code.Code.{Code}
use Rattle.pm_head.specs.declared.code.Code.TheVariants.{MixedOrWide, NoSchema, DeadEnd}
use Rattle.pm_head.specs.Schemas.{SchemaIs}
use Rattle.pm_laws.proofs.AutosThere.{Automaton, auto-or, never-both}
use Rattle.pm_laws.proofs.EndsThere.{FirstBad, first-bad, dead-or}
use Rattle.pm_laws.proofs.MadeThere.{HaveAutos, auto-runs, table-there, table-is}

-- ---- a content has an automaton, or one is refused

record HasAuto (e : Expr) (inline : List Bool) : Type 0 where
  auto : Auto
  of_content : IsAutoOf e auto
  pure : Is_fault e inline Mixed → ⊥
  narrow : Is_fault e inline TooWide → ⊥

abbrev IsFaulty : Expr → List Bool → Type 0
IsFaulty e inline = Is_fault e inline Mixed ⊎ Is_fault e inline TooWide

module _ (e : Expr) (inline : List Bool) where
  not-wide : Automaton (rows 0 (trimmed e)) (start_of (trimmed e)) → width (expand e) ≤ 4096 → (4096 < width (expand e)) ⊎ Too_many (rows 0 (trimmed e)) (start_of (trimmed e)) → ⊥
  not-wide a w (inl l) = omega (arith, w, l)
  not-wide a w (inr m) = never-both (rows 0 (trimmed e)) (start_of (trimmed e)) a m

  by-width : (Is_mixed e inline → ⊥) → (4096 < width (expand e)) ⊎ (width (expand e) ≤ 4096) → Automaton (rows 0 (trimmed e)) (start_of (trimmed e)) ⊎ Too_many (rows 0 (trimmed e)) (start_of (trimmed e))
      → HasAuto e inline ⊎ IsFaulty e inline
  by-width pure (inl w) a = inr (inr (pure, inl w))
  by-width pure (inr w) (inr m) = inr (inr (pure, inr m))
  by-width pure (inr w) (inl a) = inl (record { auto = a.0; of_content = a.1; pure = pure; narrow = λ f. not-wide a w f.1 })

  unmixed : (Is_mixed e inline → ⊥) → HasAuto e inline ⊎ IsFaulty e inline
  unmixed pure = by-width pure (cases_lt 4096 (width (expand e))) (auto-or (rows 0 (trimmed e)) (start_of (trimmed e)))

  content-or : HasAuto e inline ⊎ IsFaulty e inline
  content-or = at (one_is inline true (types e)) (one_is inline false (types e)) refl refl
    where
      at : (b c : Bool) → one_is inline true (types e) ≡ b → one_is inline false (types e) ≡ c → HasAuto e inline ⊎ IsFaulty e inline
      at true true p q = inr (inl (p, q))
      at false c p q = unmixed (λ m. let z : true ≡ false = sym m.0 ∙ p in absurd (cc))
      at true false p q = unmixed (λ m. let z : true ≡ false = sym m.1 ∙ q in absurd (cc))

-- ---- the automata as a list

record AutosAre (nodes : List NodeSpec) (autos : List Auto) : Type 0 where
  full : length autos ≡ length nodes
  of_types : AutosOf nodes autos
  run : All_run nodes autos

entries : (n : NodeSpec) (ns : List NodeSpec) (a : Auto) (as' : List Auto) → IsAutoOf n.content a → AutosOf ns as' → AutosOf (n ∷ ns) (a ∷ as')
entries n ns a as' h rest zero d l = h
entries n ns a as' h rest (suc k) d l = rest k d (omega (arith, l))

all-autos : (nodes : List NodeSpec) → HaveAutos nodes → (autos : List Auto) × AutosAre nodes autos
all-autos [] have = ([], record { full = refl; of_types = λ k d l. absurd (omega (arith, l)); run = tt })
all-autos (n ∷ ns) have =
    let a = have 0 (omega arith) in
    let rest = all-autos ns (λ k l. have (suc k) (omega (arith, l))) in
    (a.0 ∷ rest.0, record { full = ap suc rest.1.full; of_types = entries n ns a.0 rest.0 a.1 rest.1.of_types; run = (auto-runs n.content a.0 a.1, rest.1.run) })

-- no type has a dead end, or one is the first that has
ends-or : (nodes : List NodeSpec) (autos : List Auto) (table : List Bool) → length autos ≡ length nodes → AutosOf nodes autos → IsGeneratable nodes table → AllFinishing table autos ⊎ ((k : ℕ) × FirstDeadEnd nodes k)
ends-or nodes [] table full each g = inl (λ k d l. absurd (omega (arith, l)))
ends-or nodes (a ∷ as') table full each g =
    at (first-bad (λ k. DeadState table (get_or (a ∷ as') k a)) (λ k. Finishing table (get_or (a ∷ as') k a)) (length (a ∷ as')) (λ k l. dead-or table (get_or (a ∷ as') k a)))
  where
    at : ((k : ℕ) → k < length (a ∷ as') → Finishing table (get_or (a ∷ as') k a)) ⊎ FirstBad (λ k. DeadState table (get_or (a ∷ as') k a)) (λ k. Finishing table (get_or (a ∷ as') k a)) (length (a ∷ as'))
        → AllFinishing table (a ∷ as') ⊎ ((k : ℕ) × FirstDeadEnd nodes k)
    at (inl all) = inl (λ k d l. subst (Finishing table) (same-entry (a ∷ as') k a d l) (all k l))
    at (inr b) = inr (
      b.number,
      record {
        table = table;
        generatable = g;
        inside = let l = b.inside in omega (arith, l, full);
        dead = record { auto = get_or (a ∷ as') b.number a; of_content = each b.number a b.inside; dead = b.bad };
        before = λ j m. record { auto = get_or (a ∷ as') j a; of_content = each j a (let l = b.inside in omega (arith, m, l)); live = b.before j m };
      },
    )

-- ---- a schema of its parts

-- what the reading of a spec sees to
pub record IsWell (s : SchemaSpec) : Type 0 where
  pub version : is_version s.version ≡ true
  pub nodes : nodes_have_kinds s ≡ true
  pub marks : marks_have_kinds s ≡ true

there : (o : Option ℕ) → is_some o ≡ true → (n : ℕ) × (o ≡ Some n)
there None h = absurd (cc)
there (Some n) h = (n, refl)

-- what the test of the types asks for
asked : (other top text plain : Bool) → (other && top) && (text && plain) ≡ true → (top ≡ true) × (text ≡ true) × (plain ≡ true)
asked true true true true h = (refl, refl, refl)
asked true true true false h = absurd (cc)
asked true true false plain h = absurd (cc)
asked true false text plain h = absurd (cc)
asked false top text plain h = absurd (cc)

pub both : (b c : Bool) → b ≡ true → c ≡ true → b && c ≡ true
both true c e f = f
both false c e f = absurd (cc)

module _ (s : SchemaSpec) (well : IsWell s) (named : IsNamed s) where
  types-asked : (is_some (place_of s.top (names_of_nodes s)) ≡ true) × (has_text s ≡ true) × (is_plain_text s ≡ true)
  types-asked = asked (not (bytes_eq (codes "text") s.top)) (is_some (place_of s.top (names_of_nodes s))) (has_text s) (is_plain_text s) named.types

  top-there : (top : ℕ) × (place_of s.top (names_of_nodes s) ≡ Some top)
  top-there = there (place_of s.top (names_of_nodes s)) types-asked.0

  text-there : (text : ℕ) × (place_of (codes "text") (names_of_nodes s) ≡ Some text)
  text-there = there (place_of (codes "text") (names_of_nodes s)) types-asked.1

  schema-with : (autos : List Auto) → AutosAre s.nodes autos → (table : List Bool) → table ≡ map can_be_made s.nodes → AllFinishing table autos → Schema
  schema-with autos are table makes live = record {
    spec = s;
    node_names = names_of_nodes s;
    mark_names = names_of_marks s;
    top = top-there.0;
    text = text-there.0;
    autos = autos;
    allowed = map (allowed_row s) s.nodes;
    rules = exclude_table s;
    generatable = table;
    may_wrap = map can_wrap s.nodes;
    nodes_named = refl;
    marks_named = refl;
    names_differ = named.differ;
    top_named = top-there.1;
    text_named = text-there.1;
    text_plain = types-asked.2;
    full = are.full;
    runs = are.run;
    allows = refl;
    excludes = refl;
    makes = makes;
    never_stuck = λ k d t l m no. no (live k d l t m);
    wraps = refl;
    versioned = well.version;
    node_defaults = well.nodes;
    mark_defaults = well.marks;
  }

-- ---- a schema, or the first cause why there is none

module _ (d : Data) (s : SchemaSpec) (written : schema_of d ≡ Ok (types_of_spec s)) (well : IsWell s) where
  abbrev Outcome : Type 0
  Outcome = (r : Result Schema Code) × SchemaIs d r

  by-ends : IsNamed s → HasAutomata s → HaveAutos s.nodes → Outcome
  unfolding schema-with
  by-ends named have autos = at (ends-or s.nodes (all-autos s.nodes autos).0 (table-there s.nodes autos).0 (all-autos s.nodes autos).1.full (all-autos s.nodes autos).1.of_types (table-there s.nodes autos).1)
    where
      at : AllFinishing (table-there s.nodes autos).0 (all-autos s.nodes autos).0 ⊎ ((k : ℕ) × FirstDeadEnd s.nodes k) → Outcome
      at (inr x) = (Err DeadEnd, (Unbuilt (build.DeadEnd x.0), record { spec = s; written = written; refused = (named, have, x.1) }, refl))
      at (inl live) =
          let l = all-autos s.nodes autos in
          let g = table-there s.nodes autos in
          let full = l.1.full in
          let makes = table-is s.nodes g.0 g.1 (λ k i. let a = (autos k i).0 in let m : k < length l.0 = omega (arith, i, full) in record { auto = get_or l.0 k a; of_content = l.1.of_types k a m; live = live k a m }) in
          (Ok (schema-with s well named l.0 l.1 g.0 makes live), (written, record { named = named; have = have; automata = l.1.of_types; generatable = g.1; live = live }))

  by-autos : IsNamed s → Outcome
  by-autos named =
      at (first-bad (λ k. IsFaulty (node_at s k).content (inline_table s)) (λ k. HasAuto (node_at s k).content (inline_table s)) (length s.nodes) (λ k l. content-or (node_at s k).content (inline_table s)))
    where
      by : (b : FirstBad (λ k. IsFaulty (node_at s k).content (inline_table s)) (λ k. HasAuto (node_at s k).content (inline_table s)) (length s.nodes)) → IsFaulty (node_at s b.number).content (inline_table s) → Outcome
      by b (inl f) = (
        Err MixedOrWide,
        (
          Unbuilt (build.Content Mixed),
          record {
            spec = s;
            written = written;
            refused = (named, record { kind = b.number; inside = b.inside; fault = f; before = λ j m. record { pure = (b.before j m).pure; narrow = (b.before j m).narrow } });
          },
          refl,
        ),
      )
      by b (inr f) = (
        Err MixedOrWide,
        (
          Unbuilt (build.Content TooWide),
          record {
            spec = s;
            written = written;
            refused = (named, record { kind = b.number; inside = b.inside; fault = f; before = λ j m. record { pure = (b.before j m).pure; narrow = (b.before j m).narrow } });
          },
          refl,
        ),
      )

      at : ((k : ℕ) → k < length s.nodes → HasAuto (node_at s k).content (inline_table s)) ⊎ FirstBad (λ k. IsFaulty (node_at s k).content (inline_table s)) (λ k. HasAuto (node_at s k).content (inline_table s)) (length s.nodes) → Outcome
      at (inl all) = by-ends named (λ k l. record { pure = (all k l).pure; narrow = (all k l).narrow }) (λ k l. ((all k l).auto, (all k l).of_content))
      at (inr b) = by b b.bad

  by-marks : has_types s ≡ true → has_double_name s ≡ false → (b : Bool) → knows_marks s ≡ b → Outcome
  by-marks t n false e = (Err NoSchema, (Unbuilt build.UnknownMark, record { spec = s; written = written; refused = (t, n, e) }, refl))
  by-marks t n true e = by-autos (record { types = t; differ = n; marks = e })

  by-names : has_types s ≡ true → (b : Bool) → has_double_name s ≡ b → Outcome
  by-names t true e = (Err NoSchema, (Unbuilt build.DoubleName, record { spec = s; written = written; refused = (t, e) }, refl))
  by-names t false e = by-marks t e (knows_marks s) refl

  by-plain : has_top s ≡ true → has_text s ≡ true → (b : Bool) → is_plain_text s ≡ b → Outcome
  by-plain p q false e = (Err NoSchema, (Unbuilt build.TextAttrs, record { spec = s; written = written; refused = (p, q, e) }, refl))
  by-plain p q true e = by-names (both (has_top s) (has_text s && is_plain_text s) p (both (has_text s) (is_plain_text s) q e)) (has_double_name s) refl

  by-text : has_top s ≡ true → (b : Bool) → has_text s ≡ b → Outcome
  by-text p false e = (Err NoSchema, (Unbuilt build.NoText, record { spec = s; written = written; refused = (p, e) }, refl))
  by-text p true e = by-plain p e (is_plain_text s) refl

  by-top : (b : Bool) → has_top s ≡ b → Outcome
  by-top false e = (Err NoSchema, (Unbuilt build.NoTop, record { spec = s; written = written; refused = e }, refl))
  by-top true e = by-text e (has_text s) refl

  pub schema-or-not : Outcome
  schema-or-not = by-top (has_top s) refl
