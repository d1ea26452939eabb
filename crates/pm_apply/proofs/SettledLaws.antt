-- Where a value of an attribute goes, by what the schema says of the type; and the old value.
use Rattle.std.specs.Prelude.{◌≡◌, ℕ, zero, suc, ◌<◌, true, nat_lt, nat_le, map, List, [], ◌∷◌, length, slice_index_or, Option, Some, None, Result, Ok, Err}
use Rattle.std.proofs.Common.{refl, ap, sym, ◌∙◌, arith}
use Rattle.std.proofs.lemmas.Bool.{lt-ltb}
use Rattle.pm_value.specs.Plain.{Plain, null, depth}
use Rattle.pm_value.specs.Kinds.{is_allowed}
use Rattle.pm_value.specs.Views.{plain, plains}
use Rattle.pm_value.specs.declared.value.Value.{Value}
use Rattle.pm_tokens.specs.Tokens.{Attrs}
use Rattle.pm_tokens.specs.Schemas.{Declared, attr_place, node_attrs}
use Rattle.pm_schema.specs.declared.spec.AttrSpec.{AttrSpec}
use Rattle.pm_schema.specs.declared.spec.SchemaSpec.{SchemaSpec}
use Rattle.pm_schema.specs.Attrs.{no_attr}
use Rattle.pm_schema.specs.Types.{node_at, declared}
use Rattle.pm_schema.specs.Documents.{documents_of}
use Rattle.pm_meaning.specs.declared.reason.Reason.{Reason}
use Rattle.pm_meaning.specs.declared.reason.Reason.TheVariants.{NoAttribute, BadValue, Content}
use Rattle.pm_meaning.specs.Attributes.{place_among, allows_at, allows_among, value_at}
use Rattle.pm_meaning.specs.Inverses.{old_value}
use Rattle.pm_meaning.specs.Outcomes.{unless, at_place}
use Rattle.pm_meaning.proofs.AttributeLaws.{type-place}
use Rattle.pm_apply.specs.Settled.{settled}

-- what a type of the schema declares
pub declares-known : (s : SchemaSpec) (k : ℕ) → k < length s.nodes → (documents_of s).node_declares k ≡ Some (map declared (node_at s k).attrs)
unfolding documents_of
declares-known s k h = let e : nat_lt k (length s.nodes) ≡ true = lt-ltb k (length s.nodes) h in rw e refl

allows-is : (attrs : List AttrSpec) (i : ℕ) (v : Plain) → i < length attrs → allows_at (map declared attrs) i v ≡ is_allowed (slice_index_or attrs i no_attr).validate v
allows-is [] i v h = absurd (omega (arith, h))
allows-is (a ∷ attrs) zero v h = refl
allows-is (a ∷ attrs) (suc i) v h = allows-is attrs i v (omega (arith, h))

module _ (s : SchemaSpec) (k : ℕ) (known : k < length s.nodes) (name : List ℕ) (v : Plain) (at : ℕ) where
  abbrev attrs : List AttrSpec
  attrs = (node_at s k).attrs

  abbrev in_type : Option (List Declared) → Result ℕ Reason
  in_type o = at_place (place_among o name) (λ i. unless (allows_among o i v) BadValue (unless (nat_le (depth v) 4) (Content at) (Ok i)))

  by-type : settled (documents_of s) k name v at ≡ in_type (Some (map declared attrs))
  by-type = ap in_type (declares-known s k known)

  pub settle-none : None ≡ attr_place name (map declared attrs) → Err NoAttribute ≡ settled (documents_of s) k name v at
  settle-none e = sym (by-type ∙ ap (λ o. at_place o (λ i. unless (allows_at (map declared attrs) i v) BadValue (unless (nat_le (depth v) 4) (Content at) (Ok i)))) (sym e))

  pub settle-some : (i : ℕ) → Some i ≡ attr_place name (map declared attrs) → i < length attrs
      → unless (is_allowed (slice_index_or attrs i no_attr).validate v) BadValue (unless (nat_le (depth v) 4) (Content at) (Ok i)) ≡ settled (documents_of s) k name v at
  settle-some i e l =
      sym (by-type ∙ (ap (λ o. at_place o (λ i. unless (allows_at (map declared attrs) i v) BadValue (unless (nat_le (depth v) 4) (Content at) (Ok i)))) (sym e)
      ∙ ap (λ b. unless b BadValue (unless (nat_le (depth v) 4) (Content at) (Ok i))) (allows-is attrs i v l)))

-- ---- the old value

plain-at : (vs : List Value) (i : ℕ) (d : Value) → i < length vs → plain (slice_index_or vs i d) ≡ slice_index_or (plains vs) i null
plain-at [] i d h = absurd (omega (arith, h))
plain-at (v ∷ vs) zero d h = refl
plain-at (v ∷ vs) (suc i) d h = plain-at vs i d (omega (arith, h))

module _ (s : SchemaSpec) (k : ℕ) (known : k < length s.nodes) (name : List ℕ) (values : Attrs) where
  abbrev named : Option ℕ
  named = attr_place name (map declared (node_at s k).attrs)

  by-place : old_value (documents_of s) k name values ≡ value_at values named
  by-place = ap (λ o. value_at values (place_among o name)) (declares-known s k known)

  pub old-none : None ≡ named → null ≡ old_value (documents_of s) k name values
  old-none e = sym (by-place ∙ ap (value_at values) (sym e))

  pub old-some : (i : ℕ) (vs : List Value) (d : Value) → Some i ≡ named → plains vs ≡ values → i < length vs → plain (slice_index_or vs i d) ≡ old_value (documents_of s) k name values
  old-some i vs d e p l = plain-at vs i d l ∙ (ap (λ z. slice_index_or z i null) p ∙ sym (by-place ∙ ap (value_at values) (sym e)))

  -- the place is one of theirs, where they fit
  pub named-inside : (i : ℕ) → Some i ≡ named → node_attrs (documents_of s) k values ≡ true → i < length values
  named-inside i e f = type-place ((documents_of s).node_declares k) values name i f (ap (λ o. place_among o name) (declares-known s k known) ∙ sym e)
