-- The content of the documents of a sound session is in the languages of the types' content expressions.
use Rattle.std.proofs.Common.{◌≡◌, ℕ, true, ◌&&◌, not, ◌==◌, List, [], refl}
use Rattle.std.proofs.lemmas.Bool.{and_parts}
use Rattle.std.specs.Prelude.{None}
use Rattle.pm_auto.specs.Lang.{In}
use Rattle.pm_auto.specs.declared.expr.Expr.{Expr, Empty, One, Choice', Seq', Plus', Star', Opt', Range'}
use Rattle.pm_auto.proofs.AcceptLaws.{fits-is}
use Rattle.pm_tokens.specs.Tokens.{Open, Leaf}
use Rattle.pm_tokens.specs.Kids.{kids}
use Rattle.pm_schema.specs.declared.schema.Schema.{Schema}
use Rattle.pm_schema.specs.declared.spec.SchemaSpec.{SchemaSpec}
use Rattle.pm_schema.specs.Types.{node_at, is_empty}
use Rattle.pm_schema.specs.Documents.{documents_of}
use Rattle.pm_apply.specs.Changes.{meaning}
use Rattle.pm_session.specs.Holding.{RoomHolds}
use Rattle.pm_call.specs.Playing.{Room, room_after, room_settled}
use Rattle.pm_call.proofs.Reports.{all_sound}
use Rattle.pm_laws.specs.Contents.{types_in, RoomIsOfLanguage, ValidIsOfLanguage, SessionsAreOfLanguage}

-- an expression without parts has the empty list alone
empty-in : (e : Expr) → is_empty e ≡ true → In e []
empty-in Empty h = refl
empty-in (One t) h = absurd (cc)
empty-in (Choice' n es) h = absurd (cc)
empty-in (Seq' n es) h = absurd (cc)
empty-in (Plus' p e) h = absurd (cc)
empty-in (Star' p e) h = absurd (cc)
empty-in (Opt' p e) h = absurd (cc)
empty-in (Range' p e n m) h = absurd (cc)

module _ (spec : SchemaSpec) where
  accepts-in : (k : ℕ) (w : List ℕ) → (documents_of spec).accepts k w ≡ true → In (node_at spec k).content w
  unfolding documents_of
  accepts-in k w h = (fits-is (node_at spec k).content w).0 h

  leaf-in : (k : ℕ) → (documents_of spec).is_leaf k ≡ true → In (node_at spec k).content []
  unfolding documents_of
  leaf-in k h = empty-in (node_at spec k).content h

  pub valid-is : ValidIsOfLanguage spec
  valid-is d v = record {
    top = accepts-in d.kind (types_in spec d.tokens) v.top_content;
    nodes = λ before k a m behind at.
        let s = documents_of spec in
        accepts-in k (types_in spec behind)
        (and_parts (not (k == s.text) && not (s.is_leaf k)) (s.accepts k (kids s.text 0 None behind)) (v.content before (Open k a m) behind at)).1;
    leaves = λ before k a m behind at.
        let s = documents_of spec in
        leaf-in k (and_parts (not (k == s.text)) (s.is_leaf k) (v.content before (Leaf k a m) behind at)).1;
  }

room-is : (schema : Schema) (s : Room) → RoomHolds meaning schema s → RoomIsOfLanguage schema.spec s
room-is schema s h = record {
  first = valid-is schema.spec s.authority.first h.authority.first_good;
  doc = valid-is schema.spec s.authority.doc h.authority.good;
  bases = λ i c at. valid-is schema.spec c.base (h.clients i c at).1.base_good;
  docs = λ i c at. valid-is schema.spec c.doc (h.clients i c at).1.doc_good;
}

pub sessions-are : (input : List ℕ) → SessionsAreOfLanguage input
sessions-are input = record {
  played = λ s is k. room-is s.head.schema (room_after s k) ((all_sound input s is).played k);
  settled = λ s is. room-is s.head.schema (room_settled s) (all_sound input s is).settled;
}
