-- What content the documents of a sound session have, by the grammar of content expressions.
use Rattle.std.specs.Prelude.{◌≡◌, ℕ, List, [], None, Some, slice_get, Ok}
use Rattle.pm_auto.specs.Lang.{In}
use Rattle.pm_tokens.specs.Tokens.{Attrs, Marks, Token, Open, Leaf, Doc}
use Rattle.pm_tokens.specs.Faults.{StandsIn, Valid}
use Rattle.pm_tokens.specs.Kids.{kids}
use Rattle.pm_schema.specs.declared.schema.Schema.{Schema}
use Rattle.pm_schema.specs.declared.spec.SchemaSpec.{SchemaSpec}
use Rattle.pm_schema.specs.Types.{node_at}
use Rattle.pm_schema.specs.Documents.{documents_of}
use Rattle.pm_meaning.specs.Steps.{Step}
use Rattle.pm_meaning.specs.declared.reason.Reason.{Reason}
use Rattle.pm_client.specs.declared.client.Client.{Client}
use Rattle.pm_session.specs.declared.member.Member.TheVariants.{Editor}
use Rattle.pm_head.specs.declared.form.Form.TheVariants as form
use Rattle.pm_script.specs.declared.session.Session.{Session}
use Rattle.pm_script.specs.Sessions.{SessionIs}
use Rattle.pm_call.specs.Playing.{Room, room_after, room_settled}

module _ (spec : SchemaSpec) where
  -- the types of the nodes with which the tokens begin, up to the close that ends them
  abbrev pub types_in : List Token → List ℕ
  types_in tokens = kids (documents_of spec).text 0 None tokens

  -- The children of the top node are in the language of its type's content expression, and so are those of each node. A leaf is
  -- of a type whose language has the empty list.
  pub record IsOfLanguage (d : Doc) : Type 0 where
    pub top : In (node_at spec d.kind).content (types_in d.tokens)
    pub nodes : (before : List Token) (k : ℕ) (a : Attrs) (m : Marks) (behind : List Token)
        → StandsIn d.tokens before (Open k a m) behind → In (node_at spec k).content (types_in behind)
    pub leaves : (before : List Token) (k : ℕ) (a : Attrs) (m : Marks) (behind : List Token)
        → StandsIn d.tokens before (Leaf k a m) behind → In (node_at spec k).content []

  -- Each document that a room holds is so: the authority's first one and its present one, and each editor's base and document.
  pub record RoomIsOfLanguage (s : Room) : Type 0 where
    pub first : IsOfLanguage s.authority.first
    pub doc : IsOfLanguage s.authority.doc
    pub bases : (i : ℕ) (c : Client Step Schema Doc Reason) → slice_get s.members i ≡ Some (Editor c) → IsOfLanguage c.base
    pub docs : (i : ℕ) (c : Client Step Schema Doc Reason) → slice_get s.members i ≡ Some (Editor c) → IsOfLanguage c.doc

-- each valid document is so
abbrev pub ValidIsOfLanguage : SchemaSpec → Type 0
ValidIsOfLanguage spec = (d : Doc) → Valid (documents_of spec) d → IsOfLanguage spec d

-- Of each session that the input is, so is the room after every number of lines, and once its editors have settled.
pub record SessionsAreOfLanguage (input : List ℕ) : Type 0 where
  pub played : (s : Session) → SessionIs form.Plain input (Ok s) → (k : ℕ) → RoomIsOfLanguage s.head.schema.spec (room_after s k)
  pub settled : (s : Session) → SessionIs form.Plain input (Ok s) → RoomIsOfLanguage s.head.schema.spec (room_settled s)
