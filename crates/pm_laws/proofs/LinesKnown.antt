-- The schema of a session knows the marks and the steps that its lines name.
use Rattle.std.specs.List.{AllByRecursion as Each}
use Rattle.std.specs.Prelude.{codes, Option, Some, None, Result, Ok, Err, MatchBool, nat_lt, if◌then◌else◌}
use Rattle.std.proofs.Common.{◌≡◌, ℕ, ◌+◌, Bool, true, false, cond, List, [], ◌∷◌, ◌++◌, length, drop, refl, sym, subst, ◌∙◌}
use Rattle.serde_json.specs.Data.{Data, Items, no_items, item}
use Rattle.serde_json.specs.Find.{get, as_array}
use Rattle.pm_list.specs.Readings.{◌>>=◌, or_fault}
use Rattle.pm_marks.specs.declared.mark.Mark.{Mark}
use Rattle.pm_tokens.specs.Tokens.{Attrs, Doc}
use Rattle.pm_schema.specs.declared.schema.Schema.{Schema}
use Rattle.pm_schema.specs.declared.spec.SchemaSpec.{SchemaSpec}
use Rattle.pm_schema.specs.Documents.{documents_of}
use Rattle.pm_schemajson.proofs.ShallowTypes.{spec-shallow}
use Rattle.pm_docjson.specs.declared.fault.DocReadError.{DocReadError}
use Rattle.pm_docjson.specs.Reading.{mark_of}
use Rattle.pm_docjson.proofs.ReadAttrs.{KnownDefaults, known-defaults}
use Rattle.pm_meaning.specs.Steps as steps
use Rattle.pm_meaning.specs.Known.{knows_mark, knows_step}
use Rattle.pm_step.specs.Steps.{step_of, as_step}
use Rattle.pm_stepjson.specs.declared.fault.StepReadError.{StepReadError}
use Rattle.pm_stepjson.specs.Reading.{step_read}
use Rattle.pm_ops.specs.declared.op.Op.{Op}
use Rattle.pm_head.specs.declared.form.Form.{Form}
use Rattle.pm_head.specs.declared.code.Code.{Code}
use Rattle.pm_head.specs.declared.code.Code.TheVariants.{InputTooLong, TooManyLines, WrongEnter, WrongShape, UnknownName}
use Rattle.pm_head.specs.declared.fault.Refusal.{Refusal}
use Rattle.pm_head.specs.declared.clients.ClientEntry.{ClientEntry}
use Rattle.pm_head.specs.declared.reading.Head.{Head}
use Rattle.pm_head.specs.Refusals.{refused}
use Rattle.pm_head.specs.Schemas.{OfValue, SchemaIs}
use Rattle.pm_head.specs.Clients.{clients_line}
use Rattle.pm_head.specs.Heads.{with_clients, AfterDoc, AfterSchema, HeadIs}
use Rattle.pm_head.specs.Lines.{lines_of, json_line}
use Rattle.pm_opjson.specs.declared.kinds.EditKind.{EditKind}
use Rattle.pm_opjson.specs.declared.kinds.EditKind.TheVariants as kind
use Rattle.pm_opjson.specs.Codes.{coded, node_coded}
use Rattle.pm_opjson.specs.Fields.{number_in, text_in, depth_in, lost_in, side_in, event_in}
use Rattle.pm_opjson.specs.Ops.{op_of, text_op, delete_op, split_op, join_op, lift_op, attr_op, doc_attr_op, step_op, paste_op, insert_op, wrap_op, set_type_op, add_mark_op, remove_mark_op}
use Rattle.pm_opjson.specs.Parts.{value_in, step_from, step_list, steps_in, step_in, slice_in, node_in, mark_in, type_in, attrs_in}
use Rattle.pm_opjson.specs.Words.{says, edit_named}
use Rattle.pm_session.specs.declared.line.Act.{Act}
use Rattle.pm_session.specs.declared.line.Act.TheVariants.{Edit, Undo, Redo, UndoEvent, Cursor, Submit, Ask, Present, Take, Push, Pull, Forge, Enter}
use Rattle.pm_session.specs.declared.line.Line.{Line}
use Rattle.pm_script.specs.declared.session.Session.{Session}
use Rattle.pm_script.specs.declared.session.TheConstants.{MAX_INPUT}
use Rattle.pm_script.specs.Acts.{edit_in, cursor_in, forge_in, act_in}
use Rattle.pm_script.specs.Entrants.{all_enter}
use Rattle.pm_script.specs.Lines.{client_in, word_in, said, turned, named, op_in, op_line}
use Rattle.pm_script.specs.Sessions.{at_line, ops_of, with_ops, behind_head, SessionOf, SessionIs}
use Rattle.pm_script.specs.Words.{exchange_named, or_word, says_enter, word_named}
use Rattle.pm_script.proofs.Came.{then-ok, unless-ok, line-ok, when-ok}
use Rattle.pm_laws.specs.NoneUnknown.{KnowsOp}
use Rattle.pm_laws.proofs.ReadKnown.{ok_of, from-ok, mark-known, step-known}

coded-ok : {A : Type 0} (r : Result A StepReadError) (x : A) → coded r ≡ Ok x → r ≡ Ok x
coded-ok (Ok y) x h = cc
coded-ok (Err e) x h = absurd (cc)

node-coded-ok : {A : Type 0} (r : Result A DocReadError) (x : A) → node_coded r ≡ Ok x → r ≡ Ok x
node-coded-ok (Ok y) x h = cc
node-coded-ok (Err e) x h = absurd (cc)

module _ (s : SchemaSpec) where
  abbrev pub KnownStep : steps.Step → Type 0
  KnownStep c = knows_step (documents_of s) c ≡ true

  -- what an act names
  abbrev pub KnowsAct : Act Op steps.Step → Type 0
  KnowsAct (Edit o event) = KnowsOp (documents_of s) o
  KnowsAct (Forge version given) = Each KnownStep given
  KnowsAct Undo = Unit {0}
  KnowsAct Redo = Unit {0}
  KnowsAct (UndoEvent number) = Unit {0}
  KnowsAct (Cursor p side) = Unit {0}
  KnowsAct Submit = Unit {0}
  KnowsAct Ask = Unit {0}
  KnowsAct (Present j) = Unit {0}
  KnowsAct (Take n) = Unit {0}
  KnowsAct (Push lost) = Unit {0}
  KnowsAct (Pull lost) = Unit {0}
  KnowsAct Enter = Unit {0}

module _ (s : SchemaSpec) (sh : KnownDefaults s) where
  -- ---- ops

  abbrev Knows : Op → Type 0
  Knows o = KnowsOp (documents_of s) o

  as-known : (c : steps.Step) → KnownStep s c → KnownStep s (step_of (as_step c))
  as-known (steps.Replace from to slice structure) h = h
  as-known (steps.ReplaceAround from to gap_from gap_to slice insert structure) h = h
  as-known (steps.AddMark from to mark) h = h
  as-known (steps.RemoveMark from to mark) h = h
  as-known (steps.AddNodeMark pos mark) h = h
  as-known (steps.RemoveNodeMark pos mark) h = h
  as-known (steps.Attr pos name value) h = refl
  as-known (steps.DocAttr name value) h = refl

  mark-in-known : (d : Data) (m : Mark Attrs) → mark_in s d ≡ Ok m → knows_mark (documents_of s) m ≡ true
  mark-in-known d m h =
      let a = then-ok (or_fault WrongShape (get (codes "mark") d)) (λ v. node_coded (mark_of s v)) m h in
      mark-known s sh a.0 m (node-coded-ok (mark_of s a.0) m a.2)

  op-known : (k : EditKind) (d : Data) (o : Op) → op_of s k d ≡ Ok o → Knows o
  unfolding text_op delete_op split_op join_op lift_op attr_op doc_attr_op step_op paste_op insert_op wrap_op set_type_op add_mark_op remove_mark_op
  op-known kind.Step d o h =
      let a = then-ok (step_in s d) _ o h in
      let b = then-ok (or_fault WrongShape (get (codes "step") d)) (step_from s) a.0 a.1 in
      let c = then-ok (coded (step_read s b.0)) _ a.0 b.2 in
      subst Knows (from-ok _ o a.2)
      (subst (λ z. KnownStep s (step_of z)) (from-ok _ a.0 c.2) (as-known c.0 (step-known s sh b.0 c.0 (coded-ok (step_read s b.0) c.0 c.1))))
  op-known kind.Text d o h =
      let a = then-ok (number_in (codes "from") d) _ o h in
      let b = then-ok (number_in (codes "to") d) _ o a.2 in
      let c = then-ok (text_in (codes "text") d) _ o b.2 in
      subst Knows (from-ok _ o c.2) tt
  op-known kind.Delete d o h =
      let a = then-ok (number_in (codes "from") d) _ o h in
      let b = then-ok (number_in (codes "to") d) _ o a.2 in
      subst Knows (from-ok _ o b.2) tt
  op-known kind.Paste d o h =
      let a = then-ok (number_in (codes "from") d) _ o h in
      let b = then-ok (number_in (codes "to") d) _ o a.2 in
      let c = then-ok (slice_in s d) _ o b.2 in
      subst Knows (from-ok _ o c.2) tt
  op-known kind.Insert d o h =
      let a = then-ok (number_in (codes "pos") d) _ o h in
      let b = then-ok (node_in s d) _ o a.2 in
      subst Knows (from-ok _ o b.2) tt
  op-known kind.Split d o h =
      let a = then-ok (number_in (codes "pos") d) _ o h in
      let b = then-ok (depth_in d) _ o a.2 in
      subst Knows (from-ok _ o b.2) tt
  op-known kind.Join d o h =
      let a = then-ok (number_in (codes "pos") d) _ o h in
      let b = then-ok (depth_in d) _ o a.2 in
      subst Knows (from-ok _ o b.2) tt
  op-known kind.Wrap d o h =
      let a = then-ok (number_in (codes "from") d) _ o h in
      let b = then-ok (number_in (codes "to") d) _ o a.2 in
      let c = then-ok (type_in s d) _ o b.2 in
      let e = then-ok (attrs_in s c.0 d) _ o c.2 in
      subst Knows (from-ok _ o e.2) tt
  op-known kind.Lift d o h =
      let a = then-ok (number_in (codes "pos") d) _ o h in
      subst Knows (from-ok _ o a.2) tt
  op-known kind.SetType d o h =
      let a = then-ok (number_in (codes "pos") d) _ o h in
      let c = then-ok (type_in s d) _ o a.2 in
      let e = then-ok (attrs_in s c.0 d) _ o c.2 in
      subst Knows (from-ok _ o e.2) tt
  op-known kind.AddMark d o h =
      let a = then-ok (number_in (codes "from") d) _ o h in
      let b = then-ok (number_in (codes "to") d) _ o a.2 in
      let c = then-ok (mark_in s d) _ o b.2 in
      subst Knows (from-ok _ o c.2) (mark-in-known d c.0 c.1)
  op-known kind.RemoveMark d o h =
      let a = then-ok (number_in (codes "from") d) _ o h in
      let b = then-ok (number_in (codes "to") d) _ o a.2 in
      let c = then-ok (mark_in s d) _ o b.2 in
      subst Knows (from-ok _ o c.2) (mark-in-known d c.0 c.1)
  op-known kind.Attr d o h =
      let a = then-ok (number_in (codes "pos") d) _ o h in
      let b = then-ok (text_in (codes "attr") d) _ o a.2 in
      let c = then-ok (value_in d) _ o b.2 in
      subst Knows (from-ok _ o c.2) tt
  op-known kind.DocAttr d o h =
      let b = then-ok (text_in (codes "attr") d) _ o h in
      let c = then-ok (value_in d) _ o b.2 in
      subst Knows (from-ok _ o c.2) tt

  -- ---- acts

  edit-known : (k : EditKind) (d : Data) (act : Act Op steps.Step) → edit_in s k d ≡ Ok act → KnowsAct s act
  unfolding edit_in
  edit-known k d act h =
      let a = then-ok (op_of s k d) _ act h in
      let b = then-ok (event_in d) _ act a.2 in
      subst (KnowsAct s) (from-ok _ act b.2) (op-known k d a.0 a.1)

  list-known : (ds : Items) (given : List steps.Step) → step_list s ds ≡ Ok given → Each (KnownStep s) given
  unfolding step_list
  list-known no_items given h = subst (Each (KnownStep s)) (from-ok _ given h) tt
  list-known (item d ds) given h =
      let a = then-ok (coded (step_read s d)) _ given h in
      let b = then-ok (step_list s ds) _ given a.2 in
      subst (Each (KnownStep s)) (from-ok _ given b.2) (step-known s sh d a.0 (coded-ok (step_read s d) a.0 a.1), list-known ds b.0 b.1)

  forge-known : (d : Data) (act : Act Op steps.Step) → forge_in s d ≡ Ok act → KnowsAct s act
  unfolding forge_in steps_in
  forge-known d act h =
      let a = then-ok (number_in (codes "version") d) _ act h in
      let b = then-ok (steps_in s d) _ act a.2 in
      let c = then-ok (or_fault WrongShape (get (codes "steps") d)) _ b.0 b.1 in
      let e = then-ok (or_fault WrongShape (as_array c.0)) _ b.0 c.2 in
      subst (KnowsAct s) (from-ok _ act b.2) (list-known e.0 b.0 e.2)

  cursor-known : (d : Data) (act : Act Op steps.Step) → cursor_in d ≡ Ok act → KnowsAct s act
  unfolding cursor_in
  cursor-known d act h =
      let a = then-ok (number_in (codes "pos") d) _ act h in
      let b = then-ok (side_in d) _ act a.2 in
      subst (KnowsAct s) (from-ok _ act b.2) tt

  -- ---- words, which stand for acts

  module _ {W : Type 0} (acts : W → Result (Act Op steps.Step) Code) where
    abbrev WordKnown : Option W → Type 0
    WordKnown o = (w : W) (act : Act Op steps.Step) → o ≡ Some w → acts w ≡ Ok act → KnowsAct s act

    some-known : (w : W) → ((act : Act Op steps.Step) → acts w ≡ Ok act → KnowsAct s act) → WordKnown (Some w)
    some-known w h v act e k = let same : w ≡ v = cc in h act (subst (λ z. acts z ≡ Ok act) (sym same) k)

    none-known : WordKnown None
    none-known v act e k = absurd (cc)

    if-known : (b : Bool) (x y : Option W) → WordKnown x → WordKnown y → WordKnown (cond b x y)
    if-known true x y h k = h
    if-known false x y h k = k

  ok-known : (made act : Act Op steps.Step) → KnowsAct s made → ok_of Code made ≡ ok_of Code act → KnowsAct s act
  ok-known made act k h = subst (KnowsAct s) (from-ok made act h) k

  one-known : {X : Type 0} (r : Result X Code) (make : X → Act Op steps.Step) (act : Act Op steps.Step) → ((x : X) → KnowsAct s (make x)) → (r >>= (λ x. Ok (make x))) ≡ Ok act → KnowsAct s act
  one-known r make act k h = let a = then-ok r (λ x. Ok (make x)) act h in subst (KnowsAct s) (from-ok (make a.0) act a.2) (k a.0)

  exchange-known : (text : List ℕ) (d : Data) → WordKnown (λ w. act_in s w d) (exchange_named text)
  exchange-known text d =
      if-known (λ w. act_in s w d) (says text (codes "submit")) _ _ (some-known (λ w. act_in s w d) _ (λ act h. ok-known Submit act tt h))
      (if-known (λ w. act_in s w d) (says text (codes "ask")) _ _ (some-known (λ w. act_in s w d) _ (λ act h. ok-known Ask act tt h))
      (if-known (λ w. act_in s w d) (says text (codes "present")) _ _ (some-known (λ w. act_in s w d) _ (λ act h. one-known (number_in (codes "message") d) (λ n. Present n) act (λ n. tt) h))
      (if-known (λ w. act_in s w d) (says text (codes "take")) _ _ (some-known (λ w. act_in s w d) _ (λ act h. one-known (number_in (codes "answer") d) (λ n. Take n) act (λ n. tt) h))
      (if-known (λ w. act_in s w d) (says text (codes "push")) _ _ (some-known (λ w. act_in s w d) _ (λ act h. one-known (lost_in d) (λ lost. Push lost) act (λ n. tt) h))
      (if-known (λ w. act_in s w d) (says text (codes "pull")) _ _ (some-known (λ w. act_in s w d) _ (λ act h. one-known (lost_in d) (λ lost. Pull lost) act (λ n. tt) h))
      (if-known (λ w. act_in s w d) (says text (codes "forge")) _ _ (some-known (λ w. act_in s w d) _ (λ act h. forge-known d act h)) (none-known (λ w. act_in s w d))))))))

  or-known : (d : Data) (o : Option EditKind) (other : _) → WordKnown (λ w. act_in s w d) other → WordKnown (λ w. act_in s w d) (or_word o other)
  or-known d None other h = h
  or-known d (Some k) other h = some-known (λ w. act_in s w d) _ (λ act e. edit-known k d act e)

  word-known : (form : Form) (text : List ℕ) (d : Data) → WordKnown (λ w. act_in s w d) (word_named form text)
  word-known form text d =
      or-known d (edit_named text) _
      (if-known (λ w. act_in s w d) (says text (codes "undo")) _ _ (some-known (λ w. act_in s w d) _ (λ act h. ok-known Undo act tt h))
      (if-known (λ w. act_in s w d) (says text (codes "redo")) _ _ (some-known (λ w. act_in s w d) _ (λ act h. ok-known Redo act tt h))
      (if-known (λ w. act_in s w d) (says text (codes "undoevent")) _ _ (some-known (λ w. act_in s w d) _ (λ act h. one-known (number_in (codes "event") d) (λ n. UndoEvent n) act (λ n. tt) h))
      (if-known (λ w. act_in s w d) (says text (codes "cursor")) _ _ (some-known (λ w. act_in s w d) _ (λ act h. cursor-known d act h))
      (if-known (λ w. act_in s w d) (says_enter form text) _ _ (some-known (λ w. act_in s w d) _ (λ act h. ok-known Enter act tt h)) (exchange-known text d))))))

  -- ---- lines

  abbrev KnowsLine : Line Op steps.Step → Type 0
  KnowsLine l = KnowsAct s l.act

  op-in-known : (form : Form) (clients : List ClientEntry) (earlier : List (Line Op steps.Step)) (n : ℕ) (d : Data) (l : Line Op steps.Step) → op_in form s clients earlier n d ≡ Ok l → KnowsLine l
  unfolding op_in
  op-in-known form clients earlier n d l h =
      let a = then-ok (client_in clients d) _ l h in
      let b = then-ok (word_in form d) _ l a.2 in
      let c = then-ok (said clients earlier a.0 b.0) _ l b.2 in
      let e = then-ok (turned clients earlier a.0 c.0) _ l c.2 in
      let f = then-ok (act_in s e.0 d) _ l e.2 in
      let g = then-ok (named earlier a.0 f.0) _ l f.2 in
      let text = then-ok (text_in (codes "op") d) (λ text. or_fault UnknownName (word_named form text)) b.0 b.1 in
      let allowed : b.0 ≡ c.0 = (when-ok _ b.0 c.0 _ c.1).1 in
      let due : c.0 ≡ e.0 = (when-ok _ c.0 e.0 _ e.1).1 in
      let is : f.0 ≡ g.0 = (when-ok _ f.0 g.0 _ g.1).1 in
      let read : act_in s b.0 d ≡ Ok f.0 = subst (λ w. act_in s w d ≡ Ok f.0) (sym (allowed ∙ due)) f.1 in
      let known : KnowsAct s f.0 = word-known form text.0 d b.0 f.0 (found UnknownName (word_named form text.0) b.0 text.2) read in
      subst KnowsLine (from-ok _ l g.2) (subst (KnowsAct s) is known)
    where
      found : {A : Type 0} (e : Code) (o : Option A) (x : A) → or_fault e o ≡ Ok x → o ≡ Some x
      found e None x h = absurd (cc)
      found e (Some y) x h = cc

  line-known : (form : Form) (clients : List ClientEntry) (earlier : List (Line Op steps.Step)) (n : ℕ) (line : List ℕ) (l : Line Op steps.Step) → op_line form s clients earlier n line ≡ Ok l → KnowsLine l
  unfolding op_line
  line-known form clients earlier n line l h =
      let a = then-ok (json_line line) (λ d. op_in form s clients earlier n d) l (unless-ok _ TooManyLines _ l h) in
      op-in-known form clients earlier n a.0 l a.2

  pub ops-known : (form : Form) (clients : List ClientEntry) (earlier : List (Line Op steps.Step)) (n : ℕ) (lines : List (List ℕ)) (ops : List (Line Op steps.Step)) → ops_of form s clients earlier n lines ≡ Ok ops → Each KnowsLine ops
  unfolding ops_of
  ops-known form clients earlier n [] ops h = subst (Each KnowsLine) (from-ok _ ops h) tt
  ops-known form clients earlier n (line ∷ rest) ops h =
      let a = then-ok (at_line n (op_line form s clients earlier n line)) _ ops h in
      let b = then-ok (ops_of form s clients (earlier ++ a.0 ∷ []) (n + 1) rest) _ ops a.2 in
      subst (Each KnowsLine) (from-ok _ ops b.2)
      (line-known form clients earlier n line a.0 (line-ok n (op_line form s clients earlier n line) a.0 a.1), ops-known form clients (earlier ++ a.0 ∷ []) (n + 1) rest b.0 b.1)

-- ---- the session's schema

abbrev a_head : Head → Result Head Refusal
a_head h = Ok h

abbrev Good : Head → Type 0
Good h = KnownDefaults h.schema.spec

with-good : (s : Schema) (doc : Doc) (r : Result (List ClientEntry) Code) (h : Head) → KnownDefaults s.spec → a_head h ≡ with_clients s doc r → Good h
with-good s doc (Ok cs) h b e = let is : record { schema = s; doc = doc; clients = cs } ≡ h = cc in subst (λ (x : Head). Good x) is b
with-good s doc (Err code) h b e = absurd (cc)

module _ (form : Form) where
  after-doc : (s : Schema) (doc : Result Doc Code) (lines : List (List ℕ)) (h : Head) → KnownDefaults s.spec → AfterDoc form s doc lines (Ok h) → Good h
  after-doc s (Err code) lines h b e = absurd (cc)
  after-doc s (Ok doc) [] h b e = absurd (cc)
  after-doc s (Ok doc) (line ∷ lines) h b e = with-good s doc (clients_line form line) h b e

  after-schema : (v : Result Data Code) (r : Result Schema Code) (lines : List (List ℕ)) (h : Head) → OfValue SchemaIs v r → AfterSchema form r lines (Ok h) → Good h
  after-schema v (Err code) lines h f e = absurd (cc)
  after-schema v (Ok s) [] h f e = absurd (cc)
  after-schema (Err code) (Ok s) (line ∷ lines) h f e = absurd (cc)
  after-schema (Ok d) (Ok s) (line ∷ lines) h f e = after-doc s e.0 lines h (known-defaults s (spec-shallow d s.spec f.0)) e.2

  head-good : (lines : List (List ℕ)) (h : Head) → HeadIs form lines (Ok h) → Good h
  head-good [] h e = absurd (cc)
  head-good (line ∷ lines) h e = after-schema (json_line line) e.0 lines h e.1 e.2

  abbrev a_session : Session → Result Session Refusal
  a_session s = Ok s

  -- the lines of a session, and what its schema knows of defaults
  pub record LinesKnown (s : Session) : Type 0 where
    pub defaults : KnownDefaults s.head.schema.spec
    pub lines : Each (λ (l : Line Op steps.Step). KnowsAct s.head.schema.spec l.act) s.lines

  with-known : (h : Head) (r : Result (List (Line Op steps.Step)) Refusal) (s : Session) (good : Good h)
      → ((ops : List (Line Op steps.Step)) → r ≡ Ok ops → Each (λ (l : Line Op steps.Step). KnowsAct h.schema.spec l.act) ops) → with_ops h r ≡ Ok s → LinesKnown s
  with-known h (Ok ops) s good known e =
      let made : record { head = h; lines = ops } ≡ s = cc in
      subst LinesKnown made (record { defaults = good; lines = known ops refl })
  with-known h (Err refusal) s good known e = absurd (cc)

  if-ok : (b : Bool) (r : Result Session Refusal) (refusal : Refusal) (s : Session) → (if b then r else Err refusal) ≡ Ok s → r ≡ Ok s
  if-ok true r refusal s h = h
  if-ok false r refusal s h = absurd (cc)

  of-known : (lines : List (List ℕ)) (s : Session) → SessionOf form lines (Ok s) → LinesKnown s
  of-known lines s h = by h.0 h.1 h.2
    where
      by : (head : Result Head Refusal) → HeadIs form lines head → a_session s ≡ behind_head form head (drop 3 lines) → LinesKnown s
      by (Err refusal) is e = absurd (cc)
      by (Ok head) is e =
          let ops = ops_of form head.schema.spec head.clients [] 4 (drop 3 lines) in
          let read = if-ok (all_enter head.clients (drop 3 lines)) (with_ops head ops) (refused 3 WrongEnter) s (sym e) in
          let good = head-good lines head is in
          with-known head ops s good (λ found are. ops-known head.schema.spec good form head.clients [] 4 (drop 3 lines) found are) read

  pub session-known : (input : List ℕ) (s : Session) → SessionIs form input (Ok s) → LinesKnown s
  session-known input s h = by (nat_lt MAX_INPUT (length input)) h
    where
      by : (b : Bool) → MatchBool b (a_session s ≡ Err (refused 0 InputTooLong)) (SessionOf form (lines_of input) (Ok s)) → LinesKnown s
      by true h = absurd (cc)
      by false h = of-known (lines_of input) s h
