-- What the tests of a step that changes an attribute, in their order, say of its outcome.
use Rattle.std.specs.Prelude.{◌≡◌, ℕ, ◌+◌, ◌≤◌, ◌<◌, Bool, true, false, nat_le, List, [], ◌∷◌, length, take, drop, Option, Some, None, Result, Ok, Err}
use Rattle.std.proofs.Common.{refl, ap, sym, ◌∙◌, subst}
use Rattle.std.proofs.lemmas.Bool.{le-leb, lt-leb, lt-ltb}
use Rattle.std.proofs.lemmas.List.{take-append-drop}
use Rattle.pm_value.specs.Plain.{Plain, depth}
use Rattle.pm_tokens.specs.Tokens.{Attrs, Marks, Token, Open, Close, Leaf, CodeUnit, Doc, with_tokens}
use Rattle.pm_tokens.specs.Scan.{parts_pair}
use Rattle.pm_tokens.specs.Schemas.{Schema, node_attrs}
use Rattle.pm_tokens.specs.Faults.{Valid}
use Rattle.pm_meaning.specs.declared.reason.Reason.{Reason}
use Rattle.pm_meaning.specs.declared.reason.Reason.TheVariants.{Range, Pair, NoNode, BadValue, Content}
use Rattle.pm_meaning.specs.Steps.{Attr, DocAttr}
use Rattle.pm_meaning.specs.Marked.{starts_node}
use Rattle.pm_meaning.specs.Attributes.{place_among, allows_among, value_at, node_kind, node_values, node_valued, top_valued}
use Rattle.pm_meaning.specs.Inverses.{old_value, attr_back}
use Rattle.pm_meaning.specs.Outcomes.{unless, checked, in_order, parts_no_pair, at_place, attr_outcome, made, outcome}
use Rattle.pm_meaning.proofs.OutcomeLaws.{unless-ok}
use Rattle.pm_meaning.proofs.AttributeLaws.{type-place, node-fit, attr-made}
use Rattle.pm_meaning.proofs.AttributeChecks.{node-checked, top-checked}
use Rattle.pm_replace.proofs.OutcomeAnswers.{passes, fails}
use Rattle.pm_apply.specs.Nodes.{Head, head, head_first, has_place, valued}
use Rattle.pm_apply.specs.Settled.{settled}

-- ---- the node

-- the node that stands first, by its head
pub record IsHead (ts : List Token) (h : Head) : Type 0 where
  pub stands : starts_node ts ≡ true
  pub kind : node_kind ts ≡ h.kind
  pub values : node_values ts ≡ h.attrs

pub is-head : (ts : List Token) (h : Head) → head_first ts ≡ Some h → IsHead ts h
is-head [] h e = absurd (cc)
is-head (Open k a m ∷ ts) h e = let x : head k a m ≡ h = cc in record { stands = refl; kind = ap (λ (z : Head). z.kind) x; values = ap (λ (z : Head). z.attrs) x }
is-head (Close ∷ ts) h e = absurd (cc)
is-head (Leaf k a m ∷ ts) h e = let x : head k a m ≡ h = cc in record { stands = refl; kind = ap (λ (z : Head). z.kind) x; values = ap (λ (z : Head). z.attrs) x }
is-head (CodeUnit u m ∷ ts) h e = absurd (cc)

no-head : (ts : List Token) → head_first ts ≡ None → starts_node ts ≡ false
no-head [] e = refl
no-head (Open k a m ∷ ts) e = absurd (cc)
no-head (Close ∷ ts) e = refl
no-head (Leaf k a m ∷ ts) e = absurd (cc)
no-head (CodeUnit u m ∷ ts) e = refl

-- ---- where the value goes

module _ (s : Schema) (kind : ℕ) (name : List ℕ) (value : Plain) (at : ℕ) where
  -- the check of what is made, where the type has such an attribute that allows the value
  abbrev pub IsChecked : (ℕ → Doc) → Type 0
  IsChecked changed =
      (i : ℕ) → place_among (s.node_declares kind) name ≡ Some i → allows_among (s.node_declares kind) i value ≡ true
      → checked s (changed i) ≡ unless (nat_le (depth value) 4) (Content at) (Ok (changed i))

  abbrev settled_in : Option ℕ → Result ℕ Reason
  settled_in o = at_place o (λ i. unless (allows_among (s.node_declares kind) i value) BadValue (unless (nat_le (depth value) 4) (Content at) (Ok i)))

  -- the outcome, by the place
  abbrev placed : (ℕ → Doc) → Result ℕ Reason → Result Doc Reason
  placed changed (Ok i) = Ok (changed i)
  placed changed (Err r) = Err r

  allowed-outcome : (changed : ℕ → Doc) (i : ℕ) (b : Bool) → (b ≡ true → checked s (changed i) ≡ unless (nat_le (depth value) 4) (Content at) (Ok (changed i)))
      → unless b BadValue (checked s (changed i)) ≡ placed changed (unless b BadValue (unless (nat_le (depth value) 4) (Content at) (Ok i)))
  allowed-outcome changed i false h = refl
  allowed-outcome changed i true h = h refl ∙ by (nat_le (depth value) 4)
    where
      by : (b : Bool) → unless b (Content at) (Ok (changed i)) ≡ placed changed (unless b (Content at) (Ok i))
      by true = refl
      by false = refl

  pub settled-outcome : (changed : ℕ → Doc) → IsChecked changed → attr_outcome s kind name value changed ≡ placed changed (settled s kind name value at)
  settled-outcome changed h = by (place_among (s.node_declares kind) name) refl
    where
      by : (o : Option ℕ) → place_among (s.node_declares kind) name ≡ o
          → at_place o (λ i. unless (allows_among (s.node_declares kind) i value) BadValue (checked s (changed i))) ≡ placed changed (settled_in o)
      by None e = refl
      by (Some i) e = allowed-outcome changed i (allows_among (s.node_declares kind) i value) (h i e)

  pub settled-place : (i : ℕ) → settled s kind name value at ≡ Ok i → place_among (s.node_declares kind) name ≡ Some i
  settled-place i h = by (place_among (s.node_declares kind) name) h
    where
      by : (o : Option ℕ) → settled_in o ≡ Ok i → o ≡ Some i
      by None k = absurd (cc)
      by (Some j) k =
          let u = unless-ok (allows_among (s.node_declares kind) j value) BadValue _ i k in
          let w = unless-ok (nat_le (depth value) 4) (Content at) (Ok j) i u.1 in
          let e : j ≡ i = cc in
          ap Some e

-- ---- of a node

module _ (s : Schema) (pos : ℕ) (name : List ℕ) (value : Plain) (d : Doc) where
  pub attr-refused : length d.tokens < pos → made s (Attr pos name value) d ≡ Err Range
  attr-refused h = fails (in_order (pos ∷ []) (length d.tokens)) Range _ (lt-leb pos (length d.tokens) h)

  module _ (i : pos ≤ length d.tokens) where
    to-pair : made s (Attr pos name value) d
        ≡ unless (parts_no_pair d.tokens (pos ∷ [])) Pair (unless (starts_node (drop pos d.tokens)) NoNode (attr_outcome s (node_kind (drop pos d.tokens)) name value (λ j. node_valued j value pos d)))
    to-pair = passes (in_order (pos ∷ []) (length d.tokens)) Range _ (le-leb pos (length d.tokens) i)

    pub attr-paired : parts_pair d.tokens pos ≡ true → made s (Attr pos name value) d ≡ Err Pair
    attr-paired p = let e : parts_no_pair d.tokens (pos ∷ []) ≡ false = rw p refl in to-pair ∙ fails (parts_no_pair d.tokens (pos ∷ [])) Pair _ e

    module _ (p : parts_pair d.tokens pos ≡ false) where
      to-node : made s (Attr pos name value) d ≡ unless (starts_node (drop pos d.tokens)) NoNode (attr_outcome s (node_kind (drop pos d.tokens)) name value (λ j. node_valued j value pos d))
      to-node = let e : parts_no_pair d.tokens (pos ∷ []) ≡ true = rw p refl in to-pair ∙ passes (parts_no_pair d.tokens (pos ∷ [])) Pair _ e

      pub attr-missing : head_first (drop pos d.tokens) ≡ None → made s (Attr pos name value) d ≡ Err NoNode
      attr-missing e = to-node ∙ fails (starts_node (drop pos d.tokens)) NoNode _ (no-head (drop pos d.tokens) e)

      module _ (v : Valid s d) (h : Head) (e : head_first (drop pos d.tokens) ≡ Some h) where
        here : IsHead (drop pos d.tokens) h
        here = is-head (drop pos d.tokens) h e

        fit : node_attrs s (node_kind (drop pos d.tokens)) (node_values (drop pos d.tokens)) ≡ true
        fit = node-fit s d (take pos d.tokens) (drop pos d.tokens) v (sym (take-append-drop pos d.tokens)) here.stands

        to-place : made s (Attr pos name value) d ≡ placed s h.kind name value (pos + 1) (λ j. node_valued j value pos d) (settled s h.kind name value (pos + 1))
        to-place =
            to-node ∙ (passes (starts_node (drop pos d.tokens)) NoNode _ here.stands
            ∙ (settled-outcome s (node_kind (drop pos d.tokens)) name value (pos + 1) (λ j. node_valued j value pos d)
            (λ j f w. node-checked s d pos j name value v i here.stands f w fit)
            ∙ ap (λ k. placed s h.kind name value (pos + 1) (λ j. node_valued j value pos d) (settled s k name value (pos + 1))) here.kind))

        pub attr-fails : (r : Reason) → settled s h.kind name value (pos + 1) ≡ Err r → made s (Attr pos name value) d ≡ Err r
        attr-fails r k = to-place ∙ ap (placed s h.kind name value (pos + 1) (λ j. node_valued j value pos d)) k

        pub attr-settles : (j : ℕ) → settled s h.kind name value (pos + 1) ≡ Ok j → made s (Attr pos name value) d ≡ Ok (with_tokens d (valued j value pos d.tokens))
        attr-settles j k = to-place ∙ ap (placed s h.kind name value (pos + 1) (λ j. node_valued j value pos d)) k

        pub attr-place : (j : ℕ) → settled s h.kind name value (pos + 1) ≡ Ok j → j < length h.attrs
        attr-place j k =
            let f = settled-place s h.kind name value (pos + 1) j k in
            let l = type-place (s.node_declares h.kind) (node_values (drop pos d.tokens)) name j (ap (λ z. node_attrs s z (node_values (drop pos d.tokens))) (sym here.kind) ∙ fit) f in
            subst (λ z. j < length z) here.values l

-- ---- of the top node

module _ (s : Schema) (name : List ℕ) (value : Plain) (d : Doc) (v : Valid s d) where
  top-place : made s (DocAttr name value) d ≡ placed s d.kind name value 0 (λ j. top_valued j value d) (settled s d.kind name value 0)
  top-place = settled-outcome s d.kind name value 0 (λ j. top_valued j value d) (λ j f w. top-checked s d j name value v f w)

  pub doc-fails : (r : Reason) → settled s d.kind name value 0 ≡ Err r → made s (DocAttr name value) d ≡ Err r
  doc-fails r k = top-place ∙ ap (placed s d.kind name value 0 (λ j. top_valued j value d)) k

  pub doc-settles : (j : ℕ) → settled s d.kind name value 0 ≡ Ok j → made s (DocAttr name value) d ≡ Ok (top_valued j value d)
  doc-settles j k = top-place ∙ ap (placed s d.kind name value 0 (λ j. top_valued j value d)) k

  pub doc-place : (j : ℕ) → settled s d.kind name value 0 ≡ Ok j → j < length d.attrs
  doc-place j k = type-place (s.node_declares d.kind) d.attrs name j v.top_attrs (settled-place s d.kind name value 0 j k)

-- ---- the old value

-- the value among these
pub old-is : (s : Schema) (kind : ℕ) (name : List ℕ) (values : Attrs) (o : Option ℕ) → place_among (s.node_declares kind) name ≡ o → value_at values o ≡ old_value s kind name values
old-is s kind name values o e = ap (value_at values) (sym e)

-- what takes an attr step back, by the head of the node
pub back-is : (s : Schema) (pos : ℕ) (name : List ℕ) (d : Doc) (h : Head) → head_first (drop pos d.tokens) ≡ Some h → Attr pos name (old_value s h.kind name h.attrs) ≡ attr_back s pos name d
back-is s pos name d h e =
    let w = is-head (drop pos d.tokens) h e in
    sym (ap (λ k. Attr pos name (old_value s k name (node_values (drop pos d.tokens)))) w.kind ∙ ap (λ a. Attr pos name (old_value s h.kind name a)) w.values)

-- the node of an attr step that applies
pub head-there : (s : Schema) (pos : ℕ) (name : List ℕ) (value : Plain) (d next : Doc) → Valid s d → outcome s (Attr pos name value) d ≡ Ok next → head_first (drop pos d.tokens) ≡ None → ⊥
head-there s pos name value d next v h e =
    let x : true ≡ false = sym (attr-made s pos name value d next v h).stands ∙ no-head (drop pos d.tokens) e in
    cc

pub head-fit : (s : Schema) (pos : ℕ) (d : Doc) (h : Head) → Valid s d → head_first (drop pos d.tokens) ≡ Some h → node_attrs s h.kind h.attrs ≡ true
head-fit s pos d h v e =
    let w = is-head (drop pos d.tokens) h e in
    let f = node-fit s d (take pos d.tokens) (drop pos d.tokens) v (sym (take-append-drop pos d.tokens)) w.stands in
    ap (λ k. node_attrs s k h.attrs) (sym w.kind) ∙ (ap (λ a. node_attrs s (node_kind (drop pos d.tokens)) a) (sym w.values) ∙ f)

-- that node has an attribute at the place that the value goes to
pub has-place : (ts : List Token) (h : Head) (i : ℕ) → head_first ts ≡ Some h → i < length h.attrs → has_place i (head_first ts) ≡ true
has-place ts h i e l = ap (has_place i) e ∙ lt-ltb i (length h.attrs) l

-- the document whose top node has other attributes
pub top-made : (kind : ℕ) (a a' : Attrs) (m m' : Marks) (ts ts' : List Token) → a' ≡ a → m' ≡ m → ts' ≡ ts
    → (let made : Doc = record { kind = kind; attrs = a'; marks = m'; tokens = ts' } in let same : Doc = record { kind = kind; attrs = a; marks = m; tokens = ts } in made ≡ same)
top-made kind a a' m m' ts ts' p q r = rw (p, q, r) refl
