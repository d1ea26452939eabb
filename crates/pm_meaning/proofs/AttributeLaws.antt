-- Steps that change an attribute: what of a document they leave as it was, and that their inverses give it back.
use Rattle.std.specs.Prelude.{◌≡◌, ℕ, zero, suc, ◌+◌, ◌≤◌, ◌<◌, Bool, true, false, ◌&&◌, not, nat_le, List, [], ◌∷◌, ◌++◌, length, take, drop, slice_index_or, Option, Some, None, Result, Ok}
use Rattle.std.specs.Str.{bytes_eq}
use Rattle.std.proofs.lemmas.Bool.{leb-true, le-leb, and_parts, and_from}
use Rattle.std.proofs.lemmas.List.{take-append-drop, take_at, drop_at, set-set, set-get_or}
use Rattle.std.proofs.lemmas.List.Quantifiers.{position-Some}
use Rattle.std.proofs.Common.{refl, ap, sym, ◌∙◌, subst, arith, length-take, length-append}
use Rattle.pm_value.specs.Plain.{Plain, null, depth}
use Rattle.pm_value.specs.Kinds.{is_allowed}
use Rattle.pm_tokens.specs.Tokens.{Attrs, Token, Open, Close, Leaf, CodeUnit, Doc, with_tokens}
use Rattle.pm_tokens.specs.Schemas.{Schema, Declared, takes, fit_declared, fit_type, node_attrs, attr_place}
use Rattle.pm_tokens.specs.Scan.{unclosed, unmet, is_whole, ends_high, starts_low, parts_pair}
use Rattle.pm_tokens.specs.Marks.{have_attrs}
use Rattle.pm_tokens.specs.Faults.{Valid}
use Rattle.pm_tokens.proofs.ScanLaws.{unclosed-append, unmet-append, whole-of, of-whole}
use Rattle.pm_meaning.specs.declared.reason.Reason.{Reason}
use Rattle.pm_meaning.specs.declared.reason.Reason.TheVariants.{Range, Pair, NoNode, BadValue}
use Rattle.pm_meaning.specs.Steps.{Attr, DocAttr}
use Rattle.pm_meaning.specs.Marked.{starts_node}
use Rattle.pm_meaning.specs.Attributes.{place_among, allows_at, allows_among, value_at, node_kind, node_values, with_node_value, node_valued, top_valued}
use Rattle.pm_meaning.specs.Outcomes.{unless, checked, in_order, parts_no_pair, at_place, attr_outcome, outcome}
use Rattle.pm_meaning.specs.Inverses.{attr_back, doc_attr_back}
use Rattle.pm_meaning.proofs.OutcomeLaws.{unless-ok, ok-unless, made-ok, known-made, checked-ok, valid-checks, checks-valid}
use Rattle.pm_meaning.proofs.ReplaceLaws.{no-pair-at}

-- ---- the declared attribute

-- values that fit are one for each attribute, and each is allowed there
pub fit-length : (as' : List Declared) (values : Attrs) → fit_declared as' values ≡ true → length values ≡ length as'
fit-length [] [] h = refl
fit-length [] (v ∷ values) h = absurd (cc)
fit-length (a ∷ as') [] h = absurd (cc)
fit-length (a ∷ as') (v ∷ values) h = ap suc (fit-length as' values (and_parts (takes a v) (fit_declared as' values) h).1)

fit-allows : (as' : List Declared) (values : Attrs) (i : ℕ) → fit_declared as' values ≡ true → i < length as' → allows_at as' i (slice_index_or values i null) ≡ true
fit-allows [] values i h l = absurd (omega (arith, l))
fit-allows (a ∷ as') [] i h l = absurd (cc)
fit-allows (a ∷ as') (v ∷ values) zero h l = (and_parts (nat_le (depth v) 4) (is_allowed a.kinds v) (and_parts (takes a v) (fit_declared as' values) h).0).1
fit-allows (a ∷ as') (v ∷ values) (suc i) h l = fit-allows as' values i (and_parts (takes a v) (fit_declared as' values) h).1 (omega (arith, l))

pub place-below : (as' : List Declared) (name : List ℕ) (i : ℕ) → attr_place name as' ≡ Some i → i < length as'
place-below [] name i e = absurd (cc)
place-below (a ∷ as') name i e = (position-Some (λ b. bytes_eq name b.name) (a ∷ as') i a e).0

pub type-place : (o : Option (List Declared)) (values : Attrs) (name : List ℕ) (i : ℕ) → fit_type o values ≡ true → place_among o name ≡ Some i → i < length values
type-place None values name i h e = absurd (cc)
type-place (Some as') values name i h e = omega (arith, fit-length as' values h, place-below as' name i e)

pub type-allows : (o : Option (List Declared)) (values : Attrs) (name : List ℕ) (i : ℕ) → fit_type o values ≡ true → place_among o name ≡ Some i → allows_among o i (slice_index_or values i null) ≡ true
type-allows None values name i h e = absurd (cc)
type-allows (Some as') values name i h e = fit-allows as' values i h (place-below as' name i e)

-- ---- outcomes

-- where an attribute gets its value
pub record Settled (s : Schema) (kind : ℕ) (name : List ℕ) (value : Plain) (changed : ℕ → Doc) (next : Doc) : Type 0 where
  pub place : ℕ
  pub found : place_among (s.node_declares kind) name ≡ Some place
  pub allowed : allows_among (s.node_declares kind) place value ≡ true
  pub checks : checked s (changed place) ≡ Ok next
  pub is : next ≡ changed place

module _ (s : Schema) (kind : ℕ) (name : List ℕ) (value : Plain) (changed : ℕ → Doc) where
  abbrev rest : ℕ → Result Doc Reason
  rest i = unless (allows_among (s.node_declares kind) i value) BadValue (checked s (changed i))

  pub settled : (next : Doc) → attr_outcome s kind name value changed ≡ Ok next → Settled s kind name value changed next
  settled next h = by (place_among (s.node_declares kind) name) refl h
    where
      by : (o : Option ℕ) → place_among (s.node_declares kind) name ≡ o → at_place o rest ≡ Ok next → Settled s kind name value changed next
      by None e k = absurd (cc)
      by (Some i) e k =
          let u = unless-ok (allows_among (s.node_declares kind) i value) BadValue (checked s (changed i)) next k in
          record { place = i; found = e; allowed = u.0; checks = u.1; is = (checked-ok s (changed i) next u.1).0 }

  pub settles : (i : ℕ) (next : Doc) → place_among (s.node_declares kind) name ≡ Some i → allows_among (s.node_declares kind) i value ≡ true → checked s (changed i) ≡ Ok next → attr_outcome s kind name value changed ≡ Ok next
  settles i next e a h = ap (λ o. at_place o rest) e ∙ ok-unless (allows_among (s.node_declares kind) i value) BadValue (checked s (changed i)) next a h

-- ---- tokens with another value

module _ (i : ℕ) (value : Plain) where
  valued-length : (r : List Token) → length (with_node_value i value r) ≡ length r
  valued-length [] = refl
  valued-length (Open k a m ∷ ts) = refl
  valued-length (Close ∷ ts) = refl
  valued-length (Leaf k a m ∷ ts) = refl
  valued-length (CodeUnit u m ∷ ts) = refl

  valued-unclosed : (ps : List ℕ) (r : List Token) → unclosed ps (with_node_value i value r) ≡ unclosed ps r
  valued-unclosed ps [] = refl
  valued-unclosed ps (Open k a m ∷ ts) = refl
  valued-unclosed ps (Close ∷ ts) = refl
  valued-unclosed ps (Leaf k a m ∷ ts) = refl
  valued-unclosed ps (CodeUnit u m ∷ ts) = refl

  valued-unmet : (d : ℕ) (r : List Token) → unmet d (with_node_value i value r) ≡ unmet d r
  valued-unmet d [] = refl
  valued-unmet d (Open k a m ∷ ts) = refl
  valued-unmet d (Close ∷ ts) = refl
  valued-unmet d (Leaf k a m ∷ ts) = refl
  valued-unmet d (CodeUnit u m ∷ ts) = refl

  valued-starts : (r : List Token) → starts_node (with_node_value i value r) ≡ starts_node r
  valued-starts [] = refl
  valued-starts (Open k a m ∷ ts) = refl
  valued-starts (Close ∷ ts) = refl
  valued-starts (Leaf k a m ∷ ts) = refl
  valued-starts (CodeUnit u m ∷ ts) = refl

  valued-kind : (r : List Token) → node_kind (with_node_value i value r) ≡ node_kind r
  valued-kind [] = refl
  valued-kind (Open k a m ∷ ts) = refl
  valued-kind (Close ∷ ts) = refl
  valued-kind (Leaf k a m ∷ ts) = refl
  valued-kind (CodeUnit u m ∷ ts) = refl

  pub valued-size : (a r : List Token) → length (a ++ with_node_value i value r) ≡ length (a ++ r)
  valued-size a r = length-append a (with_node_value i value r) ∙ (ap (λ z. length a + z) (valued-length r) ∙ sym (length-append a r))

  -- with the old value again
  valued-back : (r : List Token) → with_node_value i (slice_index_or (node_values r) i null) (with_node_value i value r) ≡ r
  valued-back [] = refl
  valued-back (Open k a m ∷ ts) = ap (λ z. Open k z m ∷ ts) (set-set a i value (slice_index_or a i null) ∙ set-get_or a i null)
  valued-back (Close ∷ ts) = refl
  valued-back (Leaf k a m ∷ ts) = ap (λ z. Leaf k z m ∷ ts) (set-set a i value (slice_index_or a i null) ∙ set-get_or a i null)
  valued-back (CodeUnit u m ∷ ts) = refl

  valued-whole : (a r : List Token) → is_whole (a ++ r) ≡ true → is_whole (a ++ with_node_value i value r) ≡ true
  valued-whole a r h =
      let w = whole-of (a ++ r) h in
      of-whole (a ++ with_node_value i value r) (record {
        met = unmet-append [] a (with_node_value i value r) ∙ (ap (λ z. unmet 0 a + z) (valued-unmet (length (unclosed [] a)) r) ∙ (sym (unmet-append [] a r) ∙ w.met));
        ended = unclosed-append [] a (with_node_value i value r) ∙ (valued-unclosed (unclosed [] a) r ∙ (sym (unclosed-append [] a r) ∙ w.ended));
      })

node-no-low : (r : List Token) → starts_node r ≡ true → starts_low r ≡ false
node-no-low [] h = absurd (cc)
node-no-low (Open k a m ∷ ts) h = refl
node-no-low (Close ∷ ts) h = absurd (cc)
node-no-low (Leaf k a m ∷ ts) h = refl
node-no-low (CodeUnit u m ∷ ts) h = absurd (cc)

and-false : (b : Bool) → (b && false) ≡ false
and-false true = refl
and-false false = refl

-- a node in a valid document has values that fit
pub node-fit : (s : Schema) (d : Doc) (a r : List Token) → Valid s d → d.tokens ≡ a ++ r → starts_node r ≡ true → node_attrs s (node_kind r) (node_values r) ≡ true
node-fit s d a [] v e h = absurd (cc)
node-fit s d a (Open k x m ∷ ts) v e h = (and_parts (node_attrs s k x) (have_attrs s m) (v.attrs a (Open k x m) ts e)).0
node-fit s d a (Close ∷ ts) v e h = absurd (cc)
node-fit s d a (Leaf k x m ∷ ts) v e h = (and_parts (node_attrs s k x) (have_attrs s m) (v.attrs a (Leaf k x m) ts e)).0
node-fit s d a (CodeUnit u m ∷ ts) v e h = absurd (cc)

-- ---- attr

-- the step applies to a document whose tokens are these, with a node after the first of them
attr-applies : (s : Schema) (p : ℕ) (name : List ℕ) (value : Plain) (d next : Doc) (a r : List Token) (i : ℕ) → length a ≡ p → d.tokens ≡ a ++ r → starts_node r ≡ true
    → place_among (s.node_declares (node_kind r)) name ≡ Some i → allows_among (s.node_declares (node_kind r)) i value ≡ true
    → checked s (with_tokens d (a ++ with_node_value i value r)) ≡ Ok next → outcome s (Attr p name value) d ≡ Ok next
attr-applies s p name value d next a r i l e n f w h =
    let front : take p d.tokens ≡ a = ap (take p) e ∙ take_at a r p l in
    let back : drop p d.tokens ≡ r = ap (drop p) e ∙ drop_at a r p l in
    let size : length d.tokens ≡ length a + length r = ap length e ∙ length-append a r in
    let ordered : nat_le p (length d.tokens) ≡ true = le-leb p (length d.tokens) (omega (arith, size, l)) in
    let apart : not (parts_pair d.tokens p) ≡ true = no-pair-at d.tokens a r p front back (ap (λ z. ends_high a && z) (node-no-low r n) ∙ and-false (ends_high a)) in
    known-made s (Attr p name value) d refl
    ∙ ok-unless _ Range _ next ordered
    (ok-unless _ Pair _ next (and_from (not (parts_pair d.tokens p)) true apart refl)
    (ok-unless _ NoNode _ next (ap starts_node back ∙ n)
    (settles s (node_kind (drop p d.tokens)) name value (λ j. node_valued j value p d) i next
    (ap (λ z. place_among (s.node_declares (node_kind z)) name) back ∙ f)
    (ap (λ z. allows_among (s.node_declares (node_kind z)) i value) back ∙ w)
    (rw (front, back) h))))

-- what is known of an attr step that applies
pub record AttrMade (s : Schema) (p : ℕ) (name : List ℕ) (value : Plain) (d next : Doc) : Type 0 where
  pub ordered : p ≤ length d.tokens
  pub stands : starts_node (drop p d.tokens) ≡ true
  pub settled : Settled s (node_kind (drop p d.tokens)) name value (λ i. node_valued i value p d) next

module _ (s : Schema) (p : ℕ) (name : List ℕ) (value : Plain) (d next : Doc) (v : Valid s d) (h : outcome s (Attr p name value) d ≡ Ok next) where
  abbrev a : List Token
  a = take p d.tokens

  abbrev r : List Token
  r = drop p d.tokens

  pub attr-made : AttrMade s p name value d next
  attr-made =
      let k = (made-ok s (Attr p name value) d next h).1 in
      let u₁ = unless-ok (in_order (p ∷ []) (length d.tokens)) Range _ next k in
      let u₂ = unless-ok (parts_no_pair d.tokens (p ∷ [])) Pair _ next u₁.1 in
      let u₃ = unless-ok (starts_node r) NoNode _ next u₂.1 in
      record { ordered = leb-true p (length d.tokens) u₁.0; stands = u₃.0; settled = settled s (node_kind r) name value (λ i. node_valued i value p d) next u₃.1 }

  i : ℕ
  i = attr-made.settled.place

  all : d.tokens ≡ a ++ r
  all = sym (take-append-drop p d.tokens)

  pub attr-valid : Valid s next
  attr-valid =
      let w = attr-made.settled in
      checks-valid s next (subst (λ z. is_whole z.tokens ≡ true) (sym w.is) (valued-whole w.place value a r (subst (λ z. is_whole z ≡ true) all v.whole)))
      (subst (λ z. checked s z ≡ Ok next) (sym w.is) w.checks)

  pub attr-same-size : length next.tokens ≡ length d.tokens
  attr-same-size =
      let w = attr-made.settled in
      ap (λ z. length z.tokens) w.is ∙ (valued-size w.place value a r ∙ ap length (sym all))

  pub attr-restored : outcome s (attr_back s p name d) next ≡ Ok d
  attr-restored =
      let w = attr-made.settled in
      let old = slice_index_or (node_values r) w.place null in
      let r' = with_node_value w.place value r in
      let len : length a ≡ p = omega (arith, attr-made.ordered, length-take p d.tokens) in
      let kind = valued-kind w.place value r in
      let fit = node-fit s d a r v all attr-made.stands in
      ap (λ z. outcome s (Attr p name (value_at (node_values r) z)) next) w.found
      ∙ attr-applies s p name old next d a r' w.place len (ap (λ z. z.tokens) w.is) (valued-starts w.place value r ∙ attr-made.stands)
      (ap (λ z. place_among (s.node_declares z) name) kind ∙ w.found)
      (ap (λ z. allows_among (s.node_declares z) w.place old) kind ∙ type-allows (s.node_declares (node_kind r)) (node_values r) name w.place fit w.found)
      (ap (λ z. checked s (with_tokens z (a ++ with_node_value w.place old r'))) w.is
      ∙ (ap (λ z. checked s (with_tokens d (a ++ z))) (valued-back w.place value r) ∙ (ap (λ z. checked s (with_tokens d z)) (sym all) ∙ valid-checks s d v)))

-- ---- docAttr

module _ (s : Schema) (name : List ℕ) (value : Plain) (d next : Doc) (v : Valid s d) (h : outcome s (DocAttr name value) d ≡ Ok next) where
  pub doc-made : Settled s d.kind name value (λ i. top_valued i value d) next
  doc-made = settled s d.kind name value (λ i. top_valued i value d) next (made-ok s (DocAttr name value) d next h).1

  pub doc-valid : Valid s next
  doc-valid =
      let w = doc-made in
      checks-valid s next (subst (λ z. is_whole z.tokens ≡ true) (sym w.is) v.whole) (subst (λ z. checked s z ≡ Ok next) (sym w.is) w.checks)

  pub doc-same-tokens : next.tokens ≡ d.tokens
  doc-same-tokens = ap (λ z. z.tokens) doc-made.is

  pub doc-restored : outcome s (doc_attr_back s name d) next ≡ Ok d
  doc-restored =
      let w = doc-made in
      let old = slice_index_or d.attrs w.place null in
      let kind : next.kind ≡ d.kind = ap (λ z. z.kind) w.is in
      let again : top_valued w.place old next ≡ d =
      ap (top_valued w.place old) w.is
      ∙ ap (λ z. let x : Doc = record { kind = d.kind; attrs = z; marks = d.marks; tokens = d.tokens } in x) (set-set d.attrs w.place value old ∙ set-get_or d.attrs w.place null) in
      ap (λ z. outcome s (DocAttr name (value_at d.attrs z)) next) w.found
      ∙ (known-made s (DocAttr name old) next refl
      ∙ settles s next.kind name old (λ j. top_valued j old next) w.place d
      (ap (λ z. place_among (s.node_declares z) name) kind ∙ w.found)
      (ap (λ z. allows_among (s.node_declares z) w.place old) kind ∙ type-allows (s.node_declares d.kind) d.attrs name w.place v.top_attrs w.found)
      (ap (checked s) again ∙ valid-checks s d v))
