-- A document is valid exactly where no fault is found, by either reading.
use Rattle.std.specs.Prelude.{◌≡◌, ℕ, ◌+◌, Bool, true, false, ◌&&◌, not, cond, if◌then◌else◌, nat_le, List, [], ◌∷◌, ◌++◌, length, Option, Some, None}
use Rattle.std.proofs.lemmas.Bool.{leb-true, le-leb, and_parts, and_from}
use Rattle.std.proofs.Common.{refl, ap, sym, subst}
use Rattle.pm_tokens.specs.Tokens.{Marks, Token, Open, Close, Leaf, CodeUnit, Doc}
use Rattle.pm_tokens.specs.Schemas.{Schema, max_size, max_depth, node_attrs}
use Rattle.pm_tokens.specs.Scan.{head_of, unclosed, is_whole, deepest, ends_high, starts_low}
use Rattle.pm_tokens.specs.Kids.{kids}
use Rattle.pm_tokens.specs.Faults.{attrs_fit, marks_fit, content_fits, high_of, pair_fits, last_high, StandsIn, Valid, Fault, Large, Deep, Pair, first_some, fault_unless, under, first_fault, first_broken, no_marks, top_fault, fault, token_fits, place_from, top_fits, fault_place}
use Rattle.pm_tokens.proofs.PairLaws.{first-none, none-first, sides}
use Rattle.pm_tokens.proofs.DepthLaws.{deepest-bounds, depths-bound}

pub under-is : (ps : List ℕ) (t : Token) (ts : List Token) → unclosed ps (t ∷ ts) ≡ unclosed (under ps t) ts
under-is ps (Open k a m) ts = refl
under-is ps Close ts = refl
under-is ps (Leaf k a m) ts = refl
under-is ps (CodeUnit u m) ts = refl

none-marks : (ms : Marks) → no_marks ms ≡ true → ms ≡ []
none-marks [] h = refl
none-marks (m ∷ ms) h = absurd (cc)

-- the parts of a token without a fault
pub record TokenFits (s : Schema) (parent : ℕ) (high : Option Marks) (t : Token) (next : List Token) : Type 0 where
  pub attrs : attrs_fit s t ≡ true
  pub marks : marks_fit s parent t ≡ true
  pub content : content_fits s t next ≡ true
  pub pair : pair_fits high t next ≡ true

pub token-fits : (s : Schema) (parent : ℕ) (high : Option Marks) (t : Token) (next : List Token) → token_fits s parent high t next ≡ true → TokenFits s parent high t next
token-fits s parent high t next h =
    let a = and_parts (attrs_fit s t && marks_fit s parent t && content_fits s t next) (pair_fits high t next) h in
    let b = and_parts (attrs_fit s t && marks_fit s parent t) (content_fits s t next) a.0 in
    let c = and_parts (attrs_fit s t) (marks_fit s parent t) b.0 in
    record { attrs = c.0; marks = c.1; content = b.1; pair = a.1 }

pub fits-token : (s : Schema) (parent : ℕ) (high : Option Marks) (t : Token) (next : List Token) → TokenFits s parent high t next → token_fits s parent high t next ≡ true
fits-token s parent high t next w =
    and_from (attrs_fit s t && marks_fit s parent t && content_fits s t next) (pair_fits high t next)
    (and_from (attrs_fit s t && marks_fit s parent t) (content_fits s t next) (and_from (attrs_fit s t) (marks_fit s parent t) w.attrs w.marks) w.content) w.pair

module _ (s : Schema) where
  -- each token of the list has no fault where it stands
  abbrev pub EachFits : List ℕ → Option Marks → List Token → Type 0
  EachFits ps high ts = (before : List Token) (t : Token) (behind : List Token) → StandsIn ts before t behind → TokenFits s (head_of (unclosed ps before)) (last_high high before) t behind

  pub place-each : (ps : List ℕ) (high : Option Marks) (ts : List Token) → place_from s ps high ts ≡ None → EachFits ps high ts
  place-each ps high ts h [] t behind e =
      token-fits s (head_of ps) high t behind (first-none _ _ (subst (λ z. place_from s ps high z ≡ None) e h)).0
  place-each ps high ts h (x ∷ before) t behind e =
      let f = first-none (token_fits s (head_of ps) high x (before ++ (t ∷ behind))) (place_from s (under ps x) (high_of x) (before ++ (t ∷ behind))) (subst (λ z. place_from s ps high z ≡ None) e h) in
      subst (λ z. TokenFits s (head_of z) (last_high (high_of x) before) t behind) (sym (under-is ps x before))
      (place-each (under ps x) (high_of x) (before ++ (t ∷ behind)) f.1 before t behind refl)

  pub each-place : (ps : List ℕ) (high : Option Marks) (ts : List Token) → EachFits ps high ts → place_from s ps high ts ≡ None
  each-place ps high [] h = refl
  each-place ps high (x ∷ ts) h =
      none-first (token_fits s (head_of ps) high x ts) (place_from s (under ps x) (high_of x) ts) (fits-token s (head_of ps) high x ts (h [] x ts refl))
      (each-place (under ps x) (high_of x) ts (λ before t behind e. subst (λ z. TokenFits s (head_of z) (last_high (high_of x) before) t behind) (under-is ps x before) (h (x ∷ before) t behind (ap (λ z. x ∷ z) e))))

-- ---- the least place of any fault

-- a valid document's parts
pub valid-top : (s : Schema) (d : Doc) → Valid s d → top_fits s d ≡ true
valid-top s d v =
    and_from (node_attrs s d.kind d.attrs && no_marks d.marks) (s.accepts d.kind (kids s.text 0 None d.tokens))
    (and_from (node_attrs s d.kind d.attrs) (no_marks d.marks) v.top_attrs (ap no_marks v.top_marks)) v.top_content

pub valid-tokens : (s : Schema) (d : Doc) → Valid s d → place_from s (d.kind ∷ []) None d.tokens ≡ None
valid-tokens s d v = each-place s (d.kind ∷ []) None d.tokens (λ before t behind e. record {
  attrs = v.attrs before t behind e;
  marks = v.marks before t behind e;
  content = v.content before t behind e;
  pair = v.pairs before t behind e;
})

-- no place of a valid document has a fault
pub valid-place : (s : Schema) (d : Doc) → Valid s d → fault_place s d ≡ None
valid-place s d v = none-first (top_fits s d) (place_from s (d.kind ∷ []) None d.tokens) (valid-top s d v) (valid-tokens s d v)

pub valid-size : (s : Schema) (d : Doc) → Valid s d → nat_le (length d.tokens) (max_size s) ≡ true
valid-size s d v = le-leb (length d.tokens) (max_size s) v.size

pub valid-depth : (s : Schema) (d : Doc) → Valid s d → nat_le (deepest 0 d.tokens) max_depth ≡ true
valid-depth s d v = le-leb (deepest 0 d.tokens) max_depth (depths-bound max_depth d.tokens v.depth)

-- a whole number of nodes of no more than the greatest size and depth, where no place has a fault, is valid
pub place-valid : (s : Schema) (d : Doc) → is_whole d.tokens ≡ true → nat_le (length d.tokens) (max_size s) ≡ true → nat_le (deepest 0 d.tokens) max_depth ≡ true → fault_place s d ≡ None → Valid s d
place-valid s d w l p h =
    let f = first-none (top_fits s d) (place_from s (d.kind ∷ []) None d.tokens) h in
    let a = and_parts (node_attrs s d.kind d.attrs && no_marks d.marks) (s.accepts d.kind (kids s.text 0 None d.tokens)) f.0 in
    let b = and_parts (node_attrs s d.kind d.attrs) (no_marks d.marks) a.0 in
    let each = place-each s (d.kind ∷ []) None d.tokens f.1 in
    record {
      whole = w;
      size = leb-true (length d.tokens) (max_size s) l;
      depth = deepest-bounds max_depth d.tokens (leb-true (deepest 0 d.tokens) max_depth p);
      pairs = λ before t behind e. (each before t behind e).pair;
      top_attrs = b.0;
      top_marks = none-marks d.marks b.1;
      top_content = a.1;
      attrs = λ before t behind e. (each before t behind e).attrs;
      marks = λ before t behind e. (each before t behind e).marks;
      content = λ before t behind e. (each before t behind e).content;
    }

-- ---- the first fault, sizes and pairs before the rest

pub some-none : {A : Type 0} (x y : Option A) → first_some x y ≡ None → (x ≡ None) × (y ≡ None)
some-none None y h = (refl, h)
some-none (Some x) y h = absurd (cc)

pub none-some : {A : Type 0} (x y : Option A) → x ≡ None → y ≡ None → first_some x y ≡ None
none-some x y h k = rw h k

pub unless-none : (a m c : Bool) (at : ℕ) → fault_unless a m c at ≡ None → (a ≡ true) × (m ≡ true) × (c ≡ true)
unless-none true true true at h = (refl, refl, refl)
unless-none true true false at h = absurd (cc)
unless-none true false c at h = absurd (cc)
unless-none false m c at h = absurd (cc)

pub none-unless : (a m c : Bool) (at : ℕ) → a ≡ true → m ≡ true → c ≡ true → fault_unless a m c at ≡ None
none-unless a m c at h k l = rw (h, k, l) refl

pub broken-none : (b : Bool) (x : Option Fault) (at : ℕ) → cond b x (Some (Pair at)) ≡ None → (b ≡ true) × (x ≡ None)
broken-none true x at h = (refl, h)
broken-none false x at h = absurd (cc)

module _ (s : Schema) where
  readings-none : (ps : List ℕ) (high : Option Marks) (at : ℕ) (ts : List Token) → place_from s ps high ts ≡ None → (first_fault s at ps ts ≡ None) × (first_broken at high ts ≡ None)
  readings-none ps high at [] h = (refl, refl)
  readings-none ps high at (t ∷ ts) h =
      let f = first-none (token_fits s (head_of ps) high t ts) (place_from s (under ps t) (high_of t) ts) h in
      let w = token-fits s (head_of ps) high t ts f.0 in
      let i = readings-none (under ps t) (high_of t) (at + 1) ts f.1 in
      (none-some (fault_unless (attrs_fit s t) (marks_fit s (head_of ps) t) (content_fits s t ts) at) (first_fault s (at + 1) (under ps t) ts) (none-unless _ _ _ at w.attrs w.marks w.content) i.0, rw w.pair i.1)

  none-readings : (ps : List ℕ) (high : Option Marks) (at : ℕ) (ts : List Token) → first_fault s at ps ts ≡ None → first_broken at high ts ≡ None → place_from s ps high ts ≡ None
  none-readings ps high at [] h k = refl
  none-readings ps high at (t ∷ ts) h k =
      let f = some-none (fault_unless (attrs_fit s t) (marks_fit s (head_of ps) t) (content_fits s t ts) at) (first_fault s (at + 1) (under ps t) ts) h in
      let u = unless-none (attrs_fit s t) (marks_fit s (head_of ps) t) (content_fits s t ts) at f.0 in
      let b = broken-none (pair_fits high t ts) (first_broken (at + 1) (high_of t) ts) at k in
      none-first (token_fits s (head_of ps) high t ts) (place_from s (under ps t) (high_of t) ts)
      (fits-token s (head_of ps) high t ts (record { attrs = u.0; marks = u.1; content = u.2; pair = b.0 })) (none-readings (under ps t) (high_of t) (at + 1) ts f.1 b.1)

-- a valid document has no first fault
pub valid-fault : (s : Schema) (d : Doc) → Valid s d → fault s d ≡ None
valid-fault s d v =
    let r = readings-none s (d.kind ∷ []) None 1 d.tokens (valid-tokens s d v) in
    rw (valid-size s d v, valid-depth s d v, r.1, none-unless _ _ _ 0 v.top_attrs (ap no_marks v.top_marks) v.top_content) r.0

sized : (b c : Bool) (x : Option Fault) → (if not b then Some Large else (if not c then Some Deep else x)) ≡ None → (b ≡ true) × (c ≡ true) × (x ≡ None)
sized true true x h = (refl, refl, h)
sized true false x h = absurd (cc)
sized false c x h = absurd (cc)

-- a whole number of nodes without a first fault is valid
pub fault-valid : (s : Schema) (d : Doc) → is_whole d.tokens ≡ true → fault s d ≡ None → Valid s d
fault-valid s d w h =
    let z = sized (nat_le (length d.tokens) (max_size s)) (nat_le (deepest 0 d.tokens) max_depth) _ h in
    let a = some-none (first_broken 1 None d.tokens) (first_some (top_fault s d) (first_fault s 1 (d.kind ∷ []) d.tokens)) z.2 in
    let b = some-none (top_fault s d) (first_fault s 1 (d.kind ∷ []) d.tokens) a.1 in
    let u = unless-none (node_attrs s d.kind d.attrs) (no_marks d.marks) (s.accepts d.kind (kids s.text 0 None d.tokens)) 0 b.0 in
    place-valid s d w z.0 z.1
    (none-first (top_fits s d) (place_from s (d.kind ∷ []) None d.tokens)
    (and_from (node_attrs s d.kind d.attrs && no_marks d.marks) (s.accepts d.kind (kids s.text 0 None d.tokens)) (and_from (node_attrs s d.kind d.attrs) (no_marks d.marks) u.0 u.1) u.2)
    (none-readings s (d.kind ∷ []) None 1 d.tokens b.1 a.0))

-- beside a position of a valid document that parts no pair stands no half of a pair
pub pair-free : (s : Schema) (d : Doc) (xs ys : List Token) → Valid s d → d.tokens ≡ xs ++ ys → (ends_high xs && starts_low ys) ≡ false → (ends_high xs ≡ false) × (starts_low ys ≡ false)
pair-free s d xs ys v e k = sides s (d.kind ∷ []) xs ys (subst (λ z. place_from s (d.kind ∷ []) None z ≡ None) e (valid-tokens s d v)) k
