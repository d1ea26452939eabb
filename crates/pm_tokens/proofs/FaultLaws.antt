-- The first fault of a list of nodes: of its first part, or else of the rest.
use Rattle.std.specs.Prelude.{◌≡◌, ℕ, ◌+◌, ◌==◌, ◌<◌, Bool, true, false, ◌&&◌, ◌||◌, not, cond, List, [], ◌∷◌, ◌++◌, length, slice_index, Option, Some, None}
use Rattle.std.specs.Char.Utf16.{is_high_surrogate, is_low_surrogate}
use Rattle.std.proofs.Common.{zero, suc, refl, ap, sym, ◌∙◌, arith, append_assoc, length-append}
use Rattle.pm_text.specs.Lone.{is_lone, HasNoLone, IsFirstLone}
use Rattle.pm_tokens.specs.Tokens.{Attrs, Marks, Token, Open, Close, Leaf, CodeUnit}
use Rattle.pm_tokens.specs.Schemas.{Schema}
use Rattle.pm_tokens.specs.Scan.{head_of, Balanced, none, leaf, unit, node}
use Rattle.pm_tokens.specs.Kids.{text_tokens, EndsText, goes_on}
use Rattle.pm_tokens.specs.Faults.{attrs_fit, marks_fit, content_fits, low_next, high_of, pair_fits, Fault, Pair, first_some, fault_unless, first_fault, first_broken}
use Rattle.pm_tokens.proofs.MarkLaws.{marks-itself, marks-differ}
use Rattle.pm_tokens.proofs.PairLaws.{high-not-low}
use Rattle.pm_tokens.proofs.KidLaws.{kids-stop}

pub some-assoc : {A : Type 0} (x y z : Option A) → first_some (first_some x y) z ≡ first_some x (first_some y z)
some-assoc None y z = refl
some-assoc (Some x) y z = refl

pub some-nothing : {A : Type 0} (x : Option A) → first_some x None ≡ x
some-nothing None = refl
some-nothing (Some x) = refl

module _ (s : Schema) where
  -- the fault of a node's own token, where the children are these
  abbrev pub own_fault : ℕ → ℕ → ℕ → Attrs → Marks → List Token → Option Fault
  own_fault at parent k a m inner = fault_unless (attrs_fit s (Open k a m)) (marks_fit s parent (Open k a m)) (content_fits s (Open k a m) inner) at

  content-inner : (k : ℕ) (a : Attrs) (m : Marks) {inner : List Token} → Balanced inner → (rest : List Token) → content_fits s (Open k a m) (inner ++ (Close ∷ rest)) ≡ content_fits s (Open k a m) inner
  content-inner k a m i rest = ap (λ z. not (k == s.text) && not (s.is_leaf k) && s.accepts k z) (kids-stop s.text None i rest)

  node-by : (at : ℕ) (ps : List ℕ) (k : ℕ) (a : Attrs) (m : Marks) {inner : List Token} → Balanced inner
      → ((at : ℕ) (ps : List ℕ) (ys : List Token) → first_fault s at ps (inner ++ ys) ≡ first_some (first_fault s at ps inner) (first_fault s (at + length inner) ps ys)) → (rest : List Token)
      → first_fault s at ps (Open k a m ∷ (inner ++ (Close ∷ rest))) ≡ first_some (own_fault at (head_of ps) k a m inner) (first_some (first_fault s (at + 1) (k ∷ ps) inner) (first_fault s (at + length inner + 2) ps rest))
  node-by at ps k a m {inner = inner} i ih rest =
      ap (λ z. first_some (fault_unless (attrs_fit s (Open k a m)) (marks_fit s (head_of ps) (Open k a m)) z at) (first_fault s (at + 1) (k ∷ ps) (inner ++ (Close ∷ rest)))) (content-inner k a m i rest)
      ∙ ap (λ z. first_some (own_fault at (head_of ps) k a m inner) z)
      (ih (at + 1) (k ∷ ps) (Close ∷ rest)
      ∙ ap (λ n. first_some (first_fault s (at + 1) (k ∷ ps) inner) (first_fault s n ps rest)) (let e : ((at + 1) + length inner) + 1 ≡ at + length inner + 2 = omega arith in e))

  -- of joined lists of nodes
  pub fault-append : (at : ℕ) (ps : List ℕ) {xs : List Token} → Balanced xs → (ys : List Token) → first_fault s at ps (xs ++ ys) ≡ first_some (first_fault s at ps xs) (first_fault s (at + length xs) ps ys)
  fault-append at ps none ys = ap (λ n. first_fault s n ps ys) (let e : at ≡ at + 0 = omega arith in e)
  fault-append at ps (leaf k a m {ts = ts} b) ys =
      let own = fault_unless (attrs_fit s (Leaf k a m)) (marks_fit s (head_of ps) (Leaf k a m)) (content_fits s (Leaf k a m) ts) at in
      ap (first_some own) (fault-append (at + 1) ps b ys ∙ ap (λ n. first_some (first_fault s (at + 1) ps ts) (first_fault s n ps ys)) (let e : (at + 1) + length ts ≡ at + suc (length ts) = omega arith in e))
      ∙ sym (some-assoc own (first_fault s (at + 1) ps ts) (first_fault s (at + suc (length ts)) ps ys))
  fault-append at ps (unit u m {ts = ts} b) ys =
      let own = fault_unless (attrs_fit s (CodeUnit u m)) (marks_fit s (head_of ps) (CodeUnit u m)) true at in
      ap (first_some own) (fault-append (at + 1) ps b ys ∙ ap (λ n. first_some (first_fault s (at + 1) ps ts) (first_fault s n ps ys)) (let e : (at + 1) + length ts ≡ at + suc (length ts) = omega arith in e))
      ∙ sym (some-assoc own (first_fault s (at + 1) ps ts) (first_fault s (at + suc (length ts)) ps ys))
  fault-append at ps (node k a m {inner = inner} {ts = ts} i b) ys =
      let own = own_fault at (head_of ps) k a m inner in
      let within = first_fault s (at + 1) (k ∷ ps) inner in
      let n = at + length inner + 2 in
      let after = first_fault s n ps ts in
      let last = first_fault s (n + length ts) ps ys in
      let l : n + length ts ≡ at + suc (length (inner ++ (Close ∷ ts))) = omega (arith, length-append inner (Close ∷ ts)) in
      ap (λ z. first_fault s at ps (Open k a m ∷ z)) (append_assoc inner (Close ∷ ts) ys)
      ∙ (node-by at ps k a m i (λ at ps z. fault-append at ps i z) (ts ++ ys)
      ∙ (ap (λ z. first_some own (first_some within z)) (fault-append n ps b ys)
      ∙ (ap (first_some own) (sym (some-assoc within after last))
      ∙ (sym (some-assoc own (first_some within after) last)
      ∙ (ap (λ z. first_some z last) (sym (node-by at ps k a m i (λ at ps z. fault-append at ps i z) ts)) ∙ ap (λ z. first_some (first_fault s at ps (Open k a m ∷ (inner ++ (Close ∷ ts)))) (first_fault s z ps ys)) l)))))

  -- of one node: its own, or the first in its content
  pub fault-node : (at : ℕ) (ps : List ℕ) (k : ℕ) (a : Attrs) (m : Marks) {inner : List Token} → Balanced inner
      → first_fault s at ps (Open k a m ∷ (inner ++ (Close ∷ []))) ≡ first_some (own_fault at (head_of ps) k a m inner) (first_fault s (at + 1) (k ∷ ps) inner)
  fault-node at ps k a m {inner = inner} i =
      node-by at ps k a m i (λ at ps z. fault-append at ps i z) []
      ∙ ap (first_some (own_fault at (head_of ps) k a m inner)) (some-nothing (first_fault s (at + 1) (k ∷ ps) inner))

-- ---- broken units

-- the marks of a unit
abbrev pub unit_of : Token → Option Marks
unit_of (Open k a m) = None
unit_of Close = None
unit_of (Leaf k a m) = None
unit_of (CodeUnit u m) = Some m

-- the marks of the last token, if that is a unit
abbrev pub last_unit : Option Marks → List Token → Option Marks
last_unit r [] = r
last_unit r (t ∷ ts) = last_unit (unit_of t) ts

-- no text goes on from the one list into the other
abbrev pub PartsTexts : Option Marks → List Token → Type 0
PartsTexts None ys = Unit {0}
PartsTexts (Some m) ys = EndsText m ys

low-ends : (m : Marks) (ys : List Token) → EndsText m ys → low_next m ys ≡ false
low-ends m [] h = refl
low-ends m (Open k a n ∷ ys) h = refl
low-ends m (Close ∷ ys) h = refl
low-ends m (Leaf k a n ∷ ys) h = refl
low-ends m (CodeUnit u n ∷ ys) h = ap (λ b. is_low_surrogate u && b) (marks-differ m n h) ∙ and-false (is_low_surrogate u)
  where
    and-false : (b : Bool) → (b && false) ≡ false
    and-false true = refl
    and-false false = refl

-- what stood before does not matter to another text
pub broken-fresh : (at : ℕ) (m : Marks) (ys : List Token) → EndsText m ys → first_broken at (Some m) ys ≡ first_broken at None ys
broken-fresh at m [] h = refl
broken-fresh at m (Open k a n ∷ ys) h = refl
broken-fresh at m (Close ∷ ys) h = refl
broken-fresh at m (Leaf k a n ∷ ys) h = refl
broken-fresh at m (CodeUnit u n ∷ ys) h =
    ap (λ g. cond (cond (is_high_surrogate u) (low_next n ys) (cond (is_low_surrogate u) g true)) (first_broken (at + 1) (high_of (CodeUnit u n)) ys) (Some (Pair at))) (marks-differ m n h)

high-fresh : (at u : ℕ) (m : Marks) (ys : List Token) → EndsText m ys → first_broken at (high_of (CodeUnit u m)) ys ≡ first_broken at None ys
high-fresh at u m ys h = by (is_high_surrogate u)
  where
    by : (b : Bool) → first_broken at (cond b (Some m) None) ys ≡ first_broken at None ys
    by true = broken-fresh at m ys h
    by false = refl

cond-some : (b : Bool) (x y : Option Fault) (p : Fault) → cond b (first_some x y) (Some p) ≡ first_some (cond b x (Some p)) y
cond-some true x y p = refl
cond-some false x y p = refl

pair-ends : (high : Option Marks) (t : Token) (ys : List Token) → PartsTexts (last_unit None (t ∷ [])) ys → pair_fits high t ys ≡ pair_fits high t []
pair-ends high (Open k a m) ys h = refl
pair-ends high Close ys h = refl
pair-ends high (Leaf k a m) ys h = refl
pair-ends high (CodeUnit u m) ys h = ap (λ z. cond (is_high_surrogate u) z (cond (is_low_surrogate u) (goes_on high m) true)) (low-ends m ys h)

fresh-token : (at : ℕ) (t : Token) (ys : List Token) → PartsTexts (last_unit None (t ∷ [])) ys → first_broken at (high_of t) ys ≡ first_broken at None ys
fresh-token at (Open k a m) ys h = refl
fresh-token at Close ys h = refl
fresh-token at (Leaf k a m) ys h = refl
fresh-token at (CodeUnit u m) ys h = high-fresh at u m ys h

low-same : (m : Marks) (t : Token) (xs ys : List Token) → low_next m (t ∷ xs) ≡ low_next m (t ∷ ys)
low-same m (Open k a n) xs ys = refl
low-same m Close xs ys = refl
low-same m (Leaf k a n) xs ys = refl
low-same m (CodeUnit u n) xs ys = refl

pair-same : (high : Option Marks) (t x : Token) (xs ys : List Token) → pair_fits high t (x ∷ xs) ≡ pair_fits high t (x ∷ ys)
pair-same high (Open k a m) x xs ys = refl
pair-same high Close x xs ys = refl
pair-same high (Leaf k a m) x xs ys = refl
pair-same high (CodeUnit u m) x xs ys = ap (λ z. cond (is_high_surrogate u) z (cond (is_low_surrogate u) (goes_on high m) true)) (low-same m x xs ys)

broken-more : (at : ℕ) (high : Option Marks) (t : Token) (xs ys : List Token) → PartsTexts (last_unit None (t ∷ xs)) ys
    → first_broken at high (t ∷ (xs ++ ys)) ≡ first_some (first_broken at high (t ∷ xs)) (first_broken (at + suc (length xs)) None ys)
broken-more at high t [] ys h =
    ap (λ b. cond b (first_broken (at + 1) (high_of t) ys) (Some (Pair at))) (pair-ends high t ys h)
    ∙ (ap (λ z. cond (pair_fits high t []) z (Some (Pair at))) (fresh-token (at + 1) t ys h) ∙ cond-some (pair_fits high t []) None (first_broken (at + 1) None ys) (Pair at))
broken-more at high t (x ∷ xs) ys h =
    let l : (at + 1) + suc (length xs) ≡ at + suc (suc (length xs)) = omega arith in
    ap (λ b. cond b (first_broken (at + 1) (high_of t) (x ∷ (xs ++ ys))) (Some (Pair at))) (pair-same high t x (xs ++ ys) xs)
    ∙ (ap (λ z. cond (pair_fits high t (x ∷ xs)) z (Some (Pair at))) (broken-more (at + 1) (high_of t) x xs ys h ∙ ap (λ n. first_some (first_broken (at + 1) (high_of t) (x ∷ xs)) (first_broken n None ys)) l)
    ∙ cond-some (pair_fits high t (x ∷ xs)) (first_broken (at + 1) (high_of t) (x ∷ xs)) (first_broken (at + suc (suc (length xs))) None ys) (Pair at))

-- of joined lists, where no text goes on from the one into the other
pub broken-append : (at : ℕ) (xs ys : List Token) → PartsTexts (last_unit None xs) ys → first_broken at None (xs ++ ys) ≡ first_some (first_broken at None xs) (first_broken (at + length xs) None ys)
broken-append at [] ys h = ap (λ n. first_broken n None ys) (let e : at ≡ at + 0 = omega arith in e)
broken-append at (t ∷ xs) ys h = broken-more at None t xs ys h

-- of one node: the first in its content
pub broken-node : (at k : ℕ) (a : Attrs) (m : Marks) (inner rest : List Token) → first_broken at None (Open k a m ∷ (inner ++ (Close ∷ rest))) ≡ first_some (first_broken (at + 1) None inner) (first_broken (at + length inner + 2) None rest)
broken-node at k a m inner rest =
    broken-append (at + 1) inner (Close ∷ rest) (clear (last_unit None inner))
    ∙ ap (λ n. first_some (first_broken (at + 1) None inner) (first_broken n None rest)) (let e : ((at + 1) + length inner) + 1 ≡ at + length inner + 2 = omega arith in e)
  where
    clear : (r : Option Marks) → PartsTexts r (Close ∷ rest)
    clear None = tt
    clear (Some n) = tt

-- ---- broken units of one text are its lone ones

-- the unit at i is lone, where the unit w stands before the list
lone_from : ℕ → List ℕ → ℕ → Bool
lone_from w us i = is_lone (slice_index (w ∷ us) i) (slice_index us i) (slice_index us (suc i))

low-text : (m : Marks) (us : List ℕ) → low_next m (text_tokens m us) ≡ is_low_surrogate (slice_index us 0)
low-text m [] = refl
low-text m (v ∷ us) = ap (λ b. is_low_surrogate v && b) (marks-itself m) ∙ and-one (is_low_surrogate v)
  where
    and-one : (b : Bool) → (b && true) ≡ b
    and-one true = refl
    and-one false = refl

goes-high : (b : Bool) (m : Marks) → goes_on (cond b (Some m) None) m ≡ b
goes-high true m = marks-itself m
goes-high false m = refl

pair-lone : (w u : ℕ) (m : Marks) (us : List ℕ) → pair_fits (high_of (CodeUnit w m)) (CodeUnit u m) (text_tokens m us) ≡ not (is_lone w u (slice_index us 0))
pair-lone w u m us =
    ap (λ z. cond (is_high_surrogate u) z (cond (is_low_surrogate u) (goes_on (high_of (CodeUnit w m)) m) true)) (low-text m us)
    ∙ (ap (λ z. cond (is_high_surrogate u) (is_low_surrogate (slice_index us 0)) (cond (is_low_surrogate u) z true)) (goes-high (is_high_surrogate w) m)
    ∙ by (is_high_surrogate u) (is_low_surrogate u) (is_high_surrogate w) (is_low_surrogate (slice_index us 0)) (λ h l. high-not-low u h l) refl refl)
  where
    by : (h l p n : Bool) → (is_high_surrogate u ≡ true → is_low_surrogate u ≡ true → ⊥) → is_high_surrogate u ≡ h → is_low_surrogate u ≡ l
        → cond h n (cond l p true) ≡ not ((h || l) && not (p && l) && not (h && n))
    by true true p n f g k = absurd (f g k)
    by true false true true f g k = refl
    by true false true false f g k = refl
    by true false false true f g k = refl
    by true false false false f g k = refl
    by false true true n f g k = refl
    by false true false n f g k = refl
    by false false p n f g k = refl

no-lone : (at w : ℕ) (m : Marks) (us : List ℕ) → ((i : ℕ) → lone_from w us i ≡ false) → first_broken at (high_of (CodeUnit w m)) (text_tokens m us) ≡ None
unfolding lone_from
no-lone at w m [] h = refl
no-lone at w m (u ∷ us) h =
    let fits : pair_fits (high_of (CodeUnit w m)) (CodeUnit u m) (text_tokens m us) ≡ true = pair-lone w u m us ∙ ap not (h 0) in
    rw fits (no-lone (at + 1) u m us (λ i. h (suc i)))

lone-at : (at w : ℕ) (m : Marks) (us : List ℕ) (i : ℕ) → lone_from w us i ≡ true → ((j : ℕ) → j < i → lone_from w us j ≡ false) → first_broken at (high_of (CodeUnit w m)) (text_tokens m us) ≡ Some (Pair (at + i))
unfolding lone_from
lone-at at w m [] zero h f = absurd (cc)
lone-at at w m [] (suc i) h f = absurd (cc)
lone-at at w m (u ∷ us) zero h f =
    let broken : pair_fits (high_of (CodeUnit w m)) (CodeUnit u m) (text_tokens m us) ≡ false = pair-lone w u m us ∙ ap not h in
    rw broken (ap (λ n. Some (Pair n)) (let e : at ≡ at + 0 = omega arith in e))
lone-at at w m (u ∷ us) (suc i) h f =
    let fits : pair_fits (high_of (CodeUnit w m)) (CodeUnit u m) (text_tokens m us) ≡ true = pair-lone w u m us ∙ ap not (f 0 (omega arith)) in
    rw fits (lone-at (at + 1) u m us i h (λ j l. f (suc j) (omega (arith, l))) ∙ ap (λ n. Some (Pair n)) (let e : (at + 1) + i ≡ at + suc i = omega arith in e))

-- a text without a lone unit has no broken one
pub text-whole : (at : ℕ) (m : Marks) (us : List ℕ) → HasNoLone us → first_broken at None (text_tokens m us) ≡ None
unfolding lone_from
text-whole at m us h = no-lone at 0 m us h

-- the first lone unit of a text is its first broken one
pub text-broken : (at : ℕ) (m : Marks) (us : List ℕ) (i : ℕ) → IsFirstLone us i → first_broken at None (text_tokens m us) ≡ Some (Pair (at + i))
unfolding lone_from
text-broken at m us i w = lone-at at 0 m us i w.lone w.none_before
