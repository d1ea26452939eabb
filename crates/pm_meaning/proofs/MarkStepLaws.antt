-- The inverse of a mark step gives the document back, where its steps apply.
use Rattle.std.specs.Prelude.{◌≡◌, ℕ, ◌≤◌, Bool, true, false, ◌&&◌, cond, ◌==◌, nat_le, List, [], ◌∷◌, ◌++◌, length, take, drop, Option, Some, None, Result, Ok, Err}
use Rattle.std.proofs.lemmas.Bool.{eqb-true, leb-true, and_parts}
use Rattle.std.proofs.lemmas.List.{take-append-drop}
use Rattle.std.proofs.Common.{refl, ap, sym, ◌∙◌, subst, arith, length-take}
use Rattle.pm_change.specs.Changes.{fold}
use Rattle.pm_change.proofs.Folds.{fold-cons}
use Rattle.pm_attrs.specs.Attrs.{same_attrs}
use Rattle.pm_marks.specs.Sets.{same_marks}
use Rattle.pm_tokens.specs.Faults.{under, high_of, token_fits, place_from, Valid}
use Rattle.pm_tokens.specs.Marks.{is_set}
use Rattle.pm_tokens.specs.Scan.{head_of, tail_of, unclosed, part}
use Rattle.pm_tokens.specs.Schemas.{Schema}
use Rattle.pm_tokens.specs.Tokens.{Token, Open, Close, Leaf, CodeUnit, Doc, with_tokens, marks_of, Marks}
use Rattle.pm_tokens.proofs.MarkLaws.{attrs-equal, marks-equal}
use Rattle.pm_tokens.proofs.PairLaws.{first-none}
use Rattle.pm_tokens.proofs.PartLaws.{split-at}
use Rattle.pm_tokens.proofs.ValidLaws.{valid-tokens, token-fits}
use Rattle.pm_tokens.proofs.ScanLaws.{unclosed-append}
use Rattle.pm_meaning.specs.Inverses.{same_token, same_tokens, gives, node_marks, one_or, one_or_runs}
use Rattle.pm_meaning.specs.Marked.{add, remove, with_marks, with_node_marks, mark_added, mark_removed, marked, node_marked, starts_node}
use Rattle.pm_meaning.specs.Meanings.{meaning}
use Rattle.pm_meaning.specs.Outcomes.{checked, in_order, parts_no_pair, and_unless, range_outcome, node_outcome, outcome}
use Rattle.pm_meaning.specs.Runs.{run_steps, node_steps}
use Rattle.pm_meaning.specs.declared.reason.Reason.{Reason}
use Rattle.pm_meaning.specs.declared.reason.Reason.TheVariants.{Range, Pair, NoNode}
use Rattle.pm_meaning.specs.Steps.{Step, Replace, ReplaceAround, AddMark, RemoveMark, AddNodeMark, RemoveNodeMark, Attr, DocAttr}
use Rattle.pm_meaning.proofs.EffectLaws.{effect, effects, after, with-one, Alike, runs-back, noded}
use Rattle.pm_meaning.proofs.MarkSuits.{are_suited, marks_suit, fit-suit}
use Rattle.pm_meaning.proofs.OutcomeLaws.{unless-ok, and-unless-ok, made-ok, checked-ok}
use Rattle.pm_meaning.proofs.MarkingSteps.{is_marking, are_marking, nodes-marking, runs-marking}
use Rattle.pm_meaning.proofs.TokenMarks.{set_marks, set-own}

-- the marks of every token fit
abbrev pub Fits : Schema → List ℕ → List Token → Type 0
Fits s ps [] = Unit {0}
Fits s ps (t ∷ ts) = (marks_suit s (head_of ps) (marks_of t) ≡ true) × Fits s (after ps t) ts

pub under-after : (ps : List ℕ) (t : Token) → under ps t ≡ after ps t
under-after ps (Open k a m) = refl
under-after ps Close = refl
under-after ps (Leaf k a m) = refl
under-after ps (CodeUnit u m) = refl

pub fits-all : (s : Schema) (ps : List ℕ) (high : Option Marks) (ts : List Token) → place_from s ps high ts ≡ None → Fits s ps ts
fits-all s ps high [] h = tt
fits-all s ps high (t ∷ ts) h =
    let f = first-none (token_fits s (head_of ps) high t ts) (place_from s (under ps t) (high_of t) ts) h in
    let w = token-fits s (head_of ps) high t ts f.0 in
    (fit-suit s (head_of ps) t w.attrs w.marks, subst (λ z. Fits s z ts) (under-after ps t) (fits-all s (under ps t) (high_of t) ts f.1))

pub fits-front : (s : Schema) (ps : List ℕ) (xs ys : List Token) → Fits s ps (xs ++ ys) → Fits s ps xs
fits-front s ps [] ys h = tt
fits-front s ps (x ∷ xs) ys h = (h.0, fits-front s (after ps x) xs ys h.1)

pub fits-rest : (s : Schema) (ps : List ℕ) (xs ys : List Token) → Fits s ps (xs ++ ys) → Fits s (unclosed ps xs) ys
fits-rest s ps [] ys h = h
fits-rest s ps (x ∷ xs) ys h = subst (λ z. Fits s z ys) (sym (unclosed-append ps (x ∷ []) xs)) (fits-rest s (after ps x) xs ys h.1)

set-set : (ms : Marks) (t : Token) → set_marks ms t ≡ set_marks (marks_of (set_marks ms t)) t
set-set ms (Open k a m) = refl
set-set ms Close = refl
set-set ms (Leaf k a m) = refl
set-set ms (CodeUnit u m) = refl

module _ (s : Schema) (k : ℕ) where
  alike-self : (ps : List ℕ) (ts : List Token) → Fits s ps ts → Alike s k ps ts ts
  alike-self ps [] h = tt
  alike-self ps (t ∷ ts) h = (sym (set-own t), h.0, alike-self (after ps t) ts h.1)

  alike-with : (f : ℕ → Token → Marks → Marks) (ps : List ℕ) (ts : List Token) → Fits s ps ts → Alike s k ps ts (with_marks f ps ts)
  alike-with f ps [] h = tt
  alike-with f ps (t ∷ ts) h =
      subst (Alike s k ps (t ∷ ts)) (sym (with-one f ps t ts)) (set-set (f (head_of ps) t (marks_of t)) t, h.0, alike-with f (after ps t) ts h.1)

  alike-node : (f : Marks → Marks) (ps : List ℕ) (ts : List Token) → Fits s ps ts → Alike s k ps ts (with_node_marks f ts)
  alike-node f ps [] h = tt
  alike-node f ps (Open j a m ∷ ts) h = (refl, h.0, alike-self (j ∷ ps) ts h.1)
  alike-node f ps (Close ∷ ts) h = (refl, h.0, alike-self (tail_of ps) ts h.1)
  alike-node f ps (Leaf j a m ∷ ts) h = (refl, h.0, alike-self ps ts h.1)
  alike-node f ps (CodeUnit u m ∷ ts) h = (refl, h.0, alike-self ps ts h.1)

  alike-append : (ps : List ℕ) (xs xs' ys ys' : List Token) → Alike s k ps xs xs' → Alike s k (unclosed ps xs) ys ys' → Alike s k ps (xs ++ ys) (xs' ++ ys')
  alike-append ps [] [] ys ys' h i = i
  alike-append ps [] (x' ∷ xs') ys ys' h i = absurd h
  alike-append ps (x ∷ xs) [] ys ys' h i = absurd h
  alike-append ps (x ∷ xs) (x' ∷ xs') ys ys' h i =
      (h.0, h.1, alike-append (after ps x) xs xs' ys ys' h.2 (subst (λ z. Alike s k z ys ys') (unclosed-append ps (x ∷ []) xs) i))

  -- a document with marks changed in a range
  alike-range : (f : ℕ → Token → Marks → Marks) (ps : List ℕ) (a x b : List Token) → Fits s ps (a ++ (x ++ b)) → Alike s k ps (a ++ (x ++ b)) (a ++ (with_marks f (unclosed ps a) x ++ b))
  alike-range f ps a x b h =
      let r = fits-rest s ps a (x ++ b) h in
      alike-append ps a a (x ++ b) (with_marks f (unclosed ps a) x ++ b) (alike-self ps a (fits-front s ps a (x ++ b) h))
      (alike-append (unclosed ps a) x (with_marks f (unclosed ps a) x) b b (alike-with f (unclosed ps a) x (fits-front s (unclosed ps a) x b r)) (alike-self (unclosed (unclosed ps a) x) b (fits-rest s (unclosed ps a) x b r)))

pub range-effect : (s : Schema) (f : ℕ → Token → Marks → Marks) (from to : ℕ) (d next : Doc) → range_outcome s f from to d ≡ Ok next → next ≡ marked f from to d
range-effect s f from to d next h =
    let u₁ = unless-ok (in_order (from ∷ to ∷ []) (length d.tokens)) Range _ next h in
    let u₂ = unless-ok (parts_no_pair d.tokens (from ∷ to ∷ [])) Pair (checked s (marked f from to d)) next u₁.1 in
    (checked-ok s (marked f from to d) next u₂.1).0

pub range-order : (s : Schema) (f : ℕ → Token → Marks → Marks) (from to : ℕ) (d next : Doc) → range_outcome s f from to d ≡ Ok next → (from ≤ to) × (to ≤ length d.tokens)
range-order s f from to d next h =
    let o = and_parts (nat_le from to) (nat_le to (length d.tokens)) (unless-ok (in_order (from ∷ to ∷ []) (length d.tokens)) Range _ next h).0 in
    (leb-true from to o.0, leb-true to (length d.tokens) o.1)

pub node-effect : (s : Schema) (f : Marks → Marks) (p : ℕ) (d next : Doc) → node_outcome s f p d ≡ Ok next → next ≡ node_marked f p d
node-effect s f p d next h =
    let u₁ = unless-ok (in_order (p ∷ []) (length d.tokens)) Range _ next h in
    let u₂ = unless-ok (parts_no_pair d.tokens (p ∷ [])) Pair (and_unless (starts_node (drop p d.tokens)) NoNode (checked s (node_marked f p d))) next u₁.1 in
    (checked-ok s (node_marked f p d) next (and-unless-ok (starts_node (drop p d.tokens)) NoNode (checked s (node_marked f p d)) next u₂.1).1).0

pub range-checks : (s : Schema) (f : ℕ → Token → Marks → Marks) (from to : ℕ) (d next : Doc) → range_outcome s f from to d ≡ Ok next → checked s next ≡ Ok next
range-checks s f from to d next h =
    let u₁ = unless-ok (in_order (from ∷ to ∷ []) (length d.tokens)) Range _ next h in
    let u₂ = unless-ok (parts_no_pair d.tokens (from ∷ to ∷ [])) Pair (checked s (marked f from to d)) next u₁.1 in
    subst (λ z. checked s z ≡ Ok next) (sym (checked-ok s (marked f from to d) next u₂.1).0) u₂.1

pub node-checks : (s : Schema) (f : Marks → Marks) (p : ℕ) (d next : Doc) → node_outcome s f p d ≡ Ok next → checked s next ≡ Ok next
node-checks s f p d next h =
    let u₁ = unless-ok (in_order (p ∷ []) (length d.tokens)) Range _ next h in
    let u₂ = unless-ok (parts_no_pair d.tokens (p ∷ [])) Pair (and_unless (starts_node (drop p d.tokens)) NoNode (checked s (node_marked f p d))) next u₁.1 in
    let u₃ = (and-unless-ok (starts_node (drop p d.tokens)) NoNode (checked s (node_marked f p d)) next u₂.1).1 in
    subst (λ z. checked s z ≡ Ok next) (sym (checked-ok s (node_marked f p d) next u₃).0) u₃

pub node-order : (s : Schema) (f : Marks → Marks) (p : ℕ) (d next : Doc) → node_outcome s f p d ≡ Ok next → p ≤ length d.tokens
node-order s f p d next h = leb-true p (length d.tokens) (unless-ok (in_order (p ∷ []) (length d.tokens)) Range _ next h).0

-- what a mark step that applies gives
pub outcome-effect : (s : Schema) (c : Step) (d next : Doc) → is_marking c ≡ true → outcome s c d ≡ Ok next → next ≡ with_tokens d (effect s d.kind c d.tokens)
outcome-effect s (Replace from to sl structure) d next m h = absurd (cc)
outcome-effect s (ReplaceAround from to gf gt sl insert structure) d next m h = absurd (cc)
outcome-effect s (AddMark from to m) d next k h = range-effect s (mark_added s m) from to d next (made-ok s (AddMark from to m) d next h).1
outcome-effect s (RemoveMark from to m) d next k h = range-effect s (mark_removed s m) from to d next (made-ok s (RemoveMark from to m) d next h).1
outcome-effect s (AddNodeMark p m) d next k h = node-effect s (add s m) p d next (made-ok s (AddNodeMark p m) d next h).1
outcome-effect s (RemoveNodeMark p m) d next k h = node-effect s (remove m) p d next (made-ok s (RemoveNodeMark p m) d next h).1
outcome-effect s (Attr p name value) d next m h = absurd (cc)
outcome-effect s (DocAttr name value) d next m h = absurd (cc)

some-inj : (x y : Doc) → Some x ≡ Some y → x ≡ y
some-inj x y h = cc

pub fold-effects : (s : Schema) (cs : List Step) (d back : Doc) → are_marking cs ≡ true → fold meaning s d cs ≡ Some back → back ≡ with_tokens d (effects s d.kind cs d.tokens)
fold-effects s [] d back m h = sym (some-inj d back h)
fold-effects s (c ∷ cs) d back m h =
    let k = and_parts (is_marking c) (are_marking cs) m in
    let f = fold-cons meaning s d back c cs h in
    let e = outcome-effect s c d f.0 k.0 f.1 in
    fold-effects s cs f.0 back k.1 f.2 ∙ ap (λ z. with_tokens z (effects s z.kind cs z.tokens)) e

pub same-token : (a b : Token) → same_token a b ≡ true → a ≡ b
same-token (Open k a m) (Open l b n) h =
    let x = and_parts ((k == l) && same_attrs a b) (same_marks same_attrs m n) h in
    let y = and_parts (k == l) (same_attrs a b) x.0 in
    rw (eqb-true k l y.0, attrs-equal a b y.1, marks-equal m n x.1) refl
same-token (Open k a m) Close h = absurd (cc)
same-token (Open k a m) (Leaf l b n) h = absurd (cc)
same-token (Open k a m) (CodeUnit u n) h = absurd (cc)
same-token Close (Open l b n) h = absurd (cc)
same-token Close Close h = refl
same-token Close (Leaf l b n) h = absurd (cc)
same-token Close (CodeUnit u n) h = absurd (cc)
same-token (Leaf k a m) (Leaf l b n) h =
    let x = and_parts ((k == l) && same_attrs a b) (same_marks same_attrs m n) h in
    let y = and_parts (k == l) (same_attrs a b) x.0 in
    rw (eqb-true k l y.0, attrs-equal a b y.1, marks-equal m n x.1) refl
same-token (Leaf k a m) (Open l b n) h = absurd (cc)
same-token (Leaf k a m) Close h = absurd (cc)
same-token (Leaf k a m) (CodeUnit u n) h = absurd (cc)
same-token (CodeUnit u m) (CodeUnit v n) h = let x = and_parts (u == v) (same_marks same_attrs m n) h in rw (eqb-true u v x.0, marks-equal m n x.1) refl
same-token (CodeUnit u m) (Open l b n) h = absurd (cc)
same-token (CodeUnit u m) Close h = absurd (cc)
same-token (CodeUnit u m) (Leaf l b n) h = absurd (cc)

pub same-tokens : (xs ys : List Token) → same_tokens xs ys ≡ true → xs ≡ ys
same-tokens [] [] h = refl
same-tokens [] (y ∷ ys) h = absurd (cc)
same-tokens (x ∷ xs) [] h = absurd (cc)
same-tokens (x ∷ xs) (y ∷ ys) h = let b = and_parts (same_token x y) (same_tokens xs ys) h in rw (same-token x y b.0, same-tokens xs ys b.1) refl

given : (r : Result Doc Reason) (ts : List Token) (d : Doc) → r ≡ Ok d → gives r ts ≡ true → d.tokens ≡ ts
given (Ok e) ts d h g = let x : d ≡ e = cc in ap (λ z. z.tokens) x ∙ same-tokens e.tokens ts g
given (Err r) ts d h g = absurd (cc)

-- the one step, or the others: where they apply they give the document back
pub one-or-restores : (s : Schema) (one : Step) (others : List Step) (d next back : Doc) → is_marking one ≡ true → are_marking others ≡ true → next ≡ with_tokens d next.tokens → effects s d.kind others next.tokens ≡ d.tokens
    → fold meaning s next (one_or s one others d next) ≡ Some back → back ≡ d
one-or-restores s one others d next back m ms e a h = at (gives (outcome s one next) d.tokens) refl h
  where
    top : (ts : List Token) → back ≡ with_tokens next ts → ts ≡ d.tokens → back ≡ d
    top ts x y = x ∙ (ap (λ z. with_tokens z ts) e ∙ ap (with_tokens d) y)

    at : (b : Bool) → gives (outcome s one next) d.tokens ≡ b → fold meaning s next (cond b (one ∷ []) others) ≡ Some back → back ≡ d
    at true g f =
        let c = fold-cons meaning s next back one [] f in
        let z : c.0 ≡ back = some-inj c.0 back c.2 in
        top (effect s next.kind one next.tokens) (sym z ∙ outcome-effect s one next c.0 m c.1)
        (ap (λ w. w.tokens) (sym (outcome-effect s one next c.0 m c.1)) ∙ given (outcome s one next) d.tokens c.0 c.1 g)
    at false g f =
        let x = fold-effects s others next back ms f in
        let k : next.kind ≡ d.kind = ap (λ w. w.kind) e in
        top (effects s next.kind others next.tokens) x (ap (λ w. effects s w others next.tokens) k ∙ a)

pub node-stands : (s : Schema) (f : Marks → Marks) (p : ℕ) (d next : Doc) → node_outcome s f p d ≡ Ok next → starts_node (drop p d.tokens) ≡ true
node-stands s f p d next h =
    let u₁ = unless-ok (in_order (p ∷ []) (length d.tokens)) Range _ next h in
    let u₂ = unless-ok (parts_no_pair d.tokens (p ∷ [])) Pair (and_unless (starts_node (drop p d.tokens)) NoNode (checked s (node_marked f p d))) next u₁.1 in
    (and-unless-ok (starts_node (drop p d.tokens)) NoNode (checked s (node_marked f p d)) next u₂.1).0

node-back : (s : Schema) (k : ℕ) (f : Marks → Marks) (a r : List Token) (p parent : ℕ) → length a ≡ p → starts_node r ≡ true → marks_suit s parent (node_marks r) ≡ true
    → effects s k (node_steps p (node_marks r) (f (node_marks r))) (a ++ with_node_marks f r) ≡ a ++ r
node-back s k f a [] p parent e h w = absurd (cc)
node-back s k f a (Open j x m ∷ q) p parent e h w = noded s k a (Open j x m) q p e refl m (f m) (and_parts (is_set s m) (are_suited s parent m) w).0
node-back s k f a (Close ∷ q) p parent e h w = absurd (cc)
node-back s k f a (Leaf j x m ∷ q) p parent e h w = noded s k a (Leaf j x m) q p e refl m (f m) (and_parts (is_set s m) (are_suited s parent m) w).0
node-back s k f a (CodeUnit u m ∷ q) p parent e h w = absurd (cc)

node-fits : (s : Schema) (ps : List ℕ) (r : List Token) → Fits s ps r → marks_suit s (head_of ps) (node_marks r) ≡ true
node-fits s ps [] h = refl
node-fits s ps (t ∷ r) h = h.0

module _ (s : Schema) (d : Doc) (v : Valid s d) where
  pub doc-fits : Fits s (d.kind ∷ []) d.tokens
  doc-fits = fits-all s (d.kind ∷ []) None d.tokens (valid-tokens s d v)

  pub range-alike : (f : ℕ → Token → Marks → Marks) (from to : ℕ) (next : Doc) → range_outcome s f from to d ≡ Ok next → Alike s d.kind (d.kind ∷ []) d.tokens (marked f from to d).tokens
  range-alike f from to next h =
      let o = range-order s f from to d next h in
      let sp = split-at d.tokens from to o.0 o.1 in
      let ps = d.kind ∷ [] in
      subst (λ z. Alike s d.kind ps z (marked f from to d).tokens) (sym sp.is)
      (alike-range s d.kind f ps (take from d.tokens) (part from to d.tokens) (drop to d.tokens) (subst (Fits s ps) sp.is doc-fits))

  pub node-alike : (f : Marks → Marks) (p : ℕ) → Alike s d.kind (d.kind ∷ []) d.tokens (node_marked f p d).tokens
  node-alike f p =
      let ps = d.kind ∷ [] in
      let t = take p d.tokens in
      let r = drop p d.tokens in
      let w : Fits s ps (t ++ r) = subst (Fits s ps) (sym (take-append-drop p d.tokens)) doc-fits in
      subst (λ z. Alike s d.kind ps z (node_marked f p d).tokens) (take-append-drop p d.tokens)
      (alike-append s d.kind ps t t r (with_node_marks f r) (alike-self s d.kind ps t (fits-front s ps t r w)) (alike-node s d.kind f (unclosed ps t) r (fits-rest s ps t r w)))

  -- where the steps of the inverse of a mark step apply to the result, they give the document back
  pub range-restores : (f : ℕ → Token → Marks → Marks) (from to : ℕ) (one : Step) (next back : Doc) → is_marking one ≡ true → range_outcome s f from to d ≡ Ok next
      → fold meaning s next (one_or_runs s one d (marked f from to d)) ≡ Some back → back ≡ d
  range-restores f from to one next back m h g =
      one-or-restores s one (run_steps s 0 None d.tokens (marked f from to d).tokens) d (marked f from to d) back m (runs-marking s 0 None d.tokens (marked f from to d).tokens) refl (runs-back s d.kind d.tokens (marked f from to d).tokens (range-alike f from to next h))
      (subst (λ z. fold meaning s z (one_or_runs s one d (marked f from to d)) ≡ Some back) (range-effect s f from to d next h) g)

  pub node-restores : (f : Marks → Marks) (p : ℕ) (one : Step) (next back : Doc) → is_marking one ≡ true → node_outcome s f p d ≡ Ok next
      → fold meaning s next (one_or s one (node_steps p (node_marks (drop p d.tokens)) (f (node_marks (drop p d.tokens)))) d (node_marked f p d)) ≡ Some back → back ≡ d
  node-restores f p one next back m h g =
      let ps = d.kind ∷ [] in
      let a = take p d.tokens in
      let r = drop p d.tokens in
      let others = node_steps p (node_marks r) (f (node_marks r)) in
      let l : length a ≡ p = omega (arith, node-order s f p d next h, length-take p d.tokens) in
      let w : Fits s ps (a ++ r) = subst (Fits s ps) (sym (take-append-drop p d.tokens)) doc-fits in
      one-or-restores s one others d (node_marked f p d) back m (nodes-marking p (node_marks r) (f (node_marks r))) refl
      (node-back s d.kind f a r p (head_of (unclosed ps a)) l (node-stands s f p d next h) (node-fits s (unclosed ps a) r (fits-rest s ps a r w)) ∙ take-append-drop p d.tokens)
      (subst (λ z. fold meaning s z (one_or s one others d (node_marked f p d)) ≡ Some back) (node-effect s f p d next h) g)
