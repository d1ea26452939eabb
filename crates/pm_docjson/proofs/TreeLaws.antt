-- The trees of a list of nodes are those of its nodes, one after another.
use Rattle.std.proofs.Common.{◌≡◌, ℕ, List, [], ◌∷◌, ◌++◌, refl, ap, sym, subst, ◌∙◌, append_assoc, cond, Bool, true, false}
use Rattle.pm_marks.specs.Sets.{same_marks}
use Rattle.pm_tokens.specs.Tokens.{Attrs, Marks, Token, Open, Close, Leaf, CodeUnit}
use Rattle.pm_attrs.specs.Attrs.{same_attrs}
use Rattle.pm_tokens.specs.Scan.{Balanced, none as empty, leaf, unit, node}
use Rattle.pm_tokens.specs.Kids.{text_tokens, EndsText}
use Rattle.pm_tokens.proofs.MarkLaws.{marks-itself, marks-differ}
use Rattle.pm_docjson.specs.Trees.{text, branch, Trees, none, tree, with_unit, Levels, innermost, with_token, read_back, trees_of}

pub read_back-append : (xs ys : List Token) (levels : Levels) → read_back (xs ++ ys) levels ≡ read_back xs (read_back ys levels)
read_back-append [] ys levels = refl
read_back-append (x ∷ xs) ys levels = ap (with_token x) (read_back-append xs ys levels)

-- what a list of nodes is before the trees ts
abbrev before : List Token → Trees → Trees
before xs ts = innermost (read_back xs (ts ∷ []))

opened : (inner xs : List Token) (mine behind : Trees) (start levels : Levels) → read_back xs start ≡ behind ∷ levels → read_back inner (none ∷ behind ∷ levels) ≡ mine ∷ behind ∷ levels
    → read_back (inner ++ (Close ∷ xs)) start ≡ mine ∷ behind ∷ levels
opened inner xs mine behind start levels h g = read_back-append inner (Close ∷ xs) start ∙ ap (λ z. read_back inner (none ∷ z)) h ∙ g

-- a whole number of nodes reaches the innermost level alone
pub read_back-balanced : {xs : List Token} → Balanced xs → (ts : Trees) (levels : Levels) → read_back xs (ts ∷ levels) ≡ before xs ts ∷ levels
read_back-balanced empty ts levels = refl
read_back-balanced (leaf k a m {ts = xs} h) ts levels = ap (with_token (Leaf k a m)) (read_back-balanced h ts levels) ∙ ap (λ z. innermost (with_token (Leaf k a m) z) ∷ levels) (sym (read_back-balanced h ts []))
read_back-balanced (unit u m {ts = xs} h) ts levels = ap (with_token (CodeUnit u m)) (read_back-balanced h ts levels) ∙ ap (λ z. innermost (with_token (CodeUnit u m) z) ∷ levels) (sym (read_back-balanced h ts []))
read_back-balanced (node k a m {inner = inner} {ts = xs} g h) ts levels =
    let here = opened inner xs (trees_of inner) (before xs ts) (ts ∷ levels) levels (read_back-balanced h ts levels) (read_back-balanced g none (before xs ts ∷ levels)) in
    let alone = opened inner xs (trees_of inner) (before xs ts) (ts ∷ []) [] (read_back-balanced h ts []) (read_back-balanced g none (before xs ts ∷ [])) in
    ap (with_token (Open k a m)) here ∙ ap (λ z. innermost (with_token (Open k a m) z) ∷ levels) (sym alone)

-- the trees of nodes are one level
pub one_level : {xs : List Token} → Balanced xs → read_back xs (none ∷ []) ≡ trees_of xs ∷ []
one_level h = read_back-balanced h none []

-- a leaf, a node and a text before nodes

pub trees-leaf : (k : ℕ) (a : Attrs) (m : Marks) {xs : List Token} → Balanced xs → trees_of (Leaf k a m ∷ xs) ≡ tree (branch k a m none) (trees_of xs)
trees-leaf k a m h = ap (λ z. innermost (with_token (Leaf k a m) z)) (one_level h)

pub trees-branch : (k : ℕ) (a : Attrs) (m : Marks) {inner xs : List Token} → Balanced inner → Balanced xs
    → trees_of ((Open k a m ∷ (inner ++ (Close ∷ []))) ++ xs) ≡ tree (branch k a m (trees_of inner)) (trees_of xs)
trees-branch k a m {inner = inner} {xs = xs} g h =
    let parts : (inner ++ (Close ∷ [])) ++ xs ≡ inner ++ (Close ∷ xs) = append_assoc inner (Close ∷ []) xs in
    ap (λ z. innermost (with_token (Open k a m) (read_back z (none ∷ [])))) parts
    ∙ ap (λ z. innermost (with_token (Open k a m) z)) (opened inner xs (trees_of inner) (trees_of xs) (none ∷ []) [] (one_level h) (read_back-balanced g none (trees_of xs ∷ [])))

-- the trees do not begin with a text of these marks
abbrev Apart : Marks → Trees → Type 0
Apart m none = Unit {0}
Apart m (tree (text us n) ts) = m ≡ n → ⊥
Apart m (tree (branch k a n inner) ts) = Unit {0}

apart-unit : (m : Marks) (u : ℕ) (n : Marks) (ts : Trees) → (m ≡ n → ⊥) → Apart m (with_unit u n ts)
apart-unit m u n none h = h
apart-unit m u n (tree (text us k) ts) h = pick (same_marks same_attrs n k)
  where
    pick : (b : Bool) → Apart m (cond b (tree (text (u ∷ us) n) ts) (tree (text (u ∷ []) n) (tree (text us k) ts)))
    pick true = h
    pick false = h
apart-unit m u n (tree (branch k a j inner) ts) h = h

apart-trees : (m : Marks) {xs : List Token} → Balanced xs → EndsText m xs → Apart m (trees_of xs)
apart-trees m empty h = tt
apart-trees m (leaf k a n g) h = subst (Apart m) (sym (trees-leaf k a n g)) tt
apart-trees m (unit u n {ts = xs} g) h = subst (Apart m) (sym (ap (λ z. innermost (with_token (CodeUnit u n) z)) (one_level g))) (apart-unit m u n (trees_of xs) h)
apart-trees m (node k a n {inner = inner} {ts = xs} f g) h = subst (Apart m) (ap trees_of (ap (λ z. Open k a n ∷ z) (append_assoc inner (Close ∷ []) xs))) (subst (Apart m) (sym (trees-branch k a n f g)) tt)

first_unit : (u : ℕ) (m : Marks) (ts : Trees) → Apart m ts → with_unit u m ts ≡ tree (text (u ∷ []) m) ts
first_unit u m none h = refl
first_unit u m (tree (text us n) ts) h = rw (marks-differ m n h) refl
first_unit u m (tree (branch k a n inner) ts) h = refl

next_unit : (u : ℕ) (us : List ℕ) (m : Marks) (ts : Trees) → with_unit u m (tree (text us m) ts) ≡ tree (text (u ∷ us) m) ts
next_unit u us m ts = rw (marks-itself m) refl

text_level : (u : ℕ) (us : List ℕ) (m : Marks) {xs : List Token} → Balanced xs → EndsText m xs → read_back (text_tokens m (u ∷ us) ++ xs) (none ∷ []) ≡ tree (text (u ∷ us) m) (trees_of xs) ∷ []
text_level u [] m {xs = xs} g h = ap (with_token (CodeUnit u m)) (one_level g) ∙ ap (λ z. z ∷ []) (first_unit u m (trees_of xs) (apart-trees m g h))
text_level u (u₂ ∷ us) m {xs = xs} g h = ap (with_token (CodeUnit u m)) (text_level u₂ us m g h) ∙ ap (λ z. z ∷ []) (next_unit u (u₂ ∷ us) m (trees_of xs))

pub trees-text : (u : ℕ) (us : List ℕ) (m : Marks) {xs : List Token} → Balanced xs → EndsText m xs → trees_of (text_tokens m (u ∷ us) ++ xs) ≡ tree (text (u ∷ us) m) (trees_of xs)
trees-text u us m g h = ap innermost (text_level u us m g h)
