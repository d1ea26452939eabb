-- What is written for the parts of a view is what is written for the trees of its tokens, level by level.
use Rattle.std.proofs.Common.{◌≡◌, ℕ, ◌<◌, List, [], ◌∷◌, ◌++◌, length, Bool, true, false, cond, refl, ap, sym, subst, ◌∙◌, append_assoc, arith}
use Rattle.pm_marks.specs.Sets.{same_marks}
use Rattle.pm_attrs.specs.Attrs.{same_attrs}
use Rattle.pm_tokens.specs.Tokens.{Attrs, Marks, Token, Open, Close, Leaf, CodeUnit}
use Rattle.pm_tokens.specs.Scan.{Balanced, none as empty, leaf, unit, node}
use Rattle.pm_tokens.specs.Kids.{text_tokens, EndsText}
use Rattle.pm_tokens.proofs.MarkLaws.{marks-itself, marks-differ}
use Rattle.pm_schema.specs.declared.spec.SchemaSpec.{SchemaSpec}
use Rattle.serde_json.specs.Data.{Items, no_items, item}
use Rattle.serde_json.specs.Written.{compact_text}
use Rattle.pm_docjson.specs.Trees.{Tree, text, branch, Trees, none, tree, with_unit, Levels, innermost, with_token, read_back}
use Rattle.pm_docjson.specs.Writing.{tree_written, trees_written}
use Rattle.pm_view.specs.Known.{Head, head, Known, known, pieces}
use Rattle.pm_view.specs.Seen.{Seen, Opens, Closes, Atom, Run, all_tokens, EndsRun, AreWhole}
use Rattle.pm_doctext.specs.Texts.{start_text, end_text, front_text, back_text, run_text, content_text}
use Rattle.pm_doctext.proofs.Members.{list_text, branch-is, text-is}

-- ---- nodes that are open

-- the tokens close the nodes of s, the innermost first, and each node that they open
abbrev pub Ends : List Head → List Token → Type 0
Ends [] [] = Unit {0}
Ends (h ∷ s) [] = ⊥
Ends s (Open k a m ∷ ts) = Ends (head k a m ∷ s) ts
Ends [] (Close ∷ ts) = ⊥
Ends (h ∷ s) (Close ∷ ts) = Ends s ts
Ends s (Leaf k a m ∷ ts) = Ends s ts
Ends s (CodeUnit u m ∷ ts) = Ends s ts

pub ends-more : {ts : List Token} → Balanced ts → (s : List Head) (us : List Token) → Ends s us → Ends s (ts ++ us)
ends-more empty s us h = h
ends-more (leaf k a m b) s us h = ends-more b s us h
ends-more (unit u m b) s us h = ends-more b s us h
ends-more (node k a m {inner = inner} {ts = ts} b c) s us h =
    let parts : (inner ++ (Close ∷ ts)) ++ us ≡ inner ++ (Close ∷ (ts ++ us)) = append_assoc inner (Close ∷ ts) us in
    subst (Ends (head k a m ∷ s)) (sym parts) (ends-more b (head k a m ∷ s) (Close ∷ (ts ++ us)) (ends-more c s us h))

-- one list of trees for each open node, and one for the rest
abbrev Fit : List Head → Levels → Type 0
Fit s [] = ⊥
Fit [] (t ∷ []) = Unit {0}
Fit [] (t ∷ (u ∷ levels)) = ⊥
Fit (h ∷ s) (t ∷ levels) = Fit s levels

fit-top : (s : List Head) (t u : Trees) (levels : Levels) → Fit s (t ∷ levels) → Fit s (u ∷ levels)
fit-top [] t u [] h = tt
fit-top [] t u (v ∷ levels) h = absurd h
fit-top (x ∷ s) t u levels h = h

fit-open : (s : List Head) (k : ℕ) (a : Attrs) (m : Marks) (levels : Levels) → Fit (head k a m ∷ s) levels → Fit s (with_token (Open k a m) levels)
fit-open s k a m [] h = absurd h
fit-open [] k a m (inner ∷ []) h = absurd h
fit-open (x ∷ s) k a m (inner ∷ []) h = absurd h
fit-open s k a m (inner ∷ (t ∷ levels)) h = fit-top s t (tree (branch k a m inner) t) levels h

fit-leaf : (s : List Head) (k : ℕ) (a : Attrs) (m : Marks) (levels : Levels) → Fit s levels → Fit s (with_token (Leaf k a m) levels)
fit-leaf s k a m [] h = h
fit-leaf s k a m (t ∷ levels) h = fit-top s t (tree (branch k a m none) t) levels h

fit-unit : (s : List Head) (u : ℕ) (m : Marks) (levels : Levels) → Fit s levels → Fit s (with_token (CodeUnit u m) levels)
fit-unit s u m [] h = h
fit-unit s u m (t ∷ levels) h = fit-top s t (with_unit u m t) levels h

-- what is read of tokens
abbrev read : List Token → Levels
read ts = read_back ts (none ∷ [])

fit : (s : List Head) (ts : List Token) → Ends s ts → Fit s (read ts)
fit [] [] h = tt
fit (x ∷ s) [] h = absurd h
fit s (Open k a m ∷ ts) h = fit-open s k a m (read ts) (fit (head k a m ∷ s) ts h)
fit [] (Close ∷ ts) h = absurd h
fit (x ∷ s) (Close ∷ ts) h = fit s ts h
fit s (Leaf k a m ∷ ts) h = fit-leaf s k a m (read ts) (fit s ts h)
fit s (CodeUnit u m ∷ ts) h = fit-unit s u m (read ts) (fit s ts h)

-- ---- texts

-- the trees do not begin with a text of these marks
abbrev Apart : Marks → Trees → Type 0
Apart m none = Unit {0}
Apart m (tree (text us n) ts) = m ≡ n → ⊥
Apart m (tree (branch k a n inner) ts) = Unit {0}

apart-unit : (m : Marks) (u : ℕ) (n : Marks) (ts : Trees) → (m ≡ n → ⊥) → Apart m (with_unit u n ts)
apart-unit m u n none h = h
apart-unit m u n (tree (text us k) ts) h = pick (same_marks same_attrs n k)
  where
    pick : (b : Bool) → Apart m (cond b (tree (text (u ∷ us) n) ts) (tree (text (u ∷ []) n) (tree (text us k) ts)))
    pick true = h
    pick false = h
apart-unit m u n (tree (branch k a j inner) ts) h = h

apart-open : (s : List Head) (m : Marks) (k : ℕ) (a : Attrs) (n : Marks) (levels : Levels) → Fit (head k a n ∷ s) levels → Apart m (innermost (with_token (Open k a n) levels))
apart-open s m k a n [] h = absurd h
apart-open [] m k a n (inner ∷ []) h = absurd h
apart-open (x ∷ s) m k a n (inner ∷ []) h = absurd h
apart-open s m k a n (inner ∷ (t ∷ levels)) h = tt

apart-leaf : (m : Marks) (k : ℕ) (a : Attrs) (n : Marks) (levels : Levels) → Apart m (innermost (with_token (Leaf k a n) levels))
apart-leaf m k a n [] = tt
apart-leaf m k a n (t ∷ levels) = tt

apart-text : (m : Marks) (u : ℕ) (n : Marks) (levels : Levels) → (m ≡ n → ⊥) → Apart m (innermost (with_token (CodeUnit u n) levels))
apart-text m u n [] h = tt
apart-text m u n (t ∷ levels) h = apart-unit m u n t h

apart : (s : List Head) (m : Marks) (ts : List Token) → Ends s ts → EndsText m ts → Apart m (innermost (read ts))
apart s m [] h e = tt
apart s m (Open k a n ∷ ts) h e = apart-open s m k a n (read ts) (fit (head k a n ∷ s) ts h)
apart s m (Close ∷ ts) h e = tt
apart s m (Leaf k a n ∷ ts) h e = apart-leaf m k a n (read ts)
apart s m (CodeUnit u n ∷ ts) h e = apart-text m u n (read ts) e

first_unit : (u : ℕ) (m : Marks) (ts : Trees) → Apart m ts → with_unit u m ts ≡ tree (text (u ∷ []) m) ts
first_unit u m none h = refl
first_unit u m (tree (text us n) ts) h = rw (marks-differ m n h) refl
first_unit u m (tree (branch k a n inner) ts) h = refl

next_unit : (u : ℕ) (us : List ℕ) (m : Marks) (ts : Trees) → with_unit u m (tree (text us m) ts) ≡ tree (text (u ∷ us) m) ts
next_unit u us m ts = rw (marks-itself m) refl

-- all units of a text are one tree
one-text : (u : ℕ) (us : List ℕ) (m : Marks) (t : Trees) (levels : Levels) → Apart m t → read_back (text_tokens m (u ∷ us)) (t ∷ levels) ≡ tree (text (u ∷ us) m) t ∷ levels
one-text u [] m t levels h = ap (λ z. z ∷ levels) (first_unit u m t h)
one-text u (v ∷ us) m t levels h = ap (with_token (CodeUnit u m)) (one-text v us m t levels h) ∙ ap (λ z. z ∷ levels) (next_unit u (v ∷ us) m t)

-- the tokens that a run shows are those of a text
record IsText (s : List Head) (m : Marks) (us : List ℕ) (rest : List Known) (ts : List Token) : Type 0 where
  behind : List Token
  tokens : ts ≡ text_tokens m us ++ behind
  shown : rest ≡ known s behind

text-of : (s : List Head) (m : Marks) (us : List ℕ) (rest : List Known) (ts : List Token) → pieces m us ++ rest ≡ known s ts → IsText s m us rest ts
text-of s m [] rest ts h = record { behind = ts; tokens = refl; shown = h }
text-of s m (u ∷ us) rest [] h = absurd (cc)
text-of s m (u ∷ us) rest (Open k a n ∷ ts) h = absurd (cc)
text-of s m (u ∷ us) rest (Close ∷ ts) h = absurd (cc)
text-of s m (u ∷ us) rest (Leaf k a n ∷ ts) h = absurd (cc)
text-of s m (u ∷ us) rest (CodeUnit v n ∷ ts) h =
    let first : CodeUnit v n ≡ CodeUnit u m = cc in
    let others : pieces m us ++ rest ≡ known s ts = cc in
    let more = text-of s m us rest ts others in
    record { behind = more.behind; tokens = ap (λ z. CodeUnit v n ∷ z) more.tokens ∙ ap (λ z. z ∷ (text_tokens m us ++ more.behind)) first; shown = more.shown }

ends-text : (s : List Head) (m : Marks) (us : List ℕ) (ts : List Token) → Ends s (text_tokens m us ++ ts) → Ends s ts
ends-text s m [] ts h = h
ends-text s m (u ∷ us) ts h = ends-text s m us ts h

-- where the next part does not go on a run, the next token does not go on its text
ends-run : (s : List Head) (m : Marks) (ps : List Seen) (ts : List Token) → all_tokens ps ≡ known s ts → EndsRun m ps → AreWhole ps → EndsText m ts
ends-run s m ps [] h e w = tt
ends-run s m ps (Open k a n ∷ ts) h e w = tt
ends-run s m ps (Close ∷ ts) h e w = tt
ends-run s m ps (Leaf k a n ∷ ts) h e w = tt
ends-run s m [] (CodeUnit u n ∷ ts) h e w = absurd (cc)
ends-run s m (Opens x ∷ ps) (CodeUnit u n ∷ ts) h e w = absurd (cc)
ends-run s m (Closes x ∷ ps) (CodeUnit u n ∷ ts) h e w = absurd (cc)
ends-run s m (Atom x ∷ ps) (CodeUnit u n ∷ ts) h e w = absurd (cc)
ends-run s m (Run [] j ∷ ps) (CodeUnit u n ∷ ts) h e w = absurd (omega (arith, w.0))
ends-run s m (Run (v ∷ us) j ∷ ps) (CodeUnit u n ∷ ts) h e w = λ is. e (is ∙ (let same : n ≡ j = cc in same))

read_back-append : (xs ys : List Token) (levels : Levels) → read_back (xs ++ ys) levels ≡ read_back xs (read_back ys levels)
read_back-append [] ys levels = refl
read_back-append (x ∷ xs) ys levels = ap (with_token x) (read_back-append xs ys levels)

module _ (s : SchemaSpec) where
  -- the trees of each level, each but the last with the end of its node after it
  abbrev pub levels_text : Bool → List Head → Levels → List ℕ
  levels_text first open_nodes [] = []
  levels_text first [] (ts ∷ levels) = list_text first (trees_written s ts)
  levels_text first (h ∷ open_nodes) (ts ∷ levels) = list_text first (trees_written s ts) ++ (back_text s h.kind h.marks ++ levels_text false open_nodes levels)

  -- a tree before the others of the innermost level
  tree-before : (first : Bool) (hs : List Head) (t : Tree) (ts : Trees) (levels : Levels)
      → levels_text first hs (tree t ts ∷ levels) ≡ start_text first ++ (compact_text (tree_written s t) ++ levels_text false hs (ts ∷ levels))
  unfolding trees_written
  tree-before first [] t ts levels = refl
  tree-before first (h ∷ hs) t ts levels =
      let start = start_text first in
      let value = compact_text (tree_written s t) in
      let rest = list_text false (trees_written s ts) in
      let more = back_text s h.kind h.marks ++ levels_text false hs levels in
      append_assoc start (value ++ rest) more ∙ ap (λ z. start ++ z) (append_assoc value rest more)

  close-is : (first : Bool) (h : Head) (hs : List Head) (levels : Levels)
      → (end_text first ++ back_text s h.kind h.marks) ++ levels_text false hs levels ≡ levels_text first (h ∷ hs) (none ∷ levels)
  unfolding trees_written
  close-is first h hs levels = append_assoc (end_text first) (back_text s h.kind h.marks) (levels_text false hs levels)

  open-is : (first : Bool) (k : ℕ) (a : Attrs) (m : Marks) (hs : List Head) (levels : Levels) → Fit (head k a m ∷ hs) levels
      → (start_text first ++ front_text s k a) ++ levels_text true (head k a m ∷ hs) levels ≡ levels_text first hs (with_token (Open k a m) levels)
  unfolding tree_written
  open-is first k a m hs [] h = absurd h
  open-is first k a m [] (inner ∷ []) h = absurd h
  open-is first k a m (x ∷ hs) (inner ∷ []) h = absurd h
  open-is first k a m hs (inner ∷ (t ∷ levels)) h =
      let start = start_text first in
      let front = front_text s k a in
      let mine = list_text true (trees_written s inner) in
      let back = back_text s k m in
      let rest = levels_text false hs (t ∷ levels) in
      append_assoc start front (mine ++ (back ++ rest))
      ∙ (ap (λ z. start ++ z)
      (sym (append_assoc front (mine ++ back) rest ∙ ap (λ z. front ++ z) (append_assoc mine back rest)) ∙ ap (λ z. z ++ rest) (sym (branch-is s k a m (trees_written s inner))))
      ∙ sym (tree-before first hs (branch k a m inner) t levels))

  leaf-is : (first : Bool) (k : ℕ) (a : Attrs) (m : Marks) (hs : List Head) (levels : Levels) → Fit hs levels
      → (start_text first ++ (front_text s k a ++ back_text s k m)) ++ levels_text false hs levels ≡ levels_text first hs (with_token (Leaf k a m) levels)
  unfolding tree_written trees_written
  leaf-is first k a m hs [] h = absurd h
  leaf-is first k a m hs (t ∷ levels) h =
      let start = start_text first in
      let rest = levels_text false hs (t ∷ levels) in
      append_assoc start (front_text s k a ++ back_text s k m) rest
      ∙ (ap (λ z. start ++ (z ++ rest)) (sym (branch-is s k a m no_items)) ∙ sym (tree-before first hs (branch k a m none) t levels))

  run-is : (first : Bool) (u : ℕ) (us : List ℕ) (m : Marks) (hs : List Head) (levels : Levels) → Fit hs levels → Apart m (innermost levels)
      → (start_text first ++ run_text s (u ∷ us) m) ++ levels_text false hs levels ≡ levels_text first hs (read_back (text_tokens m (u ∷ us)) levels)
  unfolding tree_written
  run-is first u us m hs [] h e = absurd h
  run-is first u us m hs (t ∷ levels) h e =
      let start = start_text first in
      let rest = levels_text false hs (t ∷ levels) in
      append_assoc start (run_text s (u ∷ us) m) rest
      ∙ (ap (λ z. start ++ (z ++ rest)) (sym (text-is s (u ∷ us) m))
      ∙ (sym (tree-before first hs (text (u ∷ us) m) t levels) ∙ ap (levels_text first hs) (sym (one-text u us m t levels e))))

  -- the parts after a part, whose text is that of the levels that they make
  abbrev Told : Bool → List Head → List Token → List Seen → Type 0
  Told first hs ts ps = content_text s first ps ≡ levels_text first hs (read ts)

  pub contents : (first : Bool) (hs : List Head) (ts : List Token) (ps : List Seen) → all_tokens ps ≡ known hs ts → AreWhole ps → Ends hs ts → Told first hs ts ps
  unfolding trees_written
  contents first [] [] [] h w e = refl
  contents first (x ∷ hs) [] [] h w e = absurd e
  contents first hs (Open k a m ∷ ts) [] h w e = absurd (cc)
  contents first hs (Close ∷ ts) [] h w e = absurd (cc)
  contents first hs (Leaf k a m ∷ ts) [] h w e = absurd (cc)
  contents first hs (CodeUnit u m ∷ ts) [] h w e = absurd (cc)
  contents first hs [] (Opens x ∷ ps) h w e = absurd (cc)
  contents first hs (Open k a m ∷ ts) (Opens x ∷ ps) h w e =
      let same : x ≡ head k a m = cc in
      let others : all_tokens ps ≡ known (head k a m ∷ hs) ts = cc in
      let rest = contents true (head k a m ∷ hs) ts ps others w e in
      ap (λ y. (start_text first ++ front_text s y.kind y.attrs) ++ content_text s true ps) same
      ∙ (ap (λ z. (start_text first ++ front_text s k a) ++ z) rest ∙ open-is first k a m hs (read ts) (fit (head k a m ∷ hs) ts e))
  contents first hs (Close ∷ ts) (Opens x ∷ ps) h w e = absurd (cc)
  contents first hs (Leaf k a m ∷ ts) (Opens x ∷ ps) h w e = absurd (cc)
  contents first hs (CodeUnit u m ∷ ts) (Opens x ∷ ps) h w e = absurd (cc)
  contents first hs [] (Closes x ∷ ps) h w e = absurd (cc)
  contents first hs (Open k a m ∷ ts) (Closes x ∷ ps) h w e = absurd (cc)
  contents first [] (Close ∷ ts) (Closes x ∷ ps) h w e = absurd e
  contents first (y ∷ hs) (Close ∷ ts) (Closes x ∷ ps) h w e =
      let same : x ≡ y = cc in
      let others : all_tokens ps ≡ known hs ts = cc in
      ap (λ z. (end_text first ++ back_text s z.kind z.marks) ++ content_text s false ps) same
      ∙ (ap (λ z. (end_text first ++ back_text s y.kind y.marks) ++ z) (contents false hs ts ps others w e) ∙ close-is first y hs (read ts))
  contents first hs (Leaf k a m ∷ ts) (Closes x ∷ ps) h w e = absurd (cc)
  contents first hs (CodeUnit u m ∷ ts) (Closes x ∷ ps) h w e = absurd (cc)
  contents first hs [] (Atom x ∷ ps) h w e = absurd (cc)
  contents first hs (Open k a m ∷ ts) (Atom x ∷ ps) h w e = absurd (cc)
  contents first hs (Close ∷ ts) (Atom x ∷ ps) h w e = absurd (cc)
  contents first hs (Leaf k a m ∷ ts) (Atom x ∷ ps) h w e =
      let same : x ≡ head k a m = cc in
      let others : all_tokens ps ≡ known hs ts = cc in
      ap (λ y. (start_text first ++ (front_text s y.kind y.attrs ++ back_text s y.kind y.marks)) ++ content_text s false ps) same
      ∙ (ap (λ z. (start_text first ++ (front_text s k a ++ back_text s k m)) ++ z) (contents false hs ts ps others w e) ∙ leaf-is first k a m hs (read ts) (fit hs ts e))
  contents first hs (CodeUnit u m ∷ ts) (Atom x ∷ ps) h w e = absurd (cc)
  contents first hs ts (Run [] m ∷ ps) h w e = absurd (omega (arith, w.0))
  contents first hs ts (Run (u ∷ us) m ∷ ps) h w e =
      let t = text-of hs m (u ∷ us) (all_tokens ps) ts h in
      let inner = ends-text hs m (u ∷ us) t.behind (subst (Ends hs) t.tokens e) in
      let next = ends-run hs m ps t.behind t.shown w.1 w.2 in
      let whole : read ts ≡ read_back (text_tokens m (u ∷ us)) (read t.behind) = ap read t.tokens ∙ read_back-append (text_tokens m (u ∷ us)) t.behind (none ∷ []) in
      ap (λ z. (start_text first ++ run_text s (u ∷ us) m) ++ z) (contents false hs t.behind ps t.shown w.2 inner)
      ∙ (run-is first u us m hs (read t.behind) (fit hs t.behind inner) (apart hs m t.behind inner next) ∙ ap (levels_text first hs) (sym whole))
