-- Nodes with the marks of their tokens in a range changed.
use Rattle.std.specs.Prelude.{◌≡◌, ℕ, ◌-◌, ◌≤◌, ◌<◌, Bool, true, false, ◌&&◌, ◌||◌, List, [], ◌∷◌, ◌++◌, length, take, drop, min}
use Rattle.std.proofs.Common.{zero, suc, inl, inr, refl, ap, sym, ◌∙◌, arith, length-drop, append_assoc}
use Rattle.std.proofs.lemmas.Bool.{cases_lt}
use Rattle.std.proofs.lemmas.List.{take_all, drop_all, drop_min}
use Rattle.pm_tokens.specs.Tokens.{Marks, Token, Open, Close, Leaf, CodeUnit}
use Rattle.pm_tokens.specs.Kids.{text_tokens}
use Rattle.pm_tokens.specs.Scan.{Balanced, part}
use Rattle.pm_tokens.specs.Schemas.{Schema}
use Rattle.pm_tokens.proofs.ListLaws.{take-nil}
use Rattle.pm_tokens.proofs.OwnedParts.{part_min}
use Rattle.pm_node.specs.declared.node.Node.{Node}
use Rattle.pm_node.specs.declared.node.Body.TheVariants.{Text, Leaf as Childless, Children}
use Rattle.pm_node.specs.Trees.{node_tokens, body_tokens}
use Rattle.pm_node.proofs.TreeLaws.{node_tokens_at}
use Rattle.pm_meaning.specs.Marked.{takes_marks, is_inline_token, starts_node}
use Rattle.pm_step.specs.declared.marking.Marking.{Marking}
use Rattle.pm_apply.specs.declared.marking.Sort.{Sort}
use Rattle.pm_apply.specs.declared.marking.Reach.{Reach}
use Rattle.pm_apply.specs.Markings.{new_marks, sort_marks, marked_in}
use Rattle.pm_apply.proofs.MarkedLaws.{read, read-is, read-none, read-past, read-node, read-text, read-length, in_range}

-- ---- parts of a text

pub cut-front : {A : Type 0} (n : ℕ) (xs : List A) → part 0 (min (length xs) n) xs ≡ take n xs
cut-front n xs = part_min 0 n xs ∙ (let e : n - 0 ≡ n = omega arith in ap (λ k. take k xs) e)

pub cut-behind : {A : Type 0} (n : ℕ) (xs : List A) → part (min (length xs) n) (length xs) xs ≡ drop n xs
cut-behind n xs =
    let e : min (length xs) n ≡ min n (length xs) = omega arith in
    let d : drop (min (length xs) n) xs ≡ drop n xs = ap (λ k. drop k xs) e ∙ drop_min n xs in
    ap (take (length xs - min (length xs) n)) d ∙ take_all (length xs - min (length xs) n) (drop n xs) (omega (arith, ap length (sym d), length-drop (min (length xs) n) xs))

pub cut-middle : {A : Type 0} (f t : ℕ) (xs : List A) → part (min (length xs) f) (min (length xs) t) xs ≡ part f t xs
cut-middle f t xs = elim (cases_lt (length xs) f) [
  | inl p ↦ (let e : min (length xs) t - min (length xs) f ≡ 0 = omega (arith, p) in ap (λ n. take n (drop (min (length xs) f) xs)) e ∙ sym (ap (take (t - f)) (drop_all f xs (omega (arith, p))) ∙ take-nil (t - f)))
  | inr p ↦ (let e : min (length xs) f ≡ f = omega (arith, p) in ap (λ n. part n (min (length xs) t) xs) e ∙ part_min f t xs)
]

pub front_is : (us made : List ℕ) (from start len : ℕ) → made ≡ part 0 start us → start ≡ min len from → len ≡ length us → made ≡ take from us
front_is us made from start len e n l = e ∙ (ap (λ z. part 0 z us) (n ∙ ap (λ z. min z from) l) ∙ cut-front from us)

pub middle_is : (us made : List ℕ) (from to start end len : ℕ) → made ≡ part start end us → start ≡ min len from → end ≡ min len to → len ≡ length us → made ≡ part from to us
middle_is us made from to start end len e n m l =
    e ∙ (ap (λ z. part z end us) (n ∙ ap (λ z. min z from) l) ∙ (ap (λ z. part (min (length us) from) z us) (m ∙ ap (λ z. min z to) l) ∙ cut-middle from to us))

pub behind_is : (us made : List ℕ) (to end len : ℕ) → made ≡ part end len us → end ≡ min len to → len ≡ length us → made ≡ drop to us
behind_is us made to end len e n l = e ∙ (ap (λ z. part z len us) (n ∙ ap (λ z. min z to) l) ∙ (ap (λ z. part (min (length us) to) z us) l ∙ cut-behind to us))

-- three texts, one put after another
pub three-texts : (h g m₁ m₂ m₃ : Marks) (a b c a' b' c' : List ℕ) (x₀ x₁ x₂ x₃ : List Token)
    → x₁ ≡ x₀ ++ text_tokens m₁ a → x₂ ≡ x₁ ++ text_tokens m₂ b → x₃ ≡ x₂ ++ text_tokens m₃ c → m₁ ≡ h → m₂ ≡ g → m₃ ≡ h → a ≡ a' → b ≡ b' → c ≡ c'
    → x₃ ≡ x₀ ++ (text_tokens h a' ++ (text_tokens g b' ++ text_tokens h c'))
three-texts h g m₁ m₂ m₃ a b c a' b' c' x₀ x₁ x₂ x₃ e₁ e₂ e₃ n₁ n₂ n₃ i j k =
    let ta : text_tokens m₁ a ≡ text_tokens h a' = ap (λ z. text_tokens z a) n₁ ∙ ap (text_tokens h) i in
    let tb : text_tokens m₂ b ≡ text_tokens g b' = ap (λ z. text_tokens z b) n₂ ∙ ap (text_tokens g) j in
    let tc : text_tokens m₃ c ≡ text_tokens h c' = ap (λ z. text_tokens z c) n₃ ∙ ap (text_tokens h) k in
    let y₁ : x₁ ≡ x₀ ++ text_tokens h a' = e₁ ∙ ap (λ z. x₀ ++ z) ta in
    let y₂ : x₂ ≡ (x₀ ++ text_tokens h a') ++ text_tokens g b' = e₂ ∙ (ap (λ z. z ++ text_tokens m₂ b) y₁ ∙ ap (λ z. (x₀ ++ text_tokens h a') ++ z) tb) in
    e₃ ∙ (ap (λ z. z ++ text_tokens m₃ c) y₂ ∙ (ap (λ z. ((x₀ ++ text_tokens h a') ++ text_tokens g b') ++ z) tc
    ∙ (append_assoc (x₀ ++ text_tokens h a') (text_tokens g b') (text_tokens h c') ∙ append_assoc x₀ (text_tokens h a') (text_tokens g b' ++ text_tokens h c'))))

-- ---- sorts

pub sort-is : (s : Schema) (m : Marking) (r : Reach) (k : Sort) (parent : ℕ) (t : Token) (old : Marks)
    → k.takes ≡ takes_marks s t → k.inline ≡ is_inline_token s t → k.node ≡ starts_node (t ∷ []) → sort_marks s m r k parent old ≡ new_marks s m r parent t old
sort-is s m r k parent t old e f g = rw (e, f, g) refl

pub and-yes : (a b : Bool) → (a && (true || b)) ≡ a
and-yes true b = refl
and-yes false b = refl

-- ---- nodes

module _ (f : ℕ → Token → Marks → Marks) (parent : ℕ) where
  pub marked-none : (ps : List ℕ) (from to : ℕ) (ts : List Token) → from ≤ to → to ≤ from → marked_in f (parent ∷ ps) from to ts ≡ ts
  marked-none ps from to ts h i = read-is f (parent ∷ ps) from to ts h ∙ read-none f (parent ∷ ps) from to ts i

  pub marked-past : (ps : List ℕ) (from to : ℕ) (ts : List Token) → from ≤ to → length ts ≤ from → marked_in f (parent ∷ ps) from to ts ≡ ts
  marked-past ps from to ts h i = read-is f (parent ∷ ps) from to ts h ∙ read-past f (parent ∷ ps) from to ts i

  pub marked-text : (ps : List ℕ) (n : Node) (us : List ℕ) (g : Marks) (from to : ℕ) → n.body ≡ Text us → from ≤ to → ((u : ℕ) → f parent (CodeUnit u n.marks) n.marks ≡ g)
      → text_tokens n.marks (take from us) ++ (text_tokens g (part from to us) ++ text_tokens n.marks (drop to us)) ≡ marked_in f (parent ∷ ps) from to (node_tokens n)
  marked-text ps n us g from to e h same =
      sym (read-text f (parent ∷ ps) n.marks g same from to us h)
      ∙ (sym (read-is f (parent ∷ ps) from to (text_tokens n.marks us) h) ∙ ap (marked_in f (parent ∷ ps) from to) (sym (node_tokens_at n (Text us) e)))

  -- a token that stands in the range
  in-front : (from to : ℕ) (ps : List ℕ) (t : Token) → from ≡ 0 → 0 < to → in_range f from to ps t ≡ in_range f 0 1 ps t
  in-front zero zero ps t e h = absurd (omega (arith, h))
  in-front zero (suc to) ps t e h = refl
  in-front (suc from) to ps t e h = absurd (omega (arith, e))

  in-behind : (from to : ℕ) (ps : List ℕ) (t : Token) → 0 < from → in_range f from to ps t ≡ t
  in-behind zero to ps t h = absurd (omega (arith, h))
  in-behind (suc from) to ps t h = refl

  pub marked-leaf : (ps : List ℕ) (n : Node) (g : Marks) (from to : ℕ) → n.body ≡ Childless → from < to → from < length (node_tokens n) → f parent (Leaf n.kind n.attrs n.marks) n.marks ≡ g
      → body_tokens n.kind n.attrs g Childless ≡ marked_in f (parent ∷ ps) from to (node_tokens n)
  marked-leaf ps n g from to e h i same =
      let is = node_tokens_at n Childless e in
      let z : from ≡ 0 = omega (arith, i, ap length is) in
      let t = Leaf n.kind n.attrs n.marks in
      sym (ap (marked_in f (parent ∷ ps) from to) is
      ∙ (read-is f (parent ∷ ps) from to (t ∷ []) (omega (arith, h))
      ∙ (ap (λ x. x ∷ []) (in-front from to (parent ∷ ps) t z (omega (arith, h))) ∙ ap (λ x. Leaf n.kind n.attrs x ∷ []) same)))

  -- a node with content, whose open has the marks g and whose content was changed
  pub marked-open : (ps : List ℕ) (n : Node) (inner made : List Token) (g : Marks) (from to start end : ℕ) → n.body ≡ Children inner → Balanced inner → from < to
      → (from ≡ 0 → g ≡ f parent (Open n.kind n.attrs n.marks) n.marks) → (0 < from → g ≡ n.marks)
      → start ≡ from - 1 → end ≡ to - 1 → ((qs : List ℕ) → made ≡ marked_in f (n.kind ∷ qs) start end inner)
      → body_tokens n.kind n.attrs g (Children made) ≡ marked_in f (parent ∷ ps) from to (node_tokens n)
  marked-open ps n inner made g from to start end e b h first later es ee inside =
      let t = Open n.kind n.attrs n.marks in
      let head : Open n.kind n.attrs g ≡ in_range f from to (parent ∷ ps) t = elim (cases_lt 0 from) [
        | inl p ↦ (ap (λ x. Open n.kind n.attrs x) (later p) ∙ sym (in-behind from to (parent ∷ ps) t p))
        | inr p ↦ (let z : from ≡ 0 = omega (arith, p) in ap (λ x. Open n.kind n.attrs x) (first z) ∙ sym (in-front from to (parent ∷ ps) t z (omega (arith, h))))
      ] in
      let body : made ≡ read f (n.kind ∷ parent ∷ ps) (from - 1) (to - 1) inner =
      inside (parent ∷ ps) ∙ (read-is f (n.kind ∷ parent ∷ ps) start end inner (omega (arith, es, ee, h))
      ∙ (ap (λ x. read f (n.kind ∷ parent ∷ ps) x end inner) es ∙ ap (λ x. read f (n.kind ∷ parent ∷ ps) (from - 1) x inner) ee)) in
      ap (λ x. x ∷ (made ++ (Close ∷ []))) head
      ∙ (ap (λ x. in_range f from to (parent ∷ ps) t ∷ (x ++ (Close ∷ []))) body
      ∙ (sym (read-node f (parent ∷ ps) from to n.kind n.attrs n.marks inner b)
      ∙ (sym (read-is f (parent ∷ ps) from to (t ∷ (inner ++ (Close ∷ []))) (omega (arith, h)))
      ∙ ap (marked_in f (parent ∷ ps) from to) (sym (node_tokens_at n (Children inner) e)))))

  pub marked-length : (from to : ℕ) (ts made : List Token) → from ≤ to → ((ps : List ℕ) → made ≡ marked_in f (parent ∷ ps) from to ts) → length made ≡ length ts
  marked-length from to ts made h m = ap length (m [] ∙ read-is f (parent ∷ []) from to ts h) ∙ read-length f (parent ∷ []) from to ts
