-- The types of the nodes that begin before a position.
use Rattle.std.specs.Prelude.{◌≡◌, ℕ, ◌+◌, ◌-◌, ◌≤◌, ◌<◌, None, List, [], ◌∷◌, ◌++◌, length, take, drop, get_or}
use Rattle.std.specs.declared.sync.Arc.{Arc}
use Rattle.std.specs.Arc.{arc_value}
use Rattle.std.proofs.Common.{ap, sym, ◌∙◌, arith, append_assoc, length-append}
use Rattle.std.proofs.lemmas.List.{append-nil}
use Rattle.pm_tokens.specs.Tokens.{Attrs, Marks, Token, Close}
use Rattle.pm_tokens.specs.Kids.{text_tokens, EndsText, kids}
use Rattle.pm_tokens.proofs.ListLaws.{take-nil}
use Rattle.pm_node.specs.declared.node.Node.{Node}
use Rattle.pm_node.specs.declared.node.Body.{Body}
use Rattle.pm_node.specs.declared.node.Body.TheVariants.{Text, Leaf as Childless, Children}
use Rattle.pm_node.specs.Trees.{node_tokens, body_tokens, list_tokens, IsText, IsNormal, WholeBody, EachWhole}
use Rattle.pm_node.specs.Kinds.{body_kind, kind_in}
use Rattle.pm_node.proofs.KindLaws.{ends-apart}
use Rattle.pm_node.proofs.WalkLaws.{rest, child-at, rest-end}
use Rattle.pm_fit.proofs.TakeLaws.{take-leaf, take-node, take-run}

module _ (text : ℕ) where
  take-body : (k : ℕ) (a : Attrs) (m : Marks) (b : Body) (ts : List Token) (q : ℕ) → 0 < q → WholeBody b → 0 < length (body_tokens k a m b) → (IsText b → EndsText m ts) → kids text 0 None (take q (body_tokens k a m b ++ ts)) ≡ body_kind text k b ∷ kids text 0 None (take (q - length (body_tokens k a m b)) ts)
  take-body k a m (Text []) ts q h w p e = absurd (omega (arith, p))
  take-body k a m (Text (u ∷ us)) ts q h w p e = take-run text m u us ts q h (e tt)
  take-body k a m Childless ts q h w p e = take-leaf text k a m ts q h
  take-body k a m (Children inner) ts q h w p e =
      let size : q - (length inner + 2) ≡ q - length (body_tokens k a m (Children inner)) = omega (arith, length-append inner (Close ∷ [])) in
      take-node text k a m w ts q h ∙ ap (λ z. k ∷ kids text 0 None (take z ts)) size

  -- the types of those that begin before the position are those seen so far and those among the rest
  pub record Seen {Z : Type 0} (xs : List (Arc Node Z)) (pos i left : ℕ) (types : List ℕ) : Type 0 where
    pub are : kids text 0 None (take pos (list_tokens xs)) ≡ types ++ kids text 0 None (take left (rest xs i))

  pub seen-none : {Z : Type 0} (xs : List (Arc Node Z)) (pos : ℕ) (types : List ℕ) → types ≡ [] → Seen xs pos 0 pos types
  seen-none xs pos types e = record { are = ap (λ (z : List ℕ). z ++ kids text 0 None (take pos (list_tokens xs))) (sym e) }

  pub seen-more : {Z : Type 0} (xs : List (Arc Node Z)) (pos i left next size : ℕ) (types more : List ℕ) (x : Arc Node Z) (kind : ℕ) → IsNormal xs → EachWhole xs → i < length xs → x ≡ get_or xs i x → (left ≡ 0 → ⊥) → size ≡ length (node_tokens (arc_value x)) → next ≡ left - size → kind ≡ kind_in text (arc_value x) → more ≡ types ++ (kind ∷ [])
      → Seen xs pos i left types → Seen xs pos (i + 1) next more
  seen-more xs pos i left next size types more x kind n w l e some z f k m s =
      let v = arc_value x in
      let c = child-at xs i x n w l e in
      let here = take-body v.kind v.attrs v.marks v.body (rest xs (i + 1)) left (omega (arith, some)) c.body c.full (λ t. ends-apart v (drop (i + 1) xs) t c.apart c.normal) in
      let left-is : left - length (node_tokens v) ≡ next = omega (arith, z, f) in
      record {
        are =
            s.are ∙ (ap (λ ts. types ++ kids text 0 None (take left ts)) c.tokens ∙ (ap (λ ks. types ++ ks) here
            ∙ (ap (λ j. types ++ (j ∷ kids text 0 None (take (left - length (node_tokens v)) (rest xs (i + 1))))) (sym k)
            ∙ (ap (λ j. types ++ (kind ∷ kids text 0 None (take j (rest xs (i + 1))))) left-is
            ∙ (sym (append_assoc types (kind ∷ []) (kids text 0 None (take next (rest xs (i + 1))))) ∙ ap (λ (ks : List ℕ). ks ++ kids text 0 None (take next (rest xs (i + 1)))) (sym m))))));
      }

  -- nothing is left before the position
  pub seen-stop : {Z : Type 0} (xs : List (Arc Node Z)) (pos i left : ℕ) (types : List ℕ) → left ≡ 0 → Seen xs pos i left types → types ≡ kids text 0 None (take pos (list_tokens xs))
  seen-stop xs pos i left types z s = sym (s.are ∙ (ap (λ j. types ++ kids text 0 None (take j (rest xs i))) z ∙ append-nil types))

  -- no child is left
  pub seen-end : {Z : Type 0} (xs : List (Arc Node Z)) (pos i left : ℕ) (types : List ℕ) → length xs ≤ i → Seen xs pos i left types → types ≡ kids text 0 None (take pos (list_tokens xs))
  seen-end xs pos i left types h s = sym (s.are ∙ (ap (λ ts. types ++ kids text 0 None (take left ts)) (rest-end xs i h) ∙ (ap (λ ts. types ++ kids text 0 None ts) (take-nil left) ∙ append-nil types)))

  -- a text is one node
  pub text-seen : (m : Marks) (us : List ℕ) (pos : ℕ) → 0 < length us → 0 < pos → kids text 0 None (take pos (text_tokens m us)) ≡ text ∷ []
  text-seen m [] pos h p = absurd (omega (arith, h))
  text-seen m (u ∷ us) pos h p = ap (λ ts. kids text 0 None (take pos ts)) (sym (append-nil (text_tokens m (u ∷ us)))) ∙ (take-run text m u us [] pos p tt ∙ ap (λ ts. text ∷ kids text 0 None ts) (take-nil (pos - length (text_tokens m (u ∷ us)))))

  pub text-empty : (m : Marks) (us : List ℕ) (pos : ℕ) → length us ≡ 0 → kids text 0 None (take pos (text_tokens m us)) ≡ []
  text-empty m [] pos h = ap (kids text 0 None) (take-nil pos)
  text-empty m (u ∷ us) pos h = absurd (omega (arith, h))
