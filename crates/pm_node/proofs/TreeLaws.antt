-- What a node and a list of nodes are seen as, and how a fragment's form is kept.
use Rattle.std.specs.Prelude.{◌≡◌, ℕ, ◌+◌, ◌≤◌, ◌<◌, ◌^◌, Option, Some, None, List, [], ◌∷◌, ◌++◌, length, take, drop, set, get_or}
use Rattle.std.specs.declared.sync.Arc.{Arc}
use Rattle.std.specs.Arc.{arc_value}
use Rattle.std.proofs.Common.{suc, refl, ap, sym, ◌∙◌, subst, arith, append_assoc, length-append}
use Rattle.std.proofs.lemmas.List.{append-nil, take_more, take_all, set_split, drop_all, get_or_at, at_drop_more}
use Rattle.pm_tokens.specs.Tokens.{Attrs, Marks, Token, Open, Close, CodeUnit}
use Rattle.pm_tokens.specs.Scan.{Balanced, none, node}
use Rattle.pm_tokens.specs.Kids.{text_tokens}
use Rattle.pm_tokens.proofs.BalanceLaws.{balanced-append}
use Rattle.pm_node.specs.declared.node.Node.{Node}
use Rattle.pm_node.specs.declared.node.Body.{Body}
use Rattle.pm_node.specs.declared.node.Body.TheVariants.{Text, Leaf as Childless, Children}
use Rattle.pm_node.specs.Trees.{body_tokens, node_tokens, list_tokens, IsText, Meets, Joined, IsNormal, Form, WholeBody, EachWhole}

pub length-text_tokens : (m : Marks) (us : List ℕ) → length (text_tokens m us) ≡ length us
length-text_tokens m [] = refl
length-text_tokens m (u ∷ us) = ap suc (length-text_tokens m us)

pub text_tokens-append : (m : Marks) (us vs : List ℕ) → text_tokens m (us ++ vs) ≡ text_tokens m us ++ text_tokens m vs
text_tokens-append m [] vs = refl
text_tokens-append m (u ∷ us) vs = ap (λ z. CodeUnit u m ∷ z) (text_tokens-append m us vs)

pub node_tokens_at : (n : Node) (b : Body) → n.body ≡ b → node_tokens n ≡ body_tokens n.kind n.attrs n.marks b
node_tokens_at n b e = ap (body_tokens n.kind n.attrs n.marks) e

pub balanced-node : (k : ℕ) (a : Attrs) (m : Marks) {ts : List Token} → Balanced ts → Balanced (Open k a m ∷ (ts ++ (Close ∷ [])))
balanced-node k a m r = node k a m r none

pub list_tokens-append : {Z : Type 0} (xs ys : List (Arc Node Z)) → list_tokens (xs ++ ys) ≡ list_tokens xs ++ list_tokens ys
list_tokens-append [] ys = refl
list_tokens-append (x ∷ xs) ys =
    ap (λ z. node_tokens (arc_value x) ++ z) (list_tokens-append xs ys) ∙ sym (append_assoc (node_tokens (arc_value x)) (list_tokens xs) (list_tokens ys))

pub list_tokens-push : {Z : Type 0} (xs : List (Arc Node Z)) (y : Arc Node Z) → list_tokens (xs ++ (y ∷ [])) ≡ list_tokens xs ++ node_tokens (arc_value y)
list_tokens-push xs y = list_tokens-append xs (y ∷ []) ∙ ap (λ z. list_tokens xs ++ z) (append-nil (node_tokens (arc_value y)))

pub normal-push : {Z : Type 0} (xs : List (Arc Node Z)) (y : Arc Node Z) → IsNormal xs → 0 < length (node_tokens (arc_value y)) → ((front : List (Arc Node Z)) (x : Arc Node Z) → xs ≡ front ++ (x ∷ []) → ¬ Meets (arc_value x) (arc_value y)) → IsNormal (xs ++ (y ∷ []))
normal-push [] y n p h = (p, tt, tt)
normal-push (x ∷ []) y n p h = (n.0, h [] x refl, (p, tt, tt))
normal-push (x ∷ (z ∷ zs)) y n p h = (n.0, n.1, normal-push (z ∷ zs) y n.2 p (λ front w e. h (x ∷ front) w (ap (λ v. x ∷ v) e)))

pub normal-last : {Z : Type 0} (front : List (Arc Node Z)) (x y : Arc Node Z) → IsNormal (front ++ (x ∷ [])) → Meets (arc_value x) (arc_value y) → 0 < length (node_tokens (arc_value y)) → IsNormal (front ++ (y ∷ []))
normal-last [] x y n m p = (p, tt, tt)
normal-last (w ∷ []) x y n m p = (n.0, λ q. n.1 (q.0, m.0, q.2 ∙ sym m.2), (p, tt, tt))
normal-last (w ∷ (v ∷ vs)) x y n m p = (n.0, n.1, normal-last (v ∷ vs) x y n.2 m p)

-- the last of a list
pub split_last : {A : Type 0} (xs : List A) (d : A) (i : ℕ) → i + 1 ≡ length xs → xs ≡ take i xs ++ (get_or xs i d ∷ [])
split_last xs d i e = sym (take_all (i + 1) xs (omega arith)) ∙ take_more xs i d (omega arith)

pub each-push : {Z : Type 0} (xs : List (Arc Node Z)) (y : Arc Node Z) → EachWhole xs → WholeBody (arc_value y).body → EachWhole (xs ++ (y ∷ []))
each-push [] y e w = (w, tt)
each-push (x ∷ xs) y e w = (e.0, each-push xs y e.1 w)

pub each-front : {Z : Type 0} (xs : List (Arc Node Z)) (y : Arc Node Z) → EachWhole (xs ++ (y ∷ [])) → EachWhole xs
each-front [] y e = tt
each-front (x ∷ xs) y e = (e.0, each-front xs y e.1)

whole-text : (b : Body) → IsText b → WholeBody b
whole-text (Text us) t = tt
whole-text Childless t = tt
whole-text (Children ts) t = absurd t

-- a fragment with a node more
pub form-push : {Z : Type 0} (size : ℕ) (xs : List (Arc Node Z)) (y : Arc Node Z) (n : ℕ) → Form size xs → n ≡ length (node_tokens (arc_value y)) → 0 < n → size + n < 2 ^ 32 → Balanced (node_tokens (arc_value y)) → WholeBody (arc_value y).body → ((x : Arc Node Z) (front : List (Arc Node Z)) → xs ≡ front ++ (x ∷ []) → ¬ Meets (arc_value x) (arc_value y)) → Form (size + n) (xs ++ (y ∷ []))
form-push size xs y n f e p b w v h = record {
  each = each-push xs y f.each v;
  counted = omega (arith, f.counted, ap length (list_tokens-push xs y), length-append (list_tokens xs) (node_tokens (arc_value y)));
  bounded = b;
  whole = rw list_tokens-push (balanced-append f.whole w);
  normal = normal-push xs y f.normal (omega arith) (λ front x q. h x front q);
}

-- a write over the last of a list
pub set_last : {A : Type 0} (xs : List A) (i : ℕ) (y : A) → i + 1 ≡ length xs → set xs i y ≡ take i xs ++ (y ∷ [])
set_last xs i y e = set_split xs i y (omega arith) ∙ ap (λ z. take i xs ++ (y ∷ z)) (drop_all (suc i) xs (omega arith))

-- a fragment whose last node was joined with another one
pub tokens-last : {Z : Type 0} (xs : List (Arc Node Z)) (i : ℕ) (x y : Arc Node Z) (ts : List Token) → i + 1 ≡ length xs → x ≡ get_or xs i x → node_tokens (arc_value y) ≡ node_tokens (arc_value x) ++ ts → list_tokens (set xs i y) ≡ list_tokens xs ++ ts
tokens-last xs i x y ts e r t =
    let split : xs ≡ take i xs ++ (x ∷ []) = split_last xs x i e ∙ ap (λ z. take i xs ++ (z ∷ [])) (sym r) in
    ap list_tokens (set_last xs i y e) ∙ (list_tokens-push (take i xs) y ∙ (ap (λ z. list_tokens (take i xs) ++ z) t ∙ (sym (append_assoc (list_tokens (take i xs)) (node_tokens (arc_value x)) ts) ∙ ap (λ z. z ++ ts) (sym (list_tokens-push (take i xs) x) ∙ ap list_tokens (sym split)))))

pub form-last : {Z : Type 0} (size : ℕ) (xs : List (Arc Node Z)) (i : ℕ) (x y : Arc Node Z) (z : Node) (n : ℕ) → Form size xs → i + 1 ≡ length xs → x ≡ get_or xs i x → Joined (arc_value x) z (Some (arc_value y)) → n ≡ length (node_tokens z) → 0 < n → size + n < 2 ^ 32 → Balanced (node_tokens z) → Form (size + n) (set xs i y)
form-last size xs i x y z n f e r j s p b w =
    let t : list_tokens (set xs i y) ≡ list_tokens xs ++ node_tokens z = tokens-last xs i x y (node_tokens z) e r j.0 in
    let split : xs ≡ take i xs ++ (x ∷ []) = split_last xs x i e ∙ ap (λ v. take i xs ++ (v ∷ [])) (sym r) in
    record {
      counted = omega (arith, f.counted, ap length t, length-append (list_tokens xs) (node_tokens z));
      bounded = b;
      each = rw (set_last xs i y e) (each-push (take i xs) y (each-front (take i xs) x (subst EachWhole split f.each)) (whole-text (arc_value y).body j.1.1));
      whole = rw t (balanced-append f.whole w);
      normal = rw (set_last xs i y e) (normal-last (take i xs) x y (subst IsNormal split f.normal) j.1 (omega (arith, ap length j.0, length-append (node_tokens (arc_value x)) (node_tokens z))));
    }

-- the last of a list that is made of a front and a last
pub last_of : {A : Type 0} (xs front : List A) (x y : A) (i : ℕ) → i + 1 ≡ length xs → y ≡ get_or xs i y → xs ≡ front ++ (x ∷ []) → y ≡ x
last_of xs front x y i e r s =
    let n : length front ≡ i = omega (arith, ap length s, length-append front (x ∷ [])) in
    r ∙ (ap (λ v. get_or v i y) s ∙ get_or_at front x [] y i n)

pub joined_as : {a a' b b' n n' : Node} {o : Option Node} → a' ≡ a → b' ≡ b → o ≡ Some n → n' ≡ n → Joined a' b' o → Joined a b (Some n')
joined_as {a = a} {a' = a'} {b = b} {b' = b'} {n' = n'} e f g h j =
    subst (λ v. Joined v b (Some n')) e (subst (λ v. Joined a' v (Some n')) f (subst (λ v. Joined a' b' v) (g ∙ ap Some (sym h)) j))

pub apart_as : {a a' b b' : Node} {o : Option Node} → a' ≡ a → b' ≡ b → o ≡ None → Joined a' b' o → ¬ Meets a b
apart_as {a = a} {a' = a'} {b = b} {b' = b'} e f g j =
    subst (λ v. ¬ Meets v b) e (subst (λ v. ¬ Meets a' v) f (subst (λ v. Joined a' b' v) g j))

pub text-not : (b : Body) → IsText b → ((us : List ℕ) → b ≡ Text us → ⊥) → ⊥
text-not (Text us) t f = f us refl
text-not Childless t f = t
text-not (Children ts) t f = t

-- a text with the units of the next one
pub joined-tokens : (a b : Node) (us vs ws : List ℕ) → Meets a b → a.body ≡ Text us → b.body ≡ Text vs → ws ≡ us ++ vs → text_tokens a.marks ws ≡ node_tokens a ++ node_tokens b
joined-tokens a b us vs ws m e f g =
    ap (text_tokens a.marks) g ∙ (text_tokens-append a.marks us vs ∙ (ap (λ z. z ++ text_tokens a.marks vs) (sym (node_tokens_at a (Text us) e)) ∙ ap (λ z. node_tokens a ++ z) (ap (λ n. text_tokens n vs) m.2 ∙ sym (node_tokens_at b (Text vs) f))))

-- there are no more nodes than tokens
pub no-more-nodes : {Z : Type 0} (xs : List (Arc Node Z)) → IsNormal xs → length xs ≤ length (list_tokens xs)
no-more-nodes [] n = omega arith
no-more-nodes (x ∷ xs) n = omega (arith, n.0, no-more-nodes xs n.2, length-append (node_tokens (arc_value x)) (list_tokens xs))

-- ---- nodes put after others

pub normal-append : {Z : Type 0} (xs ys : List (Arc Node Z)) → IsNormal xs → IsNormal ys → ((x : Arc Node Z) (rest : List (Arc Node Z)) → ys ≡ x ∷ rest → ¬ IsText (arc_value x).body) → IsNormal (xs ++ ys)
normal-append [] ys n m h = m
normal-append (x ∷ []) [] n m h = n
normal-append (x ∷ []) (y ∷ ys) n m h = (n.0, (λ q. h y ys refl q.1), m)
normal-append (x ∷ (z ∷ zs)) ys n m h = (n.0, n.1, normal-append (z ∷ zs) ys n.2 m h)

pub each-append : {Z : Type 0} (xs ys : List (Arc Node Z)) → EachWhole xs → EachWhole ys → EachWhole (xs ++ ys)
each-append [] ys e f = f
each-append (x ∷ xs) ys e f = (e.0, each-append xs ys e.1 f)
