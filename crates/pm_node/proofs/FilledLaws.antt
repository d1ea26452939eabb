-- Tables of fills and of sizes, and what filled nodes are.
use Rattle.std.proofs.Common.{◌≡◌, ℕ, zero, suc, ◌+◌, ◌<◌, ◌≤◌, min, List, [], ◌∷◌, ◌++◌, length, map, drop, true, false, cond, refl, ap, ◌∙◌, sym, subst, get_or, below_more, append_assoc, length-append, zero-add, arith}
use Rattle.std.specs.Prelude.{Option, Some, None, option_map, unwrap_or}
use Rattle.std.proofs.Math.ListN.{get_or-append}
use Rattle.std.proofs.Math.Seq.{get_or-append_seam}
use Rattle.std.proofs.lemmas.List.{at_drop_more, drop_all}
use Rattle.pm_auto.specs.declared.auto.Auto.{Auto}
use Rattle.pm_auto.specs.Finish.{all_can}
use Rattle.pm_value.specs.Plain.{Plain, null}
use Rattle.pm_tokens.specs.Tokens.{Attrs, Marks, Token, Open, Close, Leaf}
use Rattle.pm_schema.specs.declared.spec.AttrSpec.{AttrSpec}
use Rattle.pm_schema.specs.declared.spec.SchemaSpec.{SchemaSpec}
use Rattle.pm_schema.specs.declared.schema.Schema.{Schema}
use Rattle.pm_schema.specs.Types.{node_at, is_leaf}
use Rattle.pm_schema.specs.Attrs.{AreValues, value_for}
use Rattle.pm_node.specs.Filled.{IsFill, AreFills, defaults, leaf_tokens, around, both, joined, filled_tokens}
use Rattle.pm_node.specs.Sizes.{measured, Small}

-- what holds of each entry so far holds of each with one more
pub entry-more : {X : Type 0} (P : ℕ → X → Type 0) (d : X) (xs ys : List X) (i : ℕ) (x : X) → length xs ≡ i → ys ≡ xs ++ x ∷ [] → ((k : ℕ) → k < i → P k (get_or xs k d)) → P i x → (k : ℕ) → k < i + 1 → P k (get_or ys k d)
entry-more P d xs ys i x n e h p = below_more (λ k. P k (get_or ys k d)) i
    (λ k l. let b : k < length xs = omega (arith, l, n) in subst (P k) (sym (ap (λ zs. get_or zs k d) e ∙ get_or-append xs (x ∷ []) d k b)) (h k l))
    (subst (P i) (sym (ap (λ zs. get_or zs i d) e ∙ (ap (λ j. get_or (xs ++ x ∷ []) j d) (sym n) ∙ get_or-append_seam xs x [] d))) p)

pub length-more : {X : Type 0} (xs ys : List X) (i : ℕ) (x : X) → length xs ≡ i → ys ≡ xs ++ x ∷ [] → length ys ≡ i + 1
length-more xs ys i x n e = ap length e ∙ (length-append xs (x ∷ []) ∙ ap (λ j. j + 1) n)

-- the fills of the types before i
pub record FillsBelow (s : Schema) (fills : List (List ℕ)) (i : ℕ) : Type 0 where
  pub full : length fills ≡ i
  pub shortest : (k : ℕ) → k < i → (d : Auto) → IsFill s.generatable (get_or s.autos k d) (get_or fills k [])
  pub made : (k : ℕ) → k < i → all_can s.generatable (get_or fills k []) ≡ true

pub fills-none : (s : Schema) (fills : List (List ℕ)) → fills ≡ [] → FillsBelow s fills 0
fills-none s fills e = record { full = ap length e; shortest = λ k l. absurd (omega (arith, l)); made = λ k l. absurd (omega (arith, l)) }

pub fills-more : (s : Schema) (xs ys : List (List ℕ)) (i : ℕ) (w : List ℕ) → FillsBelow s xs i → ys ≡ xs ++ w ∷ [] → ((d : Auto) → IsFill s.generatable (get_or s.autos i d) w) → all_can s.generatable w ≡ true → FillsBelow s ys (i + 1)
fills-more s xs ys i w b e f m =
    record {
      full = length-more xs ys i w b.full e;
      shortest = entry-more (λ k w. (d : Auto) → IsFill s.generatable (get_or s.autos k d) w) [] xs ys i w b.full e b.shortest f;
      made = entry-more (λ k w. all_can s.generatable w ≡ true) [] xs ys i w b.full e b.made m;
    }

pub fills-all : (s : Schema) (fills : List (List ℕ)) (i : ℕ) → i ≡ length s.spec.nodes → FillsBelow s fills i → AreFills s fills
fills-all s fills i e b =
    record {
      full = b.full ∙ e;
      shortest = λ k d l. b.shortest k (omega (arith, l, e)) d;
      made = λ k l. b.made k (omega (arith, l, e));
    }

-- the values where nothing is given are the defaults
some-inj : (v w : Plain) → Some v ≡ Some w → v ≡ w
some-inj v w e = ap (λ o. unwrap_or o v) e

pub values-defaults : (attrs : List AttrSpec) (values : List Plain) → AreValues attrs [] values → values ≡ defaults attrs
values-defaults [] [] h = refl
values-defaults [] (v ∷ vs) h = absurd (let z : suc (length (map Some vs)) ≡ 0 = ap length h in omega (arith, z))
values-defaults (a ∷ attrs) [] h = absurd (let z : 0 ≡ suc (length (map (value_for []) attrs)) = ap length h in omega (arith, z))
values-defaults (a ∷ attrs) (v ∷ vs) h =
    let first : v ≡ unwrap_or (value_for [] a) null = ap (λ os. unwrap_or (get_or os 0 None) null) h in
    let rest : AreValues attrs [] vs = ap (drop 1) h in
    rw (first, values-defaults attrs vs rest) refl

-- what is filled of a leaf, and of any other node
pub filled-leaf : (s : SchemaSpec) (fills : List (List ℕ)) (n k : ℕ) → is_leaf (node_at s k) ≡ true → filled_tokens s fills n k ≡ Some (leaf_tokens s k)
unfolding filled_tokens
filled-leaf s fills zero k e = ap (λ b. cond b (Some (leaf_tokens s k)) None) e
filled-leaf s fills (suc n) k e = ap (λ b. cond b (Some (leaf_tokens s k)) (option_map (around s k) (joined (map (filled_tokens s fills n) (get_or fills k []))))) e

pub filled-none : (s : SchemaSpec) (fills : List (List ℕ)) (k : ℕ) → is_leaf (node_at s k) ≡ false → filled_tokens s fills 0 k ≡ None
unfolding filled_tokens
filled-none s fills k e = ap (λ b. cond b (Some (leaf_tokens s k)) None) e

pub filled-node : (s : SchemaSpec) (fills : List (List ℕ)) (n k : ℕ) → is_leaf (node_at s k) ≡ false → filled_tokens s fills (suc n) k ≡ option_map (around s k) (joined (map (filled_tokens s fills n) (get_or fills k [])))
unfolding filled_tokens
filled-node s fills n k e = ap (λ b. cond b (Some (leaf_tokens s k)) (option_map (around s k) (joined (map (filled_tokens s fills n) (get_or fills k []))))) e

-- the size with so many tokens before
abbrev pub onto : ℕ → Option (List Token) → Option ℕ
onto t o = option_map (λ ts. min (t + length ts) 1000001) o

pub onto-none : (t : ℕ) (o p : Option (List Token)) → None ≡ measured o → onto t (both o p) ≡ None
onto-none t None p h = refl
onto-none t (Some ts) p h = absurd (cc)

some-number : (m n : ℕ) → Some m ≡ Some n → m ≡ n
some-number m n e = ap (λ o. unwrap_or o m) e

pub onto-some : (t z u : ℕ) (o p : Option (List Token)) → Some z ≡ measured o → u ≡ min (t + z) 1000001 → onto t (both o p) ≡ onto u p
onto-some t z u None p h e = absurd (cc)
onto-some t z u (Some ts) None h e = refl
onto-some t z u (Some ts) (Some us) h e =
    let m : z ≡ min (length ts) 1000001 = some-number _ _ h in
    let l : length (ts ++ us) ≡ length ts + length us = length-append ts us in
    let g : min (t + length (ts ++ us)) 1000001 ≡ min (u + length us) 1000001 = omega (arith, m, l, e) in
    ap Some g

pub onto-all : (o : Option (List Token)) → onto 0 o ≡ measured o
onto-all None = refl
onto-all (Some ts) = ap (λ (n : ℕ). Some (min n 1000001)) (zero-add (length ts))

-- the size of a node is two more than that of its content
pub around-size : (s : SchemaSpec) (k : ℕ) (o : Option (List Token)) (z : ℕ) → Some z ≡ measured o → Some (min (z + 2) 1000001) ≡ measured (option_map (around s k) o)
around-size s k None z h = absurd (cc)
around-size s k (Some ts) z h =
    let m : z ≡ min (length ts) 1000001 = some-number _ _ h in
    let l : length (ts ++ (Close ∷ [])) ≡ length ts + 1 = length-append ts (Close ∷ []) in
    let g : min (z + 2) 1000001 ≡ min (suc (length (ts ++ (Close ∷ [])))) 1000001 = omega (arith, m, l) in
    ap Some g

pub around-none : (s : SchemaSpec) (k : ℕ) (o : Option (List Token)) → None ≡ measured o → None ≡ measured (option_map (around s k) o)
around-none s k None h = refl
around-none s k (Some ts) h = absurd (cc)

-- of nodes that are small together each is small
pub small-first : (o p : Option (List Token)) (ts : List Token) → Small (both (Some ts) (both o p)) → Small o
small-first None p ts h = h
small-first (Some us) None ts h = absurd h
small-first (Some us) (Some vs) ts h = let a = length-append ts (us ++ vs) in let b = length-append us vs in omega (arith, h, a, b)

pub small-inside : (s : SchemaSpec) (k : ℕ) (o : Option (List Token)) → Small (option_map (around s k) o) → Small o
small-inside s k None h = h
small-inside s k (Some ts) h = let a = length-append ts (Close ∷ []) in omega (arith, h, a)

-- one more of them
pub both-more : (o p : Option (List Token)) (ts us new : List Token) → o ≡ Some us → new ≡ ts ++ us → both (Some ts) (both o p) ≡ both (Some new) p
both-more o None ts us new e f = rw e refl
both-more o (Some vs) ts us new e f = rw (e, f) (ap Some (sym (append_assoc ts us vs)))

-- the nodes from one on
pub joined-at : (f : ℕ → Option (List Token)) (ks : List ℕ) (i k : ℕ) → i < length ks → k ≡ get_or ks i k → joined (map f (drop i ks)) ≡ both (f k) (joined (map f (drop (i + 1) ks)))
joined-at f ks i k l e = at_drop_more (λ xs. joined (map f xs)) ks i k l ∙ ap (λ j. both (f j) (joined (map f (drop (i + 1) ks)))) (sym e)

pub joined-end : (f : ℕ → Option (List Token)) (ks : List ℕ) (i : ℕ) → length ks ≤ i → joined (map f (drop i ks)) ≡ Some []
joined-end f ks i l = ap (λ xs. joined (map f xs)) (drop_all i ks l)

-- a size at most the greatest is that of the tokens
pub small-size : (o : Option (List Token)) (z : ℕ) → Some z ≡ measured o → z ≤ 1000000 → Small o
small-size None z h l = absurd (cc)
small-size (Some ts) z h l = let m : z ≡ min (length ts) 1000001 = some-number _ _ h in omega (arith, m, l)

pub few-tokens : (o : Option (List Token)) (ts : List Token) (z most : ℕ) → o ≡ Some ts → Some z ≡ measured o → most ≤ 1000000 → z ≤ most → length ts ≤ most
few-tokens None ts z most e h b l = absurd (cc)
few-tokens (Some us) ts z most e h b l =
    let m : z ≡ min (length us) 1000001 = some-number _ _ h in
    let same : us ≡ ts = cc in
    subst (λ (xs : List Token). length xs ≤ most) same (omega (arith, m, b, l))

pub none-size : (o : Option (List Token)) → None ≡ measured o → o ≡ None
none-size None h = refl
none-size (Some ts) h = absurd (cc)

pub large-size : (o : Option (List Token)) (z most : ℕ) → Some z ≡ measured o → most < z → (ts : List Token) × (o ≡ Some ts) × (most < length ts)
large-size None z most h l = absurd (cc)
large-size (Some ts) z most h l = let m : z ≡ min (length ts) 1000001 = some-number _ _ h in (ts, refl, omega (arith, m, l))

pub onto-end : (t : ℕ) → t ≤ 1000001 → onto t (Some []) ≡ Some t
onto-end t l = let g : min (t + 0) 1000001 ≡ t = omega (arith, l) in ap Some g

append-nil : (ts : List Token) → ts ++ [] ≡ ts
append-nil [] = refl
append-nil (t ∷ ts) = ap (λ us. t ∷ us) (append-nil ts)

pub both-start : (o : Option (List Token)) (ts : List Token) → ts ≡ [] → o ≡ both (Some ts) o
both-start None ts e = refl
both-start (Some us) ts e = rw e refl

pub both-end : (ts : List Token) (o : Option (List Token)) → o ≡ Some [] → both (Some ts) o ≡ Some ts
both-end ts o e = ap (both (Some ts)) e ∙ ap Some (append-nil ts)

-- room for one more of them
pub small-room : (o p : Option (List Token)) (ts us : List Token) → o ≡ Some us → Small (both (Some ts) (both o p)) → length ts + length us ≤ 1000000
small-room o None ts us e h = absurd (subst (λ q. Small (both (Some ts) (both q None))) e h)
small-room o (Some vs) ts us e h =
    let g : length (ts ++ (us ++ vs)) ≤ 1000000 = subst (λ q. Small (both (Some ts) (both q (Some vs)))) e h in
    let a = length-append ts (us ++ vs) in
    let b = length-append us vs in
    omega (arith, g, a, b)

-- a node that is no leaf takes a level
pub some-level : (s : SchemaSpec) (fills : List (List ℕ)) (n k : ℕ) → is_leaf (node_at s k) ≡ false → Small (filled_tokens s fills n k) → 0 < n
some-level s fills zero k e h = absurd (subst Small (filled-none s fills k e) h)
some-level s fills (suc n) k e h = omega arith

pub small-content : (s : SchemaSpec) (fills : List (List ℕ)) (n below k : ℕ) (ks : List ℕ) → is_leaf (node_at s k) ≡ false → n ≡ suc below → ks ≡ get_or fills k [] → Small (filled_tokens s fills n k) → Small (joined (map (filled_tokens s fills below) ks))
small-content s fills n below k ks e m f h =
    let g : Small (filled_tokens s fills (suc below) k) = subst (λ j. Small (filled_tokens s fills j k)) m h in
    let i : Small (joined (map (filled_tokens s fills below) (get_or fills k []))) = small-inside s k (joined (map (filled_tokens s fills below) (get_or fills k []))) (subst Small (filled-node s fills below k e) g) in
    subst (λ (js : List ℕ). Small (joined (map (filled_tokens s fills below) js))) (sym f) i

pub leaf-is : (s : SchemaSpec) (fills : List (List ℕ)) (n k : ℕ) (a : Attrs) (m : Marks) → is_leaf (node_at s k) ≡ true → a ≡ defaults (node_at s k).attrs → m ≡ [] → filled_tokens s fills n k ≡ Some (Leaf k a m ∷ [])
leaf-is s fills n k a m e f g = rw (f, g) (filled-leaf s fills n k e)

pub node-is : (s : SchemaSpec) (fills : List (List ℕ)) (n below k : ℕ) (ks : List ℕ) (a : Attrs) (m : Marks) (ts : List Token) → is_leaf (node_at s k) ≡ false → n ≡ suc below → ks ≡ get_or fills k [] → a ≡ defaults (node_at s k).attrs → m ≡ []
    → joined (map (filled_tokens s fills below) ks) ≡ Some ts → filled_tokens s fills n k ≡ Some (Open k a m ∷ (ts ++ (Close ∷ [])))
node-is s fills n below k ks a m ts e l f g h j =
    let c : joined (map (filled_tokens s fills below) (get_or fills k [])) ≡ Some ts = subst (λ (js : List ℕ). joined (map (filled_tokens s fills below) js) ≡ Some ts) f j in
    rw (g, h) (ap (λ i. filled_tokens s fills i k) l ∙ (filled-node s fills below k e ∙ ap (option_map (around s k)) c))
