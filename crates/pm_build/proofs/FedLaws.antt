-- Feeding one piece after another.
use Rattle.std.specs.Prelude.{◌≡◌, ℕ, ◌+◌, ◌-◌, ◌≤◌, ◌<◌, min, Bool, true, false, ◌&&◌, List, [], ◌∷◌, ◌++◌, length, Result, Err}
use Rattle.std.proofs.Common.{inl, inr, refl, ap, sym, ◌∙◌, subst, arith, append_assoc, length-append}
use Rattle.std.proofs.lemmas.List.{append-nil}
use Rattle.std.proofs.lemmas.Result.{MatchResult-weaker}
use Rattle.std.proofs.lemmas.Bool.{cases_lt}
use Rattle.pm_node.specs.declared.node.Node.{Node}
use Rattle.pm_node.specs.declared.node.Body.TheVariants.{Children}
use Rattle.pm_node.proofs.TreeLaws.{node_tokens_at}
use Rattle.pm_tokens.specs.Kids.{text_tokens}
use Rattle.pm_node.specs.Trees.{node_tokens}
use Rattle.pm_tokens.specs.Tokens.{Attrs, Marks, Token, Open, Close}
use Rattle.pm_tokens.specs.Scan.{Owned, Opening, Closing, Piece, unclosed, owned, plain, joins, part, Balanced}
use Rattle.pm_build.specs.Fed.{Appended, ForJoin, Fed}
use Rattle.pm_build.specs.declared.refused.Refused.{Refused}
use Rattle.pm_build.specs.declared.refused.Refused.TheVariants.{Join, NoMemory}
use Rattle.pm_tokens.proofs.ScanLaws.{plain-append, joins-append, plain-owned, length-owned, unclosed-append}
use Rattle.pm_tokens.proofs.BalanceLaws.{owned-balanced, owned-inner, joins-balanced}
use Rattle.pm_tokens.proofs.ListLaws.{part-append, part_past, part_none}
use Rattle.pm_tokens.proofs.SpliceLaws.{length-plain}
use Rattle.pm_tokens.proofs.OwnedParts.{length-part, part_min, joins-pieces, plain-pieces, part-text, part-one, open-joins}

module _ (c : ℕ → ℕ → Bool) where
  -- nothing was appended
  pub appended-none : (b : List Token) → Appended c b [] b
  appended-none b = record { tokens = sym (append-nil b); joined = refl }

  -- a piece after a piece
  pub appended-more : (b m a : List Token) (p q : List Owned) → Appended c b p m → Appended c m q a → Appended c b (p ++ q) a
  appended-more b m a p q x y = record {
    tokens = y.tokens ∙ (ap (λ z. z ++ plain q) x.tokens ∙ (append_assoc b (plain p) (plain q) ∙ ap (λ z. b ++ z) (sym (plain-append p q))));
    joined =
        let s : unclosed [] m ≡ unclosed (unclosed [] b) (plain p) = ap (unclosed []) x.tokens ∙ unclosed-append [] b (plain p) in
        joins-append c (unclosed [] b) p q ∙ (ap (λ z. z && joins c (unclosed (unclosed [] b) (plain p)) q) x.joined ∙ (ap (λ z. joins c z q) (sym s) ∙ y.joined));
  }

  -- a refusal in the second of two pieces, and in the first
  pub refused-more : (b m : List Token) (p q : List Owned) → Appended c b p m → joins c (unclosed [] m) q ≡ false → joins c (unclosed [] b) (p ++ q) ≡ false
  refused-more b m p q x y =
      let s : unclosed [] m ≡ unclosed (unclosed [] b) (plain p) = ap (unclosed []) x.tokens ∙ unclosed-append [] b (plain p) in
      joins-append c (unclosed [] b) p q ∙ (ap (λ z. z && joins c (unclosed (unclosed [] b) (plain p)) q) x.joined ∙ (ap (λ z. joins c z q) (sym s) ∙ y))

  pub refused-first : (b : List Token) (p q : List Owned) → joins c (unclosed [] b) p ≡ false → joins c (unclosed [] b) (p ++ q) ≡ false
  refused-first b p q x = joins-append c (unclosed [] b) p q ∙ ap (λ z. z && joins c (unclosed (unclosed [] b) (plain p)) q) x

-- the part of a node with content
pub part_node : (f t k : ℕ) (a : Attrs) (m : Marks) (inner : List Token) → Balanced inner → f < t → part f t (owned [] (Open k a m ∷ (inner ++ (Close ∷ [])))) ≡ (part f t (Opening k a m ∷ []) ++ part (f - 1) (t - 1) (owned [] inner)) ++ part (f - 1 - length inner) (t - 1 - length inner) (Closing k ∷ [])
part_node f t k a m inner b h =
    let mid = owned [] inner in
    let own : owned (k ∷ []) (inner ++ (Close ∷ [])) ≡ mid ++ (Closing k ∷ []) = owned-inner [] k b [] ∙ ap (λ z. z ++ (Closing k ∷ [])) (owned-balanced (k ∷ []) [] b) in
    ap (λ z. part f t (Opening k a m ∷ z)) own ∙ (part-append f t (Opening k a m ∷ []) (mid ++ (Closing k ∷ [])) ∙ (ap (λ z. part f t (Opening k a m ∷ []) ++ z) (part-append (f - 1) (t - 1) mid (Closing k ∷ []) ∙ ap (λ n. part (f - 1) (t - 1) mid ++ part (f - 1 - n) (t - 1 - n) (Closing k ∷ [])) (length-owned [] inner)) ∙ sym (append_assoc (part f t (Opening k a m ∷ [])) (part (f - 1) (t - 1) mid) (part (f - 1 - length inner) (t - 1 - length inner) (Closing k ∷ [])))))

pub for_weaker : (P Q : Type 0) (e : Refused) → (P → Q) → ForJoin P e → ForJoin Q e
for_weaker P Q Join f h = f h
for_weaker P Q NoMemory f h = tt

-- a refusal of a piece, at what a `?` returns
pub fed_err : (c : ℕ → ℕ → Bool) (b a : List Token) (p : List Owned) (r : Result (Unit {0}) Refused) (e y : Refused) (P : Type 0) → r ≡ Err y → y ≡ e → ForJoin P e → (P → joins c (unclosed [] b) p ≡ false) → Fed c b p r a
fed_err c b a p r e y P w s h f =
    let k : ForJoin (joins c (unclosed [] b) p ≡ false) y = for_weaker P (joins c (unclosed [] b) p ≡ false) y f (subst (ForJoin P) (sym s) h) in
    rw w k

-- a piece after a piece, at a call's result
pub fed-more : (c : ℕ → ℕ → Bool) (b m a : List Token) (p q : List Owned) (r : Result (Unit {0}) Refused) → Appended c b p m → Fed c m q r a → Fed c b (p ++ q) r a
fed-more c b m a p q r x y = MatchResult-weaker r y (λ u k. appended-more c b m a p q x k) (λ e k. for_weaker (joins c (unclosed [] m) q ≡ false) (joins c (unclosed [] b) (p ++ q) ≡ false) e (refused-more c b m p q x) k)

-- a whole number of nodes
pub appended-whole : (c : ℕ → ℕ → Bool) → ((k : ℕ) → c k k ≡ true) → (b ts a : List Token) → Balanced ts → a ≡ b ++ ts → Appended c b (owned [] ts) a
appended-whole c h b ts a w e = record { tokens = rw plain-owned e; joined = joins-balanced c h (unclosed [] b) [] w }

-- the units of a text
abbrev pieces : Marks → List ℕ → List Owned
pieces m [] = []
pieces m (u ∷ us) = Piece u m ∷ pieces m us

pub appended-text : (c : ℕ → ℕ → Bool) (b a : List Token) (f t : ℕ) (m : Marks) (us : List ℕ) → a ≡ b ++ text_tokens m (part f t us) → Appended c b (part f t (owned [] (text_tokens m us))) a
appended-text c b a f t m us e = rw part-text (record { tokens = rw plain-pieces e; joined = joins-pieces c (unclosed [] b) m (part f t us) })

-- the ends of a part may be moved into the list
pub part_clip : {A : Type 0} (f t : ℕ) (xs : List A) → f < t → part (min (min (length xs) t) f) (min (length xs) t) xs ≡ part f t xs
part_clip f t xs h = elim (cases_lt (length xs) f) [
  | inl p ↦ part_none (min (min (length xs) t) f) (min (length xs) t) xs (omega arith) ∙ sym (part_past f t xs (omega arith))
  | inr p ↦ (let e : min (min (length xs) t) f ≡ f = omega arith in ap (λ n. part n (min (length xs) t) xs) e ∙ part_min f t xs)
]

pub appended-open : (c : ℕ → ℕ → Bool) (b a : List Token) (f t k : ℕ) (at : Attrs) (m : Marks) → f < t → a ≡ b ++ plain (part f (f + 1) (Opening k at m ∷ [])) → Appended c b (part f t (Opening k at m ∷ [])) a
appended-open c b a f t k at m h e = subst (λ p. Appended c b p a) (sym (part-one f t (Opening k at m) h)) (record { tokens = e; joined = open-joins c (unclosed [] b) f k at m })

-- a part of a node with content, fed as a part of its open, of its content and of its close
module _ (c : ℕ → ℕ → Bool) (b m₁ : List Token) (f t : ℕ) (n : Node) (inner : List Token) (s e : ℕ) (is : n.body ≡ Children inner) (bal : Balanced inner) (h : f < t) (o : m₁ ≡ b ++ plain (part f (f + 1) (Opening n.kind n.attrs n.marks ∷ []))) (es : s ≡ f - 1) (ee : e ≡ t - 1) where
  split-node : part f t (owned [] (node_tokens n)) ≡ (part f t (Opening n.kind n.attrs n.marks ∷ []) ++ part s e (owned [] inner)) ++ part (s - length inner) (e - length inner) (Closing n.kind ∷ [])
  split-node = ap (λ z. part f t (owned [] z)) (node_tokens_at n (Children inner) is) ∙ (part_node f t n.kind n.attrs n.marks inner bal h ∙ cc)

  pub fed-node : (m₂ a : List Token) (s₂ e₂ size : ℕ) (r : Result (Unit {0}) Refused) → size ≡ length inner → Appended c m₁ (part s e (owned [] inner)) m₂ → s₂ ≡ s - size → e₂ ≡ e - size → Fed c m₂ (part s₂ e₂ (Closing n.kind ∷ [])) r a → Fed c b (part f t (owned [] (node_tokens n))) r a
  fed-node m₂ a s₂ e₂ size r l x es₂ ee₂ y =
      let o₁ = appended-open c b m₁ f t n.kind n.attrs n.marks h o in
      let o₂ = appended-more c b m₁ m₂ (part f t (Opening n.kind n.attrs n.marks ∷ [])) (part s e (owned [] inner)) o₁ x in
      let y' : Fed c m₂ (part (s - length inner) (e - length inner) (Closing n.kind ∷ [])) r a = subst (λ v. Fed c m₂ (part v (e - length inner) (Closing n.kind ∷ [])) r a) (es₂ ∙ ap (λ v. s - v) l) (subst (λ v. Fed c m₂ (part s₂ v (Closing n.kind ∷ [])) r a) (ee₂ ∙ ap (λ v. e - v) l) y) in
      subst (λ p. Fed c b p r a) (sym split-node) (fed-more c b m₂ a (part f t (Opening n.kind n.attrs n.marks ∷ []) ++ part s e (owned [] inner)) (part (s - length inner) (e - length inner) (Closing n.kind ∷ [])) r o₂ y')

  pub refused-node : joins c (unclosed [] m₁) (part s e (owned [] inner)) ≡ false → joins c (unclosed [] b) (part f t (owned [] (node_tokens n))) ≡ false
  refused-node x =
      let o₁ = appended-open c b m₁ f t n.kind n.attrs n.marks h o in
      let x₁ = refused-more c b m₁ (part f t (Opening n.kind n.attrs n.marks ∷ [])) (part s e (owned [] inner)) o₁ x in
      ap (joins c (unclosed [] b)) split-node ∙ refused-first c b (part f t (Opening n.kind n.attrs n.marks ∷ []) ++ part s e (owned [] inner)) (part (s - length inner) (e - length inner) (Closing n.kind ∷ [])) x₁

  pub room-node : (m₂ : List Token) (s₂ e₂ size : ℕ) → size ≡ length inner → Appended c m₁ (part s e (owned [] inner)) m₂ → s₂ ≡ s - size → e₂ ≡ e - size → length m₂ + (e₂ - s₂) ≤ length b + (t - f)
  room-node m₂ s₂ e₂ size l x es₂ ee₂ =
      let p = part f (f + 1) (Opening n.kind n.attrs n.marks ∷ []) in
      let q = part s e (owned [] inner) in
      omega (arith, es, ee, es₂, ee₂, l, ap length o, length-append b (plain p), length-plain p, length-part f (f + 1) (Opening n.kind n.attrs n.marks ∷ []), ap length x.tokens, length-append m₁ (plain q), length-plain q, length-part s e (owned [] inner), length-owned [] inner)
