-- Passing over one piece after another.
use Rattle.std.specs.Prelude.{◌≡◌, ℕ, ◌+◌, ◌-◌, ◌<◌, Bool, true, false, ◌&&◌, List, [], ◌∷◌, ◌++◌, length, take, drop, Result, Err}
use Rattle.std.proofs.Common.{zero, suc, refl, ap, sym, ◌∙◌, subst}
use Rattle.std.proofs.lemmas.Result.{MatchResult-weaker}
use Rattle.pm_node.specs.declared.node.Node.{Node}
use Rattle.pm_node.specs.declared.node.Body.{Body}
use Rattle.pm_node.specs.declared.node.Body.TheVariants.{Text, Leaf as Childless, Children}
use Rattle.pm_node.proofs.TreeLaws.{node_tokens_at}
use Rattle.pm_tokens.specs.Kids.{text_tokens}
use Rattle.pm_node.specs.Trees.{node_tokens, body_tokens}
use Rattle.pm_tokens.specs.Tokens.{Attrs, Marks, Token}
use Rattle.pm_tokens.specs.Scan.{Owned, Opening, Closing, Single, Piece, unclosed, owned, plain, joins, part, Balanced}
use Rattle.pm_build.specs.Fed.{Crossed, ForJoin, Crosses}
use Rattle.pm_build.specs.declared.refused.Refused.{Refused}
use Rattle.pm_tokens.proofs.ScanLaws.{plain-append, joins-append, plain-owned, unclosed-append}
use Rattle.pm_tokens.proofs.BalanceLaws.{unclosed-balanced, joins-balanced}
use Rattle.pm_tokens.proofs.OwnedParts.{part-one, part_node, open-joins}
use Rattle.pm_build.proofs.FedLaws.{for_weaker}

module _ (c : ℕ → ℕ → Bool) where
  -- nothing was passed over
  pub crossed-none : (b : List ℕ) → Crossed c b [] b
  crossed-none b = record { opened = refl; joined = refl }

  -- a piece after a piece
  pub crossed-more : (b m a : List ℕ) (p q : List Owned) → Crossed c b p m → Crossed c m q a → Crossed c b (p ++ q) a
  crossed-more b m a p q x y = record {
    opened = y.opened ∙ (ap (λ z. unclosed z (plain q)) x.opened ∙ (sym (unclosed-append b (plain p) (plain q)) ∙ ap (unclosed b) (sym (plain-append p q))));
    joined = joins-append c b p q ∙ (ap (λ z. z && joins c (unclosed b (plain p)) q) x.joined ∙ (ap (λ z. joins c z q) (sym x.opened) ∙ y.joined));
  }

  -- a refusal in the second of two pieces, and in the first
  pub stopped-more : (b m : List ℕ) (p q : List Owned) → Crossed c b p m → joins c m q ≡ false → joins c b (p ++ q) ≡ false
  stopped-more b m p q x y = joins-append c b p q ∙ (ap (λ z. z && joins c (unclosed b (plain p)) q) x.joined ∙ (ap (λ z. joins c z q) (sym x.opened) ∙ y))

  pub stopped-first : (b : List ℕ) (p q : List Owned) → joins c b p ≡ false → joins c b (p ++ q) ≡ false
  stopped-first b p q x = joins-append c b p q ∙ ap (λ z. z && joins c (unclosed b (plain p)) q) x

-- a refusal of a piece, at what a `?` returns
pub crossed_err : (c : ℕ → ℕ → Bool) (b a : List ℕ) (p : List Owned) (r : Result (Unit {0}) Refused) (e y : Refused) (P : Type 0) → r ≡ Err y → y ≡ e → ForJoin P e → (P → joins c b p ≡ false) → Crosses c b p r a
crossed_err c b a p r e y P w s h f =
    let k : ForJoin (joins c b p ≡ false) y = for_weaker P (joins c b p ≡ false) y f (subst (ForJoin P) (sym s) h) in
    rw w k

-- a piece after a piece, at a call's result
pub crosses-more : (c : ℕ → ℕ → Bool) (b m a : List ℕ) (p q : List Owned) (r : Result (Unit {0}) Refused) → Crossed c b p m → Crosses c m q r a → Crosses c b (p ++ q) r a
crosses-more c b m a p q r x y = MatchResult-weaker r y (λ u k. crossed-more c b m a p q x k) (λ e k. for_weaker (joins c m q ≡ false) (joins c b (p ++ q) ≡ false) e (stopped-more c b m p q x) k)

-- a whole number of nodes
pub crossed-whole : (c : ℕ → ℕ → Bool) → ((k : ℕ) → c k k ≡ true) → (b : List ℕ) (ts : List Token) → Balanced ts → Crossed c b (owned [] ts) b
crossed-whole c h b ts w = record { opened = sym (ap (unclosed b) (plain-owned [] ts) ∙ unclosed-balanced b w); joined = joins-balanced c h b [] w }

-- ---- what opens and closes nothing

abbrev AllFlat : List Owned → Type 0
AllFlat [] = Unit {0}
AllFlat (Opening k a m ∷ xs) = ⊥
AllFlat (Closing o ∷ xs) = ⊥
AllFlat (Single k a m ∷ xs) = AllFlat xs
AllFlat (Piece u m ∷ xs) = AllFlat xs

flat-take : (n : ℕ) (xs : List Owned) → AllFlat xs → AllFlat (take n xs)
flat-take zero xs h = tt
flat-take (suc n) [] h = tt
flat-take (suc n) (Opening k a m ∷ xs) h = absurd h
flat-take (suc n) (Closing o ∷ xs) h = absurd h
flat-take (suc n) (Single k a m ∷ xs) h = flat-take n xs h
flat-take (suc n) (Piece u m ∷ xs) h = flat-take n xs h

flat-drop : (n : ℕ) (xs : List Owned) → AllFlat xs → AllFlat (drop n xs)
flat-drop zero xs h = h
flat-drop (suc n) [] h = tt
flat-drop (suc n) (Opening k a m ∷ xs) h = absurd h
flat-drop (suc n) (Closing o ∷ xs) h = absurd h
flat-drop (suc n) (Single k a m ∷ xs) h = flat-drop n xs h
flat-drop (suc n) (Piece u m ∷ xs) h = flat-drop n xs h

flat-crossed : (c : ℕ → ℕ → Bool) (b : List ℕ) (xs : List Owned) → AllFlat xs → Crossed c b xs b
flat-crossed c b [] h = record { opened = refl; joined = refl }
flat-crossed c b (Opening k a m ∷ xs) h = absurd h
flat-crossed c b (Closing o ∷ xs) h = absurd h
flat-crossed c b (Single k a m ∷ xs) h = let r = flat-crossed c b xs h in record { opened = r.opened; joined = r.joined }
flat-crossed c b (Piece u m ∷ xs) h = let r = flat-crossed c b xs h in record { opened = r.opened; joined = r.joined }

flat-text : (m : Marks) (us : List ℕ) → AllFlat (owned [] (text_tokens m us))
flat-text m [] = tt
flat-text m (u ∷ us) = flat-text m us

flat-body : (k : ℕ) (a : Attrs) (m : Marks) (b : Body) → ((ts : List Token) → b ≡ Children ts → ⊥) → AllFlat (owned [] (body_tokens k a m b))
flat-body k a m (Text us) h = flat-text m us
flat-body k a m Childless h = tt
flat-body k a m (Children ts) h = absurd (h ts refl)

-- a part of a text or of a leaf
pub crossed-flat : (c : ℕ → ℕ → Bool) (b : List ℕ) (f t : ℕ) (n : Node) → ((ts : List Token) → n.body ≡ Children ts → ⊥) → Crossed c b (part f t (owned [] (node_tokens n))) b
crossed-flat c b f t n h =
    let own = owned [] (node_tokens n) in
    flat-crossed c b (part f t own) (flat-take (t - f) (drop f own) (flat-drop f own (flat-body n.kind n.attrs n.marks n.body h)))

-- ---- a part of a node with content: of its open, of its content and of its close

pub crossed-open : (c : ℕ → ℕ → Bool) (b a : List ℕ) (f t k : ℕ) (at : Attrs) (m : Marks) → f < t → a ≡ unclosed b (plain (part f (f + 1) (Opening k at m ∷ []))) → Crossed c b (part f t (Opening k at m ∷ [])) a
crossed-open c b a f t k at m h e = subst (λ p. Crossed c b p a) (sym (part-one f t (Opening k at m) h)) (record { opened = e; joined = open-joins c b f k at m })

module _ (c : ℕ → ℕ → Bool) (b m₁ : List ℕ) (f t : ℕ) (n : Node) (inner : List Token) (s e : ℕ) (is : n.body ≡ Children inner) (bal : Balanced inner) (h : f < t) (o : m₁ ≡ unclosed b (plain (part f (f + 1) (Opening n.kind n.attrs n.marks ∷ [])))) (es : s ≡ f - 1) (ee : e ≡ t - 1) where
  split-node : part f t (owned [] (node_tokens n)) ≡ (part f t (Opening n.kind n.attrs n.marks ∷ []) ++ part s e (owned [] inner)) ++ part (s - length inner) (e - length inner) (Closing n.kind ∷ [])
  split-node = ap (λ z. part f t (owned [] z)) (node_tokens_at n (Children inner) is) ∙ (part_node f t n.kind n.attrs n.marks inner bal ∙ cc)

  pub crossed-node : (m₂ a : List ℕ) (s₂ e₂ size : ℕ) (r : Result (Unit {0}) Refused) → size ≡ length inner → Crossed c m₁ (part s e (owned [] inner)) m₂ → s₂ ≡ s - size → e₂ ≡ e - size → Crosses c m₂ (part s₂ e₂ (Closing n.kind ∷ [])) r a → Crosses c b (part f t (owned [] (node_tokens n))) r a
  crossed-node m₂ a s₂ e₂ size r l x es₂ ee₂ y =
      let o₁ = crossed-open c b m₁ f t n.kind n.attrs n.marks h o in
      let o₂ = crossed-more c b m₁ m₂ (part f t (Opening n.kind n.attrs n.marks ∷ [])) (part s e (owned [] inner)) o₁ x in
      let y' : Crosses c m₂ (part (s - length inner) (e - length inner) (Closing n.kind ∷ [])) r a = subst (λ v. Crosses c m₂ (part v (e - length inner) (Closing n.kind ∷ [])) r a) (es₂ ∙ ap (λ v. s - v) l) (subst (λ v. Crosses c m₂ (part s₂ v (Closing n.kind ∷ [])) r a) (ee₂ ∙ ap (λ v. e - v) l) y) in
      subst (λ p. Crosses c b p r a) (sym split-node) (crosses-more c b m₂ a (part f t (Opening n.kind n.attrs n.marks ∷ []) ++ part s e (owned [] inner)) (part (s - length inner) (e - length inner) (Closing n.kind ∷ [])) r o₂ y')

  pub stopped-node : joins c m₁ (part s e (owned [] inner)) ≡ false → joins c b (part f t (owned [] (node_tokens n))) ≡ false
  stopped-node x =
      let o₁ = crossed-open c b m₁ f t n.kind n.attrs n.marks h o in
      let x₁ = stopped-more c b m₁ (part f t (Opening n.kind n.attrs n.marks ∷ [])) (part s e (owned [] inner)) o₁ x in
      ap (joins c b) split-node ∙ stopped-first c b (part f t (Opening n.kind n.attrs n.marks ∷ []) ++ part s e (owned [] inner)) (part (s - length inner) (e - length inner) (Closing n.kind ∷ [])) x₁
