-- With which types a list goes on to a list in the language.
use Rattle.std.proofs.Common.{◌≡◌, ℕ, zero, suc, ◌+◌, ◌<◌, List, [], ◌∷◌, ◌++◌, map, length, get_or, Bool, true, false, cond, eqb, Some, None, ◌↔◌, refl, ap, sym, ◌∙◌, subst, arith, inl, inr, append_assoc, append-nil, length-append}
use Rattle.std.specs.Prelude.{Option, Contains, option_and_then}
use Rattle.std.proofs.lemmas.Bool.{eqb-true}
use Rattle.pm_auto.specs.declared.sets.PlaceSet.{PlaceSet}
use Rattle.pm_auto.specs.declared.auto.Edge.{Edge}
use Rattle.pm_auto.specs.declared.auto.Auto.{Auto}
use Rattle.pm_auto.specs.declared.expr.Expr.{Expr}
use Rattle.pm_auto.specs.Core.{Core, Never, Empty, One, Alt, Cat, Loop, Times, Lang}
use Rattle.pm_auto.specs.Expand.{expand}
use Rattle.pm_auto.specs.Trim.{trimmed}
use Rattle.pm_auto.specs.Table.{width}
use Rattle.pm_auto.specs.Lang.{In}
use Rattle.pm_auto.specs.States.{edge_kinds}
use Rattle.pm_auto.specs.Walks.{target, edges_at, via, accepted}
use Rattle.pm_auto.proofs.AcceptLaws.{accepted-in}
use Rattle.pm_auto.proofs.ExprLaws.{lang-in}
use Rattle.pm_auto.proofs.TrimLaws.{trim-lang}
use Rattle.pm_places.specs.Words.{numbered, place_types, IsPlaceWord, spelled, type_at}
use Rattle.pm_places.specs.Nexts.{led_to}
use Rattle.pm_schema.specs.declared.schema.Schema.{Schema}
use Rattle.pm_schema.specs.Types.{node_at}
use Rattle.pm_schema.specs.Contents.{Runs}
use Rattle.pm_places.specs.Laws.{IsAutomatonOf, StartsBegin}
use Rattle.pm_places.proofs.Members.{Is_in, in-contains}
use Rattle.pm_places.proofs.Reached.{has-edges-next}

-- ---- a place word spells a list in the language

-- the expression with other types
abbrev mapped : (ℕ → ℕ) → Core → Core
mapped g Never = Never
mapped g Empty = Empty
mapped g (One k) = One (g k)
mapped g (Alt a b) = Alt (mapped g a) (mapped g b)
mapped g (Cat a b) = Cat (mapped g a) (mapped g b)
mapped g (Loop a) = Loop (mapped g a)

map-both : (g : ℕ → ℕ) (xs ys : List ℕ) → map g (xs ++ ys) ≡ map g xs ++ map g ys
map-both g [] ys = refl
map-both g (x ∷ xs) ys = ap (λ zs. g x ∷ zs) (map-both g xs ys)

times-mapped : (g : ℕ → ℕ) (P Q : List ℕ → Type 0) → ((ps : List ℕ) → P ps → Q (map g ps)) → (n : ℕ) (ps : List ℕ) → Times P n ps → Times Q n (map g ps)
times-mapped g P Q f zero ps h = ap (map g) h
times-mapped g P Q f (suc n) ps h = record {
  left = map g h.left;
  right = map g h.right;
  is = ap (map g) h.is ∙ map-both g h.left h.right;
  in_left = f h.left h.in_left;
  in_right = times-mapped g P Q f n h.right h.in_right;
}

lang-mapped : (g : ℕ → ℕ) (c : Core) (ps : List ℕ) → Lang c ps → Lang (mapped g c) (map g ps)
lang-mapped g Never ps h = absurd h
lang-mapped g Empty ps h = ap (map g) h
lang-mapped g (One k) ps h = ap (map g) h
lang-mapped g (Alt a b) ps (inl h) = inl (lang-mapped g a ps h)
lang-mapped g (Alt a b) ps (inr h) = inr (lang-mapped g b ps h)
lang-mapped g (Cat a b) ps h = record {
  left = map g h.left;
  right = map g h.right;
  is = ap (map g) h.is ∙ map-both g h.left h.right;
  in_left = lang-mapped g a h.left h.in_left;
  in_right = lang-mapped g b h.right h.in_right;
}
lang-mapped g (Loop a) ps h = (h.0, times-mapped g (Lang a) (Lang (mapped g a)) (λ qs i. lang-mapped g a qs i) (suc h.0) ps h.1)

at-front : (front : List ℕ) (k : ℕ) (back : List ℕ) → get_or (front ++ k ∷ back) (length front) 0 ≡ k
at-front [] k back = refl
at-front (f ∷ fs) k back = at-front fs k back

widths : (e : Core) → length (place_types e) ≡ width e
widths Never = refl
widths Empty = refl
widths (One k) = refl
widths (Alt a b) = length-append (place_types a) (place_types b) ∙ ap (λ n. n + length (place_types b)) (widths a) ∙ ap (λ n. width a + n) (widths b)
widths (Cat a b) = length-append (place_types a) (place_types b) ∙ ap (λ n. n + length (place_types b)) (widths a) ∙ ap (λ n. width a + n) (widths b)
widths (Loop a) = widths a

-- the types of an expression's places, put back, give the expression
types-back : (ts front back : List ℕ) (e : Core) (n : ℕ) → ts ≡ front ++ (place_types e ++ back) → n ≡ length front → mapped (λ p. get_or ts p 0) (numbered n e) ≡ e
types-back ts front back Never n s l = refl
types-back ts front back Empty n s l = refl
types-back ts front back (One k) n s l = ap One (ap (λ zs. get_or zs n 0) s ∙ ap (λ i. get_or (front ++ k ∷ back) i 0) l ∙ at-front front k back)
types-back ts front back (Alt a b) n s l =
    let g = λ (p : ℕ). get_or ts p 0 in
    let parts = s ∙ ap (λ z. front ++ z) (append_assoc (place_types a) (place_types b) back) in
    ap (λ z. Alt z (mapped g (numbered (n + width a) b))) (types-back ts front (place_types b ++ back) a n parts l)
    ∙ ap (λ z. Alt a z) (types-back ts (front ++ place_types a) back b (n + width a) (parts ∙ sym (append_assoc front (place_types a) (place_types b ++ back))) (omega (arith, l, length-append front (place_types a), widths a)))
types-back ts front back (Cat a b) n s l =
    let g = λ (p : ℕ). get_or ts p 0 in
    let parts = s ∙ ap (λ z. front ++ z) (append_assoc (place_types a) (place_types b) back) in
    ap (λ z. Cat z (mapped g (numbered (n + width a) b))) (types-back ts front (place_types b ++ back) a n parts l)
    ∙ ap (λ z. Cat a z) (types-back ts (front ++ place_types a) back b (n + width a) (parts ∙ sym (append_assoc front (place_types a) (place_types b ++ back))) (omega (arith, l, length-append front (place_types a), widths a)))
types-back ts front back (Loop a) n s l = ap Loop (types-back ts front back a n s l)

word-in : (x : Expr) (ps : List ℕ) → IsPlaceWord x ps → In x (spelled x ps)
word-in x ps w =
    let ts = place_types (trimmed x) in
    let same : mapped (type_at x) (numbered 0 (trimmed x)) ≡ trimmed x = types-back ts [] [] (trimmed x) 0 (sym (append-nil ts)) refl in
    lang-in x (map (type_at x) ps) (trim-lang (expand x) (map (type_at x) ps) (subst (λ c. Lang c (map (type_at x) ps)) same (lang-mapped (type_at x) (numbered 0 (trimmed x)) ps w)))

-- ---- walks

map-get : (g : ℕ → ℕ) (xs : List ℕ) (i d e : ℕ) → i < length (map g xs) → (i < length xs) × (get_or (map g xs) i d ≡ g (get_or xs i e))
map-get g [] i d e l = absurd (omega arith)
map-get g (x ∷ xs) zero d e l = (omega arith, refl)
map-get g (x ∷ xs) (suc i) d e l = let r = map-get g xs i d e (omega arith) in let k : i < length xs = r.0 in (omega (arith, k), r.1)

-- after a list that leads to a state, what is accepted is accepted from there
led-onward : (ss : List PlaceSet) (ess : List (List Edge)) (w v : List ℕ) (i t : ℕ) → led_to ess i w ≡ Some t → accepted ss ess i (w ++ v) ≡ accepted ss ess t v
led-onward ss ess [] v i t h = let e : i ≡ t = cc in ap (λ j. accepted ss ess j v) e
led-onward ss ess (k ∷ w) v i t h = at (target k (edges_at ess i)) h (λ j. led-onward ss ess w v j t)
  where
    at : (o : Option ℕ) → option_and_then (λ (j : ℕ). led_to ess j w) o ≡ Some t → ((j : ℕ) → led_to ess j w ≡ Some t → accepted ss ess j (w ++ v) ≡ accepted ss ess t v)
        → via (λ j. accepted ss ess j (w ++ v)) o ≡ accepted ss ess t v
    at None h f = absurd (cc)
    at (Some j) h f = f j h

-- where something goes on over an edge of the type, there is one
target-in : (k : ℕ) (es : List Edge) (f : ℕ → Bool) → via f (target k es) ≡ true → Is_in k (edge_kinds es)
target-in k [] f h = absurd (cc)
target-in k (e ∷ es) f h = from (eqb e.kind k) refl h (target-in k es f)
  where
    from : (b : Bool) → eqb e.kind k ≡ b → via f (cond b (Some e.to) (target k es)) ≡ true → (via f (target k es) ≡ true → Is_in k (edge_kinds es)) → Is_in k (e.kind ∷ edge_kinds es)
    from true q h go = inl (eqb-true e.kind k q)
    from false q h go = inr (go h)

module _ (x : Expr) (a : Auto) (h : IsAutomatonOf x a) (w : List ℕ) (s : ℕ) (led : led_to a.edges 0 w ≡ Some s) (k : ℕ) where
  onward : Contains (edge_kinds (edges_at a.edges s)) k → (rest : List ℕ) × In x (w ++ k ∷ rest)
  onward has =
      let t = has-edges-next x a h w s led in
      let c : Contains (spelled x t.leasts) k = subst (λ z. Contains z k) t.types_of has in
      let m = map-get (type_at x) t.leasts c.0 k 0 c.1 in
      let p : ℕ = get_or t.leasts c.0 0 in
      let b = (t.least c.0 0 m.0).comes in
      let rest = spelled x b.rest in
      let is : spelled x ((b.places ++ p ∷ []) ++ b.rest) ≡ w ++ k ∷ rest =
      map-both (type_at x) (b.places ++ p ∷ []) b.rest
      ∙ ap (λ z. z ++ rest) (map-both (type_at x) b.places (p ∷ []) ∙ ap (λ z. z ++ type_at x p ∷ []) b.spell)
      ∙ append_assoc w (type_at x p ∷ []) rest
      ∙ ap (λ j. w ++ j ∷ rest) (sym m.1 ∙ c.2) in
      (rest, subst (In x) is (word-in x ((b.places ++ p ∷ []) ++ b.rest) b.word))

  backward : (rest : List ℕ) × In x (w ++ k ∷ rest) → Contains (edge_kinds (edges_at a.edges s)) k
  backward r =
      let runs : accepted a.sets a.edges s (k ∷ r.0) ≡ true = sym (led-onward a.sets a.edges w (k ∷ r.0) 0 s led) ∙ (accepted-in x a h (w ++ k ∷ r.0)).1 r.1 in
      in-contains k (edge_kinds (edges_at a.edges s)) (target-in k (edges_at a.edges s) (λ t. accepted a.sets a.edges t r.0) runs)

  pub edges-go-on : Contains (edge_kinds (edges_at a.edges s)) k ↔ ((rest : List ℕ) × In x (w ++ k ∷ rest))
  edges-go-on = (onward, backward)

-- ---- the types that may stand first

pub starts-begin : (s : Schema) (kind : ℕ) (a : Auto) → kind < length s.autos → a ≡ get_or s.autos kind a → Runs (node_at s.spec kind).content a → StartsBegin s kind
starts-begin s kind a l is runs built k =
    let e : Expr = (node_at s.spec kind).content in
    let own : IsAutomatonOf e a = subst (IsAutomatonOf e) (sym is) (built.automata kind a l) in
    subst (λ (firsts : List ℕ). Contains firsts k ↔ ((rest : List ℕ) × In e (k ∷ rest))) runs.first (edges-go-on e a own [] 0 refl k)
