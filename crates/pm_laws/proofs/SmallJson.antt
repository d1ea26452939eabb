-- The JSON value of a line has no text longer than four times the line, and no list with more items.
use Rattle.std.proofs.Common.{◌≡◌, ◌≤◌, ◌*◌, max, ℕ, zero, suc, List, [], ◌∷◌, length, Option, Some, None, option_map, option_and_then, Ordering, Less, Equal, Greater, refl, subst, arith}
use Rattle.std.specs.Ordering.{match_ordering}
use Rattle.json.specs.Token.{Token}
use Rattle.json.specs.Lex.{tokens}
use Rattle.json.specs.Json as json
use Rattle.json.specs.Json.{Json, Items, Members, Parse, parse_map, after_end_array, read_key, items_step, members_step, items, members, value_with, value}
use Rattle.serde_json.specs.Data as kept
use Rattle.serde_json.specs.Data.{Data, put}
use Rattle.serde_json.specs.Read.{number_of, of_json, of_items, of_members, max_depth, read}
use Rattle.pm_laws.proofs.ShortTokens.{Tokens, text-tokens}

-- ---- what is read of tokens

abbrev item_count : Items → ℕ
item_count json.no_items = 0
item_count (json.item j js) = suc (item_count js)

-- the longest text or list in it
abbrev mutual
  broad : Json → ℕ
  broad json.null = 0
  broad (json.boolean b) = 0
  broad (json.number s) = 0
  broad (json.string s) = length s
  broad (json.array js) = max (item_count js) (broad_items js)
  broad (json.object ms) = broad_members ms

  broad_items : Items → ℕ
  broad_items json.no_items = 0
  broad_items (json.item j js) = max (broad j) (broad_items js)

  broad_members : Members → ℕ
  broad_members json.no_members = 0
  broad_members (json.member k j ms) = max (broad j) (broad_members ms)

module _ (most : ℕ) where
  -- what was read is so, and few tokens are left
  abbrev Got : {A : Type 0} → (A → Type 0) → Option (A × List Token) → Type 0
  Got P None = Unit {0}
  Got P (Some p) = P p.0 × Tokens most most p.1

  abbrev Reads : {A : Type 0} → (A → Type 0) → Parse A → Type 0
  Reads P read = (ts : List Token) → Tokens most most ts → Got P (read ts)

  abbrev Left : Option (List Token) → Type 0
  Left None = Unit {0}
  Left (Some ts) = Tokens most most ts

  fewer : (t : Token) (ts : List Token) → Tokens most most (t ∷ ts) → Tokens most most ts
  fewer t ts h = let l = h.0 in (omega (arith, l), h.1.1)

  mapped : {A B : Type 0} (P : A → Type 0) (Q : B → Type 0) (f : A → B) → ((a : A) → P a → Q (f a)) → (o : Option (A × List Token)) → Got P o → Got Q (parse_map f o)
  mapped P Q f k None h = tt
  mapped P Q f k (Some p) h = (k p.0 h.0, h.1)

  abbrev Few : Json → Type 0
  Few j = broad j ≤ most

  abbrev FewItems : ℕ → Items → Type 0
  FewItems n js = (item_count js ≤ n) × (broad_items js ≤ most)

  abbrev FewMembers : Members → Type 0
  FewMembers ms = broad_members ms ≤ most

  ended : (ts : List Token) → Tokens most most ts → Left (after_end_array ts)
  ended [] h = tt
  ended (Token.begin_object ∷ ts) h = tt
  ended (Token.end_object ∷ ts) h = tt
  ended (Token.begin_array ∷ ts) h = tt
  ended (Token.end_array ∷ ts) h = fewer Token.end_array ts h
  ended (Token.key s ∷ ts) h = tt
  ended (Token.string s ∷ ts) h = tt
  ended (Token.number s ∷ ts) h = tt
  ended (Token.boolean b ∷ ts) h = tt
  ended (Token.null ∷ ts) h = tt
  ended (Token.bad ∷ ts) h = tt

  keyed : (ts : List Token) → Tokens most most ts → Got (λ k. Unit {0}) (read_key ts)
  keyed [] h = tt
  keyed (Token.begin_object ∷ ts) h = tt
  keyed (Token.end_object ∷ ts) h = (tt, fewer Token.end_object ts h)
  keyed (Token.begin_array ∷ ts) h = tt
  keyed (Token.end_array ∷ ts) h = tt
  keyed (Token.key s ∷ ts) h = (tt, fewer (Token.key s) ts h)
  keyed (Token.string s ∷ ts) h = tt
  keyed (Token.number s ∷ ts) h = tt
  keyed (Token.boolean b ∷ ts) h = tt
  keyed (Token.null ∷ ts) h = tt
  keyed (Token.bad ∷ ts) h = tt

  and-more : {B : Type 0} (P Q : B → Type 0) (f : Json → B → B) → ((j : Json) (b : B) → Few j → P b → Q (f j b)) → (more : Parse B) → Reads P more
      → (o : Option (Json × List Token)) → Got Few o → Got Q (option_and_then (λ q. parse_map (f q.0) (more q.1)) o)
  and-more P Q f k more r None h = tt
  and-more P Q f k more r (Some q) h = mapped P Q (f q.0) (λ b x. k q.0 b h.0 x) (more q.1) (r q.1 h.1)

  module _ (p : Parse Json) (reads : Reads Few p) where
    item-turn : (n : ℕ) (more : Parse Items) → Reads (FewItems n) more → (ts : List Token) → Tokens most most ts → (o : Option (List Token)) → Left o → Got (FewItems (suc n)) (items_step p more ts o)
    item-turn n more r ts h (Some rest) l = ((omega arith, omega arith), l)
    item-turn n more r ts h None l =
        and-more (FewItems n) (FewItems (suc n)) json.item (λ j js x y. let c = y.0 in let b = y.1 in (omega (arith, c), omega (arith, x, b))) more r (p ts) (reads ts h)

    items-read : (n : ℕ) → Reads (FewItems n) (items p n)
    unfolding items
    items-read zero ts h = tt
    items-read (suc n) ts h = item-turn n (items p n) (items-read n) ts h (after_end_array ts) (ended ts h)

    member-turn : (more : Parse Members) → Reads FewMembers more → (o : Option (Option (List ℕ) × List Token)) → Got (λ k. Unit {0}) o → Got FewMembers (option_and_then (λ q. members_step p more q.0 q.1) o)
    member-turn more r None h = tt
    member-turn more r (Some (None, s)) h = (omega arith, h.1)
    member-turn more r (Some (Some k, s)) h = and-more FewMembers FewMembers (json.member k) (λ j ms x y. omega (arith, x, y)) more r (p s) (reads s h.1)

    members-read : (n : ℕ) → Reads FewMembers (members p n)
    unfolding members
    members-read zero ts h = tt
    members-read (suc n) ts h = member-turn (members p n) (members-read n) (read_key ts) (keyed ts h)

  one-level : (a : Parse Items) (o : Parse Members) → Reads (FewItems most) a → Reads FewMembers o → Reads Few (value_with a o)
  one-level a o p q [] h = tt
  one-level a o p q (Token.begin_object ∷ ts) h = mapped FewMembers Few json.object (λ ms x. x) (o ts) (q ts (fewer Token.begin_object ts h))
  one-level a o p q (Token.end_object ∷ ts) h = tt
  one-level a o p q (Token.begin_array ∷ ts) h = mapped (FewItems most) Few json.array (λ js x. let c = x.0 in let b = x.1 in omega (arith, c, b)) (a ts) (p ts (fewer Token.begin_array ts h))
  one-level a o p q (Token.end_array ∷ ts) h = tt
  one-level a o p q (Token.key s ∷ ts) h = tt
  one-level a o p q (Token.string s ∷ ts) h = (h.1.0, fewer (Token.string s) ts h)
  one-level a o p q (Token.number s ∷ ts) h = (omega arith, fewer (Token.number s) ts h)
  one-level a o p q (Token.boolean b ∷ ts) h = (omega arith, fewer (Token.boolean b) ts h)
  one-level a o p q (Token.null ∷ ts) h = (omega arith, fewer Token.null ts h)
  one-level a o p q (Token.bad ∷ ts) h = tt

  more-items : (n : ℕ) (o : Option (Items × List Token)) → n ≤ most → Got (FewItems n) o → Got (FewItems most) o
  more-items n None l h = tt
  more-items n (Some p) l h = let c = h.0.0 in ((omega (arith, l, c), h.0.1), h.1)

  value-reads : (d : ℕ) → Reads Few (value d)
  unfolding value
  value-reads zero = one-level (λ ts. None) (λ ts. None) (λ ts h. tt) (λ ts h. tt)
  value-reads (suc d) =
      one-level (λ ts. items (value d) (length ts) ts) (λ ts. members (value d) (length ts) ts)
      (λ ts h. more-items (length ts) (items (value d) (length ts) ts) h.0 (items-read (value d) (value-reads d) (length ts) ts h))
      (λ ts h. members-read (value d) (value-reads d) (length ts) ts h)

-- ---- the value

abbrev pub count : kept.Items → ℕ
count kept.no_items = 0
count (kept.item d ds) = suc (count ds)

-- no text and no list in it is longer
abbrev mutual
  pub IsSmall : ℕ → Data → Type 0
  IsSmall most kept.null = Unit {0}
  IsSmall most (kept.boolean b) = Unit {0}
  IsSmall most (kept.number n) = Unit {0}
  IsSmall most (kept.string s) = length s ≤ most
  IsSmall most (kept.array ds) = (count ds ≤ most) × SmallItems most ds
  IsSmall most (kept.object ms) = SmallMembers most ms

  pub SmallItems : ℕ → kept.Items → Type 0
  SmallItems most kept.no_items = Unit {0}
  SmallItems most (kept.item d ds) = IsSmall most d × SmallItems most ds

  pub SmallMembers : ℕ → kept.Members → Type 0
  SmallMembers most kept.no_members = Unit {0}
  SmallMembers most (kept.member k d ms) = IsSmall most d × SmallMembers most ms

module _ (most : ℕ) where
  abbrev Opt : {A : Type 0} → (A → Type 0) → Option A → Type 0
  Opt P None = Unit {0}
  Opt P (Some a) = P a

  opt-map : {A B : Type 0} (P : A → Type 0) (Q : B → Type 0) (f : A → B) → ((a : A) → P a → Q (f a)) → (o : Option A) → Opt P o → Opt Q (option_map f o)
  opt-map P Q f k None h = tt
  opt-map P Q f k (Some a) h = k a h

  opt-then : {A B : Type 0} (P : A → Type 0) (Q : B → Type 0) (f : A → Option B) → ((a : A) → P a → Opt Q (f a)) → (o : Option A) → Opt P o → Opt Q (option_and_then f o)
  opt-then P Q f k None h = tt
  opt-then P Q f k (Some a) h = k a h

  any : {A : Type 0} (o : Option A) → Opt (λ a. Unit {0}) o
  any None = tt
  any (Some a) = tt

  by-order : (o : Ordering) (a b c : kept.Members) → SmallMembers most a → SmallMembers most b → SmallMembers most c → SmallMembers most (match_ordering o a b c)
  by-order Less a b c p q r = p
  by-order Equal a b c p q r = q
  by-order Greater a b c p q r = r

  put-small : (k : List ℕ) (d : Data) (ms : kept.Members) → IsSmall most d → SmallMembers most ms → SmallMembers most (put k d ms)
  put-small k d kept.no_members p q = (p, tt)
  put-small k d (kept.member l e ms) p q = by-order _ (kept.member k d (kept.member l e ms)) (kept.member l d ms) (kept.member l e (put k d ms)) (p, q) (p, q.1) (q.0, put-small k d ms p q.1)

  abbrev SmallOf : Items → kept.Items → Type 0
  SmallOf js ds = (count ds ≡ item_count js) × SmallItems most ds

  mutual
    json-small : (j : Json) → broad j ≤ most → Opt (IsSmall most) (of_json j)
    json-small json.null h = tt
    json-small (json.boolean b) h = tt
    json-small (json.number s) h = opt-map (λ n. Unit {0}) (IsSmall most) kept.number (λ n x. tt) (number_of s) (any (number_of s))
    json-small (json.string s) h = h
    json-small (json.array js) h = opt-map (SmallOf js) (IsSmall most) kept.array (λ ds x. let c = x.0 in (omega (arith, c, h), x.1)) (of_items js) (items-small js (omega (arith, h)))
    json-small (json.object ms) h = opt-map (SmallMembers most) (IsSmall most) kept.object (λ ns x. x) (of_members ms kept.no_members) (members-small ms kept.no_members h tt)

    items-small : (js : Items) → broad_items js ≤ most → Opt (SmallOf js) (of_items js)
    items-small json.no_items h = (refl, tt)
    items-small (json.item j js) h =
        opt-then (IsSmall most) (SmallOf (json.item j js)) _
        (λ d x. opt-map (SmallOf js) (SmallOf (json.item j js)) (kept.item d) (λ ds y. (let c = y.0 in omega (arith, c), (x, y.1))) (of_items js) (items-small js (omega (arith, h))))
        (of_json j) (json-small j (omega (arith, h)))

    members-small : (ms : Members) (found : kept.Members) → broad_members ms ≤ most → SmallMembers most found → Opt (SmallMembers most) (of_members ms found)
    members-small json.no_members found h k = k
    members-small (json.member name j ms) found h k =
        opt-then (IsSmall most) (SmallMembers most) _ (λ d x. members-small ms (put name d found) (omega (arith, h)) (put-small name d found x k)) (of_json j) (json-small j (omega (arith, h)))

  last-few : (o : Option (Json × List Token)) → Got most (λ j. broad j ≤ most) o → Opt (λ j. broad j ≤ most) (option_and_then (λ p. json.if_last p.0 p.1) o)
  last-few None h = tt
  last-few (Some (j, [])) h = h.0
  last-few (Some (j, t ∷ r)) h = tt

  pub read-small : (text : List ℕ) (d : Data) → 4 * length text ≤ most → suc (length text) ≤ most → read text ≡ Some d → IsSmall most d
  read-small text d l m e =
      let t = text-tokens most text l in
      let n = t.0 in
      let few = value-reads most max_depth (tokens text) (omega (arith, n, m), t.1) in
      subst (Opt (IsSmall most)) e (opt-then (λ j. broad j ≤ most) (IsSmall most) of_json (λ j x. json-small j x) _ (last-few (value max_depth (tokens text)) few))
