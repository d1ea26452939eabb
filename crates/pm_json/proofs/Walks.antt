-- Trees that are gone through one after another.
use Rattle.std.proofs.Common.{◌≡◌, ℕ, zero, suc, ◌+◌, ◌<◌, ◌≤◌, List, [], ◌∷◌, ◌++◌, length, drop, drop-cons, get_or, add-one, Option, Some, None, option_map, Bool, true, false, true≢false, Global, Bor, refl, sym, ap, ◌∙◌, arith}
use Rattle.std.specs.Prelude.{is_some, option_and_then}
use Rattle.json.specs.Json as json
use Rattle.json.specs.Value.{value_view, items_view, members_view}
use Rattle.json.specs.declared.value.Value.{Value}
use Rattle.serde_json.specs.Data.{Data, Items, no_items, item, Members, no_members, put}
use Rattle.serde_json.specs.Read.{of_json, of_items, of_members}
use Rattle.serde_json.specs.View.{view, items_view as values_view}
use Rattle.serde_json.specs.declared.value.Value.{Value as Owned}
use Rattle.pm_json.proofs.Trees.{IsWhole}

abbrev pub Entry : Type 0
Entry = Bor (List ℕ) × Value Global

split-at : {B : Type 0} → (xs : List B) (i : ℕ) (x : B) → i < length xs → x ≡ get_or xs i x → drop i xs ≡ x ∷ drop (i + 1) xs
split-at xs i x within is = rw add-one (drop-cons xs i x within ∙ ap (λ y. y ∷ drop (suc i) xs) (sym is))

none-left : {B : Type 0} → (xs : List B) (i : ℕ) → length xs ≤ i → drop i xs ≡ []
none-left [] zero h = refl
none-left [] (suc i) h = refl
none-left (x ∷ xs) zero h = absurd (omega (arith, h))
none-left (x ∷ xs) (suc i) h = none-left xs i (omega (arith, h))

-- ---- whether all are whole

abbrev pub items_whole : List (Value Global) → Bool
items_whole vs = is_some (of_items (items_view vs))

abbrev pub members_whole : List Entry → Bool
members_whole es = is_some (of_members (members_view es) no_members)

mapped : {A B : Type 0} → (f : A → B) (o : Option A) → is_some (option_map f o) ≡ is_some o
mapped f None = refl
mapped f (Some x) = refl

first-item : (j : json.Json) (js : json.Items) (o : Option Data) → of_json j ≡ o → is_some o ≡ true → is_some (of_items (json.item j js)) ≡ is_some (of_items js)
first-item j js None is h = absurd (true≢false (sym h))
first-item j js (Some d) is h = rw is (mapped (item d) (of_items js))

bad-item : (j : json.Json) (js : json.Items) (o : Option Data) → of_json j ≡ o → is_some o ≡ false → is_some (of_items (json.item j js)) ≡ false
bad-item j js None is h = rw is refl
bad-item j js (Some d) is h = absurd (true≢false h)

-- whether members are whole does not turn on what was there before
any-before : (js : json.Members) (ms ns : Members) → is_some (of_members js ms) ≡ is_some (of_members js ns)
any-before json.no_members ms ns = refl
any-before (json.member k j js) ms ns = after (of_json j) (λ d. any-before js (put k d ms) (put k d ns)) where
  after : (o : Option Data) → ((d : Data) → is_some (of_members js (put k d ms)) ≡ is_some (of_members js (put k d ns)))
      → is_some (option_and_then (λ d. of_members js (put k d ms)) o) ≡ is_some (option_and_then (λ d. of_members js (put k d ns)) o)
  after None same = refl
  after (Some d) same = same d

first-member : (k : List ℕ) (j : json.Json) (js : json.Members) (o : Option Data) → of_json j ≡ o → is_some o ≡ true → is_some (of_members (json.member k j js) no_members) ≡ is_some (of_members js no_members)
first-member k j js None is h = absurd (true≢false (sym h))
first-member k j js (Some d) is h = rw is (any-before js (put k d no_members) no_members)

bad-member : (k : List ℕ) (j : json.Json) (js : json.Members) (ms : Members) (o : Option Data) → of_json j ≡ o → is_some o ≡ false → is_some (of_members (json.member k j js) ms) ≡ false
bad-member k j js ms None is h = rw is refl
bad-member k j js ms (Some d) is h = absurd (true≢false h)

module _ (vs : List (Value Global)) (i : ℕ) (v : Value Global) (within : i < length vs) (is : v ≡ get_or vs i v) where
  at-item : drop i vs ≡ v ∷ drop (i + 1) vs
  at-item = split-at vs i v within is

  pub items-next : is_some (of_json (value_view v)) ≡ true → items_whole (drop i vs) ≡ items_whole vs → items_whole (drop (i + 1) vs) ≡ items_whole vs
  items-next h before = sym (ap items_whole at-item ∙ first-item (value_view v) (items_view (drop (i + 1) vs)) (of_json (value_view v)) refl h) ∙ before

  pub items-stop : is_some (of_json (value_view v)) ≡ false → items_whole (drop i vs) ≡ items_whole vs → items_whole vs ≡ false
  items-stop h before = sym before ∙ ap items_whole at-item ∙ bad-item (value_view v) (items_view (drop (i + 1) vs)) (of_json (value_view v)) refl h

pub items-end : (vs : List (Value Global)) (i : ℕ) → length vs ≤ i → items_whole (drop i vs) ≡ items_whole vs → items_whole vs ≡ true
items-end vs i past before = sym before ∙ ap items_whole (none-left vs i past)

module _ (es : List Entry) (i : ℕ) (e : Entry) (within : i < length es) (is : e ≡ get_or es i e) where
  at-member : drop i es ≡ e ∷ drop (i + 1) es
  at-member = split-at es i e within is

  pub members-next : is_some (of_json (value_view e.1)) ≡ true → members_whole (drop i es) ≡ members_whole es → members_whole (drop (i + 1) es) ≡ members_whole es
  members-next h before = sym (ap members_whole at-member ∙ first-member e.0.now (value_view e.1) (members_view (drop (i + 1) es)) (of_json (value_view e.1)) refl h) ∙ before

  pub members-stop : is_some (of_json (value_view e.1)) ≡ false → members_whole (drop i es) ≡ members_whole es → members_whole es ≡ false
  members-stop h before = sym before ∙ ap members_whole at-member ∙ bad-member e.0.now (value_view e.1) (members_view (drop (i + 1) es)) no_members (of_json (value_view e.1)) refl h

pub members-end : (es : List Entry) (i : ℕ) → length es ≤ i → members_whole (drop i es) ≡ members_whole es → members_whole es ≡ true
members-end es i past before = sym before ∙ ap members_whole (none-left es i past)

pub array-some : (js : json.Items) → is_some (of_items js) ≡ is_some (of_json (json.array js))
array-some js = sym (mapped _ (of_items js))

pub object-some : (js : json.Members) → is_some (of_members js no_members) ≡ is_some (of_json (json.object js))
object-some js = sym (mapped _ (of_members js no_members))

-- ---- values that own their texts

-- these items, before those
abbrev pub in_front : List Owned → Items → Items
in_front [] ds = ds
in_front (v ∷ vs) ds = item (view v) (in_front vs ds)

in_front-more : (vs : List Owned) (v : Owned) (ds : Items) → in_front (vs ++ v ∷ []) ds ≡ in_front vs (item (view v) ds)
in_front-more [] v ds = refl
in_front-more (w ∷ vs) v ds = ap (item (view w)) (in_front-more vs v ds)

in_front-none : (vs : List Owned) → in_front vs no_items ≡ values_view vs
in_front-none [] = refl
in_front-none (v ∷ vs) = ap (item (view v)) (in_front-none vs)

-- with the values of the items from i on, these are the values of all
abbrev pub Begins : List (Value Global) → ℕ → List Owned → Type 0
Begins vs i owned = option_map (in_front owned) (of_items (items_view (drop i vs))) ≡ of_items (items_view vs)

with-none : (o : Option Items) → option_map (in_front []) o ≡ o
with-none None = refl
with-none (Some ds) = refl

pub begins-none : (vs : List (Value Global)) (owned : List Owned) → owned ≡ [] → Begins vs 0 owned
begins-none vs owned none = ap (λ l. option_map (in_front l) (of_items (items_view vs))) none ∙ with-none (of_items (items_view vs))

one-front : (owned new : List Owned) (w : Owned) (j : json.Json) (js : json.Items) → new ≡ owned ++ w ∷ [] → of_json j ≡ Some (view w) → option_map (in_front new) (of_items js) ≡ option_map (in_front owned) (of_items (json.item j js))
one-front owned new w j js more is = rw (is, more) (each (of_items js)) where
  each : (o : Option Items) → option_map (in_front (owned ++ w ∷ [])) o ≡ option_map (in_front owned) (option_map (item (view w)) o)
  each None = refl
  each (Some ds) = ap Some (in_front-more owned w ds)

no-front : (owned : List Owned) (j : json.Json) (js : json.Items) → of_json j ≡ None → option_map (in_front owned) (of_items (json.item j js)) ≡ None
no-front owned j js is = rw is refl

pub begins-more : (vs : List (Value Global)) (i : ℕ) (v : Value Global) (owned new : List Owned) (w : Owned) → i < length vs → v ≡ get_or vs i v → of_json (value_view v) ≡ Some (view w) → new ≡ owned ++ w ∷ [] → Begins vs i owned → Begins vs (i + 1) new
begins-more vs i v owned new w within is value more before =
    one-front owned new w (value_view v) (items_view (drop (i + 1) vs)) more value ∙ ap (λ xs. option_map (in_front owned) (of_items (items_view xs))) (sym (split-at vs i v within is)) ∙ before

pub begins-stop : (vs : List (Value Global)) (i : ℕ) (v : Value Global) (owned : List Owned) → i < length vs → v ≡ get_or vs i v → of_json (value_view v) ≡ None → Begins vs i owned → of_items (items_view vs) ≡ None
begins-stop vs i v owned within is value before =
    sym before ∙ ap (λ xs. option_map (in_front owned) (of_items (items_view xs))) (split-at vs i v within is) ∙ no-front owned (value_view v) (items_view (drop (i + 1) vs)) value

pub begins-end : (vs : List (Value Global)) (i : ℕ) (owned : List Owned) → length vs ≤ i → Begins vs i owned → Some (values_view owned) ≡ of_items (items_view vs)
begins-end vs i owned past before =
    ap Some (sym (in_front-none owned)) ∙ ap (λ xs. option_map (in_front owned) (of_items (items_view xs))) (sym (none-left vs i past)) ∙ before

-- with the members from i on put among these, they are all
abbrev pub Leads : List Entry → ℕ → Members → Type 0
Leads es i ms = of_members (members_view (drop i es)) ms ≡ of_members (members_view es) no_members

one-member : (k : List ℕ) (j : json.Json) (d : Data) (js : json.Members) (ms : Members) → of_json j ≡ Some d → of_members (json.member k j js) ms ≡ of_members js (put k d ms)
one-member k j d js ms e = rw e refl

pub leads-more : (es : List Entry) (i : ℕ) (e : Entry) (d : Data) (ms new : Members) → i < length es → e ≡ get_or es i e → of_json (value_view e.1) ≡ Some d → new ≡ put e.0.now d ms → Leads es i ms → Leads es (i + 1) new
leads-more es i e d ms new within is value more before =
    ap (of_members (members_view (drop (i + 1) es))) more ∙ sym (one-member e.0.now (value_view e.1) d (members_view (drop (i + 1) es)) ms value)
    ∙ ap (λ xs. of_members (members_view xs) ms) (sym (split-at es i e within is)) ∙ before

no-member : (k : List ℕ) (j : json.Json) (js : json.Members) (ms : Members) → of_json j ≡ None → of_members (json.member k j js) ms ≡ None
no-member k j js ms e = rw e refl

pub leads-stop : (es : List Entry) (i : ℕ) (e : Entry) (ms : Members) → i < length es → e ≡ get_or es i e → of_json (value_view e.1) ≡ None → Leads es i ms → of_members (members_view es) no_members ≡ None
leads-stop es i e ms within is value before =
    sym before ∙ ap (λ xs. of_members (members_view xs) ms) (split-at es i e within is) ∙ no-member e.0.now (value_view e.1) (members_view (drop (i + 1) es)) ms value

pub leads-end : (es : List Entry) (i : ℕ) (ms : Members) → length es ≤ i → Leads es i ms → Some ms ≡ of_members (members_view es) no_members
leads-end es i ms past before = ap (λ xs. of_members (members_view xs) ms) (sym (none-left es i past)) ∙ before

-- a member of members that are whole
pub member-whole : (es : List Entry) (i : ℕ) (e : Entry) (ms : Members) → i < length es → e ≡ get_or es i e → is_some (of_members (members_view es) no_members) ≡ true → Leads es i ms → IsWhole (value_view e.1)
member-whole es i e ms within is whole before = after (of_json (value_view e.1)) refl where
  after : (o : Option Data) → of_json (value_view e.1) ≡ o → is_some o ≡ true
  after None none = absurd (true≢false (sym whole ∙ ap is_some (leads-stop es i e ms within is none before)))
  after (Some d) some = refl
