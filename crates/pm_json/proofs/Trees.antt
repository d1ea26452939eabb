-- What a tree says of the value that it is.
use Rattle.std.proofs.Common.{◌≡◌, ℕ, zero, suc, ◌<◌, List, [], ◌∷◌, length, get_or, map, Option, Some, None, option_map, Bool, true, false, cond, bytes_eq, true≢false, Global, refl, sym, ap, ◌∙◌, subst, arith}
use Rattle.std.specs.Prelude.{is_some, option_and_then, unwrap_or}
use Rattle.std.proofs.lemmas.Slice.Eq.{bytes_eq-Decides}
use Rattle.json.specs.Json as json
use Rattle.json.specs.Find as tree
use Rattle.json.specs.Value.{value_view, items_view}
use Rattle.json.specs.declared.value.Value.{Value}
use Rattle.serde_json.specs.Data.{Data, null, number, array, object, Items, item, Members, no_members, put}
use Rattle.serde_json.specs.Find.{get, get_member, as_array, as_object}
use Rattle.serde_json.specs.Read.{of_json, of_items, of_members, number_of}
use Rattle.serde_json.specs.View.{items_of}
use Rattle.serde_json.proofs.Views.{get_member-put, get_member-put_other}
use Rattle.pm_json.specs.Members.{data_of}
use Rattle.pm_json.specs.declared.tree.TreeRef.{TreeRef}

-- the tree is a value
abbrev pub IsWhole : json.Json → Type 0
IsWhole j = is_some (of_json j) ≡ true

pub some-is : {A : Type 0} → (o : Option A) → is_some o ≡ true → (x : A) × (o ≡ Some x)
some-is None h = absurd (true≢false (sym h))
some-is (Some x) h = (x, refl)

same-some : {A : Type 0} → (x y : A) → Some x ≡ Some y → x ≡ y
same-some x y e = ap (λ o. unwrap_or o x) e

no-some : {A : Type 0} → (x : A) → None ≡ Some x → ⊥
no-some x e = true≢false (sym (ap is_some e))

-- what both of two readings give
pub then-some : {A B : Type 0} → (o : Option A) (f : A → Option B) (y : B) → option_and_then f o ≡ Some y → (x : A) × (o ≡ Some x) × (f x ≡ Some y)
then-some None f y e = absurd (no-some y e)
then-some (Some x) f y e = (x, refl, e)

pub map-some : {A B : Type 0} → (o : Option A) (f : A → B) (y : B) → option_map f o ≡ Some y → (x : A) × (o ≡ Some x) × (f x ≡ y)
map-some None f y e = absurd (no-some y e)
map-some (Some x) f y e = (x, refl, same-some (f x) y e)

pub is-data : (j : json.Json) (d : Data) → of_json j ≡ Some d → data_of j ≡ d
is-data j d e = ap (λ o. unwrap_or o null) e

pub data-is : (j : json.Json) → IsWhole j → of_json j ≡ Some (data_of j)
data-is j h = let x = some-is (of_json j) h in x.1 ∙ ap Some (sym (is-data j x.0 x.1))

-- ---- the value under a key

-- the value of a tree, or else what was there before
abbrev or_else : Option json.Json → Option Data → Option Data
or_else None o = o
or_else (Some j) o = Some (data_of j)

found-one : (k q : List ℕ) (j : json.Json) (d : Data) (later : Option json.Json) (ms : Members) (b : Bool) → bytes_eq q k ≡ b → of_json j ≡ Some d
    → or_else later (get_member k (put q d ms)) ≡ or_else (tree.later_or later (cond b (Some j) None)) (get_member k ms)
found-one k q j d (Some x) ms b same is = refl
found-one k q j d None ms true same is =
    ap (λ l. get_member l (put q d ms)) (sym ((bytes_eq-Decides q k).0 same)) ∙ get_member-put q d ms ∙ ap Some (sym (is-data j d is))
found-one k q j d None ms false other is = get_member-put_other k q d ms (λ e. true≢false (sym ((bytes_eq-Decides q k).1 (sym e)) ∙ other))

members-get : (k : List ℕ) (js : json.Members) (ms all : Members) → of_members js ms ≡ Some all → get_member k all ≡ or_else (tree.get_member k js) (get_member k ms)
members-get k json.no_members ms all e = ap (get_member k) (sym (same-some ms all e))
members-get k (json.member q j js) ms all e =
    let t = then-some (of_json j) (λ d. of_members js (put q d ms)) all e in
    members-get k js (put q t.0 ms) all t.2 ∙ found-one k q j t.0 (tree.get_member k js) ms (bytes_eq q k) refl t.1

whole-one : (j x : json.Json) (later : Option json.Json) (b : Bool) → IsWhole j → ((y : json.Json) → later ≡ Some y → IsWhole y) → tree.later_or later (cond b (Some j) None) ≡ Some x → IsWhole x
whole-one j x (Some y) b h after e = after x e
whole-one j x None true h after e = subst IsWhole (same-some j x e) h
whole-one j x None false h after e = absurd (no-some x e)

members-whole : (k : List ℕ) (js : json.Members) (ms all : Members) → of_members js ms ≡ Some all → (x : json.Json) → tree.get_member k js ≡ Some x → IsWhole x
members-whole k json.no_members ms all e x h = absurd (no-some x h)
members-whole k (json.member q j js) ms all e x h =
    let t = then-some (of_json j) (λ d. of_members js (put q d ms)) all e in
    whole-one j x (tree.get_member k js) (bytes_eq q k) (ap is_some t.1) (λ y. members-whole k js (put q t.0 ms) all t.2 y) h

-- the members of a whole object
all-members : (js : json.Members) → IsWhole (json.object js) → (all : Members) × (of_members js no_members ≡ Some all) × (data_of (json.object js) ≡ object all)
all-members js h =
    let d = some-is (of_json (json.object js)) h in
    let t = map-some (of_members js no_members) object d.0 d.1 in
    (t.0, t.1, is-data (json.object js) d.0 d.1 ∙ sym t.2)

-- the value under a key is whole
pub get-whole : (k : List ℕ) (j x : json.Json) → IsWhole j → tree.get k j ≡ Some x → IsWhole x
get-whole k json.null x h e = absurd (no-some x e)
get-whole k (json.boolean b) x h e = absurd (no-some x e)
get-whole k (json.number s) x h e = absurd (no-some x e)
get-whole k (json.string s) x h e = absurd (no-some x e)
get-whole k (json.array js) x h e = absurd (no-some x e)
get-whole k (json.object js) x h e = let all = all-members js h in members-whole k js no_members all.0 all.1 x e

or_else-none : (o : Option json.Json) → or_else o None ≡ option_map data_of o
or_else-none None = refl
or_else-none (Some j) = refl

-- and the value has it
pub get-is : (k : List ℕ) (j : json.Json) → IsWhole j → option_map data_of (tree.get k j) ≡ get k (data_of j)
get-is k json.null h = refl
get-is k (json.boolean b) h = refl
get-is k (json.number s) h = let d = some-is (of_json (json.number s)) h in let t = map-some (number_of s) number d.0 d.1 in ap (get k) (t.2 ∙ sym (is-data (json.number s) d.0 d.1))
get-is k (json.string s) h = refl
get-is k (json.array js) h = let d = some-is (of_json (json.array js)) h in let t = map-some (of_items js) array d.0 d.1 in ap (get k) (t.2 ∙ sym (is-data (json.array js) d.0 d.1))
get-is k (json.object js) h =
    let all = all-members js h in
    sym (ap (get k) all.2 ∙ members-get k js no_members all.0 all.1 ∙ or_else-none (tree.get_member k js))

-- ---- the items of an array

abbrev pub tree_data : Value Global → Data
tree_data v = data_of (value_view v)

abbrev pub ref_data : TreeRef → Data
ref_data r = tree_data r.tree.now

pub item-whole : (vs : List (Value Global)) (i : ℕ) (v : Value Global) → i < length vs → v ≡ get_or vs i v → is_some (of_items (items_view vs)) ≡ true → IsWhole (value_view v)
item-whole [] i v within is h = absurd (omega (arith, within))
item-whole (w ∷ vs) zero v within is h =
    let ds = some-is (of_items (items_view (w ∷ vs))) h in
    let t = then-some (of_json (value_view w)) (λ d. option_map (item d) (of_items (items_view vs))) ds.0 ds.1 in
    ap is_some (ap (λ x. of_json (value_view x)) is ∙ t.1)
item-whole (w ∷ vs) (suc i) v within is h =
    let ds = some-is (of_items (items_view (w ∷ vs))) h in
    let t = then-some (of_json (value_view w)) (λ d. option_map (item d) (of_items (items_view vs))) ds.0 ds.1 in
    let rest = map-some (of_items (items_view vs)) (item t.0) ds.0 t.2 in
    item-whole vs i v (omega (arith, within)) is (ap is_some rest.1)

one-item : (j : json.Json) (js : json.Items) (d : Data) (ds : Items) → of_json j ≡ Some d → of_items js ≡ Some ds → of_items (json.item j js) ≡ Some (item d ds)
one-item j js d ds e f = rw (e, f) refl

pub items-are : (vs : List (Value Global)) → is_some (of_items (items_view vs)) ≡ true → of_items (items_view vs) ≡ Some (items_of (map tree_data vs))
items-are [] h = refl
items-are (w ∷ vs) h =
    let ds = some-is (of_items (items_view (w ∷ vs))) h in
    let t = then-some (of_json (value_view w)) (λ d. option_map (item d) (of_items (items_view vs))) ds.0 ds.1 in
    let rest = map-some (of_items (items_view vs)) (item t.0) ds.0 t.2 in
    one-item (value_view w) (items_view vs) _ _ (data-is (value_view w) (ap is_some t.1)) (items-are vs (ap is_some rest.1))

pub array-whole : (js : json.Items) → IsWhole (json.array js) → is_some (of_items js) ≡ true
array-whole js h = let d = some-is (of_json (json.array js)) h in ap is_some (map-some (of_items js) array d.0 d.1).1

pub object-whole : (js : json.Members) → IsWhole (json.object js) → is_some (of_members js no_members) ≡ true
object-whole js h = ap is_some (all-members js h).1

-- an array's items are the items of its value
pub array-items : (vs : List (Value Global)) → IsWhole (json.array (items_view vs)) → Some (items_of (map tree_data vs)) ≡ as_array (data_of (json.array (items_view vs)))
array-items vs h =
    let is = items-are vs (array-whole (items_view vs) h) in
    ap as_array (sym (is-data (json.array (items_view vs)) (array (items_of (map tree_data vs))) (ap (option_map array) is)))

-- an object's members are the members of its value
pub object-members : (js : json.Members) (ms : Members) → of_members js no_members ≡ Some ms → Some ms ≡ as_object (data_of (json.object js))
object-members js ms is = ap as_object (sym (is-data (json.object js) (object ms) (ap (option_map object) is)))
