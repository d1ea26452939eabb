-- The texts of a JSON value that code holds are UTF-8.
use Rattle.std.proofs.Common.{◌≡◌, ℕ, List, [], ◌∷◌, String, Global, map, refl, sym, subst}
use Rattle.std.proofs.lemmas.Str.{IsUtf8-string_bytes}
use Rattle.std.specs.Prelude.{Option, Some, None, Ok, option_and_then}
use Rattle.std.specs.Ordering.{nat_cmp, match_ordering}
use Rattle.std.specs.Cmp.Lexicographic.{slice_cmp}
use Rattle.std.specs.Str.{IsUtf8}
use Rattle.std.specs.declared.cmp.Ordering.{Ordering}
use Rattle.std.specs.declared.cmp.Ordering.TheVariants.{Less, Equal, Greater}
use Rattle.serde_json.specs.Data.{Data, null, boolean, number, string, array, object, Items, no_items, item, Members, no_members, member}
use Rattle.serde_json.specs.Find.{get, get_member, as_str}
use Rattle.serde_json.specs.View.{view, items_view, view_step, items_of, members_of}
use Rattle.serde_json.specs.declared.value.Value.{Value, map-Value}
use Rattle.serde_json.specs.declared.value.Value.TheOpen.{Value-F}
use Rattle.serde_json.specs.declared.value.Value.TheFolds.{fold-roll-Value, ind-Value}
use Rattle.pm_docjson.specs.declared.fault.DocReadError.TheVariants.{Shape}
use Rattle.pm_docjson.specs.Fields.{text_at}
use Rattle.pm_docjson.proofs.ReadAttrs.{there}

-- each text in the value is UTF-8
abbrev mutual
  pub HasTexts : Data → Type 0
  HasTexts null = Unit {0}
  HasTexts (boolean b) = Unit {0}
  HasTexts (number n) = Unit {0}
  HasTexts (string t) = IsUtf8 t
  HasTexts (array ds) = EachHasTexts ds
  HasTexts (object ms) = AllHaveTexts ms

  pub EachHasTexts : Items → Type 0
  EachHasTexts no_items = Unit {0}
  EachHasTexts (item d ds) = HasTexts d × EachHasTexts ds

  pub AllHaveTexts : Members → Type 0
  AllHaveTexts no_members = Unit {0}
  AllHaveTexts (member k d ms) = HasTexts d × AllHaveTexts ms

list-texts : {X : Type 0} (out : X → Value) → ((x : X) → HasTexts (view (out x))) → (xs : List X) → EachHasTexts (items_of (map view (map out xs)))
list-texts out h [] = tt
list-texts out h (x ∷ xs) = (h x, list-texts out h xs)

entry-texts : {X : Type 0} (out : X → Value) → ((x : X) → HasTexts (view (out x))) → (es : List (String Global × X)) → AllHaveTexts (members_of (map (λ (e : String Global × Value). (e.0, view e.1)) (map (λ (e : String Global × X). (e.0, out e.1)) es)))
entry-texts out h [] = tt
entry-texts out h (e ∷ es) = (h e.1, entry-texts out h es)

level-texts : {X : Type 0} (out : X → Value) → ((x : X) → HasTexts (view (out x))) → (y : Value-F X) → HasTexts (view_step (map-Value Value Data view (map-Value X Value out y)))
level-texts out h Value-F.Null = tt
level-texts out h (Value-F.Bool b) = tt
level-texts out h (Value-F.Number x) = tt
level-texts out h (Value-F.String t) = IsUtf8-string_bytes t
level-texts out h (Value-F.Array v) = list-texts out h v.items
level-texts out h (Value-F.Object m) = entry-texts out h m.entries

pub view-texts : (j : Value) → HasTexts (view j)
view-texts = ind-Value (λ j. HasTexts (view j)) (λ x y is.
    subst HasTexts (sym (fold-roll-Value Data view_step x)) (subst (λ z. HasTexts (view_step (map-Value Value Data view z))) is (level-texts (λ e. e.0) (λ e. e.1) y)))

pub items-texts : (js : List Value) → EachHasTexts (items_view js)
items-texts [] = tt
items-texts (j ∷ js) = (view-texts j, items-texts js)

member-texts : (k : List ℕ) (ms : Members) (e : Data) → AllHaveTexts ms → get_member k ms ≡ Some e → HasTexts e
member-texts k no_members e t h = absurd (cc)
member-texts k (member n d ms) e t h = pick (slice_cmp nat_cmp k n) (get_member k ms) (λ g. member-texts k ms e t.1 g) h
  where
    pick : (o : Ordering) (r : Option Data) → (r ≡ Some e → HasTexts e) → match_ordering o r (Some d) r ≡ Some e → HasTexts e
    pick Less r f g = f g
    pick Equal r f g = let same : d ≡ e = cc in subst HasTexts same t.0
    pick Greater r f g = f g

pub field-texts : (k : List ℕ) (d e : Data) → HasTexts d → get k d ≡ Some e → HasTexts e
field-texts k null e t h = absurd (cc)
field-texts k (boolean b) e t h = absurd (cc)
field-texts k (number n) e t h = absurd (cc)
field-texts k (string bs) e t h = absurd (cc)
field-texts k (array ds) e t h = absurd (cc)
field-texts k (object ms) e t h = member-texts k ms e t h

text-is : (e : Data) (bs : List ℕ) → HasTexts e → as_str e ≡ Some bs → IsUtf8 bs
text-is null bs t h = absurd (cc)
text-is (boolean b) bs t h = absurd (cc)
text-is (number n) bs t h = absurd (cc)
text-is (string us) bs t h = let same : us ≡ bs = cc in subst IsUtf8 same t
text-is (array ds) bs t h = absurd (cc)
text-is (object ms) bs t h = absurd (cc)

-- a text that is found
pub text-found : (k : List ℕ) (d : Data) (bs : List ℕ) → HasTexts d → text_at k d ≡ Ok bs → IsUtf8 bs
text-found k d bs t h = from (get k d) refl (there Shape (option_and_then as_str (get k d)) bs h)
  where
    from : (o : Option Data) → get k d ≡ o → option_and_then as_str o ≡ Some bs → IsUtf8 bs
    from None is e = absurd (cc)
    from (Some x) is e = text-is x bs (field-texts k d x t is) e
