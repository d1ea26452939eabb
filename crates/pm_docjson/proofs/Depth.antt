-- What is found in a value is less deep.
use Rattle.std.proofs.Common.{◌≡◌, ◌≤◌, ◌<◌, ℕ, suc, zero, max, List, [], ◌∷◌, length, map, get_or, arith, subst, sym, ap, ◌+◌, ◌*◌}
use Rattle.std.specs.Prelude.{Option, Some, None, option_and_then, Bool, true, false, cond}
use Rattle.std.specs.Ordering.{nat_cmp, match_ordering}
use Rattle.std.specs.Cmp.Lexicographic.{slice_cmp}
use Rattle.std.specs.declared.cmp.Ordering.{Ordering}
use Rattle.std.specs.declared.cmp.Ordering.TheVariants.{Less, Equal, Greater}
use Rattle.serde_json.specs.Data.{Data, null, boolean, number, string, array, object, Items, Members, no_members, member, depth, items_depth, members_depth}
use Rattle.serde_json.specs.Find.{get, get_member, as_array}
use Rattle.serde_json.specs.View.{items_of}
use Rattle.pm_docjson.specs.Fields.{non_null, field}

pick : (o : Ordering) (d : Data) (rest : Option Data) (n m : ℕ) (e : Data) → (rest ≡ Some e → depth e ≤ m) → match_ordering o rest (Some d) rest ≡ Some e → depth e ≤ max (depth d) m
pick Less d rest n m e h is = omega (arith, h is)
pick Equal d rest n m e h is = let same : d ≡ e = cc in subst (λ x. depth x ≤ max (depth d) m) same (omega arith)
pick Greater d rest n m e h is = omega (arith, h is)

pub get_member-depth : (k : List ℕ) (ms : Members) (e : Data) → get_member k ms ≡ Some e → depth e ≤ members_depth ms
get_member-depth k no_members e is = absurd (cc)
get_member-depth k (member l d ms) e is = pick (slice_cmp nat_cmp k l) d (get_member k ms) 0 (members_depth ms) e (get_member-depth k ms e) is

pub get-depth : (k : List ℕ) (d e : Data) → get k d ≡ Some e → suc (depth e) ≤ depth d
get-depth k null e is = absurd (cc)
get-depth k (boolean b) e is = absurd (cc)
get-depth k (number n) e is = absurd (cc)
get-depth k (string s) e is = absurd (cc)
get-depth k (array ds) e is = absurd (cc)
get-depth k (object ms) e is = omega (arith, get_member-depth k ms e is)

kept : (b : Bool) (d e : Data) → cond b None (Some d) ≡ Some e → d ≡ e
kept true d e is = absurd (cc)
kept false d e is = cc

found : (o : Option Data) (e : Data) → option_and_then non_null o ≡ Some e → o ≡ Some e
found None e is = absurd (cc)
found (Some d) e is = ap Some (kept _ d e is)

pub field-depth : (k : List ℕ) (d e : Data) → field k d ≡ Some e → suc (depth e) ≤ depth d
field-depth k d e is = get-depth k d e (found (get k d) e is)

pub array-depth : (d : Data) (xs : Items) → as_array d ≡ Some xs → depth d ≡ suc (items_depth xs)
array-depth null xs is = absurd (cc)
array-depth (boolean b) xs is = absurd (cc)
array-depth (number n) xs is = absurd (cc)
array-depth (string s) xs is = absurd (cc)
array-depth (array ds) xs is = let same : ds ≡ xs = cc in ap (λ x. suc (items_depth x)) same
array-depth (object ms) xs is = absurd (cc)

module _ {X : Type 0} (seen : X → Data) where
  item-depth : (xs : List X) (i : ℕ) (x : X) → i < length xs → depth (seen (get_or xs i x)) ≤ items_depth (items_of (map seen xs))
  item-depth [] i x h = absurd (omega arith)
  item-depth (y ∷ xs) zero x h = omega arith
  item-depth (y ∷ xs) (suc i) x h = omega (arith, item-depth xs i x (omega arith))

  pub item-falls : (xs : List X) (i : ℕ) (x : X) → i < length xs → x ≡ get_or xs i x → 5 * depth (seen x) + 4 < 5 * items_depth (items_of (map seen xs)) + 5
  item-falls xs i x h is = omega (arith, subst (λ y. depth (seen y) ≤ items_depth (items_of (map seen xs))) (sym is) (item-depth xs i x h))

pub content-falls : (k : List ℕ) (d e : Data) (xs : Items) → field k d ≡ Some e → as_array e ≡ Some xs → 5 * items_depth xs + 5 < 5 * depth d + 1
content-falls k d e xs h g = omega (arith, field-depth k d e h, array-depth e xs g)
