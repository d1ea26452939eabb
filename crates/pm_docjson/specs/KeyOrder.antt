-- JSON values whose keys stand in strict byte order.
use Rattle.std.specs.Prelude.{◌≡◌, ℕ, List}
use Rattle.std.specs.declared.cmp.Ordering.TheVariants.{Less}
use Rattle.std.specs.Ordering.{nat_cmp}
use Rattle.std.specs.Cmp.Lexicographic.{slice_cmp}
use Rattle.serde_json.specs.Data.{Data, null, boolean, number, string, array, object, Items, no_items, item, Members, no_members, member}

-- the key of each member comes after this one in byte order
abbrev pub AllAfter : List ℕ → Members → Type 0
AllAfter k no_members = Unit {0}
AllAfter k (member l d ms) = (slice_cmp nat_cmp k l ≡ Less) × AllAfter k ms

-- in each object of the value, however deep, the key of each member comes before those of the members after it
abbrev mutual
  pub HasOrderedKeys : Data → Type 0
  HasOrderedKeys null = Unit {0}
  HasOrderedKeys (boolean b) = Unit {0}
  HasOrderedKeys (number n) = Unit {0}
  HasOrderedKeys (string t) = Unit {0}
  HasOrderedKeys (array ds) = EachHasOrderedKeys ds
  HasOrderedKeys (object ms) = AreOrderedByKey ms

  pub EachHasOrderedKeys : Items → Type 0
  EachHasOrderedKeys no_items = Unit {0}
  EachHasOrderedKeys (item d ds) = HasOrderedKeys d × EachHasOrderedKeys ds

  pub AreOrderedByKey : Members → Type 0
  AreOrderedByKey no_members = Unit {0}
  AreOrderedByKey (member k d ms) = HasOrderedKeys d × AllAfter k ms × AreOrderedByKey ms
