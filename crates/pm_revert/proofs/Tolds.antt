-- The items of entries, as they are gathered.
use Rattle.std.specs.Prelude.{◌≡◌, ℕ, ◌+◌, ◌<◌, suc, List, [], ◌∷◌, ◌++◌, length, drop, Some, None, refl}
use Rattle.std.proofs.Common.{arith, ap, sym, subst, ◌∙◌, get_or, append_assoc, append-nil}
use Rattle.std.proofs.Math.Seq.{drop-cons}
use Rattle.pm_map.specs.declared.step_map.Span.{Span}
use Rattle.pm_change.specs.declared.name.Name.{Name}
use Rattle.pm_change.specs.Changes.{Meaning}
use Rattle.pm_authority.specs.declared.named.Named.{Named}
use Rattle.pm_history.specs.declared.item.Item.{Item}
use Rattle.pm_history.specs.Items.{foreign_item}
use Rattle.pm_revert.specs.Items.{name_at, names_from, own_at, own_items, other_at, other_items}

module _ {Rules Doc Reason C : Type 0} (m : Meaning Rules Doc Reason C) where
  rest-at : (entries : List (Named C)) (i : ℕ) (n : Named C) → i < length entries → n ≡ get_or entries i n → drop i entries ≡ n ∷ drop (i + 1) entries
  rest-at entries i n l is =
      let one : suc i ≡ i + 1 = omega arith in
      drop-cons entries i n l ∙ ap (λ x. x ∷ drop (suc i) entries) (sym is) ∙ ap (λ j. n ∷ drop j entries) one

  -- so many entries have their names and items
  pub record IsGathered (entries : List (Named C)) (i serial : ℕ) (names : List Name) (items : List (Item C)) : Type 0 where
    pub serial_is : serial ≡ i
    pub names_are : names ++ names_from serial (drop i entries) ≡ names_from 0 entries
    pub items_are : items ++ own_items m serial (drop i entries) ≡ own_items m 0 entries

  pub one-gathered : (entries : List (Named C)) (i serial : ℕ) (names : List Name) (items : List (Item C)) (n : Named C) → i < length entries → n ≡ get_or entries i n → IsGathered entries i serial names items
      → IsGathered entries (i + 1) (serial + 1) (names ++ name_at serial ∷ []) (items ++ own_at m serial n ∷ [])
  one-gathered entries i serial names items n l is was =
      let rest = rest-at entries i n l is in
      record {
        serial_is = ap (λ x. x + 1) was.serial_is;
        names_are = append_assoc names (name_at serial ∷ []) (names_from (serial + 1) (drop (i + 1) entries)) ∙ ap (λ ns. names ++ names_from serial ns) (sym rest) ∙ was.names_are;
        items_are = append_assoc items (own_at m serial n ∷ []) (own_items m (serial + 1) (drop (i + 1) entries)) ∙ ap (λ ns. items ++ own_items m serial ns) (sym rest) ∙ was.items_are;
      }

  pub all-names : (entries : List (Named C)) (i serial : ℕ) (names : List Name) (items : List (Item C)) → drop i entries ≡ [] → IsGathered entries i serial names items → names ≡ names_from 0 entries
  all-names entries i serial names items none was = sym (append-nil names) ∙ ap (λ ns. names ++ names_from serial ns) (sym none) ∙ was.names_are

  pub all-items : (entries : List (Named C)) (i serial : ℕ) (names : List Name) (items : List (Item C)) → drop i entries ≡ [] → IsGathered entries i serial names items → items ≡ own_items m 0 entries
  all-items entries i serial names items none was = sym (append-nil items) ∙ ap (λ ns. items ++ own_items m serial ns) (sym none) ∙ was.items_are

  pub one-other : (entries : List (Named C)) (i : ℕ) (items whole : List (Item C)) (n : Named C) → i < length entries → n ≡ get_or entries i n → items ++ other_items m (drop i entries) ≡ whole
      → (items ++ other_at m n ∷ []) ++ other_items m (drop (i + 1) entries) ≡ whole
  one-other entries i items whole n l is was =
      append_assoc items (other_at m n ∷ []) (other_items m (drop (i + 1) entries)) ∙ ap (λ ns. items ++ other_items m ns) (sym (rest-at entries i n l is)) ∙ was

  pub all-others : (entries : List (Named C)) (i : ℕ) (items whole : List (Item C)) → drop i entries ≡ [] → items ++ other_items m (drop i entries) ≡ whole → items ≡ whole
  all-others entries i items whole none was = sym (append-nil items) ∙ ap (λ ns. items ++ other_items m ns) (sym none) ∙ was

  pub none-gathered : (entries : List (Named C)) (names : List Name) (items : List (Item C)) → names ≡ [] → items ≡ [] → IsGathered entries 0 0 names items
  none-gathered entries names items en ei =
      record { serial_is = refl; names_are = ap (λ ns. ns ++ names_from 0 entries) en; items_are = ap (λ is. is ++ own_items m 0 entries) ei }

  pub own-is : (serial : ℕ) (n : Named C) (item : Item C) (ranges : List Span) (bs : List C) → item ≡ record { name = Some (name_at serial); map = ranges; inverse = bs; undoes = None } → ranges ≡ m.step_map n.change → bs ≡ []
      → item ≡ own_at m serial n
  own-is serial n item ranges bs e er eb =
      let with_ranges : List Span → Item C = λ rs. record { name = Some (name_at serial); map = rs; inverse = bs; undoes = None } in
      let with_inverse : List C → Item C = λ cs. record { name = Some (name_at serial); map = m.step_map n.change; inverse = cs; undoes = None } in
      e ∙ ap with_ranges er ∙ ap with_inverse eb

  pub gathered-as : (entries : List (Named C)) (i serial : ℕ) (names more : List Name) (items others : List (Item C)) (item : Item C) (n : Named C) → i < length entries → n ≡ get_or entries i n
      → more ≡ names ++ name_at serial ∷ [] → others ≡ items ++ item ∷ [] → item ≡ own_at m serial n → IsGathered entries i serial names items → IsGathered entries (i + 1) (serial + 1) more others
  gathered-as entries i serial names more items others item n l is en ei eo was =
      subst (λ ns. IsGathered entries (i + 1) (serial + 1) ns others) (sym en)
      (subst (λ xs. IsGathered entries (i + 1) (serial + 1) (names ++ name_at serial ∷ []) xs) (sym (ei ∙ ap (λ x. items ++ x ∷ []) eo)) (one-gathered entries i serial names items n l is was))

  pub other-as : (entries : List (Named C)) (i : ℕ) (items others whole : List (Item C)) (item : Item C) (ranges : List Span) (n : Named C) → i < length entries → n ≡ get_or entries i n
      → others ≡ items ++ item ∷ [] → item ≡ foreign_item ranges → ranges ≡ m.step_map n.change → items ++ other_items m (drop i entries) ≡ whole → others ++ other_items m (drop (i + 1) entries) ≡ whole
  other-as entries i items others whole item ranges n l is ei eo er was =
      ap (λ xs. xs ++ other_items m (drop (i + 1) entries)) (ei ∙ ap (λ x. items ++ x ∷ []) (eo ∙ ap (λ rs. foreign_item {C = C} rs) er)) ∙ one-other entries i items whole n l is was
