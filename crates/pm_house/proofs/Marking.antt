-- Whether a line changed a house is told by what is counted of it.
use Rattle.std.proofs.Common.{◌≡◌, ◌∙◌, ◌++◌, ℕ, zero, suc, Bool, true, false, List, [], ◌∷◌, length, refl, ap, sym, arith, Result, Ok, Err, length-append}
use Rattle.std.specs.Prelude.{◌≢◌, codes, nat_le, ◌==◌, ◌&&◌, not, Option, Some, None, MatchBool, if◌then◌else◌, option_map, slice_get, slice_set}
use Rattle.std.specs.List.{list_any}
use Rattle.std.specs.Str.{bytes_eq}
use Rattle.std.proofs.lemmas.Bool.{and_parts, true≢false}
use Rattle.std.proofs.lemmas.Bool.Decides.{nat_tests}
use Rattle.serde_json.specs.Data.{Data}
use Rattle.pm_tokens.specs.Tokens.{Doc as Document}
use Rattle.pm_schema.specs.declared.schema.Schema.{Schema}
use Rattle.pm_head.specs.declared.code.Code.{Code}
use Rattle.pm_opjson.specs.Fields.{text_in}
use Rattle.pm_order.specs.declared.word.DocWord.{DocWord}
use Rattle.pm_order.specs.declared.word.Word.{Word}
use Rattle.pm_order.specs.declared.word.Word.TheVariants as word
use Rattle.pm_order.specs.declared.naming.Naming.{Naming}
use Rattle.pm_order.specs.declared.opening.Opening.{Opening}
use Rattle.pm_order.specs.Words.{word_in}
use Rattle.pm_order.specs.Openings.{opening_in}
use Rattle.pm_order.specs.Values.{SchemaIn, DocumentIn}
use Rattle.pm_archive.specs.declared.archive.Archive.{Archive}
use Rattle.pm_archive.specs.Archives.{opened}
use Rattle.pm_archive.specs.Answers.{answered}
use Rattle.pm_house.specs.declared.kind.Kind.{Kind}
use Rattle.pm_house.specs.declared.house.House.{House}
use Rattle.pm_house.specs.declared.house.TheConstants.{MAX_SCHEMAS, MAX_DOCUMENTS}
use Rattle.pm_house.specs.declared.mark.Mark.{Mark}
use Rattle.pm_house.specs.declared.mark.Sizes.{Sizes}
use Rattle.pm_house.specs.declared.texts.Lack.TheVariants as lack
use Rattle.pm_house.specs.Found.{names_of, kind_of}
use Rattle.pm_house.specs.Texts.{lack_text}
use Rattle.pm_house.specs.Houses.{with_documents}
use Rattle.pm_house.specs.Marks.{sizes_of, sizes_at, mark_of, IsPlace, same_sizes, same_mark}
use Rattle.pm_house.specs.Replies.{Says, OfSchema, NamesBy, NamesSchema, OfDocument, OpensBy, Opens, onto, told_among, without, within, closed_in, closes, Are, OfWord, OfValue}
use Rattle.pm_house.proofs.Finding.{Given, some-inner, none-some}
use Rattle.pm_house.proofs.Placing.{at-place, among-none}
use Rattle.pm_house.proofs.Staying.{answered-stays}

-- ---- a document that answers

same-along : (a b c e : Option Sizes) → a ≡ b → c ≡ e → same_sizes a c ≡ true → same_sizes b e ≡ true
same-along a b c e h i same = sym (ap (λ (s : Option Sizes). same_sizes s c) h ∙ ap (same_sizes b) i) ∙ same

got-set : {A : Type 0} (xs : List A) (i : ℕ) (old new : A) → slice_get xs i ≡ Some old → slice_get (slice_set xs i new) i ≡ Some new
got-set [] i old new h = absurd (none-some old h)
got-set (x ∷ xs) zero old new h = refl
got-set (x ∷ xs) (suc i) old new h = got-set xs i old new h

set-own : {A : Type 0} (xs : List A) (i : ℕ) (own : A) → slice_get xs i ≡ Some own → slice_set xs i own ≡ xs
set-own [] i own h = absurd (none-some own h)
set-own (x ∷ xs) zero own h = ap (λ y. y ∷ xs) (sym (some-inner x own h))
set-own (x ∷ xs) (suc i) own h = ap (λ ys. x ∷ ys) (set-own xs i own h)

-- ---- a document that is closed

without-shorter : (name : List ℕ) (docs next : List Archive) → without name docs ≡ Some next → length docs ≡ suc (length next)
without-shorter name [] next e = absurd (none-some next e)
without-shorter name (a ∷ rest) next e = from (bytes_eq name a.name) e (without-shorter name rest)
  where
    Further : Type 0
    Further = (q : List Archive) → without name rest ≡ Some q → length rest ≡ suc (length q)

    behind-shorter : Further → (o : Option (List Archive)) → without name rest ≡ o → onto a o ≡ Some next → suc (length rest) ≡ suc (length next)
    behind-shorter further None i e = absurd (none-some next e)
    behind-shorter further (Some q) i e = ap suc (further q i ∙ ap length (some-inner (a ∷ q) next e))

    from : (b : Bool) → (if b then Some rest else onto a (without name rest)) ≡ Some next → Further → suc (length rest) ≡ suc (length next)
    from true e further = ap (λ (xs : List Archive). suc (length xs)) (some-inner rest next e)
    from false e further = behind-shorter further (without name rest) refl e

-- ---- a line

one-longer : {A : Type 0} (xs ys : List A) (x : A) → ys ≡ xs ++ x ∷ [] → length xs ≡ length ys → ⊥
one-longer xs ys x is same = omega (arith, ap length is, same, length-append xs (x ∷ []))

one-shorter : (n k : ℕ) → n ≡ suc k → n ≡ k → ⊥
one-shorter n k a b = omega (arith, a, b)

module _ (h : House) (text : List ℕ) (next : House) where
  names-stay : (d : Data) → length h.schemas ≡ length next.schemas → (r : Result Naming Code) → NamesSchema h d r text next → next ≡ h
  names-stay d same (Err code) told = told.1
  names-stay d same (Ok n) told = by-kind (kind_of n.name h.schemas) told
    where
      of-schema : (r : Result Schema Code) → OfSchema h n r text next → next ≡ h
      of-schema (Ok s) told = absurd (one-longer h.schemas next.schemas record { name = n.name; text = n.text; schema = s } (ap (λ (x : House). x.schemas) told.1) same)
      of-schema (Err code) told = told.1

      by-room : (b : Bool) → MatchBool b (Says (lack_text lack.Room) h text next) ((r : Result Schema Code) × SchemaIn d r × OfSchema h n r text next) → next ≡ h
      by-room true told = told.1
      by-room false told = of-schema told.0 told.2

      by-kind : (o : Option Kind) → NamesBy h d n o text next → next ≡ h
      by-kind (Some k) told = told.1
      by-kind None told = by-room (nat_le MAX_SCHEMAS (length h.schemas)) told

  opens-stay : (d : Data) → length h.documents ≡ length next.documents → (r : Result Opening Code) → Opens h d r text next → next ≡ h
  opens-stay d same (Err code) told = told.1
  opens-stay d same (Ok o) told = by-open (list_any (bytes_eq o.name) (names_of h.documents)) told
    where
      of-document : (k : Kind) (r : Result Document Code) → OfDocument h k o r text next → next ≡ h
      of-document k (Ok doc) told =
          absurd (one-longer h.documents next.documents (opened o.name o.kind k.schema o.version doc o.ids) (ap (λ (x : House). x.documents) told.2) same)
      of-document k (Err code) told = told.1

      by-room : (k : Kind) (b : Bool)
          → MatchBool b (Says (lack_text lack.Room) h text next) ((r : Result Document Code) × DocumentIn k.schema d r × OfDocument h k o r text next)
          → next ≡ h
      by-room k true told = told.1
      by-room k false told = of-document k told.0 told.2

      by-kind : (q : Option Kind) → OpensBy h d o q text next → next ≡ h
      by-kind (Some k) told = by-room k (nat_le MAX_DOCUMENTS (length h.documents)) told
      by-kind None told = told.1

      by-open : (b : Bool) → MatchBool b (Says (lack_text lack.Closed) h text next) (OpensBy h d o (kind_of o.kind h.schemas) text next) → next ≡ h
      by-open true told = told.1
      by-open false told = by-kind (kind_of o.kind h.schemas) told

  closes-stay : length h.documents ≡ length next.documents → (r : Result (List ℕ) Code) → Are (closes h r) text next → next ≡ h
  closes-stay same (Err code) told = told.1
  closes-stay same (Ok name) told = from (without name h.documents) refl told
    where
      from : (o : Option (List Archive)) → without name h.documents ≡ o → Are (closed_in h name o) text next → next ≡ h
      from None is told = told.1
      from (Some rest) is told =
          absurd (one-shorter (length h.documents) (length rest) (without-shorter name h.documents rest is) (same ∙ ap (λ (x : House). length x.documents) told.1))

  within-stays : (d : Data) (w : DocWord) (r : Result (List ℕ) Code) (place : Option ℕ) → IsPlace h r place → same_sizes (sizes_at h place) (sizes_at next place) ≡ true
      → Are (within h w d r) text next → next ≡ h
  within-stays d w (Err code) place is same told = told.1
  within-stays d w (Ok name) None is same told = told.1 ∙ ap (λ (o : Option Given). (told_among h o).1) (among-none name h.documents w d (sym is.1))
  within-stays d w (Ok name) (Some i) is same told =
      let at = at-place name h.documents i (sym is.0) in
      let old = at.archive in
      let new = (answered old w d).1 in
      let set : next ≡ with_documents h (slice_set h.documents i new) = told.1 ∙ ap (λ (o : Option Given). (told_among h o).1) (at.answers w d) in
      let before : sizes_at h (Some i) ≡ Some (sizes_of old) = ap (option_map sizes_of) at.here in
      let after : sizes_at next (Some i) ≡ Some (sizes_of new) =
      ap (λ (x : House). sizes_at x (Some i)) set ∙ ap (option_map sizes_of) (got-set h.documents i old new at.here) in
      let stays : new ≡ old =
      answered-stays old w d (same-along (sizes_at h (Some i)) (Some (sizes_of old)) (sizes_at next (Some i)) (Some (sizes_of new)) before after same) in
      set
      ∙ (ap (λ (x : Archive). with_documents h (slice_set h.documents i x)) stays
      ∙ ap (with_documents h) (set-own h.documents i old at.here))

  word-stays : (d : Data) (place : Option ℕ) → IsPlace h (text_in (codes "in") d) place → length h.schemas ≡ length next.schemas → length h.documents ≡ length next.documents
      → same_sizes (sizes_at h place) (sizes_at next place) ≡ true → (r : Result Word Code) → OfWord h d r text next → next ≡ h
  word-stays d place is schemas documents sizes (Err code) told = told.1
  word-stays d place is schemas documents sizes (Ok word.Schema) told = names-stay d schemas told.0 told.2
  word-stays d place is schemas documents sizes (Ok word.Open) told = opens-stay d documents (opening_in d) told
  word-stays d place is schemas documents sizes (Ok word.Close) told = closes-stay documents (text_in (codes "in") d) told
  word-stays d place is schemas documents sizes (Ok word.Documents) told = told.1
  word-stays d place is schemas documents sizes (Ok word.Statistics) told = told.1
  word-stays d place is schemas documents sizes (Ok (word.In w)) told = within-stays d w (text_in (codes "in") d) place is sizes told

-- ---- so by the marks

both-same : (a b c e : ℕ) → ((a == b) && (c == e)) ≡ true → (a ≡ b) × (c ≡ e)
both-same a b c e h =
    let tests = and_parts (a == b) (c == e) h in
    (same a b tests.0, same c e tests.1)
  where
    same : (m n : ℕ) → (m == n) ≡ true → m ≡ n
    same m n h = grind (arith, nat_tests)

own-pair : (a b : ℕ) → ((a == a) && (b == b)) ≡ true
own-pair a b = grind (arith, nat_tests)

own-sizes : (s : Option Sizes) → same_sizes s s ≡ true
own-sizes None = refl
own-sizes (Some s) = own-pair s.from s.entries

own-mark : (m : Mark) → same_mark m m ≡ true
own-mark m = ap (λ (b : Bool). b && same_sizes m.at m.at) (own-pair m.schemas m.documents) ∙ own-sizes m.at

by-mark : (h : House) (d : Data) (place : Option ℕ) (text : List ℕ) (next : House) (same : Bool) → IsPlace h (text_in (codes "in") d) place → OfValue h d text next
    → same_mark (mark_of h place) (mark_of next place) ≡ same → MatchBool (not same) (next ≢ h) (next ≡ h)
by-mark h d place text next true is told e =
    let tests = and_parts ((length h.schemas == length next.schemas) && (length h.documents == length next.documents)) (same_sizes (sizes_at h place) (sizes_at next place)) e in
    let counts = both-same (length h.schemas) (length next.schemas) (length h.documents) (length next.documents) tests.0 in
    word-stays h text next d place is counts.0 counts.1 tests.1 (word_in d) told
by-mark h d place text next false is told e =
    λ same. true≢false (sym (own-mark (mark_of h place)) ∙ (ap (λ (x : House). same_mark (mark_of h place) (mark_of x place)) (sym same) ∙ e))

-- whether the house is another is told by whether the marks differ
pub changed-by : (h : House) (d : Data) (place : Option ℕ) (text : List ℕ) (next : House) (same : Bool) → IsPlace h (text_in (codes "in") d) place → OfValue h d text next
    → same ≡ same_mark (mark_of h place) (mark_of next place) → MatchBool (not same) (next ≢ h) (next ≡ h)
changed-by h d place text next same is told marks = by-mark h d place text next same is told (sym marks)
