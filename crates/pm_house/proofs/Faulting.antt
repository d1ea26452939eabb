-- A line that is answered a fault changes nothing.
use Rattle.std.proofs.Common.{◌≡◌, ◌∙◌, ℕ, Bool, true, false, List, [], ◌∷◌, length, get_or, refl, ap, sym, arith, Result, Ok, Err}
use Rattle.std.specs.Prelude.{codes, nat_le, Option, Some, None, MatchBool, if◌then◌else◌}
use Rattle.std.specs.List.{list_any}
use Rattle.std.specs.Str.{bytes_eq}
use Rattle.serde_json.specs.Data.{Data}
use Rattle.pm_tokens.specs.Tokens.{Doc as Document}
use Rattle.pm_schema.specs.declared.schema.Schema.{Schema}
use Rattle.pm_head.specs.declared.code.Code.{Code}
use Rattle.pm_head.specs.Lines.{json_line}
use Rattle.pm_opjson.specs.Fields.{text_in}
use Rattle.pm_talk.specs.Texts.{fault_text}
use Rattle.pm_order.specs.declared.word.DocWord.{DocWord}
use Rattle.pm_order.specs.declared.word.Word.{Word}
use Rattle.pm_order.specs.declared.word.Word.TheVariants as word
use Rattle.pm_order.specs.declared.naming.Naming.{Naming}
use Rattle.pm_order.specs.declared.opening.Opening.{Opening}
use Rattle.pm_order.specs.Words.{word_in}
use Rattle.pm_order.specs.Openings.{opening_in}
use Rattle.pm_order.specs.Values.{SchemaIn, DocumentIn}
use Rattle.pm_archive.specs.declared.archive.Archive.{Archive}
use Rattle.pm_archive.specs.Texts.{opened_text}
use Rattle.pm_archive.specs.Answers.{answered}
use Rattle.pm_archive.proofs.Accepting.{faults-change-nothing as archive-faults}
use Rattle.pm_house.specs.declared.kind.Kind.{Kind}
use Rattle.pm_house.specs.declared.house.House.{House}
use Rattle.pm_house.specs.declared.house.TheConstants.{MAX_SCHEMAS, MAX_DOCUMENTS}
use Rattle.pm_house.specs.declared.texts.Lack.TheVariants as lack
use Rattle.pm_house.specs.Found.{names_of, kind_of}
use Rattle.pm_house.specs.Texts.{lack_text, named_text, closed_text}
use Rattle.pm_house.specs.Houses.{with_documents}
use Rattle.pm_house.specs.Replies.{Says, OfSchema, NamesBy, NamesSchema, OfDocument, OpensBy, Opens, behind, among, told_among, without, within, closed_in, closes, Are, OfWord, OfLine}
use Rattle.pm_house.specs.Turns.{FaultsChangeNothing}
use Rattle.pm_house.proofs.Finding.{Given, some-inner, none-some}

-- ---- the texts begin otherwise

s-is-not-f : ◌≡◌ {A = ℕ} 115 102 → ⊥
s-is-not-f e = omega (arith, e)

c-is-not-f : ◌≡◌ {A = ℕ} 99 102 → ⊥
c-is-not-f e = omega (arith, e)

named-differs : (name : List ℕ) (code : Code) → fault_text code ≡ named_text name → ⊥
named-differs name code h = s-is-not-f (sym (ap (λ xs. get_or xs 2 0) h))

opened-differs : (size version : ℕ) (code : Code) → fault_text code ≡ opened_text size version → ⊥
opened-differs size version code h = s-is-not-f (sym (ap (λ xs. get_or xs 2 0) h))

closed-differs : (name : List ℕ) (code : Code) → fault_text code ≡ closed_text name → ⊥
closed-differs name code h = c-is-not-f (sym (ap (λ xs. get_or xs 2 0) h))

-- ---- a document that answers

module _ (w : DocWord) (d : Data) (code : Code) where
  among-fault : (name : List ℕ) (docs : List Archive) (p : Given) → among name w d docs ≡ Some p → fault_text code ≡ p.0 → p.1 ≡ docs
  among-fault name [] p e f = absurd (none-some p e)
  among-fault name (a ∷ rest) p e f = from (bytes_eq name a.name) e (among-fault name rest)
    where
      Further : Type 0
      Further = (q : Given) → among name w d rest ≡ Some q → fault_text code ≡ q.0 → q.1 ≡ rest

      behind-fault : Further → (o : Option Given) → among name w d rest ≡ o → behind a o ≡ Some p → p.1 ≡ a ∷ rest
      behind-fault further None i e = absurd (none-some p e)
      behind-fault further (Some q) i e =
          let is = some-inner (q.0, a ∷ q.1) p e in
          sym (ap (λ (x : Given). x.1) is) ∙ ap (λ (xs : List Archive). a ∷ xs) (further q i (f ∙ sym (ap (λ (x : Given). x.0) is)))

      from : (b : Bool) → (if b then Some ((answered a w d).0, (answered a w d).1 ∷ rest) else behind a (among name w d rest)) ≡ Some p
          → Further → p.1 ≡ a ∷ rest
      from true e further =
          let is = some-inner ((answered a w d).0, (answered a w d).1 ∷ rest) p e in
          sym (ap (λ (q : Given). q.1) is) ∙ ap (λ (x : Archive). x ∷ rest) (archive-faults a w d code (ap (λ (q : Given). q.0) is ∙ sym f))
      from false e further = behind-fault further (among name w d rest) refl e

-- ---- a line

module _ (h : House) (code : Code) (next : House) where
  names-fault : (d : Data) (r : Result Naming Code) → NamesSchema h d r (fault_text code) next → next ≡ h
  names-fault d (Err own) told = told.1
  names-fault d (Ok n) told = by-kind (kind_of n.name h.schemas) told
    where
      of-schema : (r : Result Schema Code) → OfSchema h n r (fault_text code) next → next ≡ h
      of-schema (Ok s) told = absurd (named-differs n.name code told.0)
      of-schema (Err own) told = told.1

      by-room : (b : Bool)
          → MatchBool b (Says (lack_text lack.Room) h (fault_text code) next) ((r : Result Schema Code) × SchemaIn d r × OfSchema h n r (fault_text code) next)
          → next ≡ h
      by-room true told = told.1
      by-room false told = of-schema told.0 told.2

      by-kind : (o : Option Kind) → NamesBy h d n o (fault_text code) next → next ≡ h
      by-kind (Some k) told = told.1
      by-kind None told = by-room (nat_le MAX_SCHEMAS (length h.schemas)) told

  opens-fault : (d : Data) (r : Result Opening Code) → Opens h d r (fault_text code) next → next ≡ h
  opens-fault d (Err own) told = told.1
  opens-fault d (Ok o) told = by-open (list_any (bytes_eq o.name) (names_of h.documents)) told
    where
      of-document : (k : Kind) (r : Result Document Code) → OfDocument h k o r (fault_text code) next → next ≡ h
      of-document k (Ok doc) told = absurd (opened-differs (length doc.tokens) o.version code told.1)
      of-document k (Err own) told = told.1

      by-room : (k : Kind) (b : Bool)
          → MatchBool b (Says (lack_text lack.Room) h (fault_text code) next) ((r : Result Document Code) × DocumentIn k.schema d r × OfDocument h k o r (fault_text code) next)
          → next ≡ h
      by-room k true told = told.1
      by-room k false told = of-document k told.0 told.2

      by-kind : (q : Option Kind) → OpensBy h d o q (fault_text code) next → next ≡ h
      by-kind (Some k) told = by-room k (nat_le MAX_DOCUMENTS (length h.documents)) told
      by-kind None told = told.1

      by-open : (b : Bool)
          → MatchBool b (Says (lack_text lack.Closed) h (fault_text code) next) (OpensBy h d o (kind_of o.kind h.schemas) (fault_text code) next)
          → next ≡ h
      by-open true told = told.1
      by-open false told = by-kind (kind_of o.kind h.schemas) told

  within-fault : (d : Data) (w : DocWord) (r : Result (List ℕ) Code) → Are (within h w d r) (fault_text code) next → next ≡ h
  within-fault d w (Err own) told = told.1
  within-fault d w (Ok name) told = from (among name w d h.documents) refl told
    where
      from : (o : Option Given) → among name w d h.documents ≡ o → Are (told_among h o) (fault_text code) next → next ≡ h
      from None is told = told.1
      from (Some p) is told = told.1 ∙ ap (with_documents h) (among-fault w d code name h.documents p is told.0)

  closes-fault : (r : Result (List ℕ) Code) → Are (closes h r) (fault_text code) next → next ≡ h
  closes-fault (Err own) told = told.1
  closes-fault (Ok name) told = from (without name h.documents) told
    where
      from : (o : Option (List Archive)) → Are (closed_in h name o) (fault_text code) next → next ≡ h
      from None told = told.1
      from (Some rest) told = absurd (closed-differs name code told.0)

  word-fault : (d : Data) (r : Result Word Code) → OfWord h d r (fault_text code) next → next ≡ h
  word-fault d (Err own) told = told.1
  word-fault d (Ok word.Schema) told = names-fault d told.0 told.2
  word-fault d (Ok word.Open) told = opens-fault d (opening_in d) told
  word-fault d (Ok word.Close) told = closes-fault (text_in (codes "in") d) told
  word-fault d (Ok word.Documents) told = told.1
  word-fault d (Ok word.Statistics) told = told.1
  word-fault d (Ok (word.In w)) told = within-fault d w (text_in (codes "in") d) told

  line-fault : (r : Result Data Code) → OfLine h r (fault_text code) next → next ≡ h
  line-fault (Err own) told = told.1
  line-fault (Ok d) told = word-fault d (word_in d) told

pub faults-change-nothing : FaultsChangeNothing
faults-change-nothing h line code next told = line-fault h code next (json_line line) told
