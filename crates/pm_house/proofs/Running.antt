-- Lines one after another: how they are told, and that each document stays valid.
use Rattle.std.proofs.Common.{◌≡◌, ◌∙◌, ◌++◌, ◌<◌, arith, ℕ, Bool, true, false, List, [], ◌∷◌, inl, inr, refl, ap, sym, subst, Result, Ok, Err}
use Rattle.std.specs.Prelude.{codes, nat_le, length, All, Option, Some, None, MatchBool, if◌then◌else◌}
use Rattle.std.specs.List.{list_any}
use Rattle.std.specs.Str.{bytes_eq}
use Rattle.std.proofs.lemmas.List.Elements.{All-head, All-tail, All-cons, All-append}
use Rattle.serde_json.specs.Data.{Data}
use Rattle.pm_tokens.specs.Tokens.{Doc as Document}
use Rattle.pm_schema.specs.declared.schema.Schema.{Schema}
use Rattle.pm_head.specs.declared.code.Code.{Code}
use Rattle.pm_head.specs.Lines.{json_line}
use Rattle.pm_opjson.specs.Fields.{text_in}
use Rattle.pm_talk.specs.Texts.{no_memory}
use Rattle.pm_talk.proofs.Fronts.{kept-value}
use Rattle.pm_order.specs.declared.word.DocWord.{DocWord}
use Rattle.pm_order.specs.declared.word.Word.{Word}
use Rattle.pm_order.specs.declared.word.Word.TheVariants as word
use Rattle.pm_order.specs.declared.naming.Naming.{Naming}
use Rattle.pm_order.specs.declared.opening.Opening.{Opening}
use Rattle.pm_order.specs.Words.{word_in}
use Rattle.pm_order.specs.Openings.{opening_in}
use Rattle.pm_order.specs.Values.{SchemaIn, DocumentIn}
use Rattle.pm_archive.specs.declared.archive.Archive.{Archive}
use Rattle.pm_archive.specs.Archives.{IsArchive, opened}
use Rattle.pm_archive.specs.Answers.{answered}
use Rattle.pm_archive.proofs.Names.{answered-good, opened-good}
use Rattle.pm_house.specs.declared.kind.Kind.{Kind}
use Rattle.pm_house.specs.declared.house.House.{House}
use Rattle.pm_house.specs.declared.house.TheConstants.{MAX_SCHEMAS, MAX_DOCUMENTS}
use Rattle.pm_house.specs.declared.texts.Lack.TheVariants as lack
use Rattle.pm_house.specs.Found.{names_of, kind_of}
use Rattle.pm_house.specs.Texts.{lack_text}
use Rattle.pm_house.specs.Houses.{IsGood}
use Rattle.pm_house.specs.Replies.{Says, OfSchema, NamesBy, NamesSchema, OfDocument, OpensBy, Opens, behind, among, onto, without, told_among, within, closed_in, closes, Are, OfWord, OfLine}
use Rattle.pm_house.specs.Turns.{Turn, Told, IsTold, AllTold, AllGood}
use Rattle.pm_house.proofs.Finding.{Given, some-inner, none-some}

-- ---- how they are told

abbrev turn_of : List ℕ → Bool → List ℕ → Turn
turn_of line heard text = record { bytes = line; heard = heard; text = text }

first-told : (h mid : House) (line : List ℕ) (lines : List (List ℕ)) (text rest out : List ℕ) (end : House) (heard : Bool)
    → Told h (turn_of line heard text) mid → out ≡ text ++ rest → IsTold mid lines rest end → IsTold h (line ∷ lines) out end
first-told h mid line lines text rest out end heard told o further = record {
  turns = turn_of line heard text ∷ further.turns;
  are = ap (λ ls. line ∷ ls) further.are;
  writes = o ∙ ap (λ x. text ++ x) further.writes;
  runs = (mid, told, further.runs);
}

pub all-told : AllTold
all-told h [] out end a = record { turns = []; are = refl; writes = a.0; runs = a.1 }
all-told h (line ∷ lines) out end a =
    let further = all-told a.1 lines a.2 end a.5 in
    elim a.3 [
      | inl told ↦ first-told h a.1 line lines a.0 a.2 out end true (subst (λ r. OfLine h r a.0 a.1) (kept-value line) told.0) a.4 further
      | inr lost ↦ first-told h a.1 line lines a.0 a.2 out end false (lost.0, lost.2) a.4 further
    ]

-- ---- validity

same-good : (h next : House) → next ≡ h → IsGood h → IsGood next
same-good h next e good = subst IsGood (sym e) good

-- of no document
pub none-good : All IsArchive []
none-good k d lt = absurd (not-below k lt)
  where
    not-below : (k : ℕ) → k < 0 → ⊥
    not-below k lt = omega (arith, lt)

module _ (w : DocWord) (d : Data) where
  among-good : (name : List ℕ) (docs : List Archive) (p : Given) → among name w d docs ≡ Some p → All IsArchive docs → All IsArchive p.1
  among-good name [] p e good = absurd (none-some p e)
  among-good name (a ∷ rest) p e good = from (bytes_eq name a.name) e (λ (q : Given) i. among-good name rest q i (All-tail IsArchive a rest good))
    where
      Further : Type 0
      Further = (q : Given) → among name w d rest ≡ Some q → All IsArchive q.1

      behind-good : Further → (o : Option Given) → among name w d rest ≡ o → behind a o ≡ Some p → All IsArchive p.1
      behind-good further None i e = absurd (none-some p e)
      behind-good further (Some q) i e =
          subst (λ (x : Given). All IsArchive x.1) (some-inner (q.0, a ∷ q.1) p e) (All-cons IsArchive a q.1 (All-head IsArchive a rest good) (further q i))

      from : (b : Bool) → (if b then Some ((answered a w d).0, (answered a w d).1 ∷ rest) else behind a (among name w d rest)) ≡ Some p
          → Further → All IsArchive p.1
      from true e further =
          subst (λ (q : Given). All IsArchive q.1) (some-inner ((answered a w d).0, (answered a w d).1 ∷ rest) p e)
          (All-cons IsArchive (answered a w d).1 rest (answered-good a w d (All-head IsArchive a rest good)) (All-tail IsArchive a rest good))
      from false e further = behind-good further (among name w d rest) refl e

without-good : (name : List ℕ) (docs next : List Archive) → without name docs ≡ Some next → All IsArchive docs → All IsArchive next
without-good name [] next e good = absurd (none-some next e)
without-good name (a ∷ rest) next e good =
    from (bytes_eq name a.name) e (λ (q : List Archive) i. without-good name rest q i (All-tail IsArchive a rest good))
  where
    Further : Type 0
    Further = (q : List Archive) → without name rest ≡ Some q → All IsArchive q

    behind-good : Further → (o : Option (List Archive)) → without name rest ≡ o → onto a o ≡ Some next → All IsArchive next
    behind-good further None i e = absurd (none-some next e)
    behind-good further (Some q) i e =
        subst (All IsArchive) (some-inner (a ∷ q) next e) (All-cons IsArchive a q (All-head IsArchive a rest good) (further q i))

    from : (b : Bool) → (if b then Some rest else onto a (without name rest)) ≡ Some next → Further → All IsArchive next
    from true e further = subst (All IsArchive) (some-inner rest next e) (All-tail IsArchive a rest good)
    from false e further = behind-good further (without name rest) refl e

module _ (h : House) (text : List ℕ) (next : House) (good : IsGood h) where
  names-good : (d : Data) (r : Result Naming Code) → NamesSchema h d r text next → IsGood next
  names-good d (Err code) told = same-good h next told.1 good
  names-good d (Ok n) told = by-kind (kind_of n.name h.schemas) told
    where
      of-schema : (r : Result Schema Code) → OfSchema h n r text next → IsGood next
      of-schema (Ok s) told = subst IsGood (sym told.1) good
      of-schema (Err code) told = same-good h next told.1 good

      by-room : (b : Bool) → MatchBool b (Says (lack_text lack.Room) h text next) ((r : Result Schema Code) × SchemaIn d r × OfSchema h n r text next)
          → IsGood next
      by-room true told = same-good h next told.1 good
      by-room false told = of-schema told.0 told.2

      by-kind : (o : Option Kind) → NamesBy h d n o text next → IsGood next
      by-kind (Some k) told = same-good h next told.1 good
      by-kind None told = by-room (nat_le MAX_SCHEMAS (length h.schemas)) told

  opens-good : (d : Data) (r : Result Opening Code) → Opens h d r text next → IsGood next
  opens-good d (Err code) told = same-good h next told.1 good
  opens-good d (Ok o) told = by-open (list_any (bytes_eq o.name) (names_of h.documents)) told
    where
      of-document : (k : Kind) (r : Result Document Code) → OfDocument h k o r text next → IsGood next
      of-document k (Ok doc) told =
          let a : Archive = opened o.name o.kind k.schema o.version doc o.ids in
          let own : IsArchive a = opened-good o.name o.kind k.schema o.version doc o.ids told.0 in
          subst IsGood (sym told.2) (All-append IsArchive h.documents (a ∷ []) good (All-cons IsArchive a [] own none-good))
      of-document k (Err code) told = same-good h next told.1 good

      by-room : (k : Kind) (b : Bool)
          → MatchBool b (Says (lack_text lack.Room) h text next) ((r : Result Document Code) × DocumentIn k.schema d r × OfDocument h k o r text next)
          → IsGood next
      by-room k true told = same-good h next told.1 good
      by-room k false told = of-document k told.0 told.2

      by-kind : (q : Option Kind) → OpensBy h d o q text next → IsGood next
      by-kind (Some k) told = by-room k (nat_le MAX_DOCUMENTS (length h.documents)) told
      by-kind None told = same-good h next told.1 good

      by-open : (b : Bool) → MatchBool b (Says (lack_text lack.Closed) h text next) (OpensBy h d o (kind_of o.kind h.schemas) text next) → IsGood next
      by-open true told = same-good h next told.1 good
      by-open false told = by-kind (kind_of o.kind h.schemas) told

  within-good : (d : Data) (w : DocWord) (r : Result (List ℕ) Code) → Are (within h w d r) text next → IsGood next
  within-good d w (Err code) told = same-good h next told.1 good
  within-good d w (Ok name) told = from (among name w d h.documents) refl told
    where
      from : (o : Option Given) → among name w d h.documents ≡ o → Are (told_among h o) text next → IsGood next
      from None is told = same-good h next told.1 good
      from (Some p) is told = subst IsGood (sym told.1) (among-good w d name h.documents p is good)

  pub closes-good : (r : Result (List ℕ) Code) → Are (closes h r) text next → IsGood next
  closes-good (Err code) told = same-good h next told.1 good
  closes-good (Ok name) told = from (without name h.documents) refl told
    where
      from : (o : Option (List Archive)) → without name h.documents ≡ o → Are (closed_in h name o) text next → IsGood next
      from None is told = same-good h next told.1 good
      from (Some rest) is told = subst IsGood (sym told.1) (without-good name h.documents rest is good)

  word-good : (d : Data) (r : Result Word Code) → OfWord h d r text next → IsGood next
  word-good d (Err code) told = same-good h next told.1 good
  word-good d (Ok word.Schema) told = names-good d told.0 told.2
  word-good d (Ok word.Open) told = opens-good d (opening_in d) told
  word-good d (Ok word.Close) told = closes-good (text_in (codes "in") d) told
  word-good d (Ok word.Documents) told = same-good h next told.1 good
  word-good d (Ok word.Statistics) told = same-good h next told.1 good
  word-good d (Ok (word.In w)) told = within-good d w (text_in (codes "in") d) told

  line-good : (r : Result Data Code) → OfLine h r text next → IsGood next
  line-good (Err code) told = same-good h next told.1 good
  line-good (Ok d) told = word-good d (word_in d) told

  told-good : (heard : Bool) (r : Result Data Code) → MatchBool heard (OfLine h r text next) ((text ≡ no_memory) × (next ≡ h)) → IsGood next
  told-good true r told = line-good r told
  told-good false r told = same-good h next told.1 good

pub all-good : AllGood
all-good h [] end runs good = same-good h end runs good
all-good h (t ∷ ts) end runs good =
    all-good runs.0 ts end runs.2 (told-good h t.text runs.0 good t.heard (json_line t.bytes) runs.1)
