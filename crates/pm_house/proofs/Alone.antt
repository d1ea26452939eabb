-- The answers to the lines of one document are those of the document alone.
use Rattle.std.proofs.Common.{◌≡◌, ◌∙◌, ◌++◌, ℕ, Bool, true, false, List, [], ◌∷◌, refl, ap, sym, Result, Ok, Err}
use Rattle.std.specs.Prelude.{codes, nat_le, length, Option, Some, None, MatchBool, if◌then◌else◌}
use Rattle.std.specs.List.{list_any, cons_option}
use Rattle.std.specs.Str.{bytes_eq}
use Rattle.serde_json.specs.Data.{Data}
use Rattle.pm_tokens.specs.Tokens.{Doc as Document}
use Rattle.pm_schema.specs.declared.schema.Schema.{Schema}
use Rattle.pm_head.specs.declared.code.Code.{Code}
use Rattle.pm_head.specs.Lines.{json_line}
use Rattle.pm_opjson.specs.Fields.{text_in}
use Rattle.pm_talk.specs.Texts.{no_memory}
use Rattle.pm_order.specs.declared.word.DocWord.{DocWord}
use Rattle.pm_order.specs.declared.word.Word.{Word}
use Rattle.pm_order.specs.declared.word.Word.TheVariants as word
use Rattle.pm_order.specs.declared.naming.Naming.{Naming}
use Rattle.pm_order.specs.declared.opening.Opening.{Opening}
use Rattle.pm_order.specs.Words.{word_in}
use Rattle.pm_order.specs.Openings.{opening_in}
use Rattle.pm_order.specs.Values.{SchemaIn, DocumentIn}
use Rattle.pm_archive.specs.declared.archive.Archive.{Archive}
use Rattle.pm_archive.specs.Archives.{opened}
use Rattle.pm_archive.specs.Answers.{answered}
use Rattle.pm_house.specs.declared.kind.Kind.{Kind}
use Rattle.pm_house.specs.declared.house.House.{House}
use Rattle.pm_house.specs.declared.house.TheConstants.{MAX_SCHEMAS, MAX_DOCUMENTS}
use Rattle.pm_house.specs.declared.texts.Lack.TheVariants as lack
use Rattle.pm_house.specs.Found.{names_of, archive_of, kind_of}
use Rattle.pm_house.specs.Texts.{lack_text}
use Rattle.pm_house.specs.Replies.{Says, OfSchema, NamesBy, NamesSchema, OfDocument, OpensBy, Opens, among, without, told_among, within, closed_in, closes, Are, OfWord, OfLine}
use Rattle.pm_house.specs.Turns.{Ask, ask_by, ask_with, ask_of, ask_in, asks_in, text_of, texts_in, closes_by, closes_with, closes_of, told_alone, alone, after_alone, AllAlone}
use Rattle.pm_house.proofs.Finding.{same-name, found-before, Given, among-other, among-own, Answers, without-other}

-- a document of the house
abbrev found_in : List ℕ → House → Option Archive
found_in name h = archive_of name h.documents

-- nothing changes
same-found : (name : List ℕ) (h next : House) (a : Archive) → next ≡ h → found_in name h ≡ Some a → found_in name next ≡ Some a
same-found name h next a e found = ap (found_in name) e ∙ found

-- ---- schemas and openings

module _ (name : List ℕ) (h : House) (d : Data) (text : List ℕ) (next : House) (a : Archive) (found : found_in name h ≡ Some a) where
  names-keep : (r : Result Naming Code) → NamesSchema h d r text next → found_in name next ≡ Some a
  names-keep (Err code) told = same-found name h next a told.1 found
  names-keep (Ok n) told = by-kind (kind_of n.name h.schemas) told
    where
      of-schema : (r : Result Schema Code) → OfSchema h n r text next → found_in name next ≡ Some a
      of-schema (Ok s) told = ap (found_in name) told.1 ∙ found
      of-schema (Err code) told = same-found name h next a told.1 found

      by-room : (b : Bool) → MatchBool b (Says (lack_text lack.Room) h text next) ((r : Result Schema Code) × SchemaIn d r × OfSchema h n r text next)
          → found_in name next ≡ Some a
      by-room true told = same-found name h next a told.1 found
      by-room false told = of-schema told.0 told.2

      by-kind : (o : Option Kind) → NamesBy h d n o text next → found_in name next ≡ Some a
      by-kind (Some k) told = same-found name h next a told.1 found
      by-kind None told = by-room (nat_le MAX_SCHEMAS (length h.schemas)) told

  opens-keep : (r : Result Opening Code) → Opens h d r text next → found_in name next ≡ Some a
  opens-keep (Err code) told = same-found name h next a told.1 found
  opens-keep (Ok o) told = by-open (list_any (bytes_eq o.name) (names_of h.documents)) told
    where
      of-document : (k : Kind) (r : Result Document Code) → OfDocument h k o r text next → found_in name next ≡ Some a
      of-document k (Ok doc) told =
          ap (found_in name) told.2 ∙ found-before name h.documents (opened o.name o.kind k.schema o.version doc o.ids ∷ []) a found
      of-document k (Err code) told = same-found name h next a told.1 found

      by-room : (k : Kind) (b : Bool)
          → MatchBool b (Says (lack_text lack.Room) h text next) ((r : Result Document Code) × DocumentIn k.schema d r × OfDocument h k o r text next)
          → found_in name next ≡ Some a
      by-room k true told = same-found name h next a told.1 found
      by-room k false told = of-document k told.0 told.2

      by-kind : (q : Option Kind) → OpensBy h d o q text next → found_in name next ≡ Some a
      by-kind (Some k) told = by-room k (nat_le MAX_DOCUMENTS (length h.documents)) told
      by-kind None told = same-found name h next a told.1 found

      by-open : (b : Bool) → MatchBool b (Says (lack_text lack.Closed) h text next) (OpensBy h d o (kind_of o.kind h.schemas) text next)
          → found_in name next ≡ Some a
      by-open true told = same-found name h next a told.1 found
      by-open false told = by-kind (kind_of o.kind h.schemas) told

-- ---- one line

-- what the turn asks of the document is answered as by the document alone, which is then there
abbrev Follows : Archive → Option Ask → List ℕ → Option Archive → Type 0
Follows a None text found = found ≡ Some a
Follows a (Some q) text found = (text ≡ (told_alone a q).0) × (found ≡ Some (told_alone a q).1)

abbrev heard_ask : DocWord → Data → Ask
heard_ask w d = record { heard = true; word = w; value = d }

module _ (name : List ℕ) (h : House) (text : List ℕ) (next : House) (a : Archive) (found : found_in name h ≡ Some a) where
  within-follows : (d : Data) (w : DocWord) (r : Result (List ℕ) Code) → Are (within h w d r) text next → Follows a (ask_by name true w d r) text (found_in name next)
  within-follows d w (Err code) told = same-found name h next a told.1 found
  within-follows d w (Ok other) told = by-name (bytes_eq name other) refl
    where
      other-follows : (differ : bytes_eq name other ≡ false) (o : Option Given) → among other w d h.documents ≡ o → Are (told_among h o) text next
          → found_in name next ≡ Some a
      other-follows differ None is told = same-found name h next a told.1 found
      other-follows differ (Some p) is told = ap (found_in name) told.1 ∙ (among-other w d name other differ h.documents p is ∙ found)

      own-follows : other ≡ name → Follows a (Some (heard_ask w d)) text (found_in name next)
      own-follows same =
          let own : Answers w d name a (among name w d h.documents) = among-own w d name h.documents a found in
          let is : told_among h (among other w d h.documents) ≡ told_among h (Some own.given) =
          ap (λ n. told_among h (among n w d h.documents)) same ∙ ap (told_among h) own.is in (
            told.0 ∙ (ap (λ p. p.0) is ∙ own.text),
            ap (found_in name) told.1 ∙ (ap (λ p. found_in name p.1) is ∙ own.next),
          )

      by-name : (b : Bool) → bytes_eq name other ≡ b → Follows a (if b then Some (heard_ask w d) else None) text (found_in name next)
      by-name true is = own-follows (sym (same-name name other is))
      by-name false is = other-follows is (among other w d h.documents) refl told

  closes-follow : (r : Result (List ℕ) Code) → Are (closes h r) text next → closes_by name r ≡ false → found_in name next ≡ Some a
  closes-follow (Err code) told stays = same-found name h next a told.1 found
  closes-follow (Ok other) told stays = from (without other h.documents) refl told
    where
      from : (o : Option (List Archive)) → without other h.documents ≡ o → Are (closed_in h other o) text next → found_in name next ≡ Some a
      from None is told = same-found name h next a told.1 found
      from (Some rest) is told = ap (found_in name) told.1 ∙ (without-other name other stays h.documents rest is ∙ found)

  word-follows : (d : Data) (r : Result Word Code) → OfWord h d r text next → closes_with name d r ≡ false
      → Follows a (ask_with name true d r) text (found_in name next)
  word-follows d (Err code) told stays = same-found name h next a told.1 found
  word-follows d (Ok word.Schema) told stays = names-keep name h d text next a found told.0 told.2
  word-follows d (Ok word.Open) told stays = opens-keep name h d text next a found (opening_in d) told
  word-follows d (Ok word.Close) told stays = closes-follow (text_in (codes "in") d) told stays
  word-follows d (Ok word.Documents) told stays = same-found name h next a told.1 found
  word-follows d (Ok word.Statistics) told stays = same-found name h next a told.1 found
  word-follows d (Ok (word.In w)) told stays = within-follows d w (text_in (codes "in") d) told

  line-follows : (r : Result Data Code) → OfLine h r text next → closes_of name r ≡ false → Follows a (ask_of name true r) text (found_in name next)
  line-follows (Err code) told stays = same-found name h next a told.1 found
  line-follows (Ok d) told stays = word-follows d (word_in d) told stays

-- ---- a line for which there was no memory

abbrev IsLost : Option Ask → Type 0
IsLost None = Unit {0}
IsLost (Some q) = q.heard ≡ false

by-lost : (name : List ℕ) (w : DocWord) (d : Data) (r : Result (List ℕ) Code) → IsLost (ask_by name false w d r)
by-lost name w d (Err code) = tt
by-lost name w d (Ok other) = from (bytes_eq name other)
  where
    from : (b : Bool) → IsLost (if b then Some record { heard = false; word = w; value = d } else None)
    from true = refl
    from false = tt

with-lost : (name : List ℕ) (d : Data) (r : Result Word Code) → IsLost (ask_with name false d r)
with-lost name d (Err code) = tt
with-lost name d (Ok word.Schema) = tt
with-lost name d (Ok word.Open) = tt
with-lost name d (Ok word.Close) = tt
with-lost name d (Ok word.Documents) = tt
with-lost name d (Ok word.Statistics) = tt
with-lost name d (Ok (word.In w)) = by-lost name w d (text_in (codes "in") d)

all-lost : (name : List ℕ) (r : Result Data Code) → IsLost (ask_of name false r)
all-lost name (Err code) = tt
all-lost name (Ok d) = with-lost name d (word_in d)

lost-follows : (a : Archive) (q : Option Ask) (text : List ℕ) (found : Option Archive) → IsLost q → text ≡ no_memory → found ≡ Some a → Follows a q text found
lost-follows a None text found lost t f = f
lost-follows a (Some q) text found lost t f =
    let is : told_alone a q ≡ (no_memory, a) = ap (λ b. if b then answered a q.word q.value else (no_memory, a)) lost in (
      t ∙ sym (ap (λ p. p.0) is),
      f ∙ sym (ap (λ p. Some p.1) is),
    )

-- ---- all lines

told-follows : (name : List ℕ) (h next : House) (a : Archive) (heard : Bool) (r : Result Data Code) (text : List ℕ)
    → MatchBool heard (OfLine h r text next) ((text ≡ no_memory) × (next ≡ h)) → found_in name h ≡ Some a
    → (if heard then closes_of name r else false) ≡ false → Follows a (ask_of name heard r) text (found_in name next)
told-follows name h next a true r text told found stays = line-follows name h text next a found r told stays
told-follows name h next a false r text told found stays =
    lost-follows a (ask_of name false r) text (found_in name next) (all-lost name r) told.0 (same-found name h next a told.1 found)

pub all-alone : AllAlone
all-alone h [] end name a runs found stays = (refl, ap (found_in name) runs ∙ found)
all-alone h (t ∷ ts) end name a runs found stays =
    from (ask_in name t) (told-follows name h runs.0 a t.heard (json_line t.bytes) t.text runs.1 found stays.0)
    (λ (b : Archive) (there : found_in name runs.0 ≡ Some b). all-alone runs.0 ts end name b runs.2 there stays.1)
  where
    Rest : Archive → Type 0
    Rest b =
        (texts_in name ts ≡ alone b (asks_in name ts))
        × (found_in name end ≡ Some (after_alone b (asks_in name ts)))

    from : (o : Option Ask) → Follows a o t.text (found_in name runs.0) → ((b : Archive) → found_in name runs.0 ≡ Some b → Rest b)
        → (text_of t o ++ texts_in name ts ≡ alone a (cons_option o (asks_in name ts)))
        × (found_in name end ≡ Some (after_alone a (cons_option o (asks_in name ts))))
    from None f further = further a f
    from (Some q) f further =
        let rest = further (told_alone a q).1 f.1 in (
          ap (λ (x : List ℕ). x ∷ texts_in name ts) f.0 ∙ ap (λ xs. (told_alone a q).0 ∷ xs) rest.0,
          rest.1,
        )
