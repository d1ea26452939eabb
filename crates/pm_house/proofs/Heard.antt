-- A document that was read and is opened.
use Rattle.std.proofs.Common.{◌≡◌, ◌∙◌, ◌<◌, ◌++◌, arith, ℕ, Bool, false, List, [], ◌∷◌, length, ap, sym, subst, Result, Ok, Err}
use Rattle.std.specs.Prelude.{nat_le, All, Option, Some, MatchBool}
use Rattle.std.proofs.lemmas.Bool.Decides.{nat_tests}
use Rattle.std.proofs.lemmas.List.Elements.{All-cons, All-append}
use Rattle.serde_json.specs.Data.{Data}
use Rattle.pm_tokens.specs.Tokens.{Doc as Document}
use Rattle.pm_head.specs.declared.code.Code.{Code}
use Rattle.pm_order.specs.declared.opening.Opening.{Opening}
use Rattle.pm_order.specs.Values.{DocumentIn}
use Rattle.pm_archive.specs.declared.archive.Archive.{Archive}
use Rattle.pm_archive.specs.Archives.{IsArchive, opened}
use Rattle.pm_archive.proofs.Names.{opened-good}
use Rattle.pm_house.specs.declared.kind.Kind.{Kind}
use Rattle.pm_house.specs.declared.house.House.{House}
use Rattle.pm_house.specs.declared.house.TheConstants.{MAX_DOCUMENTS}
use Rattle.pm_house.specs.declared.texts.Lack.TheVariants as lack
use Rattle.pm_house.specs.Texts.{lack_text}
use Rattle.pm_house.specs.Houses.{with_documents}
use Rattle.pm_house.specs.Replies.{Says, OfDocument, OpensBy, OfHeard, DocumentHeard}
use Rattle.pm_house.proofs.Finding.{some-inner, none-some}
use Rattle.pm_house.proofs.Running.{none-good}

has-room : (most n : ℕ) → n < most → nat_le most n ≡ false
has-room most n h = grind (arith, nat_tests)

module _ (d : Data) (o : Opening) (k : Kind) (text : List ℕ) (archive : Option Archive) (a : Archive) (old docs : List Archive)
    (heard : DocumentHeard k o d text archive) (is : archive ≡ Some a) (added : docs ≡ old ++ a ∷ []) where
  -- it is what the line is answered
  pub heard-told : (h : House) (q : Option Kind) → h.documents ≡ old → q ≡ Some k → length old < MAX_DOCUMENTS → OpensBy h d o q text (with_documents h docs)
  heard-told h q same found room = from heard.0 heard.1 heard.2
    where
      next : House
      next = with_documents h docs

      full : nat_le MAX_DOCUMENTS (length h.documents) ≡ false
      full = has-room MAX_DOCUMENTS (length h.documents) (subst (λ (xs : List Archive). length xs < MAX_DOCUMENTS) (sym same) room)

      from : (r : Result Document Code) → DocumentIn k.schema d r → OfHeard k o r text archive → OpensBy h d o q text next
      from (Ok doc) read told =
          let own : Archive = opened o.name o.kind k.schema o.version doc o.ids in
          let stands : docs ≡ h.documents ++ own ∷ [] =
          added
          ∙ (ap (λ (x : Archive). old ++ x ∷ []) (some-inner a own (sym is ∙ told.2))
          ∙ ap (λ (xs : List Archive). xs ++ own ∷ []) (sym same)) in
          subst (λ (x : Option Kind). OpensBy h d o x text next) (sym found)
          (subst (λ (b : Bool). MatchBool b (Says (lack_text lack.Room) h text next) ((r : Result Document Code) × DocumentIn k.schema d r × OfDocument h k o r text next)) (sym full)
          (Ok doc, read, (told.0, told.1, ap (with_documents h) stands)))
      from (Err code) read told = absurd (none-some a (sym told.1 ∙ is))

  -- it is valid, as the others are
  pub heard-good : All IsArchive old → All IsArchive docs
  heard-good good = from heard.0 heard.2
    where
      from : (r : Result Document Code) → OfHeard k o r text archive → All IsArchive docs
      from (Ok doc) told =
          let own : Archive = opened o.name o.kind k.schema o.version doc o.ids in
          let valid : IsArchive own = opened-good o.name o.kind k.schema o.version doc o.ids told.0 in
          let stands : docs ≡ old ++ own ∷ [] = added ∙ ap (λ (x : Archive). old ++ x ∷ []) (some-inner a own (sym is ∙ told.2)) in
          subst (λ (xs : List Archive). All IsArchive xs) (sym stands) (All-append IsArchive old (own ∷ []) good (All-cons IsArchive own [] valid none-good))
      from (Err code) told = absurd (none-some a (sym told.1 ∙ is))
