-- How a talk is opened.
use Rattle.std.proofs.Common.{◌≡◌, ◌∙◌, ◌++◌, inl, inr, ℕ, true, false, List, [], ◌∷◌, length, refl, ap, sym, subst, append_assoc, Result, Ok, Err}
use Rattle.pm_tokens.specs.Tokens.{Doc as Document}
use Rattle.pm_tokens.specs.Faults.{Valid}
use Rattle.pm_schema.specs.declared.schema.Schema.{Schema}
use Rattle.pm_schema.specs.Documents.{documents_of}
use Rattle.pm_apply.specs.Changes.{meaning}
use Rattle.pm_head.specs.declared.code.Code.{Code}
use Rattle.pm_head.specs.Schemas.{SchemaLine}
use Rattle.pm_head.specs.Documents.{DocLine}
use Rattle.pm_authority.specs.Kept.{IsKept}
use Rattle.pm_serve.specs.Serves.{Answers}
use Rattle.pm_talk.specs.declared.live.Live.{Live}
use Rattle.pm_talk.specs.Texts.{no_memory, opened_text}
use Rattle.pm_talk.specs.declared.talk.Talk.{Talk}
use Rattle.pm_talk.specs.declared.talk.Talk.TheVariants.{AwaitsSchema, AwaitsDocument, Open}
use Rattle.pm_talk.specs.Talk.{opened, AfterSchema, AfterDocument, Replies, last_text}
use Rattle.pm_talk.specs.Lines.{IsTalk}
use Rattle.pm_talk.specs.Openings.{lost_text, IsOpened, AllOpened}
use Rattle.pm_talk.proofs.Fronts.{kept-schema, kept-document}
use Rattle.pm_talk.proofs.Hearing.{all-talks}

-- an authority with an empty log and a valid document is kept
pub new-kept : (s : Schema) (doc : Document) → Valid (documents_of s.spec) doc → IsKept meaning s record { first = doc; doc = doc; log = [] }
new-kept s doc valid = record { first_good = valid; good = valid; folded = refl }

abbrev Answered : Talk → List (List ℕ) → List ℕ → Talk → Type 0
Answered p lines out end = Answers Replies last_text no_memory p lines out end

-- after the schema
record WithDocument (s : Schema) (lines : List (List ℕ)) (out : List ℕ) (end : Talk) : Type 0 where
  doc : Document
  between : List (List ℕ)
  second : List ℕ
  later : List (List ℕ)
  rest : List ℕ
  split : lines ≡ between ++ second ∷ later
  is_document : DocLine s second (Ok doc)
  written : out ≡ lost_text between ++ (opened_text (length doc.tokens) ++ rest)
  talk : IsTalk (opened s doc) later rest end

not-open-document : (live : Live) (s : Schema) → Open live ≡ AwaitsDocument s → ⊥
not-open-document live s e = absurd (cc)

not-open-schema : (live : Live) → Open live ≡ AwaitsSchema → ⊥
not-open-schema live e = absurd (cc)

not-closed : true ≡ false → ⊥
not-closed e = absurd (cc)

-- the line is the document
with-this : (s : Schema) (line : List ℕ) (lines : List (List ℕ)) (text rest out : List ℕ) (mid : Talk) (live : Live) (r : Result Document Code)
    → DocLine s line r → AfterDocument s r text true mid → out ≡ text ++ rest → Answered mid lines rest (Open live)
    → WithDocument s (line ∷ lines) out (Open live)
with-this s line lines text rest out mid live (Ok doc) is h o a = record {
  doc = doc;
  between = [];
  second = line;
  later = lines;
  rest = rest;
  split = refl;
  is_document = is;
  written = o ∙ ap (λ x. x ++ rest) h.1;
  talk = all-talks (opened s doc) lines rest (Open live) (new-kept s doc h.0) (subst (λ (m : Talk). Answered m lines rest (Open live)) h.3 a);
}
with-this s line lines text rest out mid live (Err code) is h o a = absurd (not-closed h.1)

-- there was no memory for the line
with-lost : (s : Schema) (line : List ℕ) (lines : List (List ℕ)) (text rest out : List ℕ) (end : Talk)
    → text ≡ no_memory → out ≡ text ++ rest → WithDocument s lines rest end → WithDocument s (line ∷ lines) out end
with-lost s line lines text rest out end t o h = record {
  doc = h.doc;
  between = line ∷ h.between;
  second = h.second;
  later = h.later;
  rest = h.rest;
  split = ap (λ ls. line ∷ ls) h.split;
  is_document = h.is_document;
  written = o ∙ (ap (λ x. x ++ rest) t ∙ (ap (λ x. no_memory ++ x) h.written
      ∙ sym (append_assoc no_memory (lost_text h.between) (opened_text (length h.doc.tokens) ++ h.rest))));
  talk = h.talk;
}

with-document : (s : Schema) (lines : List (List ℕ)) (out : List ℕ) (live : Live) → Answered (AwaitsDocument s) lines out (Open live) → WithDocument s lines out (Open live)
with-document s [] out live a = absurd (not-open-document live s a.1)
with-document s (line ∷ lines) out live a =
    elim a.3 [
      | inl told ↦ with-this s line lines a.0 a.2 out a.1 live told.0 (kept-document s line told.0 told.1) told.2 a.4 a.5
      | inr lost ↦ with-lost s line lines a.0 a.2 out (Open live) lost.0 a.4
          (with-document s lines a.2 live (subst (λ (m : Talk). Answered m lines a.2 (Open live)) lost.2 a.5))
    ]

-- the line is the schema
opened-this : (line : List ℕ) (lines : List (List ℕ)) (text rest out : List ℕ) (mid : Talk) (live : Live) (r : Result Schema Code)
    → SchemaLine line r → AfterSchema r text true mid → out ≡ text ++ rest → Answered mid lines rest (Open live)
    → IsOpened (line ∷ lines) out (Open live)
opened-this line lines text rest out mid live (Ok s) is h o a =
    let d = with-document s lines rest live (subst (λ (m : Talk). Answered m lines rest (Open live)) h.2 a) in
    record {
      schema = s;
      doc = d.doc;
      before = [];
      first = line;
      between = d.between;
      second = d.second;
      later = d.later;
      rest = d.rest;
      split = ap (λ ls. line ∷ ls) d.split;
      is_schema = is;
      is_document = d.is_document;
      written = o ∙ (ap (λ x. x ++ rest) h.0 ∙ d.written);
      talk = d.talk;
    }
opened-this line lines text rest out mid live (Err code) is h o a = absurd (not-closed h.1)

opened-lost : (line : List ℕ) (lines : List (List ℕ)) (text rest out : List ℕ) (end : Talk)
    → text ≡ no_memory → out ≡ text ++ rest → IsOpened lines rest end → IsOpened (line ∷ lines) out end
opened-lost line lines text rest out end t o h = record {
  schema = h.schema;
  doc = h.doc;
  before = line ∷ h.before;
  first = h.first;
  between = h.between;
  second = h.second;
  later = h.later;
  rest = h.rest;
  split = ap (λ ls. line ∷ ls) h.split;
  is_schema = h.is_schema;
  is_document = h.is_document;
  written = o ∙ (ap (λ x. x ++ rest) t ∙ (ap (λ x. no_memory ++ x) h.written
      ∙ sym (append_assoc no_memory (lost_text h.before) (lost_text h.between ++ (opened_text (length h.doc.tokens) ++ h.rest)))));
  talk = h.talk;
}

pub all-opened : AllOpened
all-opened [] out live a = absurd (not-open-schema live a.1)
all-opened (line ∷ lines) out live a =
    elim a.3 [
      | inl told ↦ opened-this line lines a.0 a.2 out a.1 live told.0 (kept-schema line told.0 told.1) told.2 a.4 a.5
      | inr lost ↦ opened-lost line lines a.0 a.2 out (Open live) lost.0 a.4
          (all-opened lines a.2 live (subst (λ (m : Talk). Answered m lines a.2 (Open live)) lost.2 a.5))
    ]
