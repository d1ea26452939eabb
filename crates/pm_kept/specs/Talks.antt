-- A talk whose lines are kept. It has no limit of work.
use Rattle.std.specs.Prelude.{◌≡◌, ℕ, Bool, true, false, List, [], ◌++◌, length, codes, decimal, Result, Ok, Err}
use Rattle.std.proofs.Common.{ap, refl}
use Rattle.std.proofs.lemmas.Bool.{false≢true}
use Rattle.pm_tokens.specs.Tokens.{Doc as Document}
use Rattle.pm_schema.specs.declared.schema.Schema.{Schema}
use Rattle.pm_head.specs.declared.code.Code.{Code}
use Rattle.pm_talk.specs.declared.talk.Talk.{Talk}
use Rattle.pm_talk.specs.declared.talk.Talk.TheVariants.{AwaitsSchema, AwaitsDocument, Open}
use Rattle.pm_talk.specs.Talk.{Replies, AfterSchema, AfterDocument, IsGood, is_open, last_text}
use Rattle.pm_kept.specs.Means.{Meaning, Laws}

-- what is said where the lines of a file are taken up: the document's size, and the log's length
abbrev pub resumed_text : Talk → List ℕ
resumed_text AwaitsSchema = []
resumed_text (AwaitsDocument s) = []
resumed_text (Open live) = codes "{\"size\":" ++ (decimal (length live.authority.doc.tokens) ++ (codes ",\"version\":" ++ (decimal (length live.authority.log) ++ codes "}\n")))

-- It begins with line 1. None of its lines is in the file before lines 1 and 2 have both come.
abbrev pub talk_meaning : Meaning Talk
talk_meaning = record { good = IsGood; replies = Replies; last = last_text; resumed = resumed_text; start = AwaitsSchema; is_begun = is_open; limited = λ limit talk. talk }

-- ---- its laws

schema_refused : (text : List ℕ) (next : Talk) (r : Result Schema Code) → AfterSchema r text false next → next ≡ AwaitsSchema
schema_refused text next (Ok s) told = absurd (false≢true told.1)
schema_refused text next (Err code) told = told.2

document_refused : (s : Schema) (text : List ℕ) (next : Talk) (r : Result Document Code) → AfterDocument s r text false next → next ≡ AwaitsDocument s
document_refused s text next (Ok doc) told = absurd (false≢true told.2)
document_refused s text next (Err code) told = told.2

-- a line 1 or 2 with a fault
refused : (was : Talk) (line text : List ℕ) (next : Talk) → Replies was line text false next → next ≡ was
refused AwaitsSchema line text next replies = schema_refused text next replies.0 replies.2
refused (AwaitsDocument s) line text next replies = document_refused s text next replies.0 replies.2
refused (Open live) line text next replies = absurd (false≢true replies.1)

stays_open : (was : Talk) (line text : List ℕ) (more : Bool) (next : Talk) → Replies was line text more next → is_open was ≡ true → is_open next ≡ true
stays_open AwaitsSchema line text more next replies opens = absurd (false≢true opens)
stays_open (AwaitsDocument s) line text more next replies opens = absurd (false≢true opens)
stays_open (Open live) line text more next replies opens = ap is_open replies.2

pub talk_laws : Laws talk_meaning
talk_laws =
    record {
      closes = refused;
      stays_begun = stays_open;
      stays_limited = λ limit was line text more next replies is. refl;
      accepts = λ was line text more next replies other. (replies, other);
      starts = refl;
      relimits = λ limit talk. refl;
      still_begun = λ limit talk. refl;
    }
