-- Talks behind the same lines stand alike, and so each line of a file is accepted again: of talks without a limit of work.
use Rattle.std.proofs.Common.{◌≡◌, ℕ, Bool, true, false, List, [], ◌∷◌, ◌++◌, length, refl, ◌∙◌, sym, subst}
use Rattle.std.specs.Prelude.{◌≢◌, ◌==◌, ◌&&◌, not, Result, Ok, Err}
use Rattle.pm_schema.specs.declared.schema.Schema.{Schema}
use Rattle.pm_tokens.specs.Tokens.{Doc as Document}
use Rattle.pm_head.specs.declared.code.Code.{Code}
use Rattle.pm_head.specs.Schemas.{SchemaLine}
use Rattle.pm_head.specs.Documents.{DocLine}
use Rattle.pm_journal.specs.Lines.{recorded}
use Rattle.pm_talk.specs.declared.live.Live.{Live}
use Rattle.pm_talk.specs.declared.talk.Talk.{Talk}
use Rattle.pm_talk.specs.declared.talk.Talk.TheVariants.{AwaitsSchema, AwaitsDocument, Open}
use Rattle.pm_talk.specs.Live.{answered}
use Rattle.pm_talk.specs.Talk.{opened, AfterSchema, AfterDocument, Replies, is_open}
use Rattle.pm_kept.specs.Alike.{AlikeLives, Alike}
use Rattle.pm_kept.specs.Behind.{Behind, Keeps}
use Rattle.pm_kept.specs.Opens.{IsNotAccepted}
use Rattle.pm_kept.specs.Laws.{AllAcceptedAgain, Reopens, AllReopen}
use Rattle.pm_kept.specs.Sizes.{changes}
use Rattle.pm_kept.specs.Talks.{talk_meaning}
use Rattle.pm_kept.proofs.AlikeLives.{answered-alike}
use Rattle.pm_kept.proofs.AlikeOpenings.{schemas-alike, schema-apart, docs-alike, doc-apart}
use Rattle.pm_kept.proofs.TalkChanges.{sizes_differ, other_talk}

-- they stand alike, and a line 1 of which they read is one
abbrev pub Together : Talk → Talk → Type 0
Together AwaitsSchema AwaitsSchema = Unit {0}
Together AwaitsSchema (AwaitsDocument t) = ⊥
Together AwaitsSchema (Open other) = ⊥
Together (AwaitsDocument s) AwaitsSchema = ⊥
Together (AwaitsDocument s) (AwaitsDocument t) = (first : List ℕ) × SchemaLine first (Ok s) × SchemaLine first (Ok t)
Together (AwaitsDocument s) (Open other) = ⊥
Together (Open live) AwaitsSchema = ⊥
Together (Open live) (AwaitsDocument t) = ⊥
Together (Open live) (Open other) = AlikeLives live other

stand-alike : (talk other : Talk) → Together talk other → Alike talk other
stand-alike AwaitsSchema AwaitsSchema h = tt
stand-alike AwaitsSchema (AwaitsDocument t) h = h
stand-alike AwaitsSchema (Open other) h = h
stand-alike (AwaitsDocument s) AwaitsSchema h = h
stand-alike (AwaitsDocument s) (AwaitsDocument t) h = schemas-alike h.0 s t h.1 h.2
stand-alike (AwaitsDocument s) (Open other) h = h
stand-alike (Open live) AwaitsSchema h = h
stand-alike (Open live) (AwaitsDocument t) h = h
stand-alike (Open live) (Open other) h = h

-- ---- a line

-- the answer says the same of further lines; and where they are answered, the talks stand together and both changed, or neither
record SameReply (was other : Talk) (more more_too : Bool) (next next_too : Talk) : Type 0 where
  more_is : more ≡ more_too
  together : more ≡ true → Together next next_too
  change : changes was next ≡ changes other next_too

-- talks that are these
these : (was other next next_too a b : Talk) (more more_too : Bool) → next ≡ a → next_too ≡ b → SameReply was other more more_too a b → SameReply was other more more_too next next_too
these was other next next_too a b more more_too e f h =
    subst (λ (n : Talk). SameReply was other more more_too n next_too) (sym e) (subst (SameReply was other more more_too a) (sym f) h)

goes-on : (x y : Bool) → x ≡ true → y ≡ true → x ≡ y
goes-on x y e f = e ∙ sym f

is-over : {P : Type 0} (x : Bool) → x ≡ false → x ≡ true → P
is-over x e f = absurd (cc)

module _ (line text text_too : List ℕ) (more more_too : Bool) (next next_too : Talk) where
  first-line : (r q : Result Schema Code) → SchemaLine line r → SchemaLine line q → AfterSchema r text more next → AfterSchema q text_too more_too next_too
      → SameReply AwaitsSchema AwaitsSchema more more_too next next_too
  first-line (Ok s) (Ok t) f g a b =
      these AwaitsSchema AwaitsSchema next next_too (AwaitsDocument s) (AwaitsDocument t) more more_too a.2 b.2
      (record { more_is = goes-on more more_too a.1 b.1; together = λ m. (line, f, g); change = refl })
  first-line (Ok s) (Err code) f g a b = absurd (schema-apart line s code f g)
  first-line (Err code) (Ok t) f g a b = absurd (schema-apart line t code g f)
  first-line (Err code) (Err other) f g a b = record { more_is = a.1 ∙ sym b.1; together = is-over more a.1; change = refl }

  second-line : (first : List ℕ) (s t : Schema) → SchemaLine first (Ok s) → SchemaLine first (Ok t) → (r q : Result Document Code) → DocLine s line r → DocLine t line q
      → AfterDocument s r text more next → AfterDocument t q text_too more_too next_too → SameReply (AwaitsDocument s) (AwaitsDocument t) more more_too next next_too
  second-line first s t is too (Ok x) (Ok y) f g a b =
      let same = docs-alike first s t is too line x y f g in
      these (AwaitsDocument s) (AwaitsDocument t) next next_too (Open (opened s x)) (Open (opened t y)) more more_too a.3 b.3
      (record {
        more_is = goes-on more more_too a.2 b.2;
        together = λ m. record { schemas = schemas-alike first s t is too; authority = λ i. record { first = same i; doc = same i; log = [] }; ids = refl };
        change = refl;
      })
  second-line first s t is too (Ok x) (Err code) f g a b = absurd (doc-apart first s t is too line x code f g)
  second-line first s t is too (Err code) (Ok y) f g a b = absurd (doc-apart first t s too is line y code g f)
  second-line first s t is too (Err code) (Err other) f g a b = record { more_is = a.1 ∙ sym b.1; together = is-over more a.1; change = refl }

  later-line : (live other : Live) → AlikeLives live other → Replies (Open live) line text more next → Replies (Open other) line text_too more_too next_too
      → SameReply (Open live) (Open other) more more_too next next_too
  later-line live other h a b =
      let after = answered-alike live other h line in
      these (Open live) (Open other) next next_too (Open (answered live line).1) (Open (answered other line).1) more more_too a.2 b.2
      (record {
        more_is = goes-on more more_too a.1 b.1;
        together = λ m. after;
        change = λ i. not ((length (after.authority i).log == length (h.authority i).log) && (length (after.ids i) == length (h.ids i)));
      })

  same-reply : (was other : Talk) → Together was other → Replies was line text more next → Replies other line text_too more_too next_too → SameReply was other more more_too next next_too
  same-reply AwaitsSchema AwaitsSchema h a b = first-line a.0 b.0 a.1 b.1 a.2 b.2
  same-reply AwaitsSchema (AwaitsDocument t) h a b = absurd h
  same-reply AwaitsSchema (Open other) h a b = absurd h
  same-reply (AwaitsDocument s) AwaitsSchema h a b = absurd h
  same-reply (AwaitsDocument s) (AwaitsDocument t) h a b = second-line h.0 s t h.1 h.2 a.0 b.0 a.1 b.1 a.2 b.2
  same-reply (AwaitsDocument s) (Open other) h a b = absurd h
  same-reply (Open live) AwaitsSchema h a b = absurd h
  same-reply (Open live) (AwaitsDocument t) h a b = absurd h
  same-reply (Open live) (Open other) h a b = later-line live other h a b

-- ---- lines

pub together-behind : (lines : List (List ℕ)) (first first_too talk other : Talk) → Together first first_too → Behind talk_meaning lines first talk → Behind talk_meaning lines first_too other → Together talk other
together-behind [] first first_too talk other h a b = subst (λ (t : Talk). Together t other) (sym a) (subst (Together first) (sym b) h)
together-behind (line ∷ lines) first first_too talk other h a b =
    let same = same-reply line a.0 b.0 true true a.1 b.1 first first_too h a.2 b.2 in
    together-behind lines a.1 b.1 talk other (same.together refl) a.4 b.4

pub talks-stand-alike : (lines : List (List ℕ)) (talk other : Talk) → Behind talk_meaning lines AwaitsSchema talk → Behind talk_meaning lines AwaitsSchema other → Alike talk other
talks-stand-alike lines talk other a b = stand-alike talk other (together-behind lines AwaitsSchema AwaitsSchema talk other tt a b)

-- the talk behind a front of the lines, and what the line after it is answered
record Passed (first : Talk) (before : List (List ℕ)) (line : List ℕ) : Type 0 where
  was : Talk
  behind : Behind talk_meaning before first was
  text : List ℕ
  next : Talk
  replies : Replies was line text true next
  change : next ≢ was

passed : (before : List (List ℕ)) (line : List ℕ) (later : List (List ℕ)) (first talk : Talk) → Behind talk_meaning (before ++ line ∷ later) first talk → Passed first before line
passed [] line later first talk a = record { was = first; behind = refl; text = a.0; next = a.1; replies = a.2; change = a.3 }
passed (l ∷ before) line later first talk a =
    let p = passed before line later a.1 talk a.4 in
    record { was = p.was; behind = (a.0, a.1, a.2, a.3, p.behind); text = p.text; next = p.next; replies = p.replies; change = p.change }

pub talks-accepted-again : AllAcceptedAgain talk_meaning
talks-accepted-again lines talk behind number n =
    let p = passed n.before n.line n.later AwaitsSchema talk (subst (λ (ls : List (List ℕ)). Behind talk_meaning ls AwaitsSchema talk) n.split behind) in
    let h = together-behind n.before AwaitsSchema AwaitsSchema p.was n.was tt p.behind n.behind in
    let same = same-reply n.line p.text n.text true n.more p.next n.next p.was n.was h p.replies n.replies in
    let replies = subst (λ (more : Bool). Replies n.was n.line n.text more n.next) (sym same.more_is) n.replies in
    let changed : changes n.was n.next ≡ true = sym same.change ∙ sizes_differ p.was p.next n.line p.text true p.replies p.change in
    other_talk n.was n.next n.line n.text replies changed n.same

-- ---- files

open-alike : (talk other : Talk) → Alike talk other → is_open talk ≡ is_open other
open-alike AwaitsSchema AwaitsSchema h = refl
open-alike AwaitsSchema (AwaitsDocument t) h = absurd h
open-alike AwaitsSchema (Open other) h = absurd h
open-alike (AwaitsDocument s) AwaitsSchema h = absurd h
open-alike (AwaitsDocument s) (AwaitsDocument t) h = refl
open-alike (AwaitsDocument s) (Open other) h = absurd h
open-alike (Open live) AwaitsSchema h = absurd h
open-alike (Open live) (AwaitsDocument t) h = absurd h
open-alike (Open live) (Open other) h = refl

none-split : (before : List (List ℕ)) (line : List ℕ) (later : List (List ℕ)) → [] ≡ before ++ line ∷ later → ⊥
none-split [] line later h = absurd (cc)
none-split (l ∷ before) line later h = absurd (cc)

-- there is no line
none-refused : (found : List (List ℕ)) → found ≡ [] → (number : ℕ) → ¬ IsNotAccepted talk_meaning found number
none-refused found e number n = none-split n.before n.line n.later (sym e ∙ n.split)

unbegun : (file : List ℕ) → recorded file ≡ [] → Reopens talk_meaning file
unbegun file none = record { accepted = none-refused (recorded file) none; opens = λ some. absurd (some none) }

closed-alike : (live : Live) (talk : Talk) → Alike (Open live) talk → is_open talk ≡ false → ⊥
closed-alike live talk h closed = let e : true ≡ false = open-alike (Open live) talk h ∙ closed in absurd (cc)

begun : (file : List ℕ) (live : Live) (lines : List (List ℕ)) → recorded file ≡ lines → Behind talk_meaning lines AwaitsSchema (Open live) → Reopens talk_meaning file
begun file live lines found behind = record {
  accepted = λ number n. talks-accepted-again lines (Open live) behind number (subst (λ (ls : List (List ℕ)). IsNotAccepted talk_meaning ls number) found n);
  opens = λ some m. closed-alike live m.0 (talks-stand-alike lines (Open live) m.0 behind (subst (λ (ls : List (List ℕ)). Behind talk_meaning ls AwaitsSchema m.0) found m.1)) m.2;
}

reopens : (file : List ℕ) (talk : Talk) (lines : List (List ℕ)) → Keeps talk_meaning file talk lines → Reopens talk_meaning file
reopens file AwaitsSchema lines keeps = unbegun file keeps.found
reopens file (AwaitsDocument s) lines keeps = unbegun file keeps.found
reopens file (Open live) lines keeps = begun file live lines keeps.found keeps.behind

pub talks-reopen : AllReopen talk_meaning
talks-reopen file some = reopens file some.0 some.1 some.2
