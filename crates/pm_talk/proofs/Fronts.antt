-- What is kept of a line is answered as the line is: a line that is longer than that is too long.
use Rattle.std.proofs.Common.{◌≡◌, ◌≤◌, ◌<◌, ◌∙◌, ℕ, Bool, true, false, List, length, take, refl, sym, ap, subst, arith, Result}
use Rattle.std.specs.Prelude.{min, nat_lt, if◌then◌else◌, Err}
use Rattle.std.proofs.lemmas.Bool.Decides.{nat_tests}
use Rattle.std.proofs.lemmas.List.{length-take, take_all}
use Rattle.pm_tokens.specs.Tokens.{Doc as Document}
use Rattle.pm_schema.specs.declared.schema.Schema.{Schema}
use Rattle.pm_schema.specs.declared.spec.SchemaSpec.{SchemaSpec}
use Rattle.pm_serve.specs.declared.unread.TheConstants.{KEPT}
use Rattle.pm_serve.specs.Serves.{kept}
use Rattle.pm_head.specs.declared.code.Code.{Code}
use Rattle.pm_head.specs.declared.code.Code.TheVariants.{LineTooLong, NotJson}
use Rattle.pm_head.specs.Lines.{json_line, json_of}
use Rattle.pm_list.specs.Readings.{or_fault}
use Rattle.serde_json.specs.Data.{Data}
use Rattle.pm_head.specs.Schemas.{OfValue, SchemaIs, SchemaLine}
use Rattle.pm_head.specs.Documents.{DocIs, DocLine}
use Rattle.pm_talk.specs.declared.live.Live.{Live}
use Rattle.pm_talk.specs.Asked.{asked_line}
use Rattle.pm_talk.specs.Live.{answer, answered}

-- a line may have so many bytes, and one more of it is kept
abbrev most : ℕ
most = 1048576

keeps-one-more : KEPT ≡ 1048577
keeps-one-more = refl

within : (a b : ℕ) → nat_lt a b ≡ false → b ≤ a
within a b h = grind (arith, nat_tests)

above : (a b : ℕ) → nat_lt a b ≡ true → a < b
above a b h = grind (arith, nat_tests)

tested : (a b : ℕ) → a < b → nat_lt a b ≡ true
tested a b h = grind (arith, nat_tests)

short : (line : List ℕ) → nat_lt most (length line) ≡ false → kept line ≡ line
short line h =
    let few = within most (length line) h in
    take_all KEPT line (omega (arith, few, keeps-one-more))

longer : (n : ℕ) → most < n → most < min KEPT n
longer n h = omega (arith, h, keeps-one-more)

long : (line : List ℕ) → nat_lt most (length line) ≡ true → nat_lt most (length (kept line)) ≡ true
long line h =
    ap (λ n. nat_lt most n) (length-take KEPT line)
    ∙ tested most (min KEPT (length line)) (longer (length line) (above most (length line) h))

pub kept-value : (line : List ℕ) → json_line (kept line) ≡ json_line line
unfolding json_line
kept-value line = from (nat_lt most (length line)) refl
  where
    value : Bool → List ℕ → Result Data Code
    value b bytes = if b then Err LineTooLong else or_fault NotJson (json_of bytes)

    from : (b : Bool) → nat_lt most (length line) ≡ b → json_line (kept line) ≡ json_line line
    from true h = ap (λ b. value b (kept line)) (long line h) ∙ sym (ap (λ b. value b line) h)
    from false h = ap json_line (short line h)

kept-asked : (s : SchemaSpec) (line : List ℕ) → asked_line s (kept line) ≡ asked_line s line
unfolding asked_line
kept-asked s line = rw (kept-value line) refl

pub kept-answered : (live : Live) (line : List ℕ) → answered live (kept line) ≡ answered live line
kept-answered live line = ap (answer live) (kept-asked live.schema.spec line)

pub kept-schema : (line : List ℕ) (r : Result Schema Code) → SchemaLine (kept line) r → SchemaLine line r
kept-schema line r h = subst (λ v. OfValue SchemaIs v r) (kept-value line) h

pub kept-document : (s : Schema) (line : List ℕ) (r : Result Document Code) → DocLine s (kept line) r → DocLine s line r
kept-document s line r h = subst (λ v. OfValue (DocIs s) v r) (kept-value line) h
