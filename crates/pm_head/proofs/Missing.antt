-- Where an input ends before a line, that line is missing.
use Rattle.std.proofs.Common.{◌≡◌, ℕ, List, [], refl, subst, sym}
use Rattle.std.specs.Prelude.{Ok, Err}
use Rattle.pm_tokens.specs.Tokens.{Doc}
use Rattle.pm_schema.specs.declared.schema.Schema.{Schema}
use Rattle.pm_head.specs.declared.form.Form.{Form}
use Rattle.pm_head.specs.declared.code.Code.TheVariants.{MissingLine}
use Rattle.pm_head.specs.Refusals.{refused}
use Rattle.pm_head.specs.Lines.{lines_of}
use Rattle.pm_head.specs.Heads.{AfterDoc, AfterSchema, HeadIs}

pub no_lines : (bytes : List ℕ) → bytes ≡ [] → lines_of bytes ≡ []
unfolding lines_of
no_lines bytes e = rw e refl

pub no_first : (form : Form) (bytes : List ℕ) → bytes ≡ [] → HeadIs form (lines_of bytes) (Err (refused 1 MissingLine))
no_first form bytes e = subst (λ (ls : List (List ℕ)). HeadIs form ls (Err (refused 1 MissingLine))) (sym (no_lines bytes e)) refl

pub no_second : (form : Form) (s : Schema) (bytes : List ℕ) → bytes ≡ [] → AfterSchema form (Ok s) (lines_of bytes) (Err (refused 2 MissingLine))
no_second form s bytes e = subst (λ (ls : List (List ℕ)). AfterSchema form (Ok s) ls (Err (refused 2 MissingLine))) (sym (no_lines bytes e)) refl

pub no_third : (form : Form) (s : Schema) (doc : Doc) (bytes : List ℕ) → bytes ≡ [] → AfterDoc form s (Ok doc) (lines_of bytes) (Err (refused 3 MissingLine))
no_third form s doc bytes e = subst (λ (ls : List (List ℕ)). AfterDoc form s (Ok doc) ls (Err (refused 3 MissingLine))) (sym (no_lines bytes e)) refl
