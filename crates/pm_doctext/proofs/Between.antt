-- The text of a document is what is written for its parts, between what is written for its top node.
use Rattle.std.proofs.Common.{◌≡◌, ℕ, ◌-◌, List, [], ◌∷◌, ◌++◌, length, arith, Bool, true, refl, ap, sym, subst, ◌∙◌, append_assoc}
use Rattle.std.proofs.lemmas.List.{append-nil, take_all}
use Rattle.std.specs.Prelude.{Result, Ok, Err, OnOk}
use Rattle.serde_json.specs.Written.{compact_text}
use Rattle.pm_tokens.specs.Tokens.{Token, Doc}
use Rattle.pm_tokens.specs.Scan.{Balanced}
use Rattle.pm_schema.specs.declared.spec.SchemaSpec.{SchemaSpec}
use Rattle.pm_docjson.specs.Writing.{nodes_written, doc_written}
use Rattle.pm_docjson.proofs.TreeLaws.{one_level}
use Rattle.pm_view.specs.Known.{known}
use Rattle.pm_view.specs.Seen.{Seen, ArePartsOf}
use Rattle.pm_view.specs.Views.{viewed}
use Rattle.pm_view.proofs.KnownLaws.{length-known}
use Rattle.pm_doctext.specs.Texts.{front_text, back_text, content_text}
use Rattle.pm_doctext.proofs.Members.{list_text, branch-is}
use Rattle.pm_doctext.proofs.Levels.{Ends, ends-more, levels_text, contents}

ends-whole : {ts : List Token} → Balanced ts → Ends [] ts
ends-whole {ts} b = subst (Ends []) (append-nil ts) (ends-more b [] [] tt)

content-is : (s : SchemaSpec) (ts : List Token) (ps : List Seen) → Balanced ts → ArePartsOf (known [] ts) ps → content_text s true ps ≡ list_text true (nodes_written s ts)
content-is s ts ps b are = contents s true [] ts ps are.tokens are.whole (ends-whole b) ∙ ap (levels_text s true []) (one_level b)

pub document-is : (s : SchemaSpec) (d : Doc) (ps : List Seen) → Balanced d.tokens → ArePartsOf (known [] d.tokens) ps
    → compact_text (doc_written s d) ≡ front_text s d.kind d.attrs ++ (content_text s true ps ++ back_text s d.kind d.marks)
document-is s d ps b are =
    branch-is s d.kind d.attrs d.marks (nodes_written s d.tokens)
    ∙ ap (λ z. front_text s d.kind d.attrs ++ (z ++ back_text s d.kind d.marks)) (sym (content-is s d.tokens ps b are))

-- what stands before it, after it, and between both, one after another
pub text-after : (s : SchemaSpec) (d : Doc) (ps : List Seen) → Balanced d.tokens → ArePartsOf (known [] d.tokens) ps
    → {E : Type 0} (r : Result (Unit {0}) E) (old before inner new : List ℕ) → before ≡ old ++ front_text s d.kind d.attrs → inner ≡ before ++ content_text s true ps
    → OnOk r (new ≡ inner ++ back_text s d.kind d.marks) → OnOk r (new ≡ old ++ compact_text (doc_written s d))
text-after s d ps b are (Ok u) old before inner new f i h =
    let front = front_text s d.kind d.attrs in
    let content = content_text s true ps in
    let back = back_text s d.kind d.marks in
    h
    ∙ (ap (λ z. z ++ back) (i ∙ ap (λ z. z ++ content) f)
    ∙ (append_assoc (old ++ front) content back ∙ (append_assoc old front (content ++ back) ∙ ap (λ z. old ++ z) (sym (document-is s d ps b are)))))
text-after s d ps b are (Err e) old before inner new f i h = tt

-- a view from the first position to the last one shows all tokens
pub whole-view : (ts : List Token) (n : ℕ) → n ≡ length ts → viewed ts 0 n ≡ known [] ts
whole-view ts n is = take_all (n - 0) (known [] ts) (omega (arith, is, length-known [] ts))
