-- Texts of lines, written piece by piece.
use Rattle.std.proofs.Common.{◌≡◌, ◌<◌, ◌+◌, ℕ, List, ◌∷◌, ◌++◌, OnOk, Result, Ok, Err, length, drop, get_or, ap, sym, subst, ◌∙◌, append_assoc}
use Rattle.std.specs.Prelude.{codes, false}
use Rattle.std.proofs.Math.Nat.{add_assoc}
use Rattle.std.proofs.lemmas.List.{drop_more}
use Rattle.pm_schema.specs.declared.spec.SchemaSpec.{SchemaSpec}
use Rattle.pm_meaning.specs.Steps.{Step}
use Rattle.pm_authority.specs.declared.named.Named.{Named}
use Rattle.pm_archive.specs.declared.archive.Archive.{Archive}
use Rattle.pm_archive.specs.Same.{doc_json}
use Rattle.pm_archive.specs.Lines.{all_ids, open_front, open_line, submit_line, submit_lines}

pub on_ok : {T E P Q : Type 0} (r : Result T E) → (P → Q) → OnOk r P → OnOk r Q
on_ok (Ok x) f p = f p
on_ok (Err e) f p = tt

-- three pieces behind a text
pub three : (text a b c one two last : List ℕ) → one ≡ text ++ a → two ≡ one ++ b → last ≡ two ++ c → last ≡ text ++ (a ++ (b ++ c))
three text a b c one two last p q r =
    r ∙ ap (λ (t : List ℕ). t ++ c) (q ∙ ap (λ (t : List ℕ). t ++ b) p) ∙ append_assoc (text ++ a) b c ∙ append_assoc text a (b ++ c)

-- A line more was written: what is left to write are those of the entries behind.
pub line_more : (s : SchemaSpec) (name : List ℕ) (ids : List (List ℕ)) (from i : ℕ) (log items : List (Named Step)) (entry : Named Step) (old new : List ℕ)
    → items ≡ log → i < length items → entry ≡ get_or items i entry → new ≡ old ++ submit_line s name ids (from + i) entry
    → new ++ submit_lines s name ids (from + (i + 1)) (drop (i + 1) log) ≡ old ++ submit_lines s name ids (from + i) (drop i log)
line_more s name ids from i log items entry old new same within is put =
    let line : List ℕ = submit_line s name ids (from + i) entry in
    let rest : List (Named Step) = drop (i + 1) log in
    let split : drop i log ≡ entry ∷ rest =
    subst (λ (ls : List (Named Step)). drop i ls ≡ entry ∷ drop (i + 1) ls) same
    (drop_more items i entry within ∙ ap (λ (e : Named Step). e ∷ drop (i + 1) items) (sym is)) in
    ap (λ (n : ℕ). new ++ submit_lines s name ids n rest) (sym (add_assoc from i 1))
    ∙ ap (λ (t : List ℕ). t ++ submit_lines s name ids (from + i + 1) rest) put
    ∙ append_assoc old line (submit_lines s name ids (from + i + 1) rest)
    ∙ ap (λ (entries : List (Named Step)). old ++ submit_lines s name ids (from + i) entries) (sym split)

-- the pieces of the line that opens a document
pub opens : (a : Archive) (one two three four last : List ℕ) → one ≡ open_front a.name a.kind a.from → two ≡ one ++ all_ids false a.ids
    → three ≡ two ++ codes ",\"doc\":" → four ≡ three ++ doc_json a.schema.spec a.first → last ≡ four ++ codes "}\n" → last ≡ open_line a
unfolding open_line
opens a one two three four last p q r s t =
    let front : List ℕ = open_front a.name a.kind a.from in
    let ids : List ℕ = all_ids false a.ids in
    let key : List ℕ = codes ",\"doc\":" in
    let doc : List ℕ = doc_json a.schema.spec a.first in
    let end : List ℕ = codes "}\n" in
    t
    ∙ ap (λ (x : List ℕ). x ++ end) (s ∙ ap (λ (x : List ℕ). x ++ doc) (r ∙ ap (λ (x : List ℕ). x ++ key) (q ∙ ap (λ (x : List ℕ). x ++ ids) p)))
    ∙ append_assoc (front ++ ids ++ key) doc end
    ∙ append_assoc (front ++ ids) key (doc ++ end)
    ∙ append_assoc front ids (key ++ (doc ++ end))
