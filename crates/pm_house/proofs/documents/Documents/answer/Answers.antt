use Rattle.std.proofs.Common.{◌≡◌, ◌∙◌, ℕ, List, get_or, set, ap, sym, subst, string_bytes, Result, Ok, Err}
use Rattle.std.specs.Prelude.{All, IfOk, OnOk, OnErr}
use Rattle.std.proofs.Math.Seq.{map-set_same}
use Rattle.std.proofs.lemmas.List.Elements.{All-set}
use Rattle.serde_json.specs.Data.{Data}
use Rattle.serde_json.specs.View.{view}
use Rattle.pm_order.specs.declared.word.DocWord.{DocWord}
use Rattle.pm_archive.specs.declared.archive.Archive.{Archive}
use Rattle.pm_archive.specs.Archives.{IsArchive}
use Rattle.pm_archive.specs.Answers.{answered}
use Rattle.pm_archive.proofs.Names.{answered-name}
use Rattle.pm_house.proofs.Finding.{got-is}
use Rattle.pm_house.proofs.documents.Documents.answer.Goals as goal

-- a line leaves its name
name-stays : {X E : Type 0} (r : Result X E) (w : DocWord) (d : Data) (old new : Archive)
    → OnOk r (new ≡ (answered old w d).1) → OnErr r (new ≡ old) → new.name ≡ old.name
name-stays (Ok x) w d old new ok err = ap (λ (a : Archive). a.name) ok ∙ answered-name old w d
name-stays (Err e) w d old new ok err = ap (λ (a : Archive). a.name) err

written : {X E : Type 0} (r : Result X E) (docs more : List Archive) (i : ℕ) (new next : Archive)
    → docs ≡ more → OnOk r (new ≡ next) → OnOk r (set docs i new ≡ set more i next)
written (Ok x) docs more i new next e ok = ap (λ (xs : List Archive). set xs i new) e ∙ ap (λ (a : Archive). set more i a) ok
written (Err e) docs more i new next same ok = ok

pub invariant_of-self : goal.invariant_of-self
invariant_of-self c =
    let items = c.self.inside.archives.items in
    let old = c.index_mut-archive.result.now in
    let new = c.answer.new.self in
    let same : new.name ≡ (get_or items c.args.place old).name =
    name-stays c.answer.result c.args.word (view c.args.json.now) old new c.answer.ensures.after c.answer.ensures.err
    ∙ ap (λ (a : Archive). a.name) c.index_mut-archive.ensures.value in
    c.self.invariant ∙ sym (map-set_same (λ (a : Archive). a.name) items c.args.place new old same)

pub returns-clause-text : goal.returns-clause-text
returns-clause-text c a h =
    let old = c.index_mut-archive.result.now in
    let same : old ≡ a =
    c.index_mut-archive.ensures.value
    ∙ (ap (λ (xs : List Archive). get_or xs c.args.place old) c.self.view_is ∙ got-is c.args.self.now c.args.place a old h) in
    subst (λ (x : Archive). IfOk c.answer.result (λ s. string_bytes s ≡ (answered x c.args.word (view c.args.json.now)).0)) same
    c.answer.ensures.text

pub returns-clause-after : goal.returns-clause-after
returns-clause-after c a h =
    let old = c.index_mut-archive.result.now in
    let new = c.answer.new.self in
    let same : old ≡ a =
    c.index_mut-archive.ensures.value
    ∙ (ap (λ (xs : List Archive). get_or xs c.args.place old) c.self.view_is ∙ got-is c.args.self.now c.args.place a old h) in
    written c.answer.result c.self.inside.archives.items c.args.self.now c.args.place new (answered a c.args.word (view c.args.json.now)).1
    c.self.view_is
    (subst (λ (x : Archive). OnOk c.answer.result (new ≡ (answered x c.args.word (view c.args.json.now)).1)) same c.answer.ensures.after)

pub returns-clause-good : goal.returns-clause-good
returns-clause-good c =
    All-set IsArchive c.self.inside.archives.items c.args.place c.answer.new.self c.answer.ensures.kept
    (subst (λ (xs : List Archive). All IsArchive xs) (sym c.self.view_is) c.requires.good)
