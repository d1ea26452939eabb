-- What a line asks by a spec, it asks by each spec with the same types.
use Rattle.std.proofs.Common.{◌≡◌, ◌∙◌, ℕ, Bool, true, false, List, ◌∷◌, refl, ap, sym}
use Rattle.std.specs.Prelude.{codes, Option, Some, None, Result, Ok, Err, is_some, if◌then◌else◌}
use Rattle.serde_json.specs.Data.{Data, Items, no_items, item}
use Rattle.serde_json.specs.Find.{get, as_array, as_null}
use Rattle.pm_list.specs.Readings.{◌>>=◌, or_fault}
use Rattle.pm_schema.specs.declared.spec.SchemaSpec.{SchemaSpec}
use Rattle.pm_slice.specs.Sides.{sides, no_slice}
use Rattle.pm_docjson.specs.declared.leaves.LeafContent.TheVariants.{Refused}
use Rattle.pm_slicejson.specs.Numbers.{count_at}
use Rattle.pm_slicejson.specs.Reading.{list_at, as_slice, sides_of, slice_of}
use Rattle.pm_stepjson.specs.Reading.{step_read}
use Rattle.pm_stepjson.proofs.SameSpecs as by_parts
use Rattle.pm_head.specs.OneMeaning.{HaveSameTypes}
use Rattle.pm_head.specs.declared.code.Code.{Code}
use Rattle.pm_head.specs.declared.code.Code.TheVariants.{WrongShape, UnknownName}
use Rattle.pm_head.specs.Lines.{json_line}
use Rattle.pm_head.proofs.SameNodes.{nodes-of-alike, mark-of-alike}
use Rattle.pm_opjson.specs.Codes.{coded}
use Rattle.pm_opjson.specs.Words.{says}
use Rattle.pm_opjson.specs.Fields.{text_in, number_in}
use Rattle.pm_opjson.specs.Parts.{step_list, steps_in}
use Rattle.pm_talk.specs.declared.asked.Asked.{Asked}
use Rattle.pm_talk.specs.declared.asked.Asked.TheVariants.{Submit}
use Rattle.pm_talk.specs.Fields.{id_in}
use Rattle.pm_talk.specs.Asked.{word_named, submit_in, asks, asked_of, asked_line}

-- ---- words

-- The words are the talk's own. What is the same for each of three, is so for a choice among them that may be none.
each-alike : {W : Type 0} {x y z : W} (a b c : Bool) (o : Option W) → o ≡ (if a then Some x else (if b then Some y else (if c then Some z else None)))
    → (f g : W → Result Asked Code) → f x ≡ g x → f y ≡ g y → f z ≡ g z → (or_fault UnknownName o >>= f) ≡ (or_fault UnknownName o >>= g)
each-alike true b c o is f g h k l = ap (λ p. or_fault UnknownName p >>= f) is ∙ h ∙ sym (ap (λ p. or_fault UnknownName p >>= g) is)
each-alike false true c o is f g h k l = ap (λ p. or_fault UnknownName p >>= f) is ∙ k ∙ sym (ap (λ p. or_fault UnknownName p >>= g) is)
each-alike false false true o is f g h k l = ap (λ p. or_fault UnknownName p >>= f) is ∙ l ∙ sym (ap (λ p. or_fault UnknownName p >>= g) is)
each-alike false false false o is f g h k l = ap (λ p. or_fault UnknownName p >>= f) is ∙ sym (ap (λ p. or_fault UnknownName p >>= g) is)

module _ (s t : SchemaSpec) (h : HaveSameTypes s t) where
  -- ---- steps

  sides-alike : (d : Data) → sides_of s d ≡ sides_of t d
  unfolding sides_of
  sides-alike d = λ i. list_at (codes "content") d >>= (λ items. nodes-of-alike s t h Refused items i >>= (λ content. count_at (codes "openStart") d >>= (λ open_start. count_at (codes "openEnd") d >>= (λ open_end. as_slice (sides content open_start open_end)))))

  slice-alike : (d : Data) → slice_of s d ≡ slice_of t d
  unfolding slice_of
  slice-alike d = λ i. if is_some (as_null d) then Ok no_slice else sides-alike d i

  step-alike : (d : Data) → step_read s d ≡ step_read t d
  step-alike d = by_parts.step-alike s t slice-alike (mark-of-alike s t h) d

  step-list-alike : (ds : Items) → step_list s ds ≡ step_list t ds
  unfolding step_list
  step-list-alike no_items = refl
  step-list-alike (item d ds) = λ i. coded (step-alike d i) >>= (λ first. step-list-alike ds i >>= (λ rest. Ok (first ∷ rest)))

  steps-in-alike : (d : Data) → steps_in s d ≡ steps_in t d
  unfolding steps_in
  steps-in-alike d = λ i. or_fault WrongShape (get (codes "steps") d) >>= (λ value. or_fault WrongShape (as_array value) >>= (λ items. step-list-alike items i))

  -- ---- lines

  submit-alike : (d : Data) → submit_in s d ≡ submit_in t d
  unfolding submit_in
  submit-alike d = λ i. number_in (codes "version") d >>= (λ version. id_in d >>= (λ id. steps-in-alike d i >>= (λ steps. Ok (Submit version id steps))))

  -- by the text at `op`
  word-alike : (d : Data) (op : Result (List ℕ) Code)
      → ((op >>= (λ text. or_fault UnknownName (word_named text))) >>= (λ w. asks s w d)) ≡ ((op >>= (λ text. or_fault UnknownName (word_named text))) >>= (λ w. asks t w d))
  word-alike d (Ok text) =
      each-alike (says text (codes "submit")) (says text (codes "since")) (says text (codes "doc")) (word_named text) refl
      (λ w. asks s w d) (λ w. asks t w d) (submit-alike d) refl refl
  word-alike d (Err code) = refl

  asked-of-alike : (d : Data) → asked_of s d ≡ asked_of t d
  unfolding asked_of
  asked-of-alike d = word-alike d (text_in (codes "op") d)

  pub asked-alike : (line : List ℕ) → asked_line s line ≡ asked_line t line
  unfolding asked_line
  asked-alike line = λ i. json_line line >>= (λ d. asked-of-alike d i)
